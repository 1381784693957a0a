-- A command is read again from its keywords, whatever stands behind its end.
use Rattle.std.proofs.Common.{◌≡◌, ℕ, ◌-◌, ◌≤◌, Bool, true, false, List, [], ◌∷◌, ◌++◌, length, drop, Some, None, refl, ap, ◌∙◌, append_assoc, arith, inl, inr}
use Rattle.std.specs.Prelude.{if◌then◌else◌, ◌==◌, option_map}
use Rattle.std.proofs.lemmas.Bool.{or_parts, or_cases, eqb-true}
use Rattle.std.proofs.lemmas.List.{length-append, drop_at}
use Rattle.wm_language.specs.declared.command.Command.{Command}
use Rattle.wm_words.specs.declared.verbs.Verb.{Verb}
use Rattle.wm_grammar.specs.declared.opening.Opening.{Opening}
use Rattle.wm_words.specs.Pieces.{◌>>=◌, is_blank, is_end, until, has, skip, ends, word, after, unquote, with_byte}
use Rattle.wm_words.specs.Forms.{verb_of, plain_form}
use Rattle.wm_grammar.specs.Openings.{Opened, opened, closed, made, finished, first_finished, before_rest, verb_command, command_at}
use Rattle.wm_language.specs.Spelling.{is_special, escaped_byte, escaped, quoted}
use Rattle.wm_words.proofs.NumbersAgain.{stops_at, until_past, from_past, until_through}

-- ---- where a command ends

pub ends_stops : (e : List ℕ) → ends e ≡ true → stops_at is_end e ≡ true
ends_stops [] h = refl
ends_stops (c ∷ r) h = h

skip_kept : (c : ℕ) (r : List ℕ) → is_blank c ≡ false → skip (c ∷ r) ≡ c ∷ r
unfolding skip
skip_kept c r h = rw h refl

end_no_blank : (c : ℕ) → is_end c ≡ true → is_blank c ≡ false
end_no_blank c h =
    elim (or_cases (c == 44) (c == 59) h) [
      | inl e ↦ ap is_blank (eqb-true c 44 e)
      | inr e ↦ ap is_blank (eqb-true c 59 e)
    ]

pub skip_end : (e : List ℕ) → ends e ≡ true → skip e ≡ e
unfolding skip
skip_end [] h = refl
skip_end (c ∷ r) h = skip_kept c r (end_no_blank c h)

-- ---- quoted texts

unquote_plain : (c : ℕ) (s : List ℕ) → is_special c ≡ false → 1 ≤ length s → unquote (c ∷ s) ≡ with_byte c (unquote s)
unfolding unquote
unquote_plain c [] h le = absurd (omega arith)
unquote_plain c (d ∷ r) h le = let both = or_parts (c == 34) (c == 92) h in rw (both.0, both.1) refl

unquote_special : (c : ℕ) (s : List ℕ) → is_special c ≡ true → unquote (92 ∷ c ∷ s) ≡ with_byte c (unquote s)
unfolding unquote
unquote_special c s h = rw h refl

escaped_again : (b : Bool) (c : ℕ) (s : List ℕ) → is_special c ≡ b → 1 ≤ length s → unquote ((if b then 92 ∷ c ∷ [] else c ∷ []) ++ s) ≡ with_byte c (unquote s)
escaped_again true c s h le = unquote_special c s h
escaped_again false c s h le = unquote_plain c s h le

pub unquote_again : (x t : List ℕ) → unquote (escaped x ++ 34 ∷ t) ≡ Some (x, t)
unfolding escaped unquote
unquote_again [] [] = refl
unquote_again [] (d ∷ t) = refl
unquote_again (c ∷ cs) t =
    let long : 1 ≤ length (escaped cs ++ 34 ∷ t) = omega (arith, length-append (escaped cs) (34 ∷ t)) in
    ap (λ (u : List ℕ). unquote u) (append_assoc (escaped_byte c) (escaped cs) (34 ∷ t))
    ∙ (escaped_again (is_special c) c (escaped cs ++ 34 ∷ t) refl long ∙ ap (with_byte c) (unquote_again cs t))

pub quoted_again : (x e : List ℕ) → unquote ((escaped x ++ 34 ∷ []) ++ e) ≡ Some (x, e)
quoted_again x e = ap (λ (u : List ℕ). unquote u) (append_assoc (escaped x) (34 ∷ []) e) ∙ unquote_again x e

pub closed_again : (x e : List ℕ) → ends e ≡ true → closed (x, e) ≡ Some (x, e)
closed_again x e h = rw (skip_end e h, h) refl

-- ---- commands without a text

pub command_plain : (s e : List ℕ) (v : Verb) (c : Command) → has is_end s ≡ false → ends e ≡ true → verb_of (word s) ≡ Some v → plain_form v (after s) ≡ Some c → command_at (s ++ e) ≡ Some (c, e)
unfolding command_at verb_command
command_plain s e v c clean end verb plain =
    let stop : stops_at is_end e ≡ true = ends_stops e end in
    rw (until_past is_end s e clean stop, from_past is_end s e clean stop, verb, plain) refl

-- ---- commands with a quoted text

past_keywords : (p r t : List ℕ) → drop (length (p ++ r) - length r) (p ++ t) ≡ t
past_keywords p r t = drop_at p t (length (p ++ r) - length r) (omega (arith, length-append p r))

-- the keywords p stand before a quoted text, and no form without a text fits
pub record IsOpening (p : List ℕ) (v : Verb) (o : Opening) : Type 0 where
  pub clean : has is_end p ≡ false
  pub verb : (r : List ℕ) → verb_of (word (p ++ 34 ∷ r)) ≡ Some v
  pub plain : (r : List ℕ) → plain_form v (after (p ++ 34 ∷ r)) ≡ None
  pub others : List ℕ → Opened
  pub ways : (r : List ℕ) → opened v (after (p ++ 34 ∷ r)) ≡ (o, 34 ∷ r) ∷ others r
  pub text : (s : List ℕ) → finished o (34 ∷ s) ≡ (unquote s >>= closed >>= λ x. option_map (before_rest x.1) (made o x.0))

finished_again : (p : List ℕ) (v : Verb) (o : Opening) (i : IsOpening p v o) (x e : List ℕ) (c : Command) → ends e ≡ true → made o x ≡ Some c → finished o (34 ∷ ((escaped x ++ 34 ∷ []) ++ e)) ≡ Some (c, e)
finished_again p v o i x e c end fits = i.text ((escaped x ++ 34 ∷ []) ++ e) ∙ rw (quoted_again x e, closed_again x e end, fits) refl

ways_again : (text raw r : List ℕ) (o : Opening) (os : Opened) (found : Command × List ℕ) → finished o (drop (length raw - length r) text) ≡ Some found → first_finished text raw ((o, r) ∷ os) ≡ Some found
unfolding first_finished
ways_again text raw r o os found e = rw e refl

quote_ends : (t : List ℕ) → until is_end (34 ∷ t) ≡ 34 ∷ until is_end t
unfolding until
quote_ends t = refl

pub command_opened : (p : List ℕ) (v : Verb) (o : Opening) (others : List ℕ → Opened) → has is_end p ≡ false → ((r : List ℕ) → verb_of (word (p ++ 34 ∷ r)) ≡ Some v) → ((r : List ℕ) → plain_form v (after (p ++ 34 ∷ r)) ≡ None) → ((r : List ℕ) → opened v (after (p ++ 34 ∷ r)) ≡ (o, 34 ∷ r) ∷ others r) → (t : List ℕ) (found : Command × List ℕ) → finished o (34 ∷ t) ≡ Some found → command_at (p ++ 34 ∷ t) ≡ Some found
unfolding command_at verb_command
command_opened p v o others clean verb plain ways t found fits =
    let r : List ℕ = until is_end t in
    let raw : until is_end (p ++ 34 ∷ t) ≡ p ++ 34 ∷ r = until_through is_end p (34 ∷ t) clean ∙ ap (λ (u : List ℕ). p ++ u) (quote_ends t) in
    let here : finished o (drop (length (p ++ 34 ∷ r) - length (34 ∷ r)) (p ++ 34 ∷ t)) ≡ Some found = ap (λ (u : List ℕ). finished o u) (past_keywords p (34 ∷ r) (34 ∷ t)) ∙ fits in
    rw (raw, verb r, plain r, ways r) (ways_again (p ++ 34 ∷ t) (p ++ 34 ∷ r) (34 ∷ r) o (others r) found here)

pub command_quoted : (p : List ℕ) (v : Verb) (o : Opening) → IsOpening p v o → (x e : List ℕ) (c : Command) → ends e ≡ true → made o x ≡ Some c → command_at (p ++ (quoted x ++ e)) ≡ Some (c, e)
command_quoted p v o i x e c end fits = command_opened p v o i.others i.clean i.verb i.plain i.ways ((escaped x ++ 34 ∷ []) ++ e) (c, e) (finished_again p v o i x e c end fits)
