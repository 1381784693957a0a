-- Quoted texts, words and arguments: what stands in the text, and what the reading takes of it.
use Rattle.std.proofs.Common.{◌≡◌, ℕ, ◌≤◌, ◌⊎◌, Bool, true, false, List, [], ◌∷◌, ◌++◌, length, Option, Some, None, refl, sym, ap, subst, ◌∙◌, append_assoc, arith, inl, inr}
use Rattle.std.specs.Prelude.{if◌then◌else◌, ◌==◌, ◌||◌, ◌&&◌, nat_le}
use Rattle.std.specs.Str.{is_utf8}
use Rattle.std.proofs.lemmas.Bool.{eqb-true, eqb-false, ne_eqb, or_parts, or_cases, and_parts, true≢false, leb-true}
use Rattle.std.proofs.lemmas.List.{length-append}
use Rattle.wm_words.specs.Pieces.{◌>>=◌, is_nil, is_blank, is_end, breaks_word, starts, until, from, has, skip, trim_end, kept_before, ends, with_byte, unquote, argument}
use Rattle.wm_words.proofs.Cuts.{AllSome, if_some}
use Rattle.wm_words.proofs.NumbersAgain.{until_past, from_past}
use Rattle.wm_grammar.specs.Openings.{closed, bare, text_at}
use Rattle.wm_language.specs.Words.{IsArgument, Inside, nothing, escaped, itself, other, Quoted, IsBareWord, IsBareText, IsWord, IsText}
use Rattle.wm_grammar.proofs.CutCommands.{bind_some}
use Rattle.wm_language.specs.Bytes.{IsBlank, IsSeparator, IsQuote, IsBackslash, Each, First, Last, MayFollow}
use Rattle.wm_grammar.proofs.ByteLemmas.{blank_told, blank_true, blank_false, no_blank_told, end_false, no_end_told, blank_no_end, end_no_blank, each_has, has_each, has_append, until_clean, until_from, from_stops, skipped, skip_blanks, ends_told, ends_true, ends_at, at_ends, each_more}

-- ---- quoted texts

-- what stands before the closing quote
pub record Closed (s : List ℕ) (x : List ℕ × List ℕ) : Type 0 where
  pub body : List ℕ
  pub whole : s ≡ body ++ 34 ∷ x.1
  pub inside : Inside body x.0

byte_told : (P Q : List ℕ × List ℕ → Type 0) (c : ℕ) (o : Option (List ℕ × List ℕ)) → AllSome P o → ((x : List ℕ × List ℕ) → P x → Q (c ∷ x.0, x.1)) → AllSome Q (with_byte c o)
byte_told P Q c None h f = tt
byte_told P Q c (Some x) h f = f x h

-- the front of what goes on with a byte that is no quote
first_of_body : (d : ℕ) (r w body : List ℕ) → d ∷ r ≡ body ++ 34 ∷ w → (d == 34) ≡ false → (d == 92) ≡ false → First (λ c. (IsQuote c → ⊥) × (IsBackslash c → ⊥)) body
first_of_body d r w [] e h k = absurd (eqb-false d 34 h cc)
first_of_body d r w (c ∷ body) e h k =
    let same : d ≡ c = cc in
    ((λ q. eqb-false d 34 h (same ∙ q)), (λ q. eqb-false d 92 k (same ∙ q)))

closed_plain : (c d : ℕ) (r : List ℕ) (x : List ℕ × List ℕ) → (c == 34) ≡ false → ((c == 92) && ((d == 34) || (d == 92))) ≡ false → Closed (d ∷ r) x → Closed (c ∷ d ∷ r) (c ∷ x.0, x.1)
closed_plain c d r x h f k = by (c == 92) refl f
  where
    by : (b : Bool) → (c == 92) ≡ b → (b && ((d == 34) || (d == 92))) ≡ false → Closed (c ∷ d ∷ r) (c ∷ x.0, x.1)
    by true e g =
        let both = or_parts (d == 34) (d == 92) g in
        let same : c ≡ 92 = eqb-true c 92 e in
        let first = first_of_body d r x.1 k.body k.whole both.0 both.1 in
        let inside : Inside (c ∷ k.body) (c ∷ x.0) = subst (λ (n : ℕ). Inside (n ∷ k.body) (n ∷ x.0)) (sym same) (itself first k.inside) in
        record { body = c ∷ k.body; whole = ap (λ (s : List ℕ). c ∷ s) k.whole; inside = inside }
    by false e g = record { body = c ∷ k.body; whole = ap (λ (s : List ℕ). c ∷ s) k.whole; inside = other (eqb-false c 34 h) (eqb-false c 92 e) k.inside }

closed_escaped : (c d : ℕ) (r : List ℕ) (x : List ℕ × List ℕ) → ((c == 92) && ((d == 34) || (d == 92))) ≡ true → Closed r x → Closed (c ∷ d ∷ r) (d ∷ x.0, x.1)
closed_escaped c d r x h k =
    let both = and_parts (c == 92) ((d == 34) || (d == 92)) h in
    let same : c ≡ 92 = eqb-true c 92 both.0 in
    let special : IsQuote d ⊎ IsBackslash d = elim (or_cases (d == 34) (d == 92) both.1) [
      | inl e ↦ inl (eqb-true d 34 e)
      | inr e ↦ inr (eqb-true d 92 e)
    ] in
    let inside : Inside (c ∷ d ∷ k.body) (d ∷ x.0) = subst (λ (n : ℕ). Inside (n ∷ d ∷ k.body) (d ∷ x.0)) (sym same) (escaped special k.inside) in
    record { body = c ∷ d ∷ k.body; whole = ap (λ (s : List ℕ). c ∷ d ∷ s) k.whole; inside = inside }

pub unquote_told : (s : List ℕ) → AllSome (Closed s) (unquote s)
unfolding unquote
unquote_told [] = tt
unquote_told (c ∷ []) = if_some (Closed (c ∷ [])) (c == 34) (Some ([], [])) None (λ e. record { body = []; whole = ap (λ (k : ℕ). k ∷ []) (eqb-true c 34 e); inside = nothing }) (λ e. tt)
unquote_told (c ∷ d ∷ r) = if_some (Closed (c ∷ d ∷ r)) (c == 34) (Some ([], d ∷ r)) (if (c == 92) && ((d == 34) || (d == 92)) then with_byte d (unquote r) else with_byte c (unquote (d ∷ r)))
    (λ e. record { body = []; whole = ap (λ (k : ℕ). k ∷ d ∷ r) (eqb-true c 34 e); inside = nothing })
    (λ e. if_some (Closed (c ∷ d ∷ r)) ((c == 92) && ((d == 34) || (d == 92))) (with_byte d (unquote r)) (with_byte c (unquote (d ∷ r)))
    (λ f. byte_told (Closed r) (Closed (c ∷ d ∷ r)) d (unquote r) (unquote_told r) (λ x k. closed_escaped c d r x f k))
    (λ f. byte_told (Closed (d ∷ r)) (Closed (c ∷ d ∷ r)) c (unquote (d ∷ r)) (unquote_told (d ∷ r)) (λ x k. closed_plain c d r x e f k)))

unquote_plain : (c : ℕ) (s : List ℕ) → (c == 34) ≡ false → (c == 92) ≡ false → 1 ≤ length s → unquote (c ∷ s) ≡ with_byte c (unquote s)
unfolding unquote
unquote_plain c [] h k le = absurd (omega arith)
unquote_plain c (d ∷ r) h k le = rw (h, k) refl

unquote_itself : (d : ℕ) (s : List ℕ) → (d == 34) ≡ false → (d == 92) ≡ false → unquote (92 ∷ d ∷ s) ≡ with_byte 92 (unquote (d ∷ s))
unfolding unquote
unquote_itself d s h k = rw (h, k) refl

unquote_special : (c : ℕ) (s : List ℕ) → IsQuote c ⊎ IsBackslash c → unquote (92 ∷ c ∷ s) ≡ with_byte c (unquote s)
unfolding unquote
unquote_special c s (inl e) = rw e refl
unquote_special c s (inr e) = rw e refl

unquote_end : (w : List ℕ) → unquote (34 ∷ w) ≡ Some ([], w)
unfolding unquote
unquote_end [] = refl
unquote_end (c ∷ w) = refl

itself_back : (t x w : List ℕ) → First (λ c. (IsQuote c → ⊥) × (IsBackslash c → ⊥)) t → unquote (t ++ 34 ∷ w) ≡ Some (x, w) → unquote (92 ∷ t ++ 34 ∷ w) ≡ Some (92 ∷ x, w)
itself_back [] x w h e = elim h [ ]
itself_back (d ∷ t) x w h e = unquote_itself d (t ++ 34 ∷ w) (ne_eqb d 34 h.0) (ne_eqb d 92 h.1) ∙ ap (with_byte 92) e

pub unquote_back : (body x w : List ℕ) → Inside body x → unquote (body ++ 34 ∷ w) ≡ Some (x, w)
unquote_back body x w nothing = unquote_end w
unquote_back body x w (escaped {c = c} {t = t} {x = y} q i) = unquote_special c (t ++ 34 ∷ w) q ∙ ap (with_byte c) (unquote_back t y w i)
unquote_back body x w (itself {t = t} {x = y} f i) = itself_back t y w f (unquote_back t y w i)
unquote_back body x w (other {c = c} {t = t} {x = y} q b i) = unquote_plain c (t ++ 34 ∷ w) (ne_eqb c 34 q) (ne_eqb c 92 b) (omega (arith, length-append t (34 ∷ w))) ∙ ap (with_byte c) (unquote_back t y w i)

-- ---- blanks at the end

record Trimmed (u : List ℕ) : Type 0 where
  blanks : List ℕ
  whole : u ≡ trim_end u ++ blanks
  blank : Each IsBlank blanks
  last : (trim_end u ≡ []) ⊎ Last (λ c. IsBlank c → ⊥) (trim_end u)

kept_told : (c : ℕ) (t k b : List ℕ) → t ≡ k ++ b → Each IsBlank b → (k ≡ []) ⊎ Last (λ c. IsBlank c → ⊥) k → (s : List ℕ) × (c ∷ t ≡ kept_before c k ++ s) × Each IsBlank s × ((kept_before c k ≡ []) ⊎ Last (λ c. IsBlank c → ⊥) (kept_before c k))
kept_told c t [] b e h l = by (is_blank c) refl
  where
    by : (q : Bool) → is_blank c ≡ q → (s : List ℕ) × (c ∷ t ≡ (if q then [] else c ∷ []) ++ s) × Each IsBlank s × (((if q then [] else c ∷ []) ≡ []) ⊎ Last (λ c. IsBlank c → ⊥) (if q then [] else c ∷ []))
    by true f = (c ∷ b, ap (λ (x : List ℕ). c ∷ x) e, (blank_told c f, h), inl refl)
    by false f = (b, ap (λ (x : List ℕ). c ∷ x) e, h, inr (no_blank_told c f))
kept_told c t (d ∷ k) b e h l = (b, ap (λ (x : List ℕ). c ∷ x) e, h, inr (by l))
  where
    by : (d ∷ k ≡ []) ⊎ Last (λ c. IsBlank c → ⊥) (d ∷ k) → Last (λ c. IsBlank c → ⊥) (d ∷ k)
    by (inl f) = absurd cc
    by (inr f) = f

trimmed_parts : (u : List ℕ) → (s : List ℕ) × (u ≡ trim_end u ++ s) × Each IsBlank s × ((trim_end u ≡ []) ⊎ Last (λ c. IsBlank c → ⊥) (trim_end u))
unfolding trim_end
trimmed_parts [] = ([], refl, tt, inl refl)
trimmed_parts (c ∷ t) = let i = trimmed_parts t in kept_told c t (trim_end t) i.0 i.1 i.2 i.3

trimmed : (u : List ℕ) → Trimmed u
trimmed u = let i = trimmed_parts u in record { blanks = i.0; whole = i.1; blank = i.2; last = i.3 }

trim_blanks : (b : List ℕ) → Each IsBlank b → trim_end b ≡ []
unfolding trim_end
trim_blanks [] h = refl
trim_blanks (c ∷ b) h = rw (trim_blanks b h.1, blank_true c h.0) refl

last_kept : (c : ℕ) → (IsBlank c → ⊥) → kept_before c [] ≡ c ∷ []
last_kept c h = rw (blank_false c h) refl

trim_back : (x b : List ℕ) → Last (λ c. IsBlank c → ⊥) x → Each IsBlank b → trim_end (x ++ b) ≡ x
unfolding trim_end
trim_back [] b h k = elim h [ ]
trim_back (c ∷ []) b h k = ap (kept_before c) (trim_blanks b k) ∙ last_kept c h
trim_back (c ∷ d ∷ x) b h k = ap (kept_before c) (trim_back (d ∷ x) b h k)

-- ---- arguments

pub argument_told : (x : List ℕ) → AllSome (λ y. (y ≡ x) × IsArgument y) (argument x)
unfolding argument
argument_told x = if_some (λ y. (y ≡ x) × IsArgument y) (is_utf8 x && nat_le (length x) 1024) (Some x) None (λ e. let both = and_parts (is_utf8 x) (nat_le (length x) 1024) e in (refl, record { utf8 = both.0; short = leb-true (length x) 1024 both.1 })) (λ e. tt)

-- ---- the text of a command

-- a piece, and blanks up to the end of the command
pub record TextTold (Is : List ℕ → List ℕ → Type 0) (s : List ℕ) (x : List ℕ × List ℕ) : Type 0 where
  pub piece : List ℕ
  pub blanks : List ℕ
  pub whole : s ≡ piece ++ (blanks ++ x.1)
  pub is : Is x.0 piece
  pub blank : Each IsBlank blanks
  pub ends : MayFollow x.1

closed_whole : (t body w b r : List ℕ) → t ≡ body ++ 34 ∷ w → w ≡ b ++ r → 34 ∷ t ≡ (34 ∷ (body ++ 34 ∷ [])) ++ (b ++ r)
closed_whole t body w b r e f = ap (λ (s : List ℕ). 34 ∷ s) (e ∙ (ap (λ (s : List ℕ). body ++ 34 ∷ s) f ∙ sym (append_assoc body (34 ∷ []) (b ++ r))))

closed_told : (Is : List ℕ → List ℕ → Type 0) → ((x p : List ℕ) → Quoted x p → Is x p) → (t : List ℕ) (x : List ℕ × List ℕ) → Closed t x → AllSome (TextTold Is (34 ∷ t)) (closed x)
closed_told Is quoted t x k = if_some (TextTold Is (34 ∷ t)) (ends (skip x.1)) (Some (x.0, skip x.1)) None
    (λ e. let b = skipped x.1 in record { piece = 34 ∷ (k.body ++ 34 ∷ []); blanks = b.blanks; whole = closed_whole t k.body x.1 b.blanks (skip x.1) k.whole b.whole; is = quoted x.0 (34 ∷ (k.body ++ 34 ∷ [])) (record { body = k.body; whole = refl; inside = k.inside }); blank = b.blank; ends = ends_told (skip x.1) e })
    (λ e. tt)

-- a text that is not quoted: its front before the end of the command, without the blanks at its end
pub record BareTold (s : List ℕ) : Type 0 where
  pub blanks : List ℕ
  pub whole : s ≡ trim_end (until is_end s) ++ (blanks ++ from is_end s)
  pub blank : Each IsBlank blanks
  pub clean : has is_end (trim_end (until is_end s)) ≡ false
  pub last : (trim_end (until is_end s) ≡ []) ⊎ Last (λ c. IsBlank c → ⊥) (trim_end (until is_end s))

has_front : (p : ℕ → Bool) (s t u : List ℕ) → u ≡ s ++ t → has p u ≡ false → has p s ≡ false
unfolding has
has_front p [] t u e h = refl
has_front p (c ∷ s) t [] e h = absurd cc
has_front p (c ∷ s) t (d ∷ u) e h =
    let same : d ≡ c = cc in
    let more : u ≡ s ++ t = cc in
    let both = or_parts (p d) (has p u) h in
    let miss : p c ≡ false = ap p (sym same) ∙ both.0 in
    rw miss (has_front p s t u more both.1)

pub bare_told : (s : List ℕ) → BareTold s
bare_told s =
    let t = trimmed (until is_end s) in
    let w : s ≡ trim_end (until is_end s) ++ (t.blanks ++ from is_end s) = sym (until_from is_end s) ∙ (ap (λ (u : List ℕ). u ++ from is_end s) t.whole ∙ append_assoc (trim_end (until is_end s)) t.blanks (from is_end s)) in
    record { blanks = t.blanks; whole = w; blank = t.blank; clean = has_front is_end (trim_end (until is_end s)) t.blanks (until is_end s) t.whole (until_clean is_end s); last = t.last }

-- the text begins with no blank
pub data Unblanked : List ℕ → Type 0 where
  none_there : Unblanked []
  no_blank : {c : ℕ} {t : List ℕ} → is_blank c ≡ false → Unblanked (c ∷ t)

pub ends_unblanked : (e : List ℕ) → MayFollow e → Unblanked e
ends_unblanked [] h = none_there
ends_unblanked (c ∷ e) h = no_blank (end_no_blank c h)

pub skip_unblanked : (t : List ℕ) → Unblanked (skip t)
unfolding skip
skip_unblanked [] = none_there
skip_unblanked (c ∷ t) = by (is_blank c) refl (skip_unblanked t)
  where
    by : (b : Bool) → is_blank c ≡ b → Unblanked (skip t) → Unblanked (if b then skip t else c ∷ t)
    by true e h = h
    by false e h = no_blank e

pub unblanked_append : (s e : List ℕ) → Unblanked s → MayFollow e → Unblanked (s ++ e)
unblanked_append [] e h k = ends_unblanked e k
unblanked_append (c ∷ s) e (no_blank h) k = no_blank h

pub unblanked_kept : (t : List ℕ) → Unblanked t → skip t ≡ t
unfolding skip
unblanked_kept [] h = refl
unblanked_kept (c ∷ t) (no_blank h) = rw h refl

-- the first byte of what is kept is the first of the text
kept_first : (s x b : List ℕ) → Unblanked s → starts 34 s ≡ false → s ≡ x ++ b → is_nil x ≡ false → First (λ c. (IsBlank c → ⊥) × (IsQuote c → ⊥)) x
kept_first s [] b u q e h = absurd (true≢false h)
kept_first [] (c ∷ x) b u q e h = absurd cc
kept_first (d ∷ s) (c ∷ x) b (no_blank u) q e h =
    let same : d ≡ c = cc in
    (no_blank_told c (ap is_blank (sym same) ∙ u), λ k. eqb-false d 34 q (same ∙ k))

last_there : (x : List ℕ) → (x ≡ []) ⊎ Last (λ c. IsBlank c → ⊥) x → is_nil x ≡ false → Last (λ c. IsBlank c → ⊥) x
last_there x (inl e) h = absurd (true≢false (sym (ap is_nil e) ∙ h))
last_there x (inr l) h = l

bare_text_told : (s : List ℕ) → Unblanked s → starts 34 s ≡ false → AllSome (TextTold IsText s) (bare false (trim_end (until is_end s)) (from is_end s))
bare_text_told s u q =
    let t = bare_told s in
    let x : List ℕ = trim_end (until is_end s) in
    if_some (TextTold IsText s) (is_nil x || (false && has breaks_word x)) None (Some (x, from is_end s)) (λ e. tt) (λ e.
    let some : is_nil x ≡ false = (or_parts (is_nil x) (false && has breaks_word x) e).0 in
    let is : IsBareText x = record { first = kept_first s x (t.blanks ++ from is_end s) u q t.whole some; last = last_there x t.last some; each = has_each is_end (λ c. IsSeparator c → ⊥) no_end_told x t.clean } in
    record { piece = x; blanks = t.blanks; whole = t.whole; is = inr (refl, is); blank = t.blank; ends = at_ends (from is_end s) (from_stops is_end s) })

pub nil_long : (x : List ℕ) → is_nil x ≡ false → 1 ≤ length x
nil_long [] h = absurd (true≢false h)
nil_long (c ∷ x) h = omega arith

pub word_bytes : (x : List ℕ) → has is_end x ≡ false → has breaks_word x ≡ false → Each (λ c. (IsBlank c → ⊥) × (IsSeparator c → ⊥) × (IsQuote c → ⊥)) x
unfolding has
word_bytes [] h k = tt
word_bytes (c ∷ x) h k =
    let ends = or_parts (is_end c) (has is_end x) h in
    let breaks = or_parts (breaks_word c) (has breaks_word x) k in
    let two = or_parts (is_blank c) (c == 34) breaks.0 in
    ((no_blank_told c two.0, no_end_told c ends.0, eqb-false c 34 two.1), word_bytes x ends.1 breaks.1)

bare_word_told : (s : List ℕ) → AllSome (TextTold IsWord s) (bare true (trim_end (until is_end s)) (from is_end s))
bare_word_told s =
    let t = bare_told s in
    let x : List ℕ = trim_end (until is_end s) in
    if_some (TextTold IsWord s) (is_nil x || (true && has breaks_word x)) None (Some (x, from is_end s)) (λ e. tt) (λ e.
    let both = or_parts (is_nil x) (true && has breaks_word x) e in
    let is : IsBareWord x = record { some = nil_long x both.0; each = word_bytes x t.clean both.1 } in
    record { piece = x; blanks = t.blanks; whole = t.whole; is = inr (refl, is); blank = t.blank; ends = at_ends (from is_end s) (from_stops is_end s) })

quoted_told : (Is : List ℕ → List ℕ → Type 0) → ((x p : List ℕ) → Quoted x p → Is x p) → (t : List ℕ) → AllSome (TextTold Is (34 ∷ t)) (unquote t >>= closed)
quoted_told Is quoted t = bind_some (Closed t) (TextTold Is (34 ∷ t)) (unquote t) closed (unquote_told t) (λ x k. closed_told Is quoted t x k)

pub quote_first : (c : ℕ) (t : List ℕ) → (c == 34) ≡ true → c ∷ t ≡ 34 ∷ t
quote_first c t e = ap (λ (k : ℕ). k ∷ t) (eqb-true c 34 e)

-- the text up to the end of the command is an argument
pub text_told : (s : List ℕ) → Unblanked s → AllSome (TextTold IsText s) (text_at false s)
unfolding text_at
text_told [] u = bare_text_told [] u refl
text_told (c ∷ t) u = if_some (TextTold IsText (c ∷ t)) (c == 34) (unquote t >>= closed) (bare false (trim_end (until is_end (c ∷ t))) (from is_end (c ∷ t)))
    (λ e. subst (λ (s : List ℕ). AllSome (TextTold IsText s) (unquote t >>= closed)) (sym (quote_first c t e)) (quoted_told IsText (λ x p q. inl q) t))
    (λ e. bare_text_told (c ∷ t) u e)

-- the same of one word
pub one_word_told : (s : List ℕ) → AllSome (TextTold IsWord s) (text_at true s)
unfolding text_at
one_word_told [] = bare_word_told []
one_word_told (c ∷ t) = if_some (TextTold IsWord (c ∷ t)) (c == 34) (unquote t >>= closed) (bare true (trim_end (until is_end (c ∷ t))) (from is_end (c ∷ t)))
    (λ e. subst (λ (s : List ℕ). AllSome (TextTold IsWord s) (unquote t >>= closed)) (sym (quote_first c t e)) (quoted_told IsWord (λ x p q. inl q) t))
    (λ e. bare_word_told (c ∷ t))

-- ---- an argument that stands in the text is taken

first_no_quote : (x t : List ℕ) → First (λ c. (IsBlank c → ⊥) × (IsQuote c → ⊥)) x → starts 34 (x ++ t) ≡ false
first_no_quote [] t h = elim h [ ]
first_no_quote (c ∷ x) t h = ne_eqb c 34 h.1

text_bare : (w : Bool) (s : List ℕ) → starts 34 s ≡ false → text_at w s ≡ bare w (trim_end (until is_end s)) (from is_end s)
unfolding text_at
text_bare w s e = rw e refl

text_quoted : (w : Bool) (t : List ℕ) → text_at w (34 ∷ t) ≡ (unquote t >>= closed)
unfolding text_at
text_quoted w t = refl

blanks_clean : (b : List ℕ) → Each IsBlank b → has is_end b ≡ false
blanks_clean b h = each_has is_end IsBlank blank_no_end b h

cut_back : (x b e : List ℕ) → Each (λ c. IsSeparator c → ⊥) x → Each IsBlank b → MayFollow e → (until is_end (x ++ (b ++ e)) ≡ x ++ b) × (from is_end (x ++ (b ++ e)) ≡ e)
cut_back x b e h k l =
    let clean : has is_end (x ++ b) ≡ false = has_append is_end x b (each_has is_end (λ c. IsSeparator c → ⊥) end_false x h) (blanks_clean b k) in
    let same : x ++ (b ++ e) ≡ (x ++ b) ++ e = sym (append_assoc x b e) in
    (ap (until is_end) same ∙ until_past is_end (x ++ b) e clean (ends_at e l), ap (from is_end) same ∙ from_past is_end (x ++ b) e clean (ends_at e l))

bare_back : (x b e : List ℕ) → IsBareText x → Each IsBlank b → MayFollow e → text_at false (x ++ (b ++ e)) ≡ Some (x, e)
bare_back x b e h k l =
    let c = cut_back x b e h.each k l in
    let some : is_nil x ≡ false = not_nil x h.first in
    text_bare false (x ++ (b ++ e)) (first_no_quote x (b ++ e) h.first) ∙ rw (c.0, c.1, trim_back x b h.last k, some) refl
  where
    not_nil : (x : List ℕ) → First (λ c. (IsBlank c → ⊥) × (IsQuote c → ⊥)) x → is_nil x ≡ false
    not_nil [] h = elim h [ ]
    not_nil (c ∷ x) h = refl

quoted_whole : (body b e : List ℕ) → (34 ∷ (body ++ 34 ∷ [])) ++ (b ++ e) ≡ 34 ∷ (body ++ 34 ∷ (b ++ e))
quoted_whole body b e = ap (λ (s : List ℕ). 34 ∷ s) (append_assoc body (34 ∷ []) (b ++ e))

closed_back : (x b e : List ℕ) → Each IsBlank b → MayFollow e → closed (x, b ++ e) ≡ Some (x, e)
closed_back x b e k l =
    let s : skip (b ++ e) ≡ e = skip_blanks b e k ∙ unblanked_kept e (ends_unblanked e l) in
    rw (s, ends_true e l) refl

quoted_back : (w : Bool) (x p b e : List ℕ) → Quoted x p → Each IsBlank b → MayFollow e → text_at w (p ++ (b ++ e)) ≡ Some (x, e)
quoted_back w x p b e q k l =
    ap (λ (s : List ℕ). text_at w (s ++ (b ++ e))) q.whole
    ∙ (ap (text_at w) (quoted_whole q.body b e)
    ∙ (text_quoted w (q.body ++ 34 ∷ (b ++ e))
    ∙ (ap (λ (o : Option (List ℕ × List ℕ)). o >>= closed) (unquote_back q.body x (b ++ e) q.inside) ∙ closed_back x b e k l)))

pub text_back : (x p b e : List ℕ) → IsText x p → Each IsBlank b → MayFollow e → text_at false (p ++ (b ++ e)) ≡ Some (x, e)
text_back x p b e (inl q) k l = quoted_back false x p b e q k l
text_back x p b e (inr h) k l = ap (λ (s : List ℕ). text_at false (s ++ (b ++ e))) h.0 ∙ bare_back x b e h.1 k l

word_first : (x t : List ℕ) → IsBareWord x → starts 34 (x ++ t) ≡ false
word_first [] t h = absurd (omega (arith, h.some))
word_first (c ∷ x) t h = ne_eqb c 34 h.each.0.2

breaks_false : (c : ℕ) → (IsBlank c → ⊥) × (IsSeparator c → ⊥) × (IsQuote c → ⊥) → breaks_word c ≡ false
breaks_false c h = let a = blank_false c h.0 in let b : (c == 34) ≡ false = ne_eqb c 34 h.2 in rw (a, b) refl

word_last : (x : List ℕ) → 1 ≤ length x → Each (λ c. (IsBlank c → ⊥) × (IsSeparator c → ⊥) × (IsQuote c → ⊥)) x → Last (λ c. IsBlank c → ⊥) x
word_last [] h k = absurd (omega arith)
word_last (c ∷ []) h k = k.0.0
word_last (c ∷ d ∷ x) h k = word_last (d ∷ x) (omega arith) k.1

bare_word_back : (x b e : List ℕ) → IsBareWord x → Each IsBlank b → MayFollow e → text_at true (x ++ (b ++ e)) ≡ Some (x, e)
bare_word_back x b e h k l =
    let c = cut_back x b e (each_more (λ c. (IsBlank c → ⊥) × (IsSeparator c → ⊥) × (IsQuote c → ⊥)) (λ c. IsSeparator c → ⊥) (λ c q. q.1) x h.each) k l in
    let some : is_nil x ≡ false = not_nil x h.some in
    let clean : has breaks_word x ≡ false = each_has breaks_word (λ c. (IsBlank c → ⊥) × (IsSeparator c → ⊥) × (IsQuote c → ⊥)) breaks_false x h.each in
    text_bare true (x ++ (b ++ e)) (word_first x (b ++ e) h) ∙ rw (c.0, c.1, trim_back x b (word_last x h.some h.each) k, some, clean) refl
  where
    not_nil : (x : List ℕ) → 1 ≤ length x → is_nil x ≡ false
    not_nil [] h = absurd (omega arith)
    not_nil (c ∷ x) h = refl

pub one_word_back : (x p b e : List ℕ) → IsWord x p → Each IsBlank b → MayFollow e → text_at true (p ++ (b ++ e)) ≡ Some (x, e)
one_word_back x p b e (inl q) k l = quoted_back true x p b e q k l
one_word_back x p b e (inr h) k l = ap (λ (s : List ℕ). text_at true (s ++ (b ++ e))) h.0 ∙ bare_word_back x b e h.1 k l
