-- A text of a form that has a free argument is one of the ways to read its keywords, and its argument fits there.
use Rattle.std.proofs.Common.{◌≡◌, ℕ, suc, ◌+◌, ◌≤◌, ◌⊎◌, Bool, true, false, List, [], ◌∷◌, ◌++◌, length, Option, Some, None, refl, sym, ap, subst, ◌∙◌, append_assoc, arith, codes, inl, inr}
use Rattle.std.specs.Prelude.{if◌then◌else◌, ◌==◌, ◌||◌, option_map}
use Rattle.std.proofs.lemmas.Bool.{or_parts, ne_eqb, false≢true, true≢false}
use Rattle.std.proofs.lemmas.List.{append-nil}
use Rattle.wm_language.specs.declared.arguments.OutArg.TheVariants as outs
use Rattle.wm_language.specs.declared.arguments.Target.TheVariants as targets
use Rattle.wm_language.specs.declared.arguments.SwapArg.TheVariants as swaps
use Rattle.wm_language.specs.declared.command.Command.{Command}
use Rattle.wm_language.specs.declared.command.Command.TheVariants as commands
use Rattle.wm_words.specs.declared.verbs.Verb.{Verb}
use Rattle.wm_words.specs.declared.verbs.Verb.TheVariants as verbs
use Rattle.wm_grammar.specs.declared.opening.Opening.TheVariants as openings
use Rattle.wm_words.specs.Pieces.{◌>>=◌, is_nil, is_blank, is_end, is_gap, breaks_word, starts, until, from, has, skip, word, after, is_word, is_text, says, argument}
use Rattle.wm_words.specs.Forms.{past_one_to, past_to, past_with, verb_of}
use Rattle.wm_words.proofs.NumbersAgain.{stops_at, until_past, from_past}
use Rattle.wm_grammar.specs.Openings.{text_at, made, word_at, past_keyword_to, renamed, before_rest, finished}
use Rattle.wm_grammar.proofs.Spelled.{argument_again}
use Rattle.wm_language.specs.Bytes.{IsBlank, IsSeparator, IsQuote, First, Last, Each, MayFollow}
use Rattle.wm_language.specs.Words.{in_small, Quoted, IsBareWord, IsText, IsWord}
use Rattle.wm_language.specs.Slots.{Slot, said, word as one_word, text, anything, Fills, Gap, Filled, keywords, Optional, left_out, there}
use Rattle.wm_language.specs.Arguments.{IdleWord, idle_exec, idle_open, idle_reload, idle_restart, To, to_alone, to_container, to_window}
use Rattle.wm_language.specs.ArgumentForms.{MoveToArgument, send_workspace, send_numbered, send_output, send_mark, Adding, add_nothing, add_there, replace_there, Toggling, toggle_nothing, toggle_there, ArgumentForm, focus_named, move_sent, workspace_moved, swap_mark, mark_named, unmark_named, workspace_named, workspace_numbered, rename_focused, rename_named, mode_named, layout_appended, title_set, nop_text, idle_text}
use Rattle.wm_grammar.proofs.ByteLemmas.{blank_true, blank_false, end_false, skip_blanks, each_has, word_says, same_text}
use Rattle.wm_grammar.proofs.TextLemmas.{unblanked_append, unblanked_kept, unquote_back, text_back, one_word_back}
use Rattle.wm_grammar.proofs.RowLemmas.{Row, Bare, said_bare, proper, filled_unblanked}
use Rattle.wm_grammar.proofs.RankedWays.{Way, Ranked, one_to_count, to_count, move_to_ranked, with_count, swap_with_ranked, mark_ranked, ranked}
use Rattle.wm_grammar.proofs.TreeBack.{says_it, Names, Moved, moved_word, to_back, one_to_back, with_back}
use Rattle.wm_grammar.proofs.WindowBack.{verb_back, verb_exact, idle_proper, one_to_proper, to_proper, container_proper}

-- ---- arguments that stand last

last_whole : (p b o q s e rest : List ℕ) → s ++ e ≡ q ++ rest → q ≡ p ++ (b ++ o) → o ≡ [] → s ++ e ≡ p ++ (b ++ rest)
last_whole p b o q s e rest h k n = h ∙ (ap (λ (t : List ℕ). t ++ rest) (k ∙ ap (λ (t : List ℕ). p ++ t) (ap (λ (t : List ℕ). b ++ t) n ∙ append-nil b)) ∙ append_assoc p b rest)

text_last : (x rest e s : List ℕ) → MayFollow rest → Row (text x ∷ []) rest e s → text_at false (s ++ e) ≡ Some (x, rest)
text_last x rest e s l h = let f = h.2 in ap (text_at false) (last_whole f.piece f.blanks f.others h.0 s e rest h.1 f.whole f.more) ∙ text_back x f.piece f.blanks rest f.fills.1 f.blank l

word_last : (x rest e s : List ℕ) → MayFollow rest → Row (one_word x ∷ []) rest e s → text_at true (s ++ e) ≡ Some (x, rest)
word_last x rest e s l h = let f = h.2 in ap (text_at true) (last_whole f.piece f.blanks f.others h.0 s e rest h.1 f.whole f.more) ∙ one_word_back x f.piece f.blanks rest f.fills.1 f.blank l

-- the command of a text
pub text_fits : (f : List ℕ → Command) (x rest e s : List ℕ) → MayFollow rest → Row (text x ∷ []) rest e s → (text_at false (s ++ e) >>= λ y. option_map (before_rest y.1) (argument y.0 >>= λ n. Some (f n))) ≡ Some (f x, rest)
text_fits f x rest e s l h = rw (text_last x rest e s l h, argument_again x h.2.fills.0) refl

pub word_fits : (f : List ℕ → Command) (x rest e s : List ℕ) → MayFollow rest → Row (one_word x ∷ []) rest e s → (text_at true (s ++ e) >>= λ y. option_map (before_rest y.1) (argument y.0 >>= λ n. Some (f n))) ≡ Some (f x, rest)
word_fits f x rest e s l h = rw (word_last x rest e s l h, argument_again x h.2.fills.0) refl

pub anything_fits : (c : Command) (rest e s : List ℕ) → MayFollow rest → Row (anything ∷ []) rest e s → (text_at false (s ++ e) >>= λ y. option_map (before_rest y.1) (Some c)) ≡ Some (c, rest)
anything_fits c rest e s l h =
    let f = h.2 in
    let t : text_at false (s ++ e) ≡ Some (f.fills.0, rest) = ap (text_at false) (last_whole f.piece f.blanks f.others h.0 s e rest h.1 f.whole f.more) ∙ text_back f.fills.0 f.piece f.blanks rest f.fills.1 f.blank l in
    rw t refl

-- ---- the old name of a workspace, to, and the new one

gap_false : (c : ℕ) → is_blank c ≡ false → is_end c ≡ false → is_gap c ≡ false
gap_false c h k = rw (h, k) refl

has_gap : (w : List ℕ) → has is_blank w ≡ false → has is_end w ≡ false → has is_gap w ≡ false
unfolding has
has_gap [] h k = refl
has_gap (c ∷ w) h k =
    let a = or_parts (is_blank c) (has is_blank w) h in
    let b = or_parts (is_end c) (has is_end w) k in
    rw (gap_false c a.0 b.0) (has_gap w a.1 b.1)

blank_gap : (c : ℕ) → IsBlank c → is_gap c ≡ true
blank_gap c h = rw (blank_true c h) refl

last_has : (p : ℕ → Bool) (Q : ℕ → Type 0) → ((c : ℕ) → Q c → p c ≡ true) → (w : List ℕ) → has p w ≡ false → Last Q w → ⊥
unfolding has
last_has p Q f [] h l = l
last_has p Q f (c ∷ []) h l = false≢true (sym (or_parts (p c) _ h).0 ∙ f c l)
last_has p Q f (c ∷ d ∷ w) h l = last_has p Q f (d ∷ w) (or_parts (p c) (has p (d ∷ w)) h).1 l

quote_hit : (c : ℕ) → IsQuote c → (c == 34) ≡ true
quote_hit c e = ap (λ (n : ℕ). n == 34) e

-- behind a piece that has no quote stands a blank
gap_there : (w b o t : List ℕ) → has (λ c. c == 34) w ≡ false → Each IsBlank b → Gap w b o → is_nil o ≡ false → stops_at is_gap (b ++ (o ++ t)) ≡ true
gap_there w (c ∷ b) o t h k g n = blank_gap c k.0
gap_there w [] [] t h k g n = absurd (true≢false n)
gap_there w [] (c ∷ o) t h k g n = absurd (last_has (λ c. c == 34) IsQuote quote_hit w h g)

word_at_quoted : (x p w : List ℕ) → Quoted x p → word_at (p ++ w) ≡ Some (x, w)
unfolding word_at
word_at_quoted x p w q = ap (λ (s : List ℕ). word_at (s ++ w)) q.whole ∙ (ap (λ (s : List ℕ). word_at (34 ∷ s)) (append_assoc q.body (34 ∷ []) w) ∙ unquote_back q.body x w q.inside)

bare_test : (c : ℕ) → (IsBlank c → ⊥) × (IsSeparator c → ⊥) × (IsQuote c → ⊥) → (is_gap c ≡ false) × (breaks_word c ≡ false) × ((c == 34) ≡ false)
bare_test c h =
    let a = blank_false c h.0 in
    let b = end_false c h.1 in
    let d : (c == 34) ≡ false = ne_eqb c 34 h.2 in
    (gap_false c a b, rw (a, d) refl, d)

word_at_plain : (x w : List ℕ) → is_nil x ≡ false → starts 34 (x ++ w) ≡ false → has is_gap x ≡ false → has breaks_word x ≡ false → stops_at is_gap w ≡ true → word_at (x ++ w) ≡ Some (x, w)
unfolding word_at
word_at_plain x w some quote gap breaks stop =
    let a : until is_gap (x ++ w) ≡ x = until_past is_gap x w gap stop in
    let b : from is_gap (x ++ w) ≡ w = from_past is_gap x w gap stop in
    rw (quote, a, b, some, breaks) refl

no_quote_first : (x w : List ℕ) → 1 ≤ length x → Each (λ c. (IsBlank c → ⊥) × (IsSeparator c → ⊥) × (IsQuote c → ⊥)) x → (starts 34 (x ++ w) ≡ false) × (is_nil x ≡ false)
no_quote_first [] w h k = absurd (omega arith)
no_quote_first (c ∷ x) w h k = ((bare_test c k.0).2, refl)

word_quotes : (x : List ℕ) → IsBareWord x → has (λ c. c == 34) x ≡ false
word_quotes x h = each_has (λ c. c == 34) (λ c. (IsBlank c → ⊥) × (IsSeparator c → ⊥) × (IsQuote c → ⊥)) (λ c k. (bare_test c k).2) x h.each

word_at_back : (x p b o t : List ℕ) → IsWord x p → Each IsBlank b → Gap p b o → is_nil o ≡ false → word_at (p ++ (b ++ (o ++ t))) ≡ Some (x, b ++ (o ++ t))
word_at_back x p b o t (inl q) k g n = word_at_quoted x p (b ++ (o ++ t)) q
word_at_back x p b o t (inr h) k g n =
    let B : ℕ → Type 0 = λ c. (IsBlank c → ⊥) × (IsSeparator c → ⊥) × (IsQuote c → ⊥) in
    let gap : has is_gap x ≡ false = each_has is_gap B (λ c k. (bare_test c k).0) x h.1.each in
    let breaks : has breaks_word x ≡ false = each_has breaks_word B (λ c k. (bare_test c k).1) x h.1.each in
    let first = no_quote_first x (b ++ (o ++ t)) h.1.some h.1.each in
    let stop : stops_at is_gap (b ++ (o ++ t)) ≡ true = gap_there x b o t (word_quotes x h.1) k (subst (λ (s : List ℕ). Gap s b o) h.0 g) n in
    ap (λ (s : List ℕ). word_at (s ++ (b ++ (o ++ t)))) h.0 ∙ word_at_plain x (b ++ (o ++ t)) first.1 first.0 gap breaks stop

to_word : (w : List ℕ) → in_small w ≡ codes "to" → is_word w (codes "to") ≡ true
to_word w e = word_says w (codes "to") (codes "to") e ∙ same_text (codes "to")

past_to_there : (w t : List ℕ) → has is_gap w ≡ false → stops_at is_gap t ≡ true → is_word w (codes "to") ≡ true → past_keyword_to (w ++ t) ≡ Some (skip t)
unfolding past_keyword_to
past_to_there w t gap stop is =
    let a : until is_gap (w ++ t) ≡ w = until_past is_gap w t gap stop in
    let b : from is_gap (w ++ t) ≡ t = from_past is_gap w t gap stop in
    rw (a, b, is) refl

some_unblanked : (s : Slot) (slots : List Slot) (o : List ℕ) → Filled (s ∷ slots) o → ((p : List ℕ) → Fills s p → is_nil p ≡ false) → is_nil o ≡ false
some_unblanked s slots o f some = ap is_nil f.whole ∙ by f.piece (f.blanks ++ f.others) (some f.piece f.fills)
  where
    by : (p t : List ℕ) → is_nil p ≡ false → is_nil (p ++ t) ≡ false
    by [] t h = absurd (true≢false h)
    by (c ∷ p) t h = refl

text_some : (x p : List ℕ) → IsText x p → is_nil p ≡ false
text_some x p (inl q) = ap is_nil q.whole
text_some x p (inr h) = ap is_nil h.0 ∙ by x h.1.first
  where
    by : (x : List ℕ) → First (λ c. (IsBlank c → ⊥) × (IsQuote c → ⊥)) x → is_nil x ≡ false
    by [] f = elim f [ ]
    by (c ∷ x) f = refl

renamed_three : (was n w t b : List ℕ) (rest : List ℕ) → word_at w ≡ Some (was, t) → past_keyword_to (skip t) ≡ Some b → text_at false b ≡ Some (n, rest) → argument was ≡ Some was → argument n ≡ Some n → renamed w ≡ Some (commands.Rename (Some was) n, rest)
unfolding renamed
renamed_three was n w t b rest h k l a c = rw (h, k, l, a, c) refl

renamed_back : (was n rest e s : List ℕ) → MayFollow rest → Row (one_word was ∷ said (codes "to") ∷ text n ∷ []) rest e s → renamed (s ++ e) ≡ Some (commands.Rename (Some was) n, rest)
renamed_back was n rest e s l h =
    let f = h.2 in
    let g = f.more in
    let k = g.more in
    let to : Bare g.piece = said_bare (codes "to") g.piece refl g.fills in
    let text_there : is_nil g.others ≡ false = some_unblanked (text n) [] g.others k (λ p i. text_some n p i.1) in
    let to_there : is_nil f.others ≡ false = some_unblanked (said (codes "to")) (text n ∷ []) f.others g (λ p i. (said_bare (codes "to") p refl i).some) in
    let whole : s ++ e ≡ f.piece ++ (f.blanks ++ (f.others ++ rest)) = h.1 ∙ (ap (λ (t : List ℕ). t ++ rest) f.whole ∙ (append_assoc f.piece (f.blanks ++ f.others) rest ∙ ap (λ (t : List ℕ). f.piece ++ t) (append_assoc f.blanks f.others rest))) in
    let one : word_at (s ++ e) ≡ Some (was, f.blanks ++ (f.others ++ rest)) = ap word_at whole ∙ word_at_back was f.piece f.blanks f.others rest f.fills.1 f.blank f.gap to_there in
    let kept : skip (f.blanks ++ (f.others ++ rest)) ≡ f.others ++ rest = skip_blanks f.blanks (f.others ++ rest) f.blank ∙ unblanked_kept (f.others ++ rest) (unblanked_append f.others rest (filled_unblanked (said (codes "to") ∷ text n ∷ []) f.others refl g) l) in
    let second : f.others ++ rest ≡ g.piece ++ (g.blanks ++ (g.others ++ rest)) = ap (λ (t : List ℕ). t ++ rest) g.whole ∙ (append_assoc g.piece (g.blanks ++ g.others) rest ∙ ap (λ (t : List ℕ). g.piece ++ t) (append_assoc g.blanks g.others rest)) in
    let last : skip (g.blanks ++ (g.others ++ rest)) ≡ g.others ++ rest = skip_blanks g.blanks (g.others ++ rest) g.blank ∙ unblanked_kept (g.others ++ rest) (unblanked_append g.others rest (filled_unblanked (text n ∷ []) g.others refl k) l) in
    let two : past_keyword_to (skip (f.blanks ++ (f.others ++ rest))) ≡ Some (g.others ++ rest) = ap past_keyword_to (kept ∙ second) ∙ (past_to_there g.piece (g.blanks ++ (g.others ++ rest)) (has_gap g.piece to.blanks to.ends) (gap_there g.piece g.blanks g.others rest to.quotes g.blank g.gap text_there) (to_word g.piece g.fills) ∙ ap Some last) in
    let third : g.others ++ rest ≡ k.piece ++ (k.blanks ++ rest) = ap (λ (t : List ℕ). t ++ rest) (k.whole ∙ ap (λ (t : List ℕ). k.piece ++ t) (ap (λ (t : List ℕ). k.blanks ++ t) k.more ∙ append-nil k.blanks)) ∙ append_assoc k.piece k.blanks rest in
    let three : text_at false (g.others ++ rest) ≡ Some (n, rest) = ap (text_at false) third ∙ text_back n k.piece k.blanks rest k.fills.1 k.blank l in
    renamed_three was n (s ++ e) (f.blanks ++ (f.others ++ rest)) (g.others ++ rest) rest one two three (argument_again was f.fills.0) (argument_again n k.fills.0)

-- ---- the way

abbrev pub Member : Way → Ranked → Type 0
Member w [] = ⊥
Member w (x ∷ xs) = (w ≡ x) ⊎ Member w xs

-- the reading finds the verb and, among the ways behind it, the one of the form
pub record ArgumentBack (slots : List Slot) (c : Command) (rest e r : List ℕ) : Type 0 where
  pub verb : Verb
  pub found : verb_of (word r) ≡ Some verb
  pub way : Way
  pub member : Member way (ranked verb (after r))
  pub rank : keywords slots ≡ suc way.0
  pub fits : finished way.1.0 (way.1.1 ++ e) ≡ Some (c, rest)

member_if : (w : Way) (b : Bool) (x y : Ranked) → Member w x → Member w y → Member w (if b then x else y)
member_if w true x y h k = h
member_if w false x y h k = k

member_yes : (w : Way) (b : Bool) (x y : Ranked) → b ≡ true → Member w x → Member w (if b then x else y)
member_yes w true x y e h = h
member_yes w false x y e h = absurd (false≢true e)

member_no : (w : Way) (b : Bool) (x y : Ranked) → b ≡ false → Member w y → Member w (if b then x else y)
member_no w true x y e h = absurd (true≢false e)
member_no w false x y e h = h

-- ---- move

sent_names : (slots : List Slot) (c : Command) → MoveToArgument slots c → (rest e r : List ℕ) → Row slots rest e r → Names r
unfolding is_text
sent_names slots c (send_workspace n) rest e r h = record { name = codes "workspace"; is = h.1; no_to = refl; no_container = refl; no_window = refl; no_dir = refl }
sent_names slots c (send_numbered n) rest e r h = record { name = codes "workspace"; is = h.1; no_to = refl; no_container = refl; no_window = refl; no_dir = refl }
sent_names slots c (send_output n) rest e r h = record { name = codes "output"; is = h.1; no_to = refl; no_container = refl; no_window = refl; no_dir = refl }
sent_names slots c (send_mark n) rest e r h = record { name = codes "mark"; is = h.1; no_to = refl; no_container = refl; no_window = refl; no_dir = refl }

-- the way of what stands behind TO
record SentBack (m : ℕ) (slots : List Slot) (c : Command) (rest e r : List ℕ) : Type 0 where
  way : Way
  member : Member way (move_to_ranked m r)
  rank : keywords slots + m ≡ way.0
  fits : finished way.1.0 (way.1.1 ++ e) ≡ Some (c, rest)

sent_back : (m : ℕ) (slots : List Slot) (c : Command) → MoveToArgument slots c → (rest e r : List ℕ) → MayFollow rest → Row slots rest e r → SentBack m slots c rest e r
unfolding finished made is_text
sent_back m slots c (send_workspace n) rest e r l h =
    let a : says r (codes "workspace") ≡ true = says_it r (codes "workspace") (codes "workspace") true h.1 refl in
    let w : Way = (suc m, (openings.MoveToWorkspace, after r)) in
    record { way = w; member = member_yes w (says r (codes "workspace")) _ _ a (member_if w (says (after r) (codes "number")) _ _ (inr (inl refl)) (inl refl)); rank = omega arith; fits = text_fits (λ n. commands.MoveToWorkspace (targets.Named n)) n rest e (after r) l h.2 }
sent_back m slots c (send_numbered n) rest e r l h =
    let a : says r (codes "workspace") ≡ true = says_it r (codes "workspace") (codes "workspace") true h.1 refl in
    let b : says (after r) (codes "number") ≡ true = says_it (after r) (codes "number") (codes "number") true h.2.1 refl in
    let w : Way = (suc (suc m), (openings.MoveToNumbered, after (after r))) in
    record { way = w; member = member_yes w (says r (codes "workspace")) _ _ a (member_yes w (says (after r) (codes "number")) _ _ b (inl refl)); rank = omega arith; fits = text_fits (λ n. commands.MoveToWorkspace (targets.Number n)) n rest e (after (after r)) l h.2.2 }
sent_back m slots c (send_output n) rest e r l h =
    let a : says r (codes "workspace") ≡ false = says_it r (codes "output") (codes "workspace") false h.1 refl in
    let b : says r (codes "output") ≡ true = says_it r (codes "output") (codes "output") true h.1 refl in
    let w : Way = (suc m, (openings.MoveToOutput, after r)) in
    record { way = w; member = member_no w (says r (codes "workspace")) _ _ a (member_yes w (says r (codes "output")) _ _ b (inl refl)); rank = omega arith; fits = word_fits (λ n. commands.MoveToOutput (outs.Named n)) n rest e (after r) l h.2 }
sent_back m slots c (send_mark n) rest e r l h =
    let a : says r (codes "workspace") ≡ false = says_it r (codes "mark") (codes "workspace") false h.1 refl in
    let b : says r (codes "output") ≡ false = says_it r (codes "mark") (codes "output") false h.1 refl in
    let d : says r (codes "mark") ≡ true = says_it r (codes "mark") (codes "mark") true h.1 refl in
    let w : Way = (suc m, (openings.MoveToMark, after r)) in
    record { way = w; member = member_no w (says r (codes "workspace")) _ _ a (member_no w (says r (codes "output")) _ _ b (member_yes w (says r (codes "mark")) _ _ d (inl refl))); rank = omega arith; fits = text_fits commands.MoveToMark n rest e (after r) l h.2 }

-- how many keywords of TO stand there
one_count : (r : List ℕ) (b : Bool) → says r (codes "to") ≡ b → one_to_count r ≡ (if b then 1 else 0)
one_count r b e = ap (λ (k : Bool). if k then 1 else 0) e

to_count_yes : (r : List ℕ) (name : List ℕ) → in_small (word r) ≡ name → (is_text name (codes "container") || is_text name (codes "window")) ≡ true → to_count r ≡ suc (one_to_count (after r))
to_count_yes r name h k =
    let a : (says r (codes "container") || says r (codes "window")) ≡ true = ap (λ (b : Bool). b || says r (codes "window")) (word_says (word r) name (codes "container") h) ∙ (ap (λ (b : Bool). is_text name (codes "container") || b) (word_says (word r) name (codes "window") h) ∙ k) in
    rw a refl

to_count_no : (r : List ℕ) (name : List ℕ) → in_small (word r) ≡ name → (is_text name (codes "container") || is_text name (codes "window")) ≡ false → to_count r ≡ one_to_count r
to_count_no r name h k =
    let a : (says r (codes "container") || says r (codes "window")) ≡ false = ap (λ (b : Bool). b || says r (codes "window")) (word_says (word r) name (codes "container") h) ∙ (ap (λ (b : Bool). is_text name (codes "container") || b) (word_says (word r) name (codes "window") h) ∙ k) in
    rw a refl

neither : (n : List ℕ) → is_text n (codes "container") ≡ false → is_text n (codes "window") ≡ false → (is_text n (codes "container") || is_text n (codes "window")) ≡ false
neither n h k = rw (h, k) refl

one_count_back : (to slots : List Slot) → Optional (codes "to") to → ((rest e r : List ℕ) → Row slots rest e r → Names r) → (rest e r : List ℕ) → Row (to ++ slots) rest e r → keywords (to ++ slots) ≡ keywords slots + one_to_count r
unfolding is_text
one_count_back to slots left_out names rest e r h = let n = names rest e r h in let c = one_count r false (says_it r n.name (codes "to") false n.is n.no_to) in omega (arith, c)
one_count_back to slots there names rest e r h = let c = one_count r true (says_it r (codes "to") (codes "to") true h.1 refl) in omega (arith, c)

count_back : (to slots : List Slot) → To to → ((rest e r : List ℕ) → Row slots rest e r → Names r) → (rest e r : List ℕ) → Row (to ++ slots) rest e r → keywords (to ++ slots) ≡ keywords slots + to_count r
unfolding is_text
count_back to slots (to_alone left_out) names rest e r h =
    let n = names rest e r h in
    one_count_back [] slots left_out names rest e r h ∙ ap (λ (k : ℕ). keywords slots + k) (sym (to_count_no r n.name n.is (neither n.name n.no_container n.no_window)))
count_back to slots (to_alone there) names rest e r h =
    one_count_back (said (codes "to") ∷ []) slots there names rest e r h ∙ ap (λ (k : ℕ). keywords slots + k) (sym (to_count_no r (codes "to") h.1 refl))
count_back to slots (to_container {to = more} o) names rest e r h =
    let c = one_count_back more slots o names rest e (after r) h.2 in
    let d = to_count_yes r (codes "container") h.1 refl in
    omega (arith, c, d)
count_back to slots (to_window {to = more} o) names rest e r h =
    let c = one_count_back more slots o names rest e (after r) h.2 in
    let d = to_count_yes r (codes "window") h.1 refl in
    omega (arith, c, d)

-- no workspace stands behind move
sent_on : (to slots : List Slot) (c : Command) → To to → MoveToArgument slots c → (rest e r : List ℕ) → MayFollow rest → in_small (word r) ≡ codes "move" → Row (to ++ slots) rest e (after r) → Moved (after r) → ArgumentBack (said (codes "move") ∷ (to ++ slots)) c rest e r
unfolding is_text
sent_on to slots c t f rest e r l m h k =
    let names = sent_names slots c f in
    let b = sent_back (to_count (after r)) slots c f rest e (past_to (after r)) l (to_back to slots t names rest e (after r) h) in
    let count = count_back to slots t names rest e (after r) h in
    record { verb = verbs.Move; found = verb_back (word r) (codes "move") verbs.Move m refl; way = b.way; member = member_no b.way (says (after r) (codes "workspace")) _ _ k.no_workspace b.member; rank = ap (λ (n : ℕ). suc n) (count ∙ b.rank); fits = b.fits }

sent_workspace : (n : List ℕ) (rest e r : List ℕ) → MayFollow rest → Row (said (codes "move") ∷ said (codes "workspace") ∷ text n ∷ []) rest e r → ArgumentBack (said (codes "move") ∷ said (codes "workspace") ∷ text n ∷ []) (commands.MoveToWorkspace (targets.Named n)) rest e r
unfolding finished made is_text
sent_workspace n rest e r l h =
    let t : List ℕ = after r in
    let a : says t (codes "workspace") ≡ true = says_it t (codes "workspace") (codes "workspace") true h.2.1 refl in
    let w : Way = (1, (openings.MoveToWorkspace, after t)) in
    let b = sent_back 0 (said (codes "workspace") ∷ text n ∷ []) (commands.MoveToWorkspace (targets.Named n)) (send_workspace n) rest e t l h.2 in
    let inner : Member w (move_to_ranked 0 t) = member_yes w (says t (codes "workspace")) _ _ a (member_if w (says (after t) (codes "number")) _ _ (inr (inl refl)) (inl refl)) in
    record { verb = verbs.Move; found = verb_back (word r) (codes "move") verbs.Move h.1 refl; way = w; member = member_yes w (says t (codes "workspace")) _ _ a (member_if w (says (past_one_to (after t)) (codes "output")) _ _ (inr (inl refl)) inner); rank = refl; fits = text_fits (λ n. commands.MoveToWorkspace (targets.Named n)) n rest e (after t) l h.2.2 }

number_no_output : (r : List ℕ) → in_small (word r) ≡ codes "number" → says (past_one_to r) (codes "output") ≡ false
unfolding past_one_to is_text
number_no_output r h =
    let a : says r (codes "to") ≡ false = says_it r (codes "number") (codes "to") false h refl in
    let b : says r (codes "output") ≡ false = says_it r (codes "number") (codes "output") false h refl in
    rw (a, b) refl

sent_numbered : (n : List ℕ) (rest e r : List ℕ) → MayFollow rest → Row (said (codes "move") ∷ said (codes "workspace") ∷ said (codes "number") ∷ text n ∷ []) rest e r → ArgumentBack (said (codes "move") ∷ said (codes "workspace") ∷ said (codes "number") ∷ text n ∷ []) (commands.MoveToWorkspace (targets.Number n)) rest e r
unfolding finished made is_text
sent_numbered n rest e r l h =
    let t : List ℕ = after r in
    let a : says t (codes "workspace") ≡ true = says_it t (codes "workspace") (codes "workspace") true h.2.1 refl in
    let d : says (past_one_to (after t)) (codes "output") ≡ false = number_no_output (after t) h.2.2.1 in
    let b : says (after t) (codes "number") ≡ true = says_it (after t) (codes "number") (codes "number") true h.2.2.1 refl in
    let w : Way = (2, (openings.MoveToNumbered, after (after t))) in
    let inner : Member w (move_to_ranked 0 t) = member_yes w (says t (codes "workspace")) _ _ a (member_yes w (says (after t) (codes "number")) _ _ b (inl refl)) in
    record { verb = verbs.Move; found = verb_back (word r) (codes "move") verbs.Move h.1 refl; way = w; member = member_yes w (says t (codes "workspace")) _ _ a (member_no w (says (past_one_to (after t)) (codes "output")) _ _ d inner); rank = refl; fits = text_fits (λ n. commands.MoveToWorkspace (targets.Number n)) n rest e (after (after t)) l h.2.2.2 }

sent_all : (to slots : List Slot) (c : Command) → To to → MoveToArgument slots c → (rest e r : List ℕ) → MayFollow rest → Row (said (codes "move") ∷ (to ++ slots)) rest e r → ArgumentBack (said (codes "move") ∷ (to ++ slots)) c rest e r
unfolding is_text
sent_all to slots c (to_alone left_out) (send_workspace n) rest e r l h = sent_workspace n rest e r l h
sent_all to slots c (to_alone left_out) (send_numbered n) rest e r l h = sent_numbered n rest e r l h
sent_all to slots c (to_alone left_out) (send_output n) rest e r l h = sent_on [] slots c (to_alone left_out) (send_output n) rest e r l h.1 h.2 (moved_word (after r) (codes "output") h.2.1 refl refl)
sent_all to slots c (to_alone left_out) (send_mark n) rest e r l h = sent_on [] slots c (to_alone left_out) (send_mark n) rest e r l h.1 h.2 (moved_word (after r) (codes "mark") h.2.1 refl refl)
sent_all to slots c (to_alone there) f rest e r l h = sent_on to slots c (to_alone there) f rest e r l h.1 h.2 (moved_word (after r) (codes "to") h.2.1 refl refl)
sent_all to slots c (to_container o) f rest e r l h = sent_on to slots c (to_container o) f rest e r l h.1 h.2 (moved_word (after r) (codes "container") h.2.1 refl refl)
sent_all to slots c (to_window o) f rest e r l h = sent_on to slots c (to_window o) f rest e r l h.1 h.2 (moved_word (after r) (codes "window") h.2.1 refl refl)

output_count : (to : List Slot) → Optional (codes "to") to → (n rest e r : List ℕ) → Row (to ++ said (codes "output") ∷ one_word n ∷ []) rest e r → keywords (to ++ said (codes "output") ∷ one_word n ∷ []) ≡ suc (one_to_count r)
unfolding is_text
output_count to left_out n rest e r h = let c = one_count r false (says_it r (codes "output") (codes "to") false h.1 refl) in omega (arith, c)
output_count to there n rest e r h = let c = one_count r true (says_it r (codes "to") (codes "to") true h.1 refl) in omega (arith, c)

moved_back : (to : List Slot) (n : List ℕ) → Optional (codes "to") to → (rest e r : List ℕ) → MayFollow rest → Row (said (codes "move") ∷ said (codes "workspace") ∷ (to ++ said (codes "output") ∷ one_word n ∷ [])) rest e r → ArgumentBack (said (codes "move") ∷ said (codes "workspace") ∷ (to ++ said (codes "output") ∷ one_word n ∷ [])) (commands.MoveWorkspace (outs.Named n)) rest e r
unfolding finished made is_text
moved_back to n o rest e r l h =
    let t : List ℕ = after r in
    let a : says t (codes "workspace") ≡ true = says_it t (codes "workspace") (codes "workspace") true h.2.1 refl in
    let k = one_to_back to o (one_word n ∷ []) rest e (after t) h.2.2 in
    let b : says (past_one_to (after t)) (codes "output") ≡ true = says_it (past_one_to (after t)) (codes "output") (codes "output") true k.1 refl in
    let w : Way = (suc (suc (one_to_count (after t))), (openings.MoveWorkspace, after (past_one_to (after t)))) in
    record { verb = verbs.Move; found = verb_back (word r) (codes "move") verbs.Move h.1 refl; way = w; member = member_yes w (says t (codes "workspace")) _ _ a (member_yes w (says (past_one_to (after t)) (codes "output")) _ _ b (inl refl)); rank = ap (λ (n : ℕ). suc (suc n)) (output_count to o n rest e (after t) h.2.2); fits = word_fits (λ n. commands.MoveWorkspace (outs.Named n)) n rest e (after (past_one_to (after t))) l k.2 }

-- ---- swap

with_counted : (front : List Slot) → Optional (codes "container") front → (slots : List Slot) (rest e r : List ℕ) → Row (front ++ said (codes "with") ∷ slots) rest e r → keywords (front ++ said (codes "with") ∷ slots) ≡ keywords slots + with_count r
unfolding is_text
with_counted front left_out slots rest e r h = let c : with_count r ≡ 1 = ap (λ (b : Bool). if b then 2 else 1) (says_it r (codes "with") (codes "container") false h.1 refl) in omega (arith, c)
with_counted front there slots rest e r h = let c : with_count r ≡ 2 = ap (λ (b : Bool). if b then 2 else 1) (says_it r (codes "container") (codes "container") true h.1 refl) in omega (arith, c)

swap_member : (k : ℕ) (o : Option (List ℕ)) (c : List ℕ) → o ≡ Some c → says c (codes "mark") ≡ true → Member (suc k, (openings.SwapMark, after c)) (swap_with_ranked k o)
swap_member k o c e h = subst (λ (p : Option (List ℕ)). Member (suc k, (openings.SwapMark, after c)) (swap_with_ranked k p)) (sym e) (member_yes (suc k, (openings.SwapMark, after c)) (says c (codes "mark")) _ _ h (inl refl))

one_before : (m n k : ℕ) → m ≡ n + k → n ≡ 1 → m ≡ suc k
one_before m n k e h = omega arith

swap_back : (front : List Slot) (n : List ℕ) → Optional (codes "container") front → (rest e r : List ℕ) → MayFollow rest → Row (said (codes "swap") ∷ (front ++ said (codes "with") ∷ said (codes "mark") ∷ text n ∷ [])) rest e r → ArgumentBack (said (codes "swap") ∷ (front ++ said (codes "with") ∷ said (codes "mark") ∷ text n ∷ [])) (commands.Swap (swaps.Mark n)) rest e r
unfolding finished made is_text
swap_back front n o rest e r l h =
    let w = with_back front o (said (codes "mark") ∷ text n ∷ []) rest e (after r) h.2 in
    let a : says w.0 (codes "mark") ≡ true = says_it w.0 (codes "mark") (codes "mark") true w.2.1 refl in
    record { verb = verbs.Swap; found = verb_back (word r) (codes "swap") verbs.Swap h.1 refl; way = (suc (with_count (after r)), (openings.SwapMark, after w.0)); member = swap_member (with_count (after r)) (past_with (after r)) w.0 w.1 a; rank = ap (λ (n : ℕ). suc n) (one_before (keywords (front ++ said (codes "with") ∷ said (codes "mark") ∷ text n ∷ [])) 1 (with_count (after r)) (with_counted front o (said (codes "mark") ∷ text n ∷ []) rest e (after r) h.2) refl); fits = text_fits (λ n. commands.Swap (swaps.Mark n)) n rest e (after w.0) l w.2.2 }

-- ---- mark

-- with so many keywords behind mark
mark_way : (slots : List Slot) (c : Command) (rest e r : List ℕ) (w : Way) → in_small (word r) ≡ codes "mark" → Member w (mark_ranked (after r)) → keywords slots ≡ w.0 → finished w.1.0 (w.1.1 ++ e) ≡ Some (c, rest) → ArgumentBack (said (codes "mark") ∷ slots) c rest e r
unfolding is_text
mark_way slots c rest e r w m h k f = record { verb = verbs.Mark; found = verb_back (word r) (codes "mark") verbs.Mark m refl; way = w; member = h; rank = ap (λ (n : ℕ). suc n) k; fits = f }

mark_back : (how flag : List Slot) (add toggle : Bool) (n : List ℕ) → Adding how add → Toggling flag toggle → (rest e r : List ℕ) → MayFollow rest → Row (said (codes "mark") ∷ (how ++ (flag ++ text n ∷ []))) rest e r → ArgumentBack (said (codes "mark") ∷ (how ++ (flag ++ text n ∷ []))) (commands.Mark add toggle n) rest e r
unfolding finished made is_text
mark_back how flag add toggle n add_nothing toggle_nothing rest e r l h =
    let t : List ℕ = after r in
    let w : Way = (0, (openings.Mark false false, t)) in
    mark_way (text n ∷ []) (commands.Mark false false n) rest e r w h.1
    (member_if w (says t (codes "--add")) _ _ (member_if w (says (after t) (codes "--toggle")) _ _ (inr (inr (inl refl))) (inr (inl refl)))
    (member_if w (says t (codes "--replace")) _ _ (member_if w (says (after t) (codes "--toggle")) _ _ (inr (inr (inl refl))) (inr (inl refl)))
    (member_if w (says t (codes "--toggle")) _ _ (inr (inl refl)) (inl refl))))
    refl (text_fits (λ n. commands.Mark false false n) n rest e t l h.2)
mark_back how flag add toggle n add_nothing toggle_there rest e r l h =
    let t : List ℕ = after r in
    let w : Way = (1, (openings.Mark false true, after t)) in
    let a : says t (codes "--add") ≡ false = says_it t (codes "--toggle") (codes "--add") false h.2.1 refl in
    let b : says t (codes "--replace") ≡ false = says_it t (codes "--toggle") (codes "--replace") false h.2.1 refl in
    let d : says t (codes "--toggle") ≡ true = says_it t (codes "--toggle") (codes "--toggle") true h.2.1 refl in
    mark_way (said (codes "--toggle") ∷ text n ∷ []) (commands.Mark false true n) rest e r w h.1 (member_no w (says t (codes "--add")) _ _ a (member_no w (says t (codes "--replace")) _ _ b (member_yes w (says t (codes "--toggle")) _ _ d (inl refl)))) refl (text_fits (λ n. commands.Mark false true n) n rest e (after t) l h.2.2)
mark_back how flag add toggle n add_there toggle_nothing rest e r l h =
    let t : List ℕ = after r in
    let w : Way = (1, (openings.Mark true false, after t)) in
    let a : says t (codes "--add") ≡ true = says_it t (codes "--add") (codes "--add") true h.2.1 refl in
    mark_way (said (codes "--add") ∷ text n ∷ []) (commands.Mark true false n) rest e r w h.1 (member_yes w (says t (codes "--add")) _ _ a (member_if w (says (after t) (codes "--toggle")) _ _ (inr (inl refl)) (inl refl))) refl (text_fits (λ n. commands.Mark true false n) n rest e (after t) l h.2.2)
mark_back how flag add toggle n add_there toggle_there rest e r l h =
    let t : List ℕ = after r in
    let w : Way = (2, (openings.Mark true true, after (after t))) in
    let a : says t (codes "--add") ≡ true = says_it t (codes "--add") (codes "--add") true h.2.1 refl in
    let b : says (after t) (codes "--toggle") ≡ true = says_it (after t) (codes "--toggle") (codes "--toggle") true h.2.2.1 refl in
    mark_way (said (codes "--add") ∷ said (codes "--toggle") ∷ text n ∷ []) (commands.Mark true true n) rest e r w h.1 (member_yes w (says t (codes "--add")) _ _ a (member_yes w (says (after t) (codes "--toggle")) _ _ b (inl refl))) refl (text_fits (λ n. commands.Mark true true n) n rest e (after (after t)) l h.2.2.2)
mark_back how flag add toggle n replace_there toggle_nothing rest e r l h =
    let t : List ℕ = after r in
    let w : Way = (1, (openings.Mark false false, after t)) in
    let a : says t (codes "--add") ≡ false = says_it t (codes "--replace") (codes "--add") false h.2.1 refl in
    let b : says t (codes "--replace") ≡ true = says_it t (codes "--replace") (codes "--replace") true h.2.1 refl in
    mark_way (said (codes "--replace") ∷ text n ∷ []) (commands.Mark false false n) rest e r w h.1 (member_no w (says t (codes "--add")) _ _ a (member_yes w (says t (codes "--replace")) _ _ b (member_if w (says (after t) (codes "--toggle")) _ _ (inr (inl refl)) (inl refl)))) refl (text_fits (λ n. commands.Mark false false n) n rest e (after t) l h.2.2)
mark_back how flag add toggle n replace_there toggle_there rest e r l h =
    let t : List ℕ = after r in
    let w : Way = (2, (openings.Mark false true, after (after t))) in
    let a : says t (codes "--add") ≡ false = says_it t (codes "--replace") (codes "--add") false h.2.1 refl in
    let b : says t (codes "--replace") ≡ true = says_it t (codes "--replace") (codes "--replace") true h.2.1 refl in
    let d : says (after t) (codes "--toggle") ≡ true = says_it (after t) (codes "--toggle") (codes "--toggle") true h.2.2.1 refl in
    mark_way (said (codes "--replace") ∷ said (codes "--toggle") ∷ text n ∷ []) (commands.Mark false true n) rest e r w h.1 (member_no w (says t (codes "--add")) _ _ a (member_yes w (says t (codes "--replace")) _ _ b (member_yes w (says (after t) (codes "--toggle")) _ _ d (inl refl)))) refl (text_fits (λ n. commands.Mark false true n) n rest e (after (after t)) l h.2.2.2)

-- ---- all forms

idle_exact : (n : List ℕ) → IdleWord n → verb_exact n ≡ Some verbs.Idle
unfolding is_text
idle_exact n idle_exec = refl
idle_exact n idle_open = refl
idle_exact n idle_reload = refl
idle_exact n idle_restart = refl

pub argument_back : (slots : List Slot) (c : Command) → ArgumentForm slots c → (rest e r : List ℕ) → MayFollow rest → Row slots rest e r → ArgumentBack slots c rest e r
unfolding finished made is_text
argument_back slots c (focus_named n) rest e r l h =
    let t : List ℕ = after r in
    let w : Way = (1, (openings.FocusOutput, after t)) in
    let a : says t (codes "output") ≡ true = says_it t (codes "output") (codes "output") true h.2.1 refl in
    record { verb = verbs.Focus; found = verb_back (word r) (codes "focus") verbs.Focus h.1 refl; way = w; member = member_yes w (says t (codes "output")) _ _ a (inl refl); rank = refl; fits = word_fits (λ n. commands.FocusOutput (outs.Named n)) n rest e (after t) l h.2.2 }
argument_back slots c (move_sent {to = to} {slots = more} t f) rest e r l h = sent_all to more c t f rest e r l h
argument_back slots c (workspace_moved {to = to} n o) rest e r l h = moved_back to n o rest e r l h
argument_back slots c (swap_mark {c = front} n o) rest e r l h = swap_back front n o rest e r l h
argument_back slots c (mark_named {how = how} {flag = flag} {add = add} {toggle = toggle} n a t) rest e r l h = mark_back how flag add toggle n a t rest e r l h
argument_back slots c (unmark_named n) rest e r l h = record { verb = verbs.Unmark; found = verb_back (word r) (codes "unmark") verbs.Unmark h.1 refl; way = (0, (openings.Unmark, after r)); member = inl refl; rank = refl; fits = text_fits (λ n. commands.Unmark (Some n)) n rest e (after r) l h.2 }
argument_back slots c (workspace_named n) rest e r l h =
    let w : Way = (0, (openings.Workspace, after r)) in
    record { verb = verbs.Workspace; found = verb_back (word r) (codes "workspace") verbs.Workspace h.1 refl; way = w; member = member_if w (says (after r) (codes "number")) _ _ (inr (inl refl)) (inl refl); rank = refl; fits = text_fits (λ n. commands.Workspace (targets.Named n)) n rest e (after r) l h.2 }
argument_back slots c (workspace_numbered n) rest e r l h =
    let w : Way = (1, (openings.WorkspaceNumbered, after (after r))) in
    let a : says (after r) (codes "number") ≡ true = says_it (after r) (codes "number") (codes "number") true h.2.1 refl in
    record { verb = verbs.Workspace; found = verb_back (word r) (codes "workspace") verbs.Workspace h.1 refl; way = w; member = member_yes w (says (after r) (codes "number")) _ _ a (inl refl); rank = refl; fits = text_fits (λ n. commands.Workspace (targets.Number n)) n rest e (after (after r)) l h.2.2 }
argument_back slots c (rename_focused n) rest e r l h =
    let t : List ℕ = after r in
    let w : Way = (2, (openings.RenameFocused, after (after t))) in
    let a : says t (codes "workspace") ≡ true = says_it t (codes "workspace") (codes "workspace") true h.2.1 refl in
    let b : says (after t) (codes "to") ≡ true = says_it (after t) (codes "to") (codes "to") true h.2.2.1 refl in
    record { verb = verbs.Rename; found = verb_back (word r) (codes "rename") verbs.Rename h.1 refl; way = w; member = member_yes w (says t (codes "workspace")) _ _ a (member_yes w (says (after t) (codes "to")) _ _ b (inl refl)); rank = refl; fits = text_fits (λ n. commands.Rename None n) n rest e (after (after t)) l h.2.2.2 }
argument_back slots c (rename_named was n) rest e r l h =
    let t : List ℕ = after r in
    let w : Way = (1, (openings.RenameNamed, after t)) in
    let a : says t (codes "workspace") ≡ true = says_it t (codes "workspace") (codes "workspace") true h.2.1 refl in
    record { verb = verbs.Rename; found = verb_back (word r) (codes "rename") verbs.Rename h.1 refl; way = w; member = member_yes w (says t (codes "workspace")) _ _ a (member_if w (says (after t) (codes "to")) _ _ (inr (inl refl)) (inl refl)); rank = refl; fits = renamed_back was n rest e (after t) l h.2.2 }
argument_back slots c (mode_named n) rest e r l h = record { verb = verbs.Mode; found = verb_back (word r) (codes "mode") verbs.Mode h.1 refl; way = (0, (openings.Mode, after r)); member = inl refl; rank = refl; fits = text_fits commands.Mode n rest e (after r) l h.2 }
argument_back slots c (layout_appended n) rest e r l h = record { verb = verbs.AppendLayout; found = verb_back (word r) (codes "append_layout") verbs.AppendLayout h.1 refl; way = (0, (openings.AppendLayout, after r)); member = inl refl; rank = refl; fits = text_fits commands.AppendLayout n rest e (after r) l h.2 }
argument_back slots c (title_set n) rest e r l h = record { verb = verbs.TitleFormat; found = verb_back (word r) (codes "title_format") verbs.TitleFormat h.1 refl; way = (0, (openings.TitleFormat, after r)); member = inl refl; rank = refl; fits = text_fits commands.TitleFormat n rest e (after r) l h.2 }
argument_back slots c (nop_text n) rest e r l h = record { verb = verbs.Nop; found = verb_back (word r) (codes "nop") verbs.Nop h.1 refl; way = (0, (openings.Nop, after r)); member = inl refl; rank = refl; fits = text_fits (λ n. commands.Nop) n rest e (after r) l h.2 }
argument_back slots c (idle_text {w = w} s) rest e r l h = record { verb = verbs.Idle; found = verb_back (word r) w verbs.Idle h.1 (idle_exact w s); way = (0, (openings.Idle, after r)); member = inl refl; rank = refl; fits = anything_fits commands.Idle rest e (after r) l h.2 }

-- ---- their keywords are names

sent_proper : (slots : List Slot) (c : Command) → MoveToArgument slots c → proper slots ≡ true
sent_proper slots c (send_workspace n) = refl
sent_proper slots c (send_numbered n) = refl
sent_proper slots c (send_output n) = refl
sent_proper slots c (send_mark n) = refl

mark_proper : (how flag : List Slot) (add toggle : Bool) (n : List ℕ) → Adding how add → Toggling flag toggle → proper (said (codes "mark") ∷ (how ++ (flag ++ text n ∷ []))) ≡ true
mark_proper how flag add toggle n add_nothing toggle_nothing = refl
mark_proper how flag add toggle n add_nothing toggle_there = refl
mark_proper how flag add toggle n add_there toggle_nothing = refl
mark_proper how flag add toggle n add_there toggle_there = refl
mark_proper how flag add toggle n replace_there toggle_nothing = refl
mark_proper how flag add toggle n replace_there toggle_there = refl

pub argument_proper : (slots : List Slot) (c : Command) → ArgumentForm slots c → proper slots ≡ true
argument_proper slots c (focus_named n) = refl
argument_proper slots c (move_sent {to = to} {slots = more} t f) = to_proper to t more ∙ sent_proper more c f
argument_proper slots c (workspace_moved {to = to} n o) = one_to_proper to o (said (codes "output") ∷ one_word n ∷ [])
argument_proper slots c (swap_mark {c = front} n o) = container_proper front o (said (codes "with") ∷ said (codes "mark") ∷ text n ∷ [])
argument_proper slots c (mark_named {how = how} {flag = flag} {add = add} {toggle = toggle} n a t) = mark_proper how flag add toggle n a t
argument_proper slots c (unmark_named n) = refl
argument_proper slots c (workspace_named n) = refl
argument_proper slots c (workspace_numbered n) = refl
argument_proper slots c (rename_focused n) = refl
argument_proper slots c (rename_named was n) = refl
argument_proper slots c (mode_named n) = refl
argument_proper slots c (layout_appended n) = refl
argument_proper slots c (title_set n) = refl
argument_proper slots c (nop_text n) = refl
argument_proper slots c (idle_text {w = w} s) = idle_proper w (anything ∷ []) s
