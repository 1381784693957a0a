-- A command that has a free argument is found at the front of a text, slot by slot.
use Rattle.std.proofs.Common.{◌≡◌, ℕ, ◌≤◌, ◌⊎◌, Bool, true, false, List, [], ◌∷◌, ◌++◌, length, Option, Some, None, refl, sym, ap, subst, ◌∙◌, append_assoc, arith, codes, inl, inr}
use Rattle.std.specs.Prelude.{if◌then◌else◌, ◌==◌, ◌||◌, option_map}
use Rattle.std.proofs.lemmas.Bool.{or_parts, true≢false}
use Rattle.std.proofs.lemmas.List.{length-append, append-nil}
use Rattle.wm_language.specs.declared.command.Command.{Command}
use Rattle.wm_words.specs.Pieces.{◌>>=◌, is_nil, is_blank, is_end, is_gap, breaks_word, until, from, has, skip, word, after, is_word, argument, unquote}
use Rattle.wm_grammar.specs.Openings.{text_at, word_at, past_keyword_to, before_rest}
use Rattle.wm_language.specs.Words.{IsArgument, IsBareWord, IsWord, IsText}
use Rattle.wm_words.proofs.Cuts.{AllSome, if_some}
use Rattle.wm_words.proofs.NumbersAgain.{stops_at}
use Rattle.wm_grammar.proofs.CutCommands.{bind_some, map_some, each_some}
use Rattle.wm_language.specs.Bytes.{IsBlank, IsSeparator, IsQuote, Each, First, Last, MayFollow}
use Rattle.wm_language.specs.Slots.{Slot, said, word as one_word, text, anything, Fills, Gap, Filled}
use Rattle.wm_language.specs.Spoken.{Forms}
use Rattle.wm_grammar.proofs.ByteLemmas.{skipped, until_from, from_stops, until_clean, word_told, end_told, no_end_told}
use Rattle.wm_grammar.proofs.TextLemmas.{Closed, unquote_told, argument_told, TextTold, text_told, one_word_told, word_bytes, nil_long, Unblanked, no_blank, skip_unblanked, unblanked_append, quote_first}
use Rattle.wm_grammar.proofs.FilledLemmas.{word_whole}

-- a command at the front of the text, and what follows it
pub record Stands (F : Forms) (t : List ℕ) (x : Command × List ℕ) : Type 0 where
  pub slots : List Slot
  pub spelled : List ℕ
  pub whole : t ≡ spelled ++ x.1
  pub ends : MayFollow x.1
  pub form : F slots x.0
  pub filled : Filled slots spelled

-- the same of a text that goes on before the first end of a command
pub record Found (F : Forms) (r e : List ℕ) (x : Command × List ℕ) : Type 0 where
  pub some : is_nil r ≡ false
  pub stands : Stands F (r ++ e) x

gap_end : (piece blanks : List ℕ) → Gap piece blanks []
gap_end piece [] = tt
gap_end piece (b ∷ blanks) = tt

pub filled_last : (s : Slot) (piece blanks : List ℕ) → Fills s piece → Each IsBlank blanks → Filled (s ∷ []) (piece ++ blanks)
filled_last s piece blanks h b = record { piece = piece; blanks = blanks; others = []; whole = ap (λ (u : List ℕ). piece ++ u) (sym (append-nil blanks)); fills = h; blank = b; gap = gap_end piece blanks; more = refl }

pub stands_last : (F : Forms) (s : Slot) (t piece blanks : List ℕ) (x : Command × List ℕ) → t ≡ piece ++ (blanks ++ x.1) → Fills s piece → Each IsBlank blanks → MayFollow x.1 → F (s ∷ []) x.0 → Stands F t x
stands_last F s t piece blanks x e h b l f = record { slots = s ∷ []; spelled = piece ++ blanks; whole = e ∙ sym (append_assoc piece blanks x.1); ends = l; form = f; filled = filled_last s piece blanks h b }

-- ---- a slot before it

after_gap : (r b : List ℕ) (p : List ℕ) → from is_blank r ≡ b ++ after r → is_nil (after r) ≡ false → Gap (word r) b p
after_gap r (c ∷ b) p e h = tt
after_gap r [] p e h = absurd (by (after r) (skip_unblanked (from is_blank r)) h (sym (ap (stops_at is_blank) e) ∙ from_stops is_blank r))
  where
    by : (q : List ℕ) → Unblanked q → is_nil q ≡ false → stops_at is_blank q ≡ true → ⊥
    by [] u h k = true≢false h
    by (c ∷ q) (no_blank f) h k = true≢false (sym k ∙ f)

some_whole : (r b q : List ℕ) → r ≡ word r ++ (b ++ q) → is_nil q ≡ false → is_nil r ≡ false
some_whole (c ∷ r) b q e h = refl
some_whole [] b [] e h = absurd (true≢false h)
some_whole [] b (c ∷ q) e h = absurd (omega (arith, ap length e, length-append (word []) (b ++ c ∷ q), length-append b (c ∷ q)))

joined : (w b q e p x : List ℕ) → q ++ e ≡ p ++ x → (w ++ (b ++ q)) ++ e ≡ (w ++ (b ++ p)) ++ x
joined w b q e p x h =
    append_assoc w (b ++ q) e
    ∙ (ap (λ (u : List ℕ). w ++ u) (append_assoc b q e ∙ (ap (λ (u : List ℕ). b ++ u) h ∙ sym (append_assoc b p x)))
    ∙ sym (append_assoc w (b ++ p) x))

pub found_fill : (F : Forms) (s : Slot) (r e : List ℕ) (x : Command × List ℕ) → Fills s (word r) → Found (λ slots c. F (s ∷ slots) c) (after r) e x → Found F r e x
found_fill F s r e x h k =
    let b = skipped (from is_blank r) in
    let w : r ≡ word r ++ (b.blanks ++ after r) = word_whole r b.blanks (after r) b.whole in
    let p : List ℕ = word r ++ (b.blanks ++ k.stands.spelled) in
    let filled : Filled (s ∷ k.stands.slots) p = record { piece = word r; blanks = b.blanks; others = k.stands.spelled; whole = refl; fills = h; blank = b.blank; gap = after_gap r b.blanks k.stands.spelled b.whole k.some; more = k.stands.filled } in
    record {
      some = some_whole r b.blanks (after r) w k.some;
      stands = record {
        slots = s ∷ k.stands.slots;
        spelled = p;
        whole = ap (λ (u : List ℕ). u ++ e) w ∙ joined (word r) b.blanks (after r) e k.stands.spelled x.1 k.stands.whole;
        ends = k.stands.ends;
        form = k.stands.form;
        filled = filled;
      };
    }

pub found_more : (F G : Forms) (r e : List ℕ) (x : Command × List ℕ) → ((slots : List Slot) (c : Command) → F slots c → G slots c) → Found F r e x → Found G r e x
found_more F G r e x f k = record { some = k.some; stands = record { slots = k.stands.slots; spelled = k.stands.spelled; whole = k.stands.whole; ends = k.stands.ends; form = f k.stands.slots x.0 k.stands.form; filled = k.stands.filled } }

pub found_told : (F : Forms) (s : Slot) (r e : List ℕ) (o : Option (Command × List ℕ)) → Fills s (word r) → AllSome (Found (λ slots c. F (s ∷ slots) c) (after r) e) o → AllSome (Found F r e) o
found_told F s r e o h k = each_some (Found (λ slots c. F (s ∷ slots) c) (after r) e) (Found F r e) o k (λ x f. found_fill F s r e x h f)

-- ---- the argument itself

-- what stands where a command ends is no argument
pub text_first : (x p : List ℕ) → IsText x p → First (λ c. IsSeparator c → ⊥) p
text_first x p (inl q) = subst (λ (t : List ℕ). First (λ c. IsSeparator c → ⊥) t) (sym q.whole) (no_end_told 34 refl)
text_first x p (inr h) = subst (λ (t : List ℕ). First (λ c. IsSeparator c → ⊥) t) (sym h.0) (by x h.1.first h.1.each)
  where
    by : (x : List ℕ) → First (λ c. (IsBlank c → ⊥) × (IsQuote c → ⊥)) x → Each (λ c. IsSeparator c → ⊥) x → First (λ c. IsSeparator c → ⊥) x
    by [] f e = elim f [ ]
    by (c ∷ x) f e = e.0

pub word_first : (x p : List ℕ) → IsWord x p → First (λ c. IsSeparator c → ⊥) p
word_first x p (inl q) = subst (λ (t : List ℕ). First (λ c. IsSeparator c → ⊥) t) (sym q.whole) (no_end_told 34 refl)
word_first x p (inr h) = subst (λ (t : List ℕ). First (λ c. IsSeparator c → ⊥) t) (sym h.0) (by x h.1.some h.1.each)
  where
    by : (x : List ℕ) → 1 ≤ length x → Each (λ c. (IsBlank c → ⊥) × (IsSeparator c → ⊥) × (IsQuote c → ⊥)) x → First (λ c. IsSeparator c → ⊥) x
    by [] f e = absurd (omega arith)
    by (c ∷ x) f e = e.0.1

pub never_ends : (p t e : List ℕ) → First (λ c. IsSeparator c → ⊥) p → e ≡ p ++ t → MayFollow e → ⊥
never_ends [] t e f h k = elim f [ ]
never_ends (c ∷ p) t [] f h k = absurd cc
never_ends (c ∷ p) t (d ∷ e) f h k = let same : d ≡ c = cc in f (subst IsSeparator same k)

pub some_text : (r e p t : List ℕ) → First (λ c. IsSeparator c → ⊥) p → r ++ e ≡ p ++ t → MayFollow e → is_nil r ≡ false
some_text [] e p t f h k = absurd (never_ends p t e f h k)
some_text (c ∷ r) e p t f h k = refl

-- the command of its argument
argument_way : (F : Forms) (s : List ℕ → Slot) (f : List ℕ → Command) (Is : List ℕ → List ℕ → Type 0) → ((x p : List ℕ) → Is x p → First (λ c. IsSeparator c → ⊥) p) → ((x p : List ℕ) → IsArgument x → Is x p → Fills (s x) p) → ((x : List ℕ) → F (s x ∷ []) (f x)) → (r e : List ℕ) → MayFollow e → (o : Option (List ℕ × List ℕ)) → AllSome (TextTold Is (r ++ e)) o → AllSome (Found F r e) (o >>= λ x. option_map (before_rest x.1) (argument x.0 >>= λ n. Some (f n)))
argument_way F s f Is first fills form r e l o h = bind_some (TextTold Is (r ++ e)) (Found F r e) o (λ x. option_map (before_rest x.1) (argument x.0 >>= λ n. Some (f n))) h (λ x k.
    map_some (λ c. Found F r e (c, x.1)) (Found F r e) (argument x.0 >>= λ n. Some (f n)) (before_rest x.1)
    (bind_some (λ n. (n ≡ x.0) × IsArgument n) (λ c. Found F r e (c, x.1)) (argument x.0) (λ n. Some (f n)) (argument_told x.0) (λ n a.
    let is : Is n k.piece = subst (λ (m : List ℕ). Is m k.piece) (sym a.0) k.is in
    record { some = some_text r e k.piece (k.blanks ++ x.1) (first n k.piece is) k.whole l; stands = stands_last F (s n) (r ++ e) k.piece k.blanks (f n, x.1) k.whole (fills n k.piece a.1 is) k.blank k.ends (form n) }))
    (λ c m. m))

pub text_way : (F : Forms) (f : List ℕ → Command) → ((x : List ℕ) → F (text x ∷ []) (f x)) → (r e : List ℕ) → Unblanked r → MayFollow e → AllSome (Found F r e) (text_at false (r ++ e) >>= λ x. option_map (before_rest x.1) (argument x.0 >>= λ n. Some (f n)))
text_way F f form r e u l = argument_way F text f IsText text_first (λ x p a i. (a, i)) form r e l (text_at false (r ++ e)) (text_told (r ++ e) (unblanked_append r e u l))

pub word_way : (F : Forms) (f : List ℕ → Command) → ((x : List ℕ) → F (one_word x ∷ []) (f x)) → (r e : List ℕ) → MayFollow e → AllSome (Found F r e) (text_at true (r ++ e) >>= λ x. option_map (before_rest x.1) (argument x.0 >>= λ n. Some (f n)))
word_way F f form r e l = argument_way F one_word f IsWord word_first (λ x p a i. (a, i)) form r e l (text_at true (r ++ e)) (one_word_told (r ++ e))

-- a text that counts for nothing
pub anything_way : (F : Forms) (c : Command) → F (anything ∷ []) c → (r e : List ℕ) → Unblanked r → MayFollow e → AllSome (Found F r e) (text_at false (r ++ e) >>= λ x. option_map (before_rest x.1) (Some c))
anything_way F c form r e u l = bind_some (TextTold IsText (r ++ e)) (Found F r e) (text_at false (r ++ e)) (λ x. option_map (before_rest x.1) (Some c)) (text_told (r ++ e) (unblanked_append r e u l)) (λ x k.
    record { some = some_text r e k.piece (k.blanks ++ x.1) (text_first x.0 k.piece k.is) k.whole l; stands = stands_last F anything (r ++ e) k.piece k.blanks (c, x.1) k.whole (x.0, k.is) k.blank k.ends form })

-- ---- the old name of a workspace, to, and the new one

-- a word, quoted or not, at the front of the text
pub record WordTold (s : List ℕ) (x : List ℕ × List ℕ) : Type 0 where
  pub piece : List ℕ
  pub whole : s ≡ piece ++ x.1
  pub is : IsWord x.0 piece
  pub closed : Last IsQuote piece ⊎ (stops_at is_gap x.1 ≡ true)

last_quote : (body : List ℕ) → Last IsQuote (34 ∷ (body ++ 34 ∷ []))
last_quote [] = refl
last_quote (c ∷ body) = by c body
  where
    by : (c : ℕ) (body : List ℕ) → Last IsQuote (c ∷ (body ++ 34 ∷ []))
    by c [] = refl
    by c (d ∷ body) = by d body

gap_no_end : (c : ℕ) → is_gap c ≡ false → is_end c ≡ false
gap_no_end c h = (or_parts (is_blank c) (is_end c) h).1

has_gap_end : (t : List ℕ) → has is_gap t ≡ false → has is_end t ≡ false
unfolding has
has_gap_end [] h = refl
has_gap_end (c ∷ t) h = let both = or_parts (is_gap c) (has is_gap t) h in let no : is_end c ≡ false = gap_no_end c both.0 in rw no (has_gap_end t both.1)

quoted_word : (t : List ℕ) (x : List ℕ × List ℕ) → Closed t x → WordTold (34 ∷ t) x
quoted_word t x k = record { piece = 34 ∷ (k.body ++ 34 ∷ []); whole = ap (λ (s : List ℕ). 34 ∷ s) (k.whole ∙ sym (append_assoc k.body (34 ∷ []) x.1)); is = inl (record { body = k.body; whole = refl; inside = k.inside }); closed = inl (last_quote k.body) }

bare_word : (s : List ℕ) → AllSome (WordTold s) (if is_nil (until is_gap s) || has breaks_word (until is_gap s) then None else Some (until is_gap s, from is_gap s))
bare_word s = if_some (WordTold s) (is_nil (until is_gap s) || has breaks_word (until is_gap s)) None (Some (until is_gap s, from is_gap s)) (λ e. tt) (λ e.
    let both = or_parts (is_nil (until is_gap s)) (has breaks_word (until is_gap s)) e in
    let is : IsBareWord (until is_gap s) = record { some = nil_long (until is_gap s) both.0; each = word_bytes (until is_gap s) (has_gap_end (until is_gap s) (until_clean is_gap s)) both.1 } in
    record { piece = until is_gap s; whole = sym (until_from is_gap s); is = inr (refl, is); closed = inr (from_stops is_gap s) })

pub word_at_told : (s : List ℕ) → AllSome (WordTold s) (word_at s)
unfolding word_at
word_at_told [] = bare_word []
word_at_told (c ∷ t) = if_some (WordTold (c ∷ t)) (c == 34) (unquote t) (if is_nil (until is_gap (c ∷ t)) || has breaks_word (until is_gap (c ∷ t)) then None else Some (until is_gap (c ∷ t), from is_gap (c ∷ t)))
    (λ e. subst (λ (s : List ℕ). AllSome (WordTold s) (unquote t)) (sym (quote_first c t e)) (each_some (Closed t) (WordTold (34 ∷ t)) (unquote t) (unquote_told t) (quoted_word t)))
    (λ e. bare_word (c ∷ t))

-- the word to stands first, and that follows it and the blanks behind it
pub record ToTold (u b : List ℕ) : Type 0 where
  pub blanks : List ℕ
  pub whole : u ≡ until is_gap u ++ (blanks ++ b)
  pub said : Fills (said (codes "to")) (until is_gap u)
  pub blank : Each IsBlank blanks
  pub stops : stops_at is_gap (blanks ++ b) ≡ true
  pub kept : Unblanked b

pub past_to_told : (u : List ℕ) → AllSome (ToTold u) (past_keyword_to u)
unfolding past_keyword_to
past_to_told u = if_some (ToTold u) (is_word (until is_gap u) (codes "to")) (Some (skip (from is_gap u))) None (λ e.
    let b = skipped (from is_gap u) in
    record {
      blanks = b.blanks;
      whole = sym (until_from is_gap u) ∙ ap (λ (t : List ℕ). until is_gap u ++ t) b.whole;
      said = word_told (until is_gap u) (codes "to") e;
      blank = b.blank;
      stops = ap (stops_at is_gap) (sym b.whole) ∙ from_stops is_gap u;
      kept = skip_unblanked (from is_gap u);
    }) (λ e. tt)

gap_blank : (c : ℕ) → is_gap c ≡ true → is_blank c ≡ false → IsSeparator c
gap_blank c h k = by (is_blank c) refl h
  where
    by : (b : Bool) → is_blank c ≡ b → (b || is_end c) ≡ true → IsSeparator c
    by true e h = absurd (true≢false (sym e ∙ k))
    by false e h = end_told c h

-- between the old name and to
gap_quoted : (p b s : List ℕ) → Last IsQuote p → Gap p b s
gap_quoted p [] [] q = tt
gap_quoted p [] (c ∷ s) q = q
gap_quoted p (c ∷ b) s q = tt

pub name_gap : (p b u w : List ℕ) → w ≡ b ++ u → Last IsQuote p ⊎ (stops_at is_gap w ≡ true) → Unblanked u → First (λ c. IsSeparator c → ⊥) u → (s : List ℕ) → Gap p b s
name_gap p (c ∷ b) u w e l k f s = tt
name_gap p [] u w e (inl q) k f s = gap_quoted p [] s q
name_gap p [] [] w e (inr h) k f s = elim f [ ]
name_gap p [] (c ∷ u) w e (inr h) (no_blank k) f s = absurd (f (gap_blank c (sym (ap (stops_at is_gap) e) ∙ h) k))

-- between to and the new name
pub to_gap : (p b q x t : List ℕ) → stops_at is_gap (b ++ t) ≡ true → Unblanked t → First (λ c. IsSeparator c → ⊥) q → t ≡ q ++ x → (s : List ℕ) → Gap p b s
to_gap p (c ∷ b) q x t h u f e s = tt
to_gap p [] q x [] h u f e s = absurd (never_ends q x [] f e tt)
to_gap p [] q x (c ∷ t) h (no_blank u) f e s = absurd (never_ends q x (c ∷ t) f e (gap_blank c h u))
