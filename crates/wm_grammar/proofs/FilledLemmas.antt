-- A form is built up slot by slot, from what the reading takes of the text.
use Rattle.std.proofs.Common.{◌≡◌, ℕ, Bool, true, false, List, [], ◌∷◌, ◌++◌, Option, Some, None, refl, sym, ap, subst, ◌∙◌}
use Rattle.std.specs.Prelude.{if◌then◌else◌}
use Rattle.std.proofs.lemmas.Bool.{false≢true, true≢false}
use Rattle.wm_language.specs.declared.command.Command.{Command}
use Rattle.wm_words.specs.Pieces.{◌>>=◌, first_of, is_nil, is_blank, from, word, after, is_word, says, choice, single, only, natural, only_number}
use Rattle.wm_words.specs.Forms.{whole}
use Rattle.wm_words.proofs.Cuts.{AllSome, if_some}
use Rattle.wm_words.proofs.NumbersAgain.{stops_at}
use Rattle.wm_grammar.proofs.CutCommands.{bind_some, each_some}
use Rattle.wm_language.specs.Words.{in_small, IsNatural}
use Rattle.wm_language.specs.Slots.{Slot, said, Fills, Gap, Filled, Optional, left_out, there}
use Rattle.wm_language.specs.Spoken.{Forms}
use Rattle.wm_grammar.proofs.ByteLemmas.{skipped, until_from, from_stops, word_told}
use Rattle.wm_grammar.proofs.NumberLemmas.{natural_told}
use Rattle.wm_grammar.proofs.TextLemmas.{Unblanked, no_blank, skip_unblanked}

-- ---- one slot more

pub gap_of : (p b q w : List ℕ) → w ≡ b ++ q → stops_at is_blank w ≡ true → Unblanked q → Gap p b q
gap_of p [] [] w e h u = tt
gap_of p [] (c ∷ q) w e h (no_blank f) = absurd (true≢false (sym h ∙ (ap (stops_at is_blank) e ∙ f)))
gap_of p (d ∷ b) q w e h u = tt

pub word_whole : (r b q : List ℕ) → from is_blank r ≡ b ++ q → r ≡ word r ++ (b ++ q)
word_whole r b q e = sym (until_from is_blank r) ∙ ap (λ (t : List ℕ). word r ++ t) e

pub begun : (s : Slot) (slots : List Slot) (r : List ℕ) → Fills s (word r) → Filled slots (after r) → Filled (s ∷ slots) r
begun s slots r h f =
    let k = skipped (from is_blank r) in
    record {
      piece = word r;
      blanks = k.blanks;
      others = after r;
      whole = word_whole r k.blanks (after r) k.whole;
      fills = h;
      blank = k.blank;
      gap = gap_of (word r) k.blanks (after r) (from is_blank r) k.whole (from_stops is_blank r) (skip_unblanked (from is_blank r));
      more = f;
    }

pub nothing_left : (r : List ℕ) → is_nil r ≡ true → r ≡ []
nothing_left [] h = refl
nothing_left (c ∷ r) h = absurd (false≢true h)

-- ---- forms of keywords and numbers

-- the text is of such a form
pub record Plainly (F : Forms) (r : List ℕ) (c : Command) : Type 0 where
  pub slots : List Slot
  pub form : F slots c
  pub filled : Filled slots r

pub plain_end : (F : Forms) (r : List ℕ) (c : Command) → F [] c → is_nil r ≡ true → Plainly F r c
plain_end F r c f h = record { slots = []; form = f; filled = nothing_left r h }

pub plain_fill : (F : Forms) (s : Slot) (r : List ℕ) (c : Command) → Fills s (word r) → Plainly (λ slots d. F (s ∷ slots) d) (after r) c → Plainly F r c
plain_fill F s r c h k = record { slots = s ∷ k.slots; form = k.form; filled = begun s k.slots r h k.filled }

pub plain_said : (F : Forms) (n r : List ℕ) (c : Command) → says r n ≡ true → Plainly (λ slots d. F (said n ∷ slots) d) (after r) c → Plainly F r c
plain_said F n r c h k = plain_fill F (said n) r c (word_told (word r) n h) k

pub whole_told : (F : Forms) (r : List ℕ) (c : Command) → F [] c → AllSome (Plainly F r) (whole r c)
whole_told F r c f = if_some (Plainly F r) (is_nil r) (Some c) None (λ e. plain_end F r c f e) (λ e. tt)

-- behind a keyword
pub said_told : (F : Forms) (n r : List ℕ) (o : Option Command) → says r n ≡ true → AllSome (Plainly (λ slots d. F (said n ∷ slots) d) (after r)) o → AllSome (Plainly F r) o
said_told F n r o e h = each_some (Plainly (λ slots d. F (said n ∷ slots) d) (after r)) (Plainly F r) o h (λ c k. plain_said F n r c e k)

pub fill_told : (F : Forms) (s : Slot) (r : List ℕ) (o : Option Command) → Fills s (word r) → AllSome (Plainly (λ slots d. F (s ∷ slots) d) (after r)) o → AllSome (Plainly F r) o
fill_told F s r o e h = each_some (Plainly (λ slots d. F (s ∷ slots) d) (after r)) (Plainly F r) o h (λ c k. plain_fill F s r c e k)

pub plain_more : (F G : Forms) (r : List ℕ) → ((slots : List Slot) (c : Command) → F slots c → G slots c) → (o : Option Command) → AllSome (Plainly F r) o → AllSome (Plainly G r) o
plain_more F G r f o h = each_some (Plainly F r) (Plainly G r) o h (λ c k. record { slots = k.slots; form = f k.slots c k.form; filled = k.filled })

-- ---- tables of words

abbrev pub Rows : {A : Type 0} → (List ℕ → A → Type 0) → List (List ℕ × A) → Type 0
Rows Q [] = Unit {0}
Rows Q (row ∷ rows) = Q row.0 row.1 × Rows Q rows

pub choice_told : {A : Type 0} (Q : List ℕ → A → Type 0) (table : List (List ℕ × A)) → Rows Q table → (w : List ℕ) → AllSome (λ a. Q (in_small w) a) (choice table w)
choice_told Q [] h w = tt
choice_told Q (row ∷ rows) h w = if_some (λ a. Q (in_small w) a) (is_word w row.0) (Some row.1) (choice rows w) (λ e. subst (λ (n : List ℕ). Q n row.1) (sym (word_told w row.0 e)) h.0) (λ e. choice_told Q rows h.1 w)

pub first_told : {A : Type 0} (P : A → Type 0) (a b : Option A) → AllSome P a → AllSome P b → AllSome P (first_of a b)
first_told P None b h k = k
first_told P (Some x) b h k = h

pub single_told : (r : List ℕ) → AllSome (λ w. (w ≡ word r) × (after r ≡ [])) (single r)
unfolding single
single_told r = if_some (λ w. (w ≡ word r) × (after r ≡ [])) (is_nil (after r)) (Some (word r)) None (λ e. (refl, nothing_left (after r) e)) (λ e. tt)

-- what a text of one word tells
pub alone_told : {A : Type 0} (P : A → Type 0) (f : List ℕ → Option A) (r : List ℕ) → (after r ≡ [] → AllSome P (f (word r))) → AllSome P (single r >>= f)
alone_told P f r h = bind_some (λ w. (w ≡ word r) × (after r ≡ [])) P (single r) f (single_told r) (λ w k. subst (λ (u : List ℕ). AllSome P (f u)) (sym k.0) (h k.1))

pub only_told : {A : Type 0} (Q : List ℕ → A → Type 0) (table : List (List ℕ × A)) → Rows Q table → (r : List ℕ) → AllSome (λ a. Q (in_small (word r)) a × (after r ≡ [])) (only table r)
only_told Q table h r = alone_told (λ a. Q (in_small (word r)) a × (after r ≡ [])) (choice table) r (λ e. each_some (λ a. Q (in_small (word r)) a) (λ a. Q (in_small (word r)) a × (after r ≡ [])) (choice table (word r)) (choice_told Q table h (word r)) (λ a k. (k, e)))

pub only_number_told : (r : List ℕ) → AllSome (λ n. IsNatural n (word r) × (after r ≡ [])) (only_number r)
only_number_told r = alone_told (λ n. IsNatural n (word r) × (after r ≡ [])) natural r (λ e. each_some (λ n. IsNatural n (word r)) (λ n. IsNatural n (word r) × (after r ≡ [])) (natural (word r)) (natural_told (word r)) (λ n k. (k, e)))

-- a form whose last slot was filled
pub plain_last : (F : Forms) (s : Slot) (r : List ℕ) (c : Command) → F (s ∷ []) c → Fills s (word r) → after r ≡ [] → Plainly F r c
plain_last F s r c f h e = record { slots = s ∷ []; form = f; filled = begun s [] r h e }

-- ---- words that may be left out

pub optional_told : (name r : List ℕ) (slots : List Slot) → Filled slots (if says r name then after r else r) → (o : List Slot) × Optional name o × Filled (o ++ slots) r
optional_told name r slots f = by (says r name) refl f
  where
    by : (b : Bool) → says r name ≡ b → Filled slots (if b then after r else r) → (o : List Slot) × Optional name o × Filled (o ++ slots) r
    by true e f = (said name ∷ [], there, begun (said name) slots r (word_told (word r) name e) f)
    by false e f = ([], left_out, f)

pub optional_last : (name r : List ℕ) → (if says r name then after r else r) ≡ [] → (o : List Slot) × Optional name o × Filled o r
optional_last name r f = by (says r name) refl f
  where
    by : (b : Bool) → says r name ≡ b → (if b then after r else r) ≡ [] → (o : List Slot) × Optional name o × Filled o r
    by true e f = (said name ∷ [], there, begun (said name) [] r (word_told (word r) name e) f)
    by false e f = ([], left_out, f)
