-- Words and the spaces between them are read as they stand.
use Rattle.std.proofs.Common.{◌≡◌, ◌∙◌, refl, ap, sym, subst, Bool, true, false, cond, eqb, ℕ, suc, ◌+◌, List, [], ◌∷◌, ◌++◌, length, take, drop, take_while, Option, Some, nat_eq, arith}
use Rattle.std.specs.List.{AllByRecursion, prefix_len}
use Rattle.std.proofs.lemmas.Bool.{and_parts, eqb-false, eqb-true, ne_eqb}
use Rattle.std.proofs.lemmas.List.{append-nil}
use lib.Pointwise.{pointwise}
use Rattle.wm_fields.specs.Fields.{behind, gap_at, past_spaces, word_then}
use Rattle.law_script.proofs.Turns.{none_by, same_some, test_by}
use Rattle.law_script.specs.Pieces.{AreWords, BeginsWithout, IsBefore, IsGap}

-- ---- the front of a text that passes a test

one_more : (d k : ℕ) (xs : List ℕ) → take (1 + k) (d ∷ xs) ≡ d ∷ take k xs
one_more d k xs = let one : 1 + k ≡ suc k = omega arith in rw one refl

pub front_is : (p : ℕ → Bool) (front rest : List ℕ) → AllByRecursion (λ c. p c ≡ true) front → take_while p rest ≡ [] → take_while p (front ++ rest) ≡ front
front_is p [] rest all end = end
front_is p (c ∷ cs) rest all end = rw all.0 (one_more c (prefix_len p (cs ++ rest)) (cs ++ rest) ∙ ap (λ xs. c ∷ xs) (front_is p cs rest all.1 end))

pub front_and_rest : (p : ℕ → Bool) (text : List ℕ) → text ≡ take_while p text ++ drop (length (take_while p text)) text
front_and_rest p [] = refl
front_and_rest p (c ∷ cs) = by (p c) (prefix_len p cs) (front_and_rest p cs)
  where
    by : (t : Bool) (n : ℕ) → cs ≡ take n cs ++ drop (length (take n cs)) cs
        → c ∷ cs ≡ take (cond t (1 + n) 0) (c ∷ cs) ++ drop (length (take (cond t (1 + n) 0) (c ∷ cs))) (c ∷ cs)
    by true n more = let one : 1 + n ≡ suc n = omega arith in rw one (ap (λ xs. c ∷ xs) more)
    by false n more = refl

pub front_all : {P : ℕ → Type 0} (p : ℕ → Bool) → ((c : ℕ) → p c ≡ true → P c) → (text : List ℕ) → AllByRecursion P (take_while p text)
front_all {P} p each [] = tt
front_all {P} p each (c ∷ cs) = by (p c) refl (prefix_len p cs) (front_all p each cs)
  where
    by : (t : Bool) → p c ≡ t → (n : ℕ) → AllByRecursion P (take n cs) → AllByRecursion P (take (cond t (1 + n) 0) (c ∷ cs))
    by true e n more = let one : 1 + n ≡ suc n = omega arith in rw one (each c e, more)
    by false e n more = tt

-- ---- gaps

past_more : (xs : List ℕ) → past_spaces (32 ∷ xs) ≡ past_spaces xs
past_more xs = let one : 1 + prefix_len (λ c. eqb c 32) xs ≡ suc (prefix_len (λ c. eqb c 32) xs) = omega arith in rw one refl

past_none : (text : List ℕ) → BeginsWithout 32 text → past_spaces text ≡ text
past_none [] begins = refl
past_none (c ∷ cs) begins = rw (ne_eqb c 32 begins) refl

past_gap : (gap later : List ℕ) → AllByRecursion (λ c. c ≡ 32) gap → BeginsWithout 32 later → past_spaces (gap ++ later) ≡ later
past_gap [] later spaces begins = past_none later begins
past_gap (c ∷ cs) later spaces begins = ap (λ d. past_spaces (d ∷ (cs ++ later))) spaces.0 ∙ past_more (cs ++ later) ∙ past_gap cs later spaces.1 begins

pub gap_over : (gap later : List ℕ) → IsGap gap → BeginsWithout 32 later → gap_at (gap ++ later) ≡ Some later
gap_over [] later is begins = absurd (omega (arith, is.some))
gap_over (c ∷ cs) later is begins = ap (λ d. gap_at (d ∷ (cs ++ later))) is.spaces.0 ∙ ap Some (past_gap cs later is.spaces.1 begins)

-- a text is spaces, if any, and what is behind them
record IsPast (text rest : List ℕ) : Type 0 where
  pub front : List ℕ
  pub whole : text ≡ front ++ rest
  pub spaces : AllByRecursion (λ c. c ≡ 32) front
  pub begins : BeginsWithout 32 rest

past_spaces_is : (text : List ℕ) → IsPast text (past_spaces text)
past_spaces_is [] = record { front = []; whole = refl; spaces = tt; begins = tt }
past_spaces_is (c ∷ cs) = by (eqb c 32) refl (past_spaces_is cs)
  where
    by : (t : Bool) → eqb c 32 ≡ t → IsPast cs (past_spaces cs) → IsPast (c ∷ cs) (past_spaces (c ∷ cs))
    by true e more =
        let same : c ≡ 32 = eqb-true c 32 e in
        let gone : past_spaces (c ∷ cs) ≡ past_spaces cs = ap (λ d. past_spaces (d ∷ cs)) same ∙ past_more cs in
        subst (IsPast (c ∷ cs)) (sym gone) (record { front = c ∷ more.front; whole = ap (λ xs. c ∷ xs) more.whole; spaces = (same, more.spaces); begins = more.begins })
    by false e more =
        let other : ¬ (c ≡ 32) = eqb-false c 32 e in
        subst (IsPast (c ∷ cs)) (sym (past_none (c ∷ cs) other)) (record { front = []; whole = refl; spaces = tt; begins = other })

-- a text is one or more spaces, and what is behind them
pub record IsGapped (text rest : List ℕ) : Type 0 where
  pub gap : List ℕ
  pub whole : text ≡ gap ++ rest
  pub is_gap : IsGap gap
  pub begins : BeginsWithout 32 rest

pub gap_split : (text rest : List ℕ) → gap_at text ≡ Some rest → IsGapped text rest
gap_split [] rest e = cc
gap_split (c ∷ cs) rest e = test_by (eqb c 32) (Some (past_spaces cs)) rest (λ t f.
    let past : IsPast cs rest = subst (IsPast cs) (same_some (past_spaces cs) rest f) (past_spaces_is cs) in
    record {
      gap = c ∷ past.front;
      whole = ap (λ xs. c ∷ xs) past.whole;
      is_gap = record { some = omega arith; spaces = (eqb-true c 32 t, past.spaces) };
      begins = past.begins;
    }) e

-- ---- words that are known

pub begins_split : (word text : List ℕ) → pointwise nat_eq word (take (length word) text) ≡ true → text ≡ word ++ drop (length word) text
begins_split [] text e = refl
begins_split (c ∷ cs) [] e = cc
begins_split (c ∷ cs) (d ∷ ds) e =
    let both : (nat_eq c d ≡ true) × (pointwise nat_eq cs (take (length cs) ds) ≡ true) = and_parts (nat_eq c d) (pointwise nat_eq cs (take (length cs) ds)) e in
    ap (λ x. x ∷ ds) (sym (eqb-true c d both.0)) ∙ ap (λ xs. c ∷ xs) (begins_split cs ds both.1)

pub behind_split : (word text rest : List ℕ) → behind word text ≡ Some rest → text ≡ word ++ rest
behind_split word text rest e = test_by (pointwise nat_eq word (take (length word) text)) (Some (drop (length word) text)) rest (λ t f.
    begins_split word text t ∙ ap (λ xs. word ++ xs) (same_some (drop (length word) text) rest f)) e

-- a word, one or more spaces, and what is behind them
pub record IsThen (word text rest : List ℕ) : Type 0 where
  pub gap : List ℕ
  pub whole : text ≡ word ++ (gap ++ rest)
  pub is_gap : IsGap gap
  pub begins : BeginsWithout 32 rest

pub then_from : (word text front rest : List ℕ) → text ≡ word ++ front → IsGapped front rest → IsThen word text rest
then_from word text front rest whole gapped = record { gap = gapped.gap; whole = whole ∙ ap (λ xs. word ++ xs) gapped.whole; is_gap = gapped.is_gap; begins = gapped.begins }

pub then_split : (word text rest : List ℕ) → word_then word text ≡ Some rest → IsThen word text rest
then_split word text rest e = none_by (behind word text) gap_at rest (λ front b g. then_from word text front rest (behind_split word text front b) (gap_split front rest g)) e

pub before : (word text rest : List ℕ) (Holds : List ℕ → Type 0) → IsThen word text rest → Holds rest → IsBefore word Holds text
before word text rest Holds is holds = record { gap = is.gap; later = rest; whole = is.whole; is_gap = is.is_gap; holds = holds }

-- ---- words in their places

-- a space or the end
abbrev pub Ends : List ℕ → Type 0
Ends [] = Unit {0}
Ends (c ∷ cs) = c ≡ 32

pub gap_ends : (gap later : List ℕ) → IsGap gap → Ends (gap ++ later)
gap_ends [] later is = absurd (omega (arith, is.some))
gap_ends (c ∷ cs) later is = is.spaces.0

-- a reader finds this behind a word, and leaves what follows it
abbrev pub Reads : {A : Type 0} → (List ℕ → Option (A × List ℕ)) → List ℕ → A → Type 0
Reads f word x = (rest : List ℕ) → Ends rest → f (word ++ rest) ≡ Some (x, rest)

pub read_last : {A : Type 0} (f : List ℕ → Option (A × List ℕ)) (word text : List ℕ) (x : A) → Reads f word x → text ≡ word → f text ≡ Some (x, [])
read_last f word text x reads whole = ap f (whole ∙ sym (append-nil word)) ∙ reads [] tt

pub read_before : {A : Type 0} (f : List ℕ → Option (A × List ℕ)) (word text : List ℕ) (x : A) (Holds : List ℕ → Type 0) → Reads f word x → (is : IsBefore word Holds text)
    → f text ≡ Some (x, is.gap ++ is.later)
read_before f word text x Holds reads is = ap f is.whole ∙ reads (is.gap ++ is.later) (gap_ends is.gap is.later is.is_gap)

-- something that is no space
abbrev pub Starts : List ℕ → Type 0
Starts [] = ⊥
Starts (c ∷ cs) = ¬ (c ≡ 32)

pub starts_so : (word rest : List ℕ) → Starts word → BeginsWithout 32 (word ++ rest)
starts_so [] rest starts = absurd starts
starts_so (c ∷ cs) rest starts = starts

pub starts_longer : (word rest : List ℕ) → Starts word → Starts (word ++ rest)
starts_longer [] rest starts = absurd starts
starts_longer (c ∷ cs) rest starts = starts

pub words_start : (word text : List ℕ) (words : List (List ℕ)) → Starts word → AreWords (word ∷ words) text → BeginsWithout 32 text
words_start word text [] starts are = subst (BeginsWithout 32) (append-nil word ∙ sym are) (starts_so word [] starts)
words_start word text (next ∷ words) starts are = subst (BeginsWithout 32) (sym are.whole) (starts_so word (are.gap ++ are.later) starts)

-- the first of these words, and what is behind it
pub record IsFirst (word : List ℕ) (words : List (List ℕ)) (text : List ℕ) : Type 0 where
  pub rest : List ℕ
  pub whole : text ≡ word ++ rest
  pub ends : Ends rest
  pub tail : AreWords ([] ∷ words) rest

abbrev pub first_of_words : (word text : List ℕ) (words : List (List ℕ)) → AreWords (word ∷ words) text → IsFirst word words text
first_of_words word text [] are = record { rest = []; whole = are ∙ sym (append-nil word); ends = tt; tail = refl }
first_of_words word text (next ∷ words) are = record {
  rest = are.gap ++ are.later;
  whole = are.whole;
  ends = gap_ends are.gap are.later are.is_gap;
  tail = record { gap = are.gap; later = are.later; whole = refl; is_gap = are.is_gap; holds = are.holds };
}

pub words_from : (word text rest : List ℕ) (words : List (List ℕ)) → text ≡ word ++ rest → AreWords ([] ∷ words) rest → AreWords (word ∷ words) text
words_from word text rest [] whole are = whole ∙ ap (λ r. word ++ r) are ∙ append-nil word
words_from word text rest (next ∷ words) whole are = record {
  gap = are.gap;
  later = are.later;
  whole = whole ∙ ap (λ r. word ++ r) are.whole;
  is_gap = are.is_gap;
  holds = are.holds;
}
