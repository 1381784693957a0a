-- Printed numbers are read again, whatever follows them.
use Rattle.std.proofs.Common.{◌≡◌, ℕ, ◌+◌, ◌*◌, ◌/◌, ◌%◌, ◌^◌, ◌<◌, ◌≤◌, Bool, true, false, List, [], ◌∷◌, ◌++◌, length, Option, Some, None, refl, sym, ap, ◌∙◌, append_assoc, arith, decimal}
use Rattle.std.specs.Prelude.{if◌then◌else◌, ◌==◌, nat_le, nat_lt}
use Rattle.std.proofs.lemmas.Bool.{or_parts, ne_eqb, lt-ltb, le-ltb, le-leb, lt-leb}
use Rattle.std.proofs.lemmas.Fmt.{decimal_by_steps, length-decimal-le}
use Rattle.std.proofs.lemmas.List.{append-nil}
use Rattle.wm_words.specs.Pieces.{◌>>=◌, is_blank, is_end, is_nil, until, from, has, skip, word, after, is_word, digit, digits_from, natural, single, only_number}

-- ---- pieces that end where they were joined

-- the text is empty or begins with a byte that passes
abbrev pub stops_at : (ℕ → Bool) → List ℕ → Bool
stops_at p [] = true
stops_at p (c ∷ r) = p c

pub until_past : (p : ℕ → Bool) (s e : List ℕ) → has p s ≡ false → stops_at p e ≡ true → until p (s ++ e) ≡ s
unfolding until has
until_past p [] [] h k = refl
until_past p [] (c ∷ r) h k = rw k refl
until_past p (x ∷ s) e h k =
    let both = or_parts (p x) (has p s) h in
    rw both.0 (ap (λ (t : List ℕ). x ∷ t) (until_past p s e both.1 k))

pub from_past : (p : ℕ → Bool) (s e : List ℕ) → has p s ≡ false → stops_at p e ≡ true → from p (s ++ e) ≡ e
unfolding from has
from_past p [] [] h k = refl
from_past p [] (c ∷ r) h k = rw k refl
from_past p (x ∷ s) e h k =
    let both = or_parts (p x) (has p s) h in
    rw both.0 (from_past p s e both.1 k)

pub until_through : (p : ℕ → Bool) (s t : List ℕ) → has p s ≡ false → until p (s ++ t) ≡ s ++ until p t
unfolding until has
until_through p [] t h = refl
until_through p (x ∷ s) t h =
    let both = or_parts (p x) (has p s) h in
    rw both.0 (ap (λ (u : List ℕ). x ∷ u) (until_through p s t both.1))

-- ---- the digits of a number

-- what begins with a digit
pub record IsDigits (ds : List ℕ) : Type 0 where
  pub first : ℕ
  pub others : List ℕ
  pub parts : ds ≡ first ∷ others
  pub low : 48 ≤ first
  pub high : first ≤ 57

pub number_digits : (n : ℕ) → n < 2 ^ 64 → IsDigits (decimal n)
number_digits = decimal_by_steps (λ n ds. IsDigits ds)
    (λ n lt. record { first = 48 + n; others = []; parts = refl; low = omega arith; high = omega arith })
    (λ n ds ge i. record { first = i.first; others = i.others ++ (48 + n % 10) ∷ []; parts = ap (λ (t : List ℕ). t ++ (48 + n % 10) ∷ []) i.parts; low = i.low; high = i.high })

-- a test that no digit passes
abbrev pub NoDigit : (ℕ → Bool) → Type 0
NoDigit p = (c : ℕ) → 48 ≤ c → c ≤ 57 → p c ≡ false

joined_has : (p : ℕ → Bool) (c : ℕ) (t : List ℕ) → p c ≡ false → has p (c ∷ t) ≡ has p t
unfolding has
joined_has p c t miss = rw miss refl

pub number_has : (p : ℕ → Bool) → NoDigit p → (n : ℕ) → n < 2 ^ 64 → (t : List ℕ) → has p (decimal n ++ t) ≡ has p t
number_has p none = decimal_by_steps (λ n ds. (t : List ℕ) → has p (ds ++ t) ≡ has p t)
    (λ n lt t. joined_has p (48 + n) t (none (48 + n) (omega arith) (omega arith)))
    (λ n ds ge i t. ap (λ (u : List ℕ). has p u) (append_assoc ds ((48 + n % 10) ∷ []) t) ∙ (i ((48 + n % 10) ∷ t) ∙ joined_has p (48 + n % 10) t (none (48 + n % 10) (omega arith) (omega arith))))

pub no_blank : NoDigit is_blank
no_blank c low high = let a : (c == 32) ≡ false = ne_eqb c 32 (λ e. omega arith) in let b : (c == 9) ≡ false = ne_eqb c 9 (λ e. omega arith) in rw (a, b) refl

pub no_end : NoDigit is_end
no_end c low high = let a : (c == 44) ≡ false = ne_eqb c 44 (λ e. omega arith) in let b : (c == 59) ≡ false = ne_eqb c 59 (λ e. omega arith) in rw (a, b) refl

-- ---- its value

digit_is : (k : ℕ) → k < 10 → digit (48 + k) ≡ Some k
digit_is k lt =
    let a : nat_le 48 (48 + k) ≡ true = le-leb 48 (48 + k) (omega arith) in
    let b : nat_le (48 + k) 57 ≡ true = le-leb (48 + k) 57 (omega arith) in
    rw (a, b) (ap Some (omega arith))

digits_chosen : (b : Bool) (k : ℕ) (ds : List ℕ) (c : ℕ) → digits_from k (ds ++ c ∷ []) ≡ (digits_from k ds >>= λ j. digits_from j (c ∷ [])) → (if b then digits_from k (ds ++ c ∷ []) else None) ≡ ((if b then digits_from k ds else None) >>= λ j. digits_from j (c ∷ []))
digits_chosen true k ds c i = i
digits_chosen false k ds c i = refl

digits_behind : (o : Option ℕ) (m : ℕ) (ds : List ℕ) (c : ℕ) → ((k : ℕ) → digits_from k (ds ++ c ∷ []) ≡ (digits_from k ds >>= λ j. digits_from j (c ∷ []))) → (o >>= λ k. if nat_lt (10 * m + k) 4294967296 then digits_from (10 * m + k) (ds ++ c ∷ []) else None) ≡ ((o >>= λ k. if nat_lt (10 * m + k) 4294967296 then digits_from (10 * m + k) ds else None) >>= λ j. digits_from j (c ∷ []))
digits_behind None m ds c i = refl
digits_behind (Some k) m ds c i = digits_chosen (nat_lt (10 * m + k) 4294967296) (10 * m + k) ds c (i (10 * m + k))

digits_more : (m : ℕ) (ds : List ℕ) (c : ℕ) → digits_from m (ds ++ c ∷ []) ≡ (digits_from m ds >>= λ k. digits_from k (c ∷ []))
unfolding digits_from
digits_more m [] c = refl
digits_more m (d ∷ ds) c = digits_behind (digit d) m ds c (λ k. digits_more k ds c)

digits_one : (m k : ℕ) → k < 10 → 10 * m + k < 4294967296 → digits_from m ((48 + k) ∷ []) ≡ Some (10 * m + k)
unfolding digits_from
digits_one m k lt small =
    let t : nat_lt (10 * m + k) 4294967296 ≡ true = lt-ltb (10 * m + k) 4294967296 small in
    rw (digit_is k lt, t) refl

pub digits_decimal : (n : ℕ) → n < 2 ^ 64 → n < 4294967296 → digits_from 0 (decimal n) ≡ Some n
digits_decimal = decimal_by_steps (λ n ds. n < 4294967296 → digits_from 0 ds ≡ Some n)
    (λ n lt small. digits_one 0 n lt (omega arith) ∙ ap Some (omega arith))
    (λ n ds ge i small. digits_more 0 ds (48 + n % 10) ∙ (ap (λ (o : Option ℕ). o >>= λ k. digits_from k ((48 + n % 10) ∷ [])) (i (omega arith)) ∙ (digits_one (n / 10) (n % 10) (omega arith) (omega arith) ∙ ap Some (omega arith))))

pub natural_decimal : (n : ℕ) → n < 4294967296 → natural (decimal n) ≡ Some n
unfolding natural
natural_decimal n small =
    let d = number_digits n (omega arith) in
    let some : is_nil (decimal n) ≡ false = ap is_nil d.parts in
    let long : length (decimal n) ≤ 10 = length-decimal-le 10 n (omega arith) (omega arith) (omega arith) in
    let few : nat_lt 10 (length (decimal n)) ≡ false = le-ltb 10 (length (decimal n)) long in
    rw (some, few) (digits_decimal n (omega arith) small)

-- ---- as a word

none_in_nothing : (p : ℕ → Bool) → has p [] ≡ false
unfolding has
none_in_nothing p = refl

pub number_clean : (p : ℕ → Bool) → NoDigit p → (n : ℕ) → n < 2 ^ 64 → has p (decimal n) ≡ false
number_clean p none n lt = ap (λ (u : List ℕ). has p u) (sym (append-nil (decimal n))) ∙ (number_has p none n lt [] ∙ none_in_nothing p)

pub number_word : (n : ℕ) (t : List ℕ) → n < 2 ^ 64 → stops_at is_blank t ≡ true → word (decimal n ++ t) ≡ decimal n
number_word n t lt stop = until_past is_blank (decimal n) t (number_clean is_blank no_blank n lt) stop

pub number_after : (n : ℕ) (t : List ℕ) → n < 2 ^ 64 → stops_at is_blank t ≡ true → after (decimal n ++ t) ≡ skip t
number_after n t lt stop = ap skip (from_past is_blank (decimal n) t (number_clean is_blank no_blank n lt) stop)

pub number_some : (n : ℕ) (t : List ℕ) → n < 2 ^ 64 → is_nil (decimal n ++ t) ≡ false
number_some n t lt = ap (λ (u : List ℕ). is_nil (u ++ t)) (number_digits n lt).parts

-- a number is no name that begins with a letter
pub number_other : (n : ℕ) (c : ℕ) (name : List ℕ) → n < 2 ^ 64 → 65 ≤ c → is_word (decimal n) (c ∷ name) ≡ false
unfolding is_word
number_other n c name lt big =
    let d = number_digits n lt in
    let same : (nat_le 65 d.first) ≡ false = lt-leb 65 d.first (omega (arith, d.high)) in
    let differ : (d.first == c) ≡ false = ne_eqb d.first c (λ e. omega (arith, d.high, e)) in
    ap (λ (u : List ℕ). is_word u (c ∷ name)) d.parts ∙ rw (same, differ) refl

pub only_number_decimal : (n : ℕ) → n < 4294967296 → only_number (decimal n) ≡ Some n
unfolding single skip
only_number_decimal n small =
    let lt : n < 2 ^ 64 = omega arith in
    let w : word (decimal n) ≡ decimal n = ap word (sym (append-nil (decimal n))) ∙ number_word n [] lt refl in
    let a : after (decimal n) ≡ [] = ap after (sym (append-nil (decimal n))) ∙ number_after n [] lt refl in
    rw (a, w) (natural_decimal n small)
