-- The pieces of a text: where they stop, what trimming leaves, what quoted text reads as.
use Rattle.std.proofs.Common.{◌≡◌, ℕ, zero, suc, ◌+◌, ◌-◌, ◌<◌, ◌≤◌, Bool, true, false, ◌&&◌, List, [], ◌∷◌, ◌++◌, length, get_or, take, drop, Option, Some, None, refl, sym, ap, ◌∙◌, append_assoc, arith}
use Rattle.std.specs.Prelude.{if◌then◌else◌}
use Rattle.std.specs.Prelude.{nat_le, IsUtf8}
use Rattle.std.specs.Str.{is_utf8}
use Rattle.std.proofs.Common.{inl, inr}
use Rattle.std.proofs.lemmas.Bool.{le-leb, lt-leb, cases_Bool}
use Rattle.std.proofs.lemmas.List.{take_all, take_more}
use Rattle.std.proofs.lemmas.Str.{IsUtf8-from_is_utf8, is_utf8-from_IsUtf8}
use Rattle.wm_words.specs.Pieces.{until, from, trim_end, kept_before, is_blank, unquote, with_byte, argument}

-- ---- where a piece stops

-- no byte before place n passes
abbrev pub NoneBefore : (ℕ → Bool) → List ℕ → ℕ → Type 0
NoneBefore p xs n = (k : ℕ) → k < n → p (get_or xs k 0) ≡ false

pub until_found : (p : ℕ → Bool) (xs : List ℕ) (n : ℕ) → NoneBefore p xs n → n < length xs → p (get_or xs n 0) ≡ true → until p xs ≡ take n xs
unfolding until
until_found p [] n none lt hit = absurd (omega arith)
until_found p (x ∷ xs) zero none lt hit = rw hit refl
until_found p (x ∷ xs) (suc n) none lt hit =
    let no : p x ≡ false = none 0 (omega arith) in
    rw no (ap (λ (t : List ℕ). x ∷ t) (until_found p xs n (λ k l. none (suc k) (omega arith)) (omega arith) hit))

pub from_found : (p : ℕ → Bool) (xs : List ℕ) (n : ℕ) → NoneBefore p xs n → n < length xs → p (get_or xs n 0) ≡ true → from p xs ≡ drop n xs
unfolding from
from_found p [] n none lt hit = absurd (omega arith)
from_found p (x ∷ xs) zero none lt hit = rw hit refl
from_found p (x ∷ xs) (suc n) none lt hit =
    let no : p x ≡ false = none 0 (omega arith) in
    rw no (from_found p xs n (λ k l. none (suc k) (omega arith)) (omega arith) hit)

pub until_none : (p : ℕ → Bool) (xs : List ℕ) → NoneBefore p xs (length xs) → until p xs ≡ xs
unfolding until
until_none p [] none = refl
until_none p (x ∷ xs) none =
    let no : p x ≡ false = none 0 (omega arith) in
    rw no (ap (λ (t : List ℕ). x ∷ t) (until_none p xs (λ k l. none (suc k) (omega arith))))

pub from_none : (p : ℕ → Bool) (xs : List ℕ) → NoneBefore p xs (length xs) → from p xs ≡ []
unfolding from
from_none p [] none = refl
from_none p (x ∷ xs) none =
    let no : p x ≡ false = none 0 (omega arith) in
    rw no (from_none p xs (λ k l. none (suc k) (omega arith)))

-- ---- blanks at the end

pub trim_end-blank : (xs : List ℕ) (c : ℕ) → is_blank c ≡ true → trim_end (xs ++ c ∷ []) ≡ trim_end xs
unfolding trim_end
trim_end-blank [] c b = rw b refl
trim_end-blank (x ∷ xs) c b = rw (trim_end-blank xs c b) refl

kept-full : (x c : ℕ) (ys : List ℕ) → kept_before x (ys ++ c ∷ []) ≡ x ∷ ys ++ c ∷ []
kept-full x c [] = refl
kept-full x c (y ∷ ys) = refl

pub trim_end-full : (xs : List ℕ) (c : ℕ) → is_blank c ≡ false → trim_end (xs ++ c ∷ []) ≡ xs ++ c ∷ []
unfolding trim_end
trim_end-full [] c b = rw b refl
trim_end-full (x ∷ xs) c b = rw (trim_end-full xs c b) (kept-full x c xs)

-- ---- quoted texts

-- bytes that were read before, and what is still read
abbrev pub with_front : List ℕ → Option (List ℕ × List ℕ) → Option (List ℕ × List ℕ)
with_front front None = None
with_front front (Some x) = Some (front ++ x.0, x.1)

pub with_front-byte : (front : List ℕ) (c : ℕ) (o : Option (List ℕ × List ℕ)) → with_front (front ++ c ∷ []) o ≡ with_front front (with_byte c o)
with_front-byte front c None = refl
with_front-byte front c (Some x) = ap (λ (t : List ℕ). Some (t, x.1)) (append_assoc front (c ∷ []) x.0)

-- ---- arguments

and_no : {A : Type 0} (b : Bool) (x y : A) → (if b && false then x else y) ≡ y
and_no true x y = refl
and_no false x y = refl

pub argument-no_text : (x : List ℕ) → ¬ (IsUtf8 x) → argument x ≡ None
unfolding argument
argument-no_text x h =
    elim (cases_Bool (is_utf8 x)) [
      | inl t ↦ absurd (h (IsUtf8-from_is_utf8 x t))
      | inr f ↦ rw f refl
    ]

pub argument-fits : (x : List ℕ) → IsUtf8 x → length x ≤ 1024 → argument x ≡ Some x
unfolding argument
argument-fits x u le = let t : nat_le (length x) 1024 ≡ true = le-leb _ _ le in rw (is_utf8-from_IsUtf8 x u, t) refl

pub argument-long : (x : List ℕ) → 1024 < length x → argument x ≡ None
unfolding argument
argument-long x lt = let t : nat_le (length x) 1024 ≡ false = lt-leb _ _ lt in rw t (and_no (is_utf8 x) (Some x) None)

-- ---- the last byte

pub last_split : (s : List ℕ) → 1 ≤ length s → s ≡ take (length s - 1) s ++ get_or s (length s - 1) 0 ∷ []
last_split s h = sym (take_all (length s - 1 + 1) s (omega arith)) ∙ take_more s (length s - 1) 0 (omega arith)

pub trim_end-last_kept : (s : List ℕ) → 1 ≤ length s → is_blank (get_or s (length s - 1) 0) ≡ false → trim_end s ≡ s
trim_end-last_kept s h b =
    ap (λ (t : List ℕ). trim_end t) (last_split s h) ∙ (trim_end-full (take (length s - 1) s) (get_or s (length s - 1) 0) b ∙ sym (last_split s h))

pub trim_end-last_blank : (s : List ℕ) → 1 ≤ length s → is_blank (get_or s (length s - 1) 0) ≡ true → trim_end (take (length s - 1) s) ≡ trim_end s
trim_end-last_blank s h b =
    sym (ap (λ (t : List ℕ). trim_end t) (last_split s h) ∙ trim_end-blank (take (length s - 1) s) (get_or s (length s - 1) 0) b)

-- ---- where a piece stops, as a search ends

pub until_end : (p : ℕ → Bool) (xs : List ℕ) (n : ℕ) → NoneBefore p xs n → length xs ≤ n → xs ≡ until p xs
until_end p xs n none le = sym (until_none p xs (λ k l. none k (omega arith)))

pub from_end : (p : ℕ → Bool) (xs : List ℕ) (n : ℕ) → NoneBefore p xs n → length xs ≤ n → from p xs ≡ []
from_end p xs n none le = from_none p xs (λ k l. none k (omega arith))

-- ---- one byte more of a quoted text

pub head_tail : (s : List ℕ) → 1 ≤ length s → get_or s 0 0 ∷ take (length s - 1) (drop 1 s) ≡ s
head_tail [] h = absurd (omega arith)
head_tail (x ∷ xs) h = ap (λ (t : List ℕ). x ∷ t) (take_all (suc (length xs) - 1) xs (omega arith))

pub unquote-step : (front rest behind : List ℕ) (byte : ℕ) (all : Option (List ℕ × List ℕ)) → 1 ≤ length rest → with_byte byte (unquote behind) ≡ unquote (get_or rest 0 0 ∷ take (length rest - 1) (drop 1 rest)) → with_front front (unquote rest) ≡ all → with_front (front ++ byte ∷ []) (unquote behind) ≡ all
unquote-step front rest behind byte all h e i =
    with_front-byte front byte (unquote behind) ∙ (ap (λ (o : Option (List ℕ × List ℕ)). with_front front o) e ∙ (ap (λ (t : List ℕ). with_front front (unquote t)) (head_tail rest h) ∙ i))
