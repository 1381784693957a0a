-- Texts with \ before each " and \.
use Rattle.std.proofs.Common.{◌≡◌, ℕ, zero, suc, ◌<◌, ◌≤◌, true, false, List, [], ◌∷◌, ◌++◌, length, get_or, take, drop, refl, sym, ap, ◌∙◌, append_assoc, arith}
use Rattle.std.specs.Prelude.{◌==◌}
use Rattle.std.proofs.lemmas.List.{append-nil, drop_all, length-drop, get_or-drop}
use Rattle.std.proofs.Common.{inl, inr}
use Rattle.std.specs.Prelude.{IsUtf8, IsCharBoundary}
use Rattle.std.proofs.lemmas.Bool.{or_cases, eqb-true, eqb-false}
use Rattle.std.proofs.lemmas.Str.{IsUtf8-drop, IsCharBoundary-before_ascii, IsCharBoundary-after_ascii}
use Rattle.wm_language.specs.Spelling.{is_special, escaped}

pub escaped_front : (xs : List ℕ) (n : ℕ) → n ≤ length xs → ((k : ℕ) → k < n → is_special (get_or xs k 0) ≡ false) → escaped xs ≡ take n xs ++ escaped (drop n xs)
unfolding escaped
escaped_front xs zero le none = refl
escaped_front [] (suc n) le none = absurd (omega arith)
escaped_front (x ∷ xs) (suc n) le none =
    let no : is_special x ≡ false = none 0 (omega arith) in
    rw no (ap (λ (t : List ℕ). x ∷ t) (escaped_front xs n (omega arith) (λ k lt. none (suc k) (omega arith))))

pub escaped_special : (xs : List ℕ) → 1 ≤ length xs → is_special (get_or xs 0 0) ≡ true → escaped xs ≡ 92 ∷ take 1 xs ++ escaped (drop 1 xs)
unfolding escaped
escaped_special [] le hit = absurd (omega arith)
escaped_special (x ∷ xs) le hit = rw hit refl

-- a piece without special bytes was written, and then a special byte with \ before it
pub escaped_step : (out all rest : List ℕ) (n : ℕ) → n < length rest → ((k : ℕ) → k < n → is_special (get_or rest k 0) ≡ false) → is_special (get_or rest n 0) ≡ true → out ++ escaped rest ≡ all → ((out ++ take n rest) ++ 92 ∷ []) ++ take 1 (drop n rest) ++ escaped (drop 1 (drop n rest)) ≡ all
escaped_step out all rest n lt none hit kept =
    let tail : escaped (drop n rest) ≡ 92 ∷ take 1 (drop n rest) ++ escaped (drop 1 (drop n rest)) = escaped_special (drop n rest) (omega (arith, length-drop n rest)) (ap is_special (get_or-drop n rest 0 0 ∙ ap (λ (k : ℕ). get_or rest k 0) (omega arith)) ∙ hit) in
    let whole : escaped rest ≡ take n rest ++ (92 ∷ take 1 (drop n rest) ++ escaped (drop 1 (drop n rest))) = escaped_front rest n (omega arith) none ∙ ap (λ (t : List ℕ). take n rest ++ t) tail in
    simp append_assoc (ap (λ (t : List ℕ). out ++ t) (sym whole) ∙ kept)

nothing_more : (xs : List ℕ) → xs ++ escaped [] ≡ xs
unfolding escaped
nothing_more xs = append-nil xs

pub escaped_end : (out all rest : List ℕ) (n : ℕ) → n ≤ length rest → length rest ≤ n → ((k : ℕ) → k < n → is_special (get_or rest k 0) ≡ false) → out ++ escaped rest ≡ all → out ++ take n rest ≡ all
escaped_end out all rest n le ge none kept =
    let gone : drop n rest ≡ [] = drop_all n rest ge in
    let whole : escaped rest ≡ take n rest = escaped_front rest n le none ∙ (ap (λ (t : List ℕ). take n rest ++ escaped t) gone ∙ nothing_more (take n rest)) in
    ap (λ (t : List ℕ). out ++ t) (sym whole) ∙ kept

-- ---- where a text may be cut at a special byte

special_ascii : (c : ℕ) → is_special c ≡ true → c < 128
special_ascii c hit =
    elim (or_cases (c == 34) (c == 92) hit) [
      | inl e ↦ let same : c ≡ 34 = eqb-true c 34 e in omega arith
      | inr e ↦ let same : c ≡ 92 = eqb-true c 92 e in omega arith
    ]

-- what stands from a special byte on is text, and so is what stands behind that byte
pub record IsTail (rest : List ℕ) (n : ℕ) : Type 0 where
  pub text : IsUtf8 (drop n rest)
  pub behind : IsCharBoundary (drop n rest) 1
  pub more : IsUtf8 (drop 1 (drop n rest))

pub tail_of : (rest : List ℕ) (n : ℕ) → IsUtf8 rest → n < length rest → is_special (get_or rest n 0) ≡ true → IsTail rest n
tail_of rest n u lt hit =
    let text : IsUtf8 (drop n rest) = IsUtf8-drop rest n u (IsCharBoundary-before_ascii rest n lt (special_ascii (get_or rest n 0) hit)) in
    let first : get_or (drop n rest) 0 0 ≡ get_or rest n 0 = get_or-drop n rest 0 0 ∙ ap (λ (k : ℕ). get_or rest k 0) (omega arith) in
    let low : get_or (drop n rest) 0 0 < 128 = rw first (special_ascii (get_or rest n 0) hit) in
    let long : 0 < length (drop n rest) = omega (arith, length-drop n rest) in
    let behind : IsCharBoundary (drop n rest) 1 = IsCharBoundary-after_ascii (drop n rest) 0 text long low in
    record { text = text; behind = behind; more = IsUtf8-drop (drop n rest) 1 text behind }

pub not_empty : (xs : List ℕ) → (length xs == 0) ≡ false → 1 ≤ length xs
not_empty xs e = let ne = eqb-false (length xs) 0 e in omega (arith, ne)

pub is_empty : (xs : List ℕ) → (length xs == 0) ≡ true → length xs ≡ 0
is_empty xs e = eqb-true (length xs) 0 e
