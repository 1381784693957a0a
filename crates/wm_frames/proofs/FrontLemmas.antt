-- What stands at the front, by its facts, and that it stays when more bytes come.
use Rattle.std.proofs.Common.{◌≡◌, ℕ, ◌+◌, ◌<◌, ◌≤◌, Bool, true, false, ◌&&◌, ◌⊎◌, inl, inr, List, [], ◌∷◌, ◌++◌, length, take, drop, refl, sym, ◌∙◌, ap, arith, length-append, length-drop}
use Rattle.std.proofs.lemmas.List.{take-append-le, drop-append-le}
use Rattle.std.proofs.lemmas.Bool.Decides.{nat_tests}
use Rattle.std.specs.Prelude.{◌==◌, if◌then◌else◌, nat_lt, nat_le}
use Rattle.std.specs.Int.{w32, from_le_bytes}
use Rattle.wm_frames.specs.Frame.{MAGIC, MAX_PAYLOAD}
use Rattle.wm_frames.specs.Front.{agrees, front_of, length_field, kind_field}
use Rattle.wm_frames.specs.declared.front.Front.{Front}
use Rattle.wm_frames.specs.declared.front.Front.TheVariants.{Whole, Part, Wrong, Long}

-- what the bytes of each front are
pub data FrontIs (bytes : List ℕ) : Front → Type 0 where
  is_whole : agrees MAGIC bytes ≡ true → length_field bytes ≤ 262144 → 14 + length_field bytes ≤ length bytes → FrontIs bytes (Whole (length_field bytes))
  is_short : agrees MAGIC bytes ≡ true → length bytes < 10 → FrontIs bytes Part
  is_part : agrees MAGIC bytes ≡ true → length_field bytes ≤ 262144 → length bytes < 14 + length_field bytes → FrontIs bytes Part
  is_wrong : agrees MAGIC bytes ≡ false → FrontIs bytes Wrong
  is_long : agrees MAGIC bytes ≡ true → 10 ≤ length bytes → 262144 < length_field bytes → FrontIs bytes (Long (length_field bytes))

choose : (P : Front → Type 0) (b : Bool) (x y : Front) → (b ≡ true → P x) → (b ≡ false → P y) → P (if b then x else y)
choose P true x y h k = h refl
choose P false x y h k = k refl

part_or : (bytes : List ℕ) → agrees MAGIC bytes ≡ true → (length bytes < 10) ⊎ (length_field bytes ≤ 262144) → length bytes < 14 + length_field bytes → FrontIs bytes Part
part_or bytes a (inl h) k = is_short a h
part_or bytes a (inr h) k = is_part a h k

pub front_is : (bytes : List ℕ) → FrontIs bytes (front_of bytes)
unfolding front_of
front_is bytes = choose (FrontIs bytes) (agrees MAGIC bytes) _ _
    (λ a. choose (FrontIs bytes) (nat_le 10 (length bytes) && nat_lt MAX_PAYLOAD (length_field bytes)) _ _
    (λ h. is_long a (grind (arith, nat_tests)) (grind (arith, nat_tests)))
    (λ h. choose (FrontIs bytes) (nat_le 14 (length bytes) && nat_le (14 + length_field bytes) (length bytes)) _ _
    (λ k. is_whole a (grind (arith, nat_tests)) (grind (arith, nat_tests)))
    (λ k. part_or bytes a (grind (arith, nat_tests)) (grind (arith, nat_tests)))))
    (λ w. is_wrong w)

-- ---- more bytes

-- bytes that are no beginning stay none
pub agrees-false : (xs ys more : List ℕ) → agrees xs ys ≡ false → agrees xs (ys ++ more) ≡ false
agrees-false [] ys more h = h
agrees-false (x ∷ xs) [] more h = absurd (cc)
agrees-false (x ∷ xs) (y ∷ ys) more h = both (x == y) (agrees xs ys) (agrees xs (ys ++ more)) (agrees-false xs ys more) h
  where
    both : (b c d : Bool) → (c ≡ false → d ≡ false) → (b && c) ≡ false → (b && d) ≡ false
    both true c d f h = f h
    both false c d f h = refl

-- bytes that are long enough tell alone
pub agrees-long : (xs ys more : List ℕ) → length xs ≤ length ys → agrees xs (ys ++ more) ≡ agrees xs ys
agrees-long [] ys more h = refl
agrees-long (x ∷ xs) [] more h = absurd (omega arith)
agrees-long (x ∷ xs) (y ∷ ys) more h = ap (λ b. (x == y) && b) (agrees-long xs ys more (omega arith))

field_stays : (at : ℕ) (bytes more : List ℕ) → at + 4 ≤ length bytes → take 4 (drop at (bytes ++ more)) ≡ take 4 (drop at bytes)
field_stays at bytes more h =
    ap (take 4) (drop-append-le at bytes more (omega arith)) ∙ take-append-le 4 (drop at bytes) more (omega (arith, length-drop at bytes))

pub length_field-append : (bytes more : List ℕ) → 10 ≤ length bytes → length_field (bytes ++ more) ≡ length_field bytes
length_field-append bytes more h = ap (from_le_bytes w32) (field_stays 6 bytes more h)

pub kind_field-append : (bytes more : List ℕ) → 14 ≤ length bytes → kind_field (bytes ++ more) ≡ kind_field bytes
kind_field-append bytes more h = ap (from_le_bytes w32) (field_stays 10 bytes more h)

-- ---- from the facts to the front

whole_at : (bytes : List ℕ) (f : Front) → FrontIs bytes f → agrees MAGIC bytes ≡ true → length_field bytes ≤ 262144 → 14 + length_field bytes ≤ length bytes → f ≡ Whole (length_field bytes)
whole_at bytes _ (is_whole a b c) h k l = refl
whole_at bytes _ (is_short a b) h k l = absurd (omega arith)
whole_at bytes _ (is_part a b c) h k l = absurd (omega arith)
whole_at bytes _ (is_wrong a) h k l = absurd (cc)
whole_at bytes _ (is_long a b c) h k l = absurd (omega arith)

pub front_of-whole : (bytes : List ℕ) → agrees MAGIC bytes ≡ true → length_field bytes ≤ 262144 → 14 + length_field bytes ≤ length bytes → front_of bytes ≡ Whole (length_field bytes)
front_of-whole bytes = whole_at bytes (front_of bytes) (front_is bytes)

wrong_at : (bytes : List ℕ) (f : Front) → FrontIs bytes f → agrees MAGIC bytes ≡ false → f ≡ Wrong
wrong_at bytes _ (is_whole a b c) h = absurd (cc)
wrong_at bytes _ (is_short a b) h = absurd (cc)
wrong_at bytes _ (is_part a b c) h = absurd (cc)
wrong_at bytes _ (is_wrong a) h = refl
wrong_at bytes _ (is_long a b c) h = absurd (cc)

long_at : (bytes : List ℕ) (f : Front) → FrontIs bytes f → agrees MAGIC bytes ≡ true → 10 ≤ length bytes → 262144 < length_field bytes → f ≡ Long (length_field bytes)
long_at bytes _ (is_whole a b c) h k l = absurd (omega arith)
long_at bytes _ (is_short a b) h k l = absurd (omega arith)
long_at bytes _ (is_part a b c) h k l = absurd (omega arith)
long_at bytes _ (is_wrong a) h k l = absurd (cc)
long_at bytes _ (is_long a b c) h k l = refl

-- ---- the front stays

-- what stays when more bytes come: a whole frame, a wrong magic, a length above the limit
abbrev pub Stays : List ℕ → Front → Front → Type 0
Stays bytes (Whole n) g = (g ≡ Whole n) × (14 + n ≤ length bytes)
Stays bytes Part g = Unit {0}
Stays bytes Wrong g = g ≡ Wrong
Stays bytes (Long n) g = g ≡ Long n

stays_at : (bytes more : List ℕ) (f : Front) → FrontIs bytes f → Stays bytes f (front_of (bytes ++ more))
stays_at bytes more _ (is_whole a b c) =
    let e : length_field (bytes ++ more) ≡ length_field bytes = length_field-append bytes more (omega arith) in
    (front_of-whole (bytes ++ more) (agrees-long MAGIC bytes more (omega arith) ∙ a) (omega arith) (omega (arith, length-append bytes more)) ∙ ap (λ n. Whole n) e, c)
stays_at bytes more _ (is_short a b) = tt
stays_at bytes more _ (is_part a b c) = tt
stays_at bytes more _ (is_wrong a) = wrong_at (bytes ++ more) (front_of (bytes ++ more)) (front_is (bytes ++ more)) (agrees-false MAGIC bytes more a)
stays_at bytes more _ (is_long a b c) =
    let e : length_field (bytes ++ more) ≡ length_field bytes = length_field-append bytes more b in
    long_at (bytes ++ more) (front_of (bytes ++ more)) (front_is (bytes ++ more)) (agrees-long MAGIC bytes more (omega arith) ∙ a) (omega (arith, length-append bytes more)) (omega arith) ∙ ap (λ n. Long n) e

pub front_stays : (bytes more : List ℕ) → Stays bytes (front_of bytes) (front_of (bytes ++ more))
front_stays bytes more = stays_at bytes more (front_of bytes) (front_is bytes)

-- what is known of a front by its variant
pub whole_facts : (bytes : List ℕ) (f : Front) (n : ℕ) → FrontIs bytes f → f ≡ Whole n → (n ≡ length_field bytes) × (agrees MAGIC bytes ≡ true) × (n ≤ 262144) × (14 + n ≤ length bytes)
whole_facts bytes _ n (is_whole a b c) e = let k : length_field bytes ≡ n = cc in (sym k, a, omega arith, omega arith)
whole_facts bytes _ n (is_short a b) e = absurd (cc)
whole_facts bytes _ n (is_part a b c) e = absurd (cc)
whole_facts bytes _ n (is_wrong a) e = absurd (cc)
whole_facts bytes _ n (is_long a b c) e = absurd (cc)
