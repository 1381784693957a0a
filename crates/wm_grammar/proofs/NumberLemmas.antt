-- Numbers: what their digits are worth, as the reading adds them up.
use Rattle.std.proofs.Common.{◌≡◌, ℕ, suc, ◌+◌, ◌-◌, ◌*◌, ◌^◌, ◌<◌, ◌≤◌, true, false, List, [], ◌∷◌, length, Option, Some, None, refl, sym, ap, ◌∙◌, arith, inl, inr}
use Rattle.std.specs.Prelude.{if◌then◌else◌, ◌==◌, ◌||◌, ◌&&◌, nat_le, nat_lt, ℤ, pos, neg_ℤ}
use Rattle.std.proofs.lemmas.Bool.{eqb-true, ne_eqb, or_parts, and_parts, false≢true, leb-true, ltb-true, ltb-false, le-leb, lt-ltb, le-ltb}
use Rattle.std.proofs.Math.Nat.{pow-succ', mul_assoc, mul_comm, add-mul}
use Rattle.wm_words.specs.Pieces.{is_nil, digit, digits_from, natural, below_zero, above_zero, integer}
use Rattle.wm_words.proofs.Cuts.{AllSome, if_some}
use Rattle.wm_grammar.proofs.CutCommands.{bind_some, each_some}
use Rattle.wm_language.specs.Bytes.{IsDigit, Each}
use Rattle.wm_language.specs.Words.{worth, IsNatural, IsInteger}

-- ---- what digits are worth behind others

-- the value of digits behind those of n
behind : ℕ → List ℕ → ℕ
behind n [] = n
behind n (c ∷ t) = behind (10 * n + (c - 48)) t

behind_more : (t : List ℕ) (n : ℕ) → n ≤ behind n t
unfolding behind
behind_more [] n = omega arith
behind_more (c ∷ t) n = omega (arith, behind_more t (10 * n + (c - 48)))

joined : (x y z : ℕ) → x + y + z ≡ x + (y + z)
joined x y z = omega arith

shifted : (n d P Q V : ℕ) → Q ≡ 10 * P → (10 * n + d) * P + V ≡ n * Q + (d * P + V)
shifted n d P Q V e =
    let a : 10 * n * P ≡ n * (10 * P) = ap (λ (k : ℕ). k * P) (mul_comm 10 n) ∙ mul_assoc n 10 P in
    let b : (10 * n + d) * P ≡ n * (10 * P) + d * P = add-mul (10 * n) d P ∙ ap (λ (k : ℕ). k + d * P) a in
    ap (λ (k : ℕ). k + V) b ∙ (joined (n * (10 * P)) (d * P) V ∙ ap (λ (k : ℕ). n * k + (d * P + V)) (sym e))

one_more : (n : ℕ) → n ≡ n * 1 + 0
one_more n = omega arith

behind_worth : (t : List ℕ) (n : ℕ) → behind n t ≡ n * 10 ^ length t + worth t
unfolding behind
behind_worth [] n = one_more n
behind_worth (c ∷ t) n = behind_worth t (10 * n + (c - 48)) ∙ shifted n (c - 48) (10 ^ length t) (10 ^ suc (length t)) (worth t) (pow-succ' 10 (length t))

from_nothing : (P V : ℕ) → 0 * P + V ≡ V
from_nothing P V = omega arith

behind_none : (t : List ℕ) → behind 0 t ≡ worth t
behind_none t = behind_worth t 0 ∙ from_nothing (10 ^ length t) (worth t)

-- ---- digits that read

digit_told : (c : ℕ) → AllSome (λ d. IsDigit c × (d ≡ c - 48)) (digit c)
digit_told c = if_some (λ d. IsDigit c × (d ≡ c - 48)) (nat_le 48 c && nat_le c 57) (Some (c - 48)) None (λ e. let both = and_parts (nat_le 48 c) (nat_le c 57) e in ((leb-true 48 c both.0, leb-true c 57 both.1), refl)) (λ e. tt)

digit_back : (c : ℕ) → IsDigit c → digit c ≡ Some (c - 48)
digit_back c h =
    let a : nat_le 48 c ≡ true = le-leb 48 c h.0 in
    let b : nat_le c 57 ≡ true = le-leb c 57 h.1 in
    rw (a, b) refl

record Told (n : ℕ) (t : List ℕ) (m : ℕ) : Type 0 where
  digits : Each IsDigit t
  value : m ≡ behind n t
  fits : m < 4294967296

told_more : (n c : ℕ) (t : List ℕ) (d m : ℕ) → IsDigit c × (d ≡ c - 48) → Told (10 * n + d) t m → Told n (c ∷ t) m
unfolding behind
told_more n c t d m h k = record { digits = (h.0, k.digits); value = k.value ∙ ap (λ (j : ℕ). behind (10 * n + j) t) h.1; fits = k.fits }

digits_told : (t : List ℕ) (n : ℕ) → n < 4294967296 → AllSome (Told n t) (digits_from n t)
unfolding digits_from behind
digits_told [] n lt = record { digits = tt; value = refl; fits = lt }
digits_told (c ∷ t) n lt = bind_some (λ d. IsDigit c × (d ≡ c - 48)) (Told n (c ∷ t)) (digit c) (λ d. if nat_lt (10 * n + d) 4294967296 then digits_from (10 * n + d) t else None) (digit_told c) (λ d h.
    if_some (Told n (c ∷ t)) (nat_lt (10 * n + d) 4294967296) (digits_from (10 * n + d) t) None
    (λ e. each_some (Told (10 * n + d) t) (Told n (c ∷ t)) (digits_from (10 * n + d) t) (digits_told t (10 * n + d) (ltb-true (10 * n + d) 4294967296 e)) (λ m k. told_more n c t d m h k))
    (λ e. tt))

digits_back : (t : List ℕ) (n : ℕ) → Each IsDigit t → behind n t < 4294967296 → digits_from n t ≡ Some (behind n t)
unfolding digits_from behind
digits_back [] n h lt = refl
digits_back (c ∷ t) n h lt =
    let small : nat_lt (10 * n + (c - 48)) 4294967296 ≡ true = lt-ltb (10 * n + (c - 48)) 4294967296 (omega (arith, behind_more t (10 * n + (c - 48)), lt)) in
    rw (digit_back c h.0, small) (digits_back t (10 * n + (c - 48)) h.1 lt)

-- ---- numbers

some_long : (t : List ℕ) → is_nil t ≡ false → 1 ≤ length t
some_long [] h = absurd (false≢true (sym h))
some_long (c ∷ t) h = omega arith

long_some : (t : List ℕ) → 1 ≤ length t → is_nil t ≡ false
long_some [] h = absurd (omega arith)
long_some (c ∷ t) h = refl

pub natural_told : (w : List ℕ) → AllSome (λ n. IsNatural n w) (natural w)
unfolding natural
natural_told w = if_some (λ n. IsNatural n w) (is_nil w || nat_lt 10 (length w)) None (digits_from 0 w) (λ e. tt) (λ e.
    let both = or_parts (is_nil w) (nat_lt 10 (length w)) e in
    each_some (Told 0 w) (λ n. IsNatural n w) (digits_from 0 w) (digits_told w 0 (omega arith)) (λ m k. record { digits = k.digits; some = some_long w both.0; few = ltb-false 10 (length w) both.1; value = sym (k.value ∙ behind_none w); fits = k.fits }))

pub natural_back : (n : ℕ) (w : List ℕ) → IsNatural n w → natural w ≡ Some n
unfolding natural
natural_back n w h =
    let value : behind 0 w ≡ n = behind_none w ∙ h.value in
    let few : nat_lt 10 (length w) ≡ false = le-ltb 10 (length w) h.few in
    rw (long_some w h.some, few) (digits_back w 0 h.digits (omega (arith, value, h.fits)) ∙ ap Some value)

-- ---- numbers that may be below 0

below_told : (Q : ℤ → Type 0) (P : ℕ → Type 0) (o : Option ℕ) → AllSome P o → ((n : ℕ) → P n → Q (neg_ℤ (pos n))) → AllSome Q (below_zero o)
below_told Q P None h f = tt
below_told Q P (Some n) h f = f n h

above_told : (Q : ℤ → Type 0) (P : ℕ → Type 0) (o : Option ℕ) → AllSome P o → ((n : ℕ) → P n → Q (pos n)) → AllSome Q (above_zero o)
above_told Q P None h f = tt
above_told Q P (Some n) h f = f n h

pub integer_told : (w : List ℕ) → AllSome (λ z. IsInteger z w) (integer w)
unfolding integer
integer_told [] = tt
integer_told (c ∷ cs) = if_some (λ z. IsInteger z (c ∷ cs)) (c == 45) (below_zero (natural cs)) (above_zero (natural (c ∷ cs)))
    (λ e. below_told (λ z. IsInteger z (c ∷ cs)) (λ n. IsNatural n cs) (natural cs) (natural_told cs) (λ n h. inl (record { size = n; digits = cs; whole = ap (λ (k : ℕ). k ∷ cs) (eqb-true c 45 e); natural = h; value = refl })))
    (λ e. above_told (λ z. IsInteger z (c ∷ cs)) (λ n. IsNatural n (c ∷ cs)) (natural (c ∷ cs)) (natural_told (c ∷ cs)) (λ n h. inr (record { size = n; natural = h; value = refl })))

below_back : (n : ℕ) (cs : List ℕ) → IsNatural n cs → integer (45 ∷ cs) ≡ Some (neg_ℤ (pos n))
unfolding integer
below_back n cs h = rw (natural_back n cs h) refl

above_back : (n : ℕ) (w : List ℕ) → IsNatural n w → integer w ≡ Some (pos n)
unfolding integer
above_back n [] h = absurd (omega (arith, h.some))
above_back n (c ∷ cs) h =
    let no : (c == 45) ≡ false = ne_eqb c 45 (λ e. omega (arith, e, h.digits.0.0)) in
    rw (no, natural_back n (c ∷ cs) h) refl

pub integer_back : (z : ℤ) (w : List ℕ) → IsInteger z w → integer w ≡ Some z
integer_back z w (inl h) = ap integer h.whole ∙ (below_back h.size h.digits h.natural ∙ ap Some (sym h.value))
integer_back z w (inr h) = above_back h.size w h.natural ∙ ap Some (sym h.value)
