-- Plain patterns, a character at a time.
use Rattle.std.proofs.Common.{◌≡◌, ℕ, ◌-◌, ◌<◌, ◌≤◌, Bool, true, false, List, [], ◌∷◌, length, take, drop, get_or, take_all, Option, Some, None, refl, sym, ◌∙◌, ap, subst, arith, eqb-true, eq-eqb, ne_eqb}
use Rattle.std.proofs.Math.Dec.{eqb-suc-suc}
use Rattle.std.specs.Prelude.{◌||◌, ◌==◌, is_some, if◌then◌else◌}
use Rattle.std.specs.Option.{option_map_or}
use Rattle.wm_criteria.specs.Plain.{Characters, character, characters, with_character, is_last, is_special, is_quotable, stands, is_part}

-- ---- what a pattern is, from its first character on

abbrev pub First : Type 0
First = Option (ℕ × List ℕ)

-- the two definitions at patterns of one byte and of more, over what their tests say
abbrev first_of_one : ℕ → Bool → First
first_of_one x special = if◌then◌else◌ {A = First} special None (Some (x, []))

abbrev all_of_one : ℕ → Bool → Bool → Characters
all_of_one x last special = if◌then◌else◌ {A = Characters} last (Some ([], true)) (if◌then◌else◌ {A = Characters} special None (Some (x ∷ [], false)))

abbrev pub first_of_more : ℕ → ℕ → List ℕ → Bool → Bool → Bool → First
first_of_more x d s mark quotable special = if◌then◌else◌ {A = First} mark (if◌then◌else◌ {A = First} quotable (Some (d, s)) None) (if◌then◌else◌ {A = First} special None (Some (x, d ∷ s)))

abbrev all_of_more : ℕ → ℕ → List ℕ → Bool → Bool → Bool → Characters
all_of_more x d s mark quotable special = if mark then (if quotable then with_character d (characters s) else None) else if special then None else with_character x (characters (d ∷ s))

same_first : (p q : ℕ × List ℕ) (a b : First) → a ≡ Some p → b ≡ Some q → a ≡ b → p ≡ q
same_first p q a b e f g = cc

-- a pattern of this first character and this rest
abbrev joined : ℕ × List ℕ → Characters
joined p = with_character p.0 (characters p.1)

one_left : (x : ℕ) (last special : Bool) (c : ℕ) (r : List ℕ) → (last ≡ true → special ≡ true) → first_of_one x special ≡ Some (c, r) → all_of_one x last special ≡ with_character c (characters r)
unfolding characters
one_left x true true c r h e = cc
one_left x true false c r h e = let f : false ≡ true = h refl in cc
one_left x false true c r h e = cc
one_left x false false c r h e = ap joined (same_first (x, []) (c, r) _ _ refl refl e)

more_left : (x d : ℕ) (s : List ℕ) (mark quotable special : Bool) (c : ℕ) (r : List ℕ) → first_of_more x d s mark quotable special ≡ Some (c, r) → all_of_more x d s mark quotable special ≡ with_character c (characters r)
more_left x d s true true special c r e = ap joined (same_first (d, s) (c, r) _ _ refl refl e)
more_left x d s true false special c r e = cc
more_left x d s false quotable true c r e = cc
more_left x d s false quotable false c r e = ap joined (same_first (x, d ∷ s) (c, r) _ _ refl refl e)

last_special : (x : ℕ) → (x == 36) ≡ true → is_special x ≡ true
last_special x e = subst (λ (y : ℕ). is_special y ≡ true) (sym (eqb-true x 36 e)) refl

pub characters-step : (s : List ℕ) (c : ℕ) (r : List ℕ) → character s ≡ Some (c, r) → characters s ≡ with_character c (characters r)
unfolding characters
characters-step [] c r e = cc
characters-step (x ∷ []) c r e = one_left x (x == 36) (is_special x) c r (last_special x) e
characters-step (x ∷ d ∷ s) c r e = more_left x d s (x == 92) (is_quotable d) (is_special x) c r e

-- ---- at the end of a pattern

one_ended : (x : ℕ) (last special : Bool) → first_of_one x special ≡ None → is_some (all_of_one x last special) ≡ last
one_ended x true special e = refl
one_ended x false true e = refl
one_ended x false false e = cc

more_ended : (x d : ℕ) (s : List ℕ) (mark quotable special : Bool) → first_of_more x d s mark quotable special ≡ None → is_some (all_of_more x d s mark quotable special) ≡ false
more_ended x d s true true special e = cc
more_ended x d s true false special e = refl
more_ended x d s false quotable true e = refl
more_ended x d s false quotable false e = cc

pub is_some-characters-last : (s : List ℕ) → character s ≡ None → is_some (characters s) ≡ is_last s
unfolding characters
is_some-characters-last [] e = refl
is_some-characters-last (x ∷ []) e = one_ended x (x == 36) (is_special x) e
is_some-characters-last (x ∷ d ∷ s) e = more_ended x d s (x == 92) (is_quotable d) (is_special x) e

pub is_some-with_character : (c : ℕ) (o : Characters) → is_some (with_character c o) ≡ is_some o
is_some-with_character c None = refl
is_some-with_character c (Some x) = refl

pub is_some-characters-step : (s : List ℕ) (c : ℕ) (r : List ℕ) → character s ≡ Some (c, r) → is_some (characters s) ≡ is_some (characters r)
is_some-characters-step s c r e = ap (λ (o : Characters). is_some o) (characters-step s c r e) ∙ is_some-with_character c (characters r)

-- ---- characters that stand at the beginning of a text

-- the characters, where they are some, stand there
abbrev pub wanted_at : Characters → List ℕ → Bool
wanted_at o t = option_map_or (λ x. stands x.0 x.1 t) o false

pub stands-same : (c : ℕ) (w : List ℕ) (last : Bool) (t : List ℕ) → stands (c ∷ w) last (c ∷ t) ≡ stands w last t
stands-same c w last t = rw (eq-eqb c c refl, eqb-suc-suc (length t) (length w)) refl

wanted_at-same : (c : ℕ) (o : Characters) (t : List ℕ) → wanted_at (with_character c o) (c ∷ t) ≡ wanted_at o t
wanted_at-same c None t = refl
wanted_at-same c (Some x) t = stands-same c x.0 x.1 t

wanted_at-first : (c : ℕ) (o : Characters) (t : List ℕ) → 1 ≤ length t → get_or t 0 0 ≡ c → wanted_at (with_character c o) t ≡ wanted_at o (take (length t - 1) (drop 1 t))
wanted_at-first c o [] h e = absurd (omega arith)
wanted_at-first c o (d ∷ t) h e =
    let behind : take (length (d ∷ t) - 1) t ≡ t = take_all (length (d ∷ t) - 1) t (omega arith) in
    rw (behind, e) (wanted_at-same c o t)

wanted_at-other : (c : ℕ) (o : Characters) (t : List ℕ) → 1 ≤ length t → (get_or t 0 0 ≡ c → ⊥) → wanted_at (with_character c o) t ≡ false
wanted_at-other c None t h k = refl
wanted_at-other c (Some x) [] h k = absurd (omega arith)
wanted_at-other c (Some x) (d ∷ t) h k = let e : (c == d) ≡ false = ne_eqb c d (λ f. k (sym f)) in rw e refl

wanted_at-short : (c : ℕ) (o : Characters) (t : List ℕ) → length t < 1 → wanted_at (with_character c o) t ≡ false
wanted_at-short c None t h = refl
wanted_at-short c (Some x) [] h = refl
wanted_at-short c (Some x) (d ∷ t) h = absurd (omega arith)

-- the first character of a pattern stands first in the text, and what follows it has to stand behind it
pub wanted-first : (s : List ℕ) (c : ℕ) (r t : List ℕ) → character s ≡ Some (c, r) → 1 ≤ length t → get_or t 0 0 ≡ c → wanted_at (characters s) t ≡ wanted_at (characters r) (take (length t - 1) (drop 1 t))
wanted-first s c r t e h k = rw (characters-step s c r e) (wanted_at-first c (characters r) t h k)

pub wanted-other : (s : List ℕ) (c : ℕ) (r t : List ℕ) → character s ≡ Some (c, r) → 1 ≤ length t → (get_or t 0 0 ≡ c → ⊥) → wanted_at (characters s) t ≡ false
wanted-other s c r t e h k = rw (characters-step s c r e) (wanted_at-other c (characters r) t h k)

pub wanted-short : (s : List ℕ) (c : ℕ) (r t : List ℕ) → character s ≡ Some (c, r) → length t < 1 → wanted_at (characters s) t ≡ false
wanted-short s c r t e h = rw (characters-step s c r e) (wanted_at-short c (characters r) t h)

one_last : (x : ℕ) (t : List ℕ) (last special : Bool) → first_of_one x special ≡ None → is_some (all_of_one x last special) ≡ true → wanted_at (all_of_one x last special) t ≡ (length t == 0)
one_last x t true special e p = refl
one_last x t false true e p = cc
one_last x t false false e p = cc

pub wanted-last : (s t : List ℕ) → character s ≡ None → is_some (characters s) ≡ true → wanted_at (characters s) t ≡ ((length s == 0) || (length t == 0))
unfolding characters
wanted-last [] t e p = refl
wanted-last (x ∷ []) t e p = one_last x t (x == 36) (is_special x) e p
wanted-last (x ∷ d ∷ s) t e p = let none : false ≡ true = sym (more_ended x d s (x == 92) (is_quotable d) (is_special x) e) ∙ p in cc

-- ---- characters that stand at some place of a text

pub part-here : (o : Characters) (t : List ℕ) → wanted_at o t ≡ true → option_map_or (λ x. is_part x.0 x.1 t) o false ≡ true
part-here None t h = h
part-here (Some x) [] h = rw h refl
part-here (Some x) (c ∷ t) h = rw h refl
