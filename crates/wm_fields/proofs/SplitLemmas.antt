-- A text is split into its lines.
use Rattle.std.proofs.Common.{◌≡◌, ℕ, zero, suc, ◌+◌, ◌-◌, ◌<◌, ◌≤◌, Bool, true, false, cond, not, eqb, List, [], ◌∷◌, length, take, drop, refl, ap, ap₂, sym, ◌∙◌, arith}
use Rattle.std.specs.List.{take_while, prefix_len}
use Rattle.std.proofs.lemmas.List.{length-take-le, take_all}
use Rattle.wm_fields.specs.Split.{lines_of, onto_first}

-- how many bytes stand before the first line feed
abbrev pub feed_at : List ℕ → ℕ
feed_at [] = zero
feed_at (c ∷ cs) = cond (eqb c 10) zero (suc (feed_at cs))

count_step : (b : Bool) (x y : ℕ) → x ≡ y → cond (not b) (1 + x) 0 ≡ cond b zero (suc y)
count_step true x y e = refl
count_step false x y e = omega arith

prefix_feed : (text : List ℕ) → prefix_len (λ c. not (eqb c 10)) text ≡ feed_at text
prefix_feed [] = refl
prefix_feed (c ∷ cs) = count_step (eqb c 10) (prefix_len (λ c. not (eqb c 10)) cs) (feed_at cs) (prefix_feed cs)

within_step : (b : Bool) (x y : ℕ) → x ≤ y → cond b zero (suc x) ≤ suc y
within_step true x y h = omega arith
within_step false x y h = omega arith

feed_within : (text : List ℕ) → feed_at text ≤ length text
feed_within [] = omega arith
feed_within (c ∷ cs) = within_step (eqb c 10) (feed_at cs) (length cs) (feed_within cs)

pub length-before_feed : (text : List ℕ) → length (take_while (λ c. not (eqb c 10)) text) ≡ feed_at text
length-before_feed text = rw (prefix_feed text) (length-take-le (feed_at text) text (feed_within text))

first_step : (b : Bool) (c : ℕ) (cs : List ℕ) → eqb c 10 ≡ b → (0 < length cs → lines_of cs ≡ take (feed_at cs) cs ∷ lines_of (drop (suc (feed_at cs)) cs))
    → lines_of (c ∷ cs) ≡ take (feed_at (c ∷ cs)) (c ∷ cs) ∷ lines_of (drop (suc (feed_at (c ∷ cs))) (c ∷ cs))
first_step true c cs e rest = rw e refl
first_step false c [] e rest = rw e refl
first_step false c (d ∷ ds) e rest = rw e (ap (onto_first c) (rest (omega arith)))

-- the first line goes up to the first line feed
pub first_line_is : (text : List ℕ) → 0 < length text → lines_of text ≡ take (feed_at text) text ∷ lines_of (drop (suc (feed_at text)) text)
first_line_is [] h = absurd (omega arith)
first_line_is (c ∷ cs) h = first_step (eqb c 10) c cs refl (first_line_is cs)

drop_one : (k : ℕ) (text : List ℕ) → drop 1 (drop k text) ≡ drop (suc k) text
drop_one zero text = refl
drop_one (suc k) [] = refl
drop_one (suc k) (c ∷ cs) = drop_one k cs

-- the text is split before its first line feed
pub split_line : (text front back rest : List ℕ) (end : ℕ) → 0 < length text → end ≡ length (take_while (λ c. not (eqb c 10)) text) → front ≡ take end text → back ≡ drop end text → rest ≡ drop 1 back
    → lines_of text ≡ front ∷ lines_of rest
split_line text front back rest end some e f b r =
    let at : end ≡ feed_at text = e ∙ length-before_feed text in
    first_line_is text some
    ∙ ap₂ (λ x y. x ∷ lines_of y) (ap (λ k. take k text) (sym at) ∙ sym f) (sym (drop_one (feed_at text) text) ∙ (ap (λ k. drop 1 (drop k text)) (sym at) ∙ (ap (drop 1) (sym b) ∙ sym r)))

pub nothing_behind : (back : List ℕ) → length back ≡ 0 → back ≡ drop 1 back
nothing_behind [] h = refl
nothing_behind (c ∷ cs) h = absurd (omega arith)

pub all_behind : (back : List ℕ) → take (length back - 1) (drop 1 back) ≡ drop 1 back
all_behind [] = refl
all_behind (c ∷ cs) = take_all (suc (length cs) - 1) cs (omega arith)
