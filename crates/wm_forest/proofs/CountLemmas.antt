-- What a change takes out and puts in is counted.
use Rattle.std.proofs.Common.{◌≡◌, ℕ, ◌+◌, ◌≤◌, Bool, true, false, cond, ◌||◌, Option, refl, arith}
use Rattle.wm_base.specs.declared.ids.ConId.{ConId}
use Rattle.wm_forest.specs.declared.part.Part.{Part}
use Rattle.wm_forest.specs.declared.place.Place.{Place}
use Rattle.wm_forest.specs.declared.place.Place.TheVariants.{After, Before, First, Last, Float, Scratchpad}
use Rattle.wm_forest.specs.Forest.{Forest, end, con}
use Rattle.wm_forest.specs.Change.{append, at, is_vacant, settled_row, shown_of, without}
use Rattle.wm_forest.specs.Counts.{count}
use Rattle.wm_forest.specs.Look.{same, has, only}
use Rattle.wm_forest.specs.Place.{named, put, put_word}
use Rattle.wm_forest.specs.SoundRow.{tally}
use Rattle.wm_forest.proofs.ChangeLemmas.{by_change}
use Rattle.wm_forest.proofs.ForestLemmas.{or_false}

-- a node that is there is found
abbrev gain : ℕ → Forest → ℕ
gain n end = 0
gain n (con part kids floats rest) = n

gain_step : (n : ℕ) (c : ConId) (a k l r : Bool) (part : Part) (kids floats rest : Forest) → (k ≡ true → gain n (only c kids) ≡ n) → (l ≡ true → gain n (only c floats) ≡ n)
    → (r ≡ true → gain n (only c rest) ≡ n) → (a || k || l || r) ≡ true → gain n (cond a (con part kids floats end) (cond k (only c kids) (cond l (only c floats) (only c rest)))) ≡ n
gain_step n c true k l r part kids floats rest p q s h = refl
gain_step n c false true l r part kids floats rest p q s h = p refl
gain_step n c false false true r part kids floats rest p q s h = q refl
gain_step n c false false false r part kids floats rest p q s h = s h

gained : (n : ℕ) (c : ConId) (f : Forest) → has c f ≡ true → gain n (only c f) ≡ n
gained n c end h = cc
gained n c (con part kids floats rest) h =
    gain_step n c (same part.id c) (has c kids) (has c floats) (has c rest) part kids floats rest (gained n c kids) (gained n c floats) (gained n c rest) h

module _ (m : Part → ℕ) where
  pub count-append : (a b : Forest) → count m (append a b) ≡ count m a + count m b
  count-append end b = omega arith
  count-append (con part kids floats rest) b = omega (arith, count-append rest b)

  -- what is taken out and what is left make the whole
  pub count-without : (c : ConId) (f : Forest) → count m (without c f) + count m (only c f) ≡ count m f
  count-without c =
      by_change c (λ row part kids floats rest. rest) end (λ old new found. count m new + count m found ≡ count m old) refl
      (λ part kids floats rest. omega arith)
      (λ part kids floats rest new found h. omega (arith, h))
      (λ part kids floats rest new found h. omega (arith, h))
      (λ part kids floats rest new found h. omega (arith, h))

  -- a change that adds n where it is made
  count-gain : {X : Type 0} (c : ConId) (f : X → Part → Forest → Forest → Forest → Forest) (x : X) (n : ℕ)
      → ((part : Part) (kids floats rest : Forest) → count m (f x part kids floats rest) ≡ count m (con part kids floats rest) + n) → (forest : Forest) → count m (at c f x forest) ≡ count m forest + gain n (only c forest)
  count-gain c f x n here =
      by_change c f x (λ old new found. count m new ≡ count m old + gain n found) (omega arith)
      (λ part kids floats rest. here part kids floats rest)
      (λ part kids floats rest new found h. omega (arith, h))
      (λ part kids floats rest new found h. omega (arith, h))
      (λ part kids floats rest new found h. omega (arith, h))

  -- a change that keeps the count where it is made keeps it
  pub count-same : {X : Type 0} (c : ConId) (f : X → Part → Forest → Forest → Forest → Forest) (x : X)
      → ((part : Part) (kids floats rest : Forest) → count m (f x part kids floats rest) ≡ count m (con part kids floats rest)) → (forest : Forest) → count m (at c f x forest) ≡ count m forest
  count-same c f x here =
      by_change c f x (λ old new found. count m new ≡ count m old) refl
      (λ part kids floats rest. here part kids floats rest)
      (λ part kids floats rest new found h. omega (arith, h))
      (λ part kids floats rest new found h. omega (arith, h))
      (λ part kids floats rest new found h. omega (arith, h))

  -- a change that adds n where it is made, at a node that is there
  pub count-more : {X : Type 0} (c : ConId) (f : X → Part → Forest → Forest → Forest → Forest) (x : X) (n : ℕ)
      → ((part : Part) (kids floats rest : Forest) → count m (f x part kids floats rest) ≡ count m (con part kids floats rest) + n) → (forest : Forest) → has c forest ≡ true → count m (at c f x forest) ≡ count m forest + n
  count-more c f x n here forest there = omega (arith, count-gain c f x n here forest, gained n c forest there)

  put_here : (p : Place) (row : Forest) (part : Part) (kids floats rest : Forest) → count m (put_word p row part kids floats rest) ≡ count m (con part kids floats rest) + count m row
  put_here (After c) row part kids floats rest = omega (arith, count-append row rest)
  put_here (Before c) row part kids floats rest = omega (arith, count-append row (con part kids floats rest))
  put_here (First c) row part kids floats rest = omega (arith, count-append row kids)
  put_here (Last c) row part kids floats rest = omega (arith, count-append kids row)
  put_here (Float w r) row part kids floats rest = omega (arith, count-append floats row)
  put_here (Scratchpad r) row part kids floats rest = omega (arith, count-append floats row)

  -- what is put at a place that is there is added
  pub count-put : (p : Place) (row forest : Forest) → has (named p) forest ≡ true → count m (put p row forest) ≡ count m forest + count m row
  count-put p row forest there = count-more (named p) (put_word p) row (count m row) (put_here p row) forest there

  settled_step : (b : Bool) (shown : Option ConId) (part : Part) (kids floats rest : Forest) → count m (settled_row (shown_of part.kind) kids) ≤ count m kids → count m (settled_row shown rest) ≤ count m rest
      → count m (cond b (settled_row shown rest) (con part (settled_row (shown_of part.kind) kids) floats (settled_row shown rest))) ≤ count m (con part kids floats rest)
  settled_step true shown part kids floats rest p q = omega (arith, q)
  settled_step false shown part kids floats rest p q = omega (arith, p, q)

  -- settling adds nothing
  pub count-settled : (shown : Option ConId) (f : Forest) → count m (settled_row shown f) ≤ count m f
  count-settled shown end = omega arith
  count-settled shown (con part kids floats rest) =
      settled_step (is_vacant shown part.id part.kind (settled_row (shown_of part.kind) kids) floats) shown part kids floats rest (count-settled (shown_of part.kind) kids) (count-settled shown rest)

-- a node that is there is counted
pub counted : (c : ConId) (f : Forest) → has c f ≡ true → 1 ≤ tally c f
counted c end h = cc
counted c (con part kids floats rest) h =
    counts (same part.id c) (has c kids) (has c floats) (has c rest) (tally c kids) (tally c floats) (tally c rest) (counted c kids) (counted c floats) (counted c rest) h
  where
    counts : (a k l r : Bool) (x y z : ℕ) → (k ≡ true → 1 ≤ x) → (l ≡ true → 1 ≤ y) → (r ≡ true → 1 ≤ z) → (a || k || l || r) ≡ true → 1 ≤ cond a 1 0 + x + y + z
    counts true k l r x y z p q s h = omega arith
    counts false true l r x y z p q s h = omega (arith, p refl)
    counts false false true r x y z p q s h = omega (arith, q refl)
    counts false false false true x y z p q s h = omega (arith, s refl)
    counts false false false false x y z p q s h = cc

-- one that is not there is not counted
pub tally-absent : (c : ConId) (f : Forest) → has c f ≡ false → tally c f ≡ 0
tally-absent c end h = refl
tally-absent c (con part kids floats rest) h =
    let r = or_false (same part.id c || has c kids || has c floats) (has c rest) h in
    let q = or_false (same part.id c || has c kids) (has c floats) r.0 in
    let p = or_false (same part.id c) (has c kids) q.0 in
    rw p.0 (omega (arith, tally-absent c kids p.1, tally-absent c floats q.1, tally-absent c rest r.1))

-- a node that is counted is there
pub there : (c : ConId) (f : Forest) → 1 ≤ tally c f → has c f ≡ true
there c f h = by_test (has c f) refl
  where
    by_test : (b : Bool) → has c f ≡ b → has c f ≡ true
    by_test true e = e
    by_test false e = absurd (omega (arith, tally-absent c f e))

found_step : (c : ConId) (a k l r : Bool) (part : Part) (kids floats rest : Forest) → same part.id c ≡ a → (k ≡ true → 1 ≤ tally c (only c kids)) → (l ≡ true → 1 ≤ tally c (only c floats))
    → (r ≡ true → 1 ≤ tally c (only c rest)) → (a || k || l || r) ≡ true → 1 ≤ tally c (cond a (con part kids floats end) (cond k (only c kids) (cond l (only c floats) (only c rest))))
found_step c true k l r part kids floats rest e p q s h = rw e (omega arith)
found_step c false true l r part kids floats rest e p q s h = p refl
found_step c false false true r part kids floats rest e p q s h = q refl
found_step c false false false r part kids floats rest e p q s h = s h

-- a node that is there is counted in what is taken out
pub found_counted : (c : ConId) (f : Forest) → has c f ≡ true → 1 ≤ tally c (only c f)
found_counted c end h = cc
found_counted c (con part kids floats rest) h =
    found_step c (same part.id c) (has c kids) (has c floats) (has c rest) part kids floats rest refl (found_counted c kids) (found_counted c floats) (found_counted c rest) h
