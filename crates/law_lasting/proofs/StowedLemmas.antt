-- Rows of the scratchpad under changes at one node.
use Rattle.std.proofs.Common.{◌≡◌, Bool, true, false, cond, ◌||◌, refl, ap, ◌∙◌}
use Rattle.wm_base.specs.declared.ids.ConId.{ConId}
use Rattle.law_lasting.specs.Rows.{AreStowed, is_stowed}
use Rattle.wm_forest.proofs.ChangeLemmas.{by_change}
use Rattle.wm_forest.proofs.ForestLemmas.{or_false}
use Rattle.wm_forest.proofs.RecencyLemmas.{same_is}
use Rattle.wm_forest.specs.Change.{at}
use Rattle.wm_forest.specs.declared.part.Part.{Part}
use Rattle.wm_forest.specs.Forest.{Forest, end, con}
use Rattle.wm_forest.specs.Look.{first_floats, has, in_row, only, same}
use Rattle.wm_forest.specs.RootId.{root}

-- the forest begins with the root, and its second row has only flagged containers with a rectangle
abbrev pub Stowed : Forest → Type 0
Stowed end = Unit {0}
Stowed (con part kids floats rest) = (same part.id root ≡ true) × AreStowed floats

pub row_of : (f : Forest) → Stowed f → AreStowed (first_floats f)
row_of end p = tt
row_of (con part kids floats rest) p = p.1

-- a node that is not the root is not the first one
pub not_first : (i c : ConId) → same i root ≡ true → same root c ≡ false → same i c ≡ false
not_first i c own low = let one : i ≡ root = same_is i root own in ap (λ j. same j c) one ∙ low

-- ---- a change at one node, wherever that stands

module _ {X : Type 0} (c : ConId) (f : X → Part → Forest → Forest → Forest → Forest) (x : X) (F : Forest → Type 0)
    (own : (part : Part) (kids floats rest : Forest) → F (con part kids floats end) → is_stowed part.kind ≡ true → AreStowed rest → AreStowed (f x part kids floats rest))
  where
    -- the change right in a row
    pub row_at : (row : Forest) → F (only c row) → AreStowed row → AreStowed (at c f x row)
    row_at =
        by_change c f x (λ old new found. F found → AreStowed old → AreStowed new) (λ g p. p)
        (λ part kids floats rest g p. own part kids floats rest g p.0 p.1)
        (λ part kids floats rest new found h g p. p)
        (λ part kids floats rest new found h g p. p)
        (λ part kids floats rest new found h g p. (p.0, h g p.1))

    -- the same in a whole forest, also at its first node
    pub stowed_at : ((part : Part) (kids floats rest : Forest) → F (con part kids floats end) → same part.id root ≡ true → AreStowed floats → Stowed (f x part kids floats rest)) → (forest : Forest) → F (only c forest) → Stowed forest → Stowed (at c f x forest)
    stowed_at first forest g = (whole forest).1 g
      where
        whole : (h : Forest) → (F (only c h) → AreStowed h → AreStowed (at c f x h)) × (F (only c h) → Stowed h → Stowed (at c f x h))
        whole =
            by_change c f x (λ old new found. (F found → AreStowed old → AreStowed new) × (F found → Stowed old → Stowed new)) (λ g p. p, λ g p. p)
            (λ part kids floats rest. (λ g p. own part kids floats rest g p.0 p.1, λ g p. first part kids floats rest g p.0 p.1))
            (λ part kids floats rest new found h. (λ g p. p, λ g p. p))
            (λ part kids floats rest new found h. (λ g p. p, λ g p. (p.0, h.0 g p.1)))
            (λ part kids floats rest new found h. (λ g p. (p.0, h.0 g p.1), λ g p. p))

-- ---- a change below the first node

module _ {X : Type 0} (c : ConId) (f : X → Part → Forest → Forest → Forest → Forest) (x : X) where
  -- what holds of the second row after the change holds where the change is below the first node
  below_first : (Q : Forest → Type 0) (part : Part) (kids floats rest : Forest) → same part.id c ≡ false → Q floats → Q (at c f x floats) → Q (first_floats (at c f x (con part kids floats rest)))
  below_first Q part kids floats rest other p q = rw other (step (has c kids) (has c floats))
    where
      step : (k l : Bool) → Q (first_floats (cond k (con part (at c f x kids) floats rest) (cond l (con part kids (at c f x floats) rest) (con part kids floats (at c f x rest)))))
      step true l = p
      step false true = q
      step false false = p

  keeps_first : (part : Part) (kids floats rest : Forest) → same part.id c ≡ false → same part.id root ≡ true → AreStowed floats → AreStowed (at c f x floats) → Stowed (at c f x (con part kids floats rest))
  keeps_first part kids floats rest other own p q = rw other (step (has c kids) (has c floats))
    where
      step : (k l : Bool) → Stowed (cond k (con part (at c f x kids) floats rest) (cond l (con part kids (at c f x floats) rest) (con part kids floats (at c f x rest))))
      step true l = (own, p)
      step false true = (own, q)
      step false false = (own, p)

  -- a change at a node that is not the root
  pub stowed_apart : same root c ≡ false → ((part : Part) (kids floats rest : Forest) → is_stowed part.kind ≡ true → AreStowed rest → AreStowed (f x part kids floats rest)) → (forest : Forest) → Stowed forest → Stowed (at c f x forest)
  stowed_apart low own end p = p
  stowed_apart low own (con part kids floats rest) p =
      keeps_first part kids floats rest (not_first part.id c p.0 low) p.0 p.1 (row_at c f x (λ g. Unit {0}) (λ q ks fs r g. own q ks fs r) floats tt p.1)

  -- ---- a change below the nodes of a row

  row_deep : (row : Forest) → in_row c row ≡ false → AreStowed row → AreStowed (at c f x row)
  row_deep end out p = p
  row_deep (con part kids floats rest) out p =
      let apart = or_false (same part.id c) (in_row c rest) out in
      rw apart.0 (step (has c kids) (has c floats) (row_deep rest apart.1 p.1))
    where
      step : (k l : Bool) → AreStowed (at c f x rest) → AreStowed (cond k (con part (at c f x kids) floats rest) (cond l (con part kids (at c f x floats) rest) (con part kids floats (at c f x rest))))
      step true l q = p
      step false true q = p
      step false false q = (p.0, q)

  -- a change at a node that is neither the root nor in the scratchpad's row
  pub stowed_deep : same root c ≡ false → (forest : Forest) → in_row c (first_floats forest) ≡ false → Stowed forest → Stowed (at c f x forest)
  stowed_deep low end out p = p
  stowed_deep low (con part kids floats rest) out p = keeps_first part kids floats rest (not_first part.id c p.0 low) p.0 p.1 (row_deep floats out p.1)

  -- ---- who stands in the row

  -- another node is not in the row after the change where it was not
  row_lacks : (v : ConId) → ((part : Part) (kids floats rest : Forest) → in_row v (con part kids floats rest) ≡ false → in_row v (f x part kids floats rest) ≡ false) → (row : Forest) → in_row v row ≡ false → in_row v (at c f x row) ≡ false
  row_lacks v own =
      by_change c f x (λ old new found. in_row v old ≡ false → in_row v new ≡ false) (λ h. h)
      (λ part kids floats rest h. own part kids floats rest h)
      (λ part kids floats rest new found k h. h)
      (λ part kids floats rest new found k h. h)
      (λ part kids floats rest new found k h. let apart = or_false (same part.id v) (in_row v rest) h in neither (same part.id v) (in_row v new) apart.0 (k apart.1))
    where
      neither : (a b : Bool) → a ≡ false → b ≡ false → (a || b) ≡ false
      neither a b p q = rw (p, q) refl

  -- the same of the scratchpad's row, where the change is not at the root
  pub lacks_apart : (v : ConId) → same root c ≡ false → ((part : Part) (kids floats rest : Forest) → in_row v (con part kids floats rest) ≡ false → in_row v (f x part kids floats rest) ≡ false) → (forest : Forest) → Stowed forest
      → in_row v (first_floats forest) ≡ false → in_row v (first_floats (at c f x forest)) ≡ false
  lacks_apart v low own end p out = out
  lacks_apart v low own (con part kids floats rest) p out = below_first (λ row. in_row v row ≡ false) part kids floats rest (not_first part.id c p.0 low) out (row_lacks v own floats out)

  row_lacks_deep : (v : ConId) (row : Forest) → in_row c row ≡ false → in_row v row ≡ false → in_row v (at c f x row) ≡ false
  row_lacks_deep v end out h = h
  row_lacks_deep v (con part kids floats rest) out h =
      let apart = or_false (same part.id c) (in_row c rest) out in
      let other = or_false (same part.id v) (in_row v rest) h in
      rw apart.0 (step (has c kids) (has c floats) other.0 (row_lacks_deep v rest apart.1 other.1))
    where
      step : (k l : Bool) → same part.id v ≡ false → in_row v (at c f x rest) ≡ false
          → in_row v (cond k (con part (at c f x kids) floats rest) (cond l (con part kids (at c f x floats) rest) (con part kids floats (at c f x rest)))) ≡ false
      step true l e q = h
      step false true e q = h
      step false false e q = rw (e, q) refl

  pub lacks_deep : (v : ConId) → same root c ≡ false → (forest : Forest) → Stowed forest → in_row c (first_floats forest) ≡ false → in_row v (first_floats forest) ≡ false → in_row v (first_floats (at c f x forest)) ≡ false
  lacks_deep v low end p out h = h
  lacks_deep v low (con part kids floats rest) p out h = below_first (λ row. in_row v row ≡ false) part kids floats rest (not_first part.id c p.0 low) h (row_lacks_deep v floats out h)
