-- Changing each node of a forest: once, twice, and where the change is for one node alone.
use Rattle.std.proofs.Common.{◌≡◌, ◌≤◌, Bool, true, false, cond, Option, Some, refl, ap, arith}
use Rattle.std.specs.Option.{option_map}
use Rattle.wm_base.specs.declared.ids.ConId.{ConId}
use Rattle.wm_forest.specs.Change.{at, is_end, is_vacant, shown_of}
use Rattle.wm_forest.specs.declared.kind.KindEdit.{KindEdit}
use Rattle.wm_forest.specs.declared.part.ConPart.{ConPart}
use Rattle.wm_forest.specs.declared.part.ConState.{ConState}
use Rattle.wm_forest.specs.declared.part.NodeKind.{NodeKind}
use Rattle.wm_forest.specs.declared.part.NodeKind.TheVariants.{Root, Output, Space, Con}
use Rattle.wm_forest.specs.declared.part.Part.{Part}
use Rattle.wm_forest.specs.Each.{mapped}
use Rattle.wm_forest.specs.Forest.{Forest, end, con}
use Rattle.wm_forest.specs.Kinds.{changed, kind_changed}
use Rattle.wm_forest.specs.Look.{first_part, has, only, same}
use Rattle.wm_forest.specs.Settle.{is_settled}
use Rattle.wm_forest.specs.SoundRow.{one_of, tally}
use Rattle.wm_forest.proofs.CountLemmas.{counted, tally-absent}
use Rattle.wm_tree.specs.States.{kind_restated, part_restated}

-- a change that leaves each part leaves the forest
pub mapped_same : (h : Part → Part) → ((p : Part) → h p ≡ p) → (f : Forest) → mapped h f ≡ f
mapped_same h e end = refl
mapped_same h e (con part kids floats rest) = rw (e part, mapped_same h e kids, mapped_same h e floats, mapped_same h e rest) refl

pub mapped_alike : (g h : Part → Part) → ((p : Part) → g p ≡ h p) → (f : Forest) → mapped g f ≡ mapped h f
mapped_alike g h e end = refl
mapped_alike g h e (con part kids floats rest) = rw (e part, mapped_alike g h e kids, mapped_alike g h e floats, mapped_alike g h e rest) refl

-- two changes, one after the other, are one
pub mapped_twice : (g h k : Part → Part) → ((p : Part) → g (h p) ≡ k p) → (f : Forest) → mapped g (mapped h f) ≡ mapped k f
mapped_twice g h k e end = refl
mapped_twice g h k e (con part kids floats rest) = rw (e part, mapped_twice g h k e kids, mapped_twice g h k e floats, mapped_twice g h k e rest) refl

-- ---- a change for the node c alone

module _ (c : ConId) (h : Part → Part) (other : (p : Part) → same p.id c ≡ false → h p ≡ p) where
  not_c : (p : Part) → one_of c p ≤ 0 → h p ≡ p
  not_c p n = by_test (same p.id c) refl n
    where
      by_test : (b : Bool) → same p.id c ≡ b → cond b 1 0 ≤ 0 → h p ≡ p
      by_test true e n = absurd (omega (arith, n))
      by_test false e n = other p e

  away : (f : Forest) → tally c f ≤ 0 → mapped h f ≡ f
  away end n = refl
  away (con part kids floats rest) n =
      rw (not_c part (omega (arith, n)), away kids (omega (arith, n)), away floats (omega (arith, n)), away rest (omega (arith, n))) refl

  -- it leaves the forest where it leaves that node
  abbrev Fixes : Forest → Type 0
  Fixes f = tally c f ≤ 1 → ((p : Part) → first_part (only c f) ≡ Some p → h p ≡ p) → mapped h f ≡ f

  pub fixed : (f : Forest) → tally c f ≤ 1 → ((p : Part) → first_part (only c f) ≡ Some p → h p ≡ p) → mapped h f ≡ f
  fixed end once found = refl
  fixed (con part kids floats rest) once found = step (same part.id c) (has c kids) (has c floats) refl refl refl (fixed kids) (fixed floats) (fixed rest)
    where
      step : (a b d : Bool) → same part.id c ≡ a → has c kids ≡ b → has c floats ≡ d → Fixes kids → Fixes floats → Fixes rest → mapped h (con part kids floats rest) ≡ con part kids floats rest
      step true b d e f g u v x =
          let one : one_of c part ≡ 1 = rw e refl in
          rw (found part (rw e refl), away kids (omega (arith, once, one)), away floats (omega (arith, once, one)), away rest (omega (arith, once, one))) refl
      step false true d e f g u v x =
          let k = counted c kids f in
          rw (other part e, u (omega (arith, once)) (λ p q. found p (rw (e, f) q)), away floats (omega (arith, once, k)), away rest (omega (arith, once, k))) refl
      step false false true e f g u v x =
          let l = counted c floats g in
          rw (other part e, away kids (omega (arith, tally-absent c kids f)), v (omega (arith, once)) (λ p q. found p (rw (e, f, g) q)), away rest (omega (arith, once, l))) refl
      step false false false e f g u v x =
          rw (other part e, away kids (omega (arith, tally-absent c kids f)), away floats (omega (arith, tally-absent c floats g)), x (omega (arith, once)) (λ p q. found p (rw (e, f, g) q))) refl

  -- it is the change of that node
  abbrev Edits : KindEdit → Forest → Type 0
  Edits edit f = tally c f ≤ 1 → ((p : Part) → first_part (only c f) ≡ Some p → h p ≡ record p { kind = changed edit p.kind }) → mapped h f ≡ at c kind_changed edit f

  pub mapped_at : (edit : KindEdit) (f : Forest) → tally c f ≤ 1 → ((p : Part) → first_part (only c f) ≡ Some p → h p ≡ record p { kind = changed edit p.kind }) → mapped h f ≡ at c kind_changed edit f
  mapped_at edit end once found = refl
  mapped_at edit (con part kids floats rest) once found = step (same part.id c) (has c kids) (has c floats) refl refl refl (mapped_at edit kids) (mapped_at edit floats) (mapped_at edit rest)
    where
      step : (a b d : Bool) → same part.id c ≡ a → has c kids ≡ b → has c floats ≡ d → Edits edit kids → Edits edit floats → Edits edit rest → mapped h (con part kids floats rest) ≡ at c kind_changed edit (con part kids floats rest)
      step true b d e f g u v x =
          let one : one_of c part ≡ 1 = rw e refl in
          rw (e, found part (rw e refl), away kids (omega (arith, once, one)), away floats (omega (arith, once, one)), away rest (omega (arith, once, one))) refl
      step false true d e f g u v x =
          let k = counted c kids f in
          rw (e, f, other part e, u (omega (arith, once)) (λ p q. found p (rw (e, f) q)), away floats (omega (arith, once, k)), away rest (omega (arith, once, k))) refl
      step false false true e f g u v x =
          let l = counted c floats g in
          rw (e, f, g, other part e, away kids (omega (arith, tally-absent c kids f)), v (omega (arith, once)) (λ p q. found p (rw (e, f, g) q)), away rest (omega (arith, once, l))) refl
      step false false false e f g u v x =
          rw (e, f, g, other part e, away kids (omega (arith, tally-absent c kids f)), away floats (omega (arith, tally-absent c floats g)), x (omega (arith, once)) (λ p q. found p (rw (e, f, g) q))) refl

-- ---- looking at what was changed

module _ (h : Part → Part) (ids : (p : Part) → (h p).id ≡ p.id) where
  has_mapped : (c : ConId) (f : Forest) → has c (mapped h f) ≡ has c f
  has_mapped c end = refl
  has_mapped c (con part kids floats rest) = rw (ids part, has_mapped c kids, has_mapped c floats, has_mapped c rest) refl

  only_mapped : (c : ConId) (f : Forest) → only c (mapped h f) ≡ mapped h (only c f)
  only_mapped c end = refl
  only_mapped c (con part kids floats rest) =
      step (same (h part).id c) (same part.id c) (has c (mapped h kids)) (has c kids) (has c (mapped h floats)) (has c floats) (only c (mapped h kids)) (only c (mapped h floats)) (only c (mapped h rest))
      (ap (λ i. same i c) (ids part)) (has_mapped c kids) (has_mapped c floats) (only_mapped c kids) (only_mapped c floats) (only_mapped c rest)
    where
      pick : (a b d : Bool) → cond a (con (h part) (mapped h kids) (mapped h floats) end) (cond b (mapped h (only c kids)) (cond d (mapped h (only c floats)) (mapped h (only c rest)))) ≡ mapped h (cond a (con part kids floats end) (cond b (only c kids) (cond d (only c floats) (only c rest))))
      pick true b d = refl
      pick false true d = refl
      pick false false true = refl
      pick false false false = refl

      step : (a a' b b' d d' : Bool) (x y z : Forest) → a ≡ a' → b ≡ b' → d ≡ d' → x ≡ mapped h (only c kids) → y ≡ mapped h (only c floats) → z ≡ mapped h (only c rest)
          → cond a (con (h part) (mapped h kids) (mapped h floats) end) (cond b x (cond d y z)) ≡ mapped h (cond a' (con part kids floats end) (cond b' (only c kids) (cond d' (only c floats) (only c rest))))
      step a a' b b' d d' x y z e f g u v w = rw (e, f, g, u, v, w) (pick a' b' d')

  first_mapped : (f : Forest) → first_part (mapped h f) ≡ option_map h (first_part f)
  first_mapped end = refl
  first_mapped (con part kids floats rest) = refl

  pub part_mapped : (c : ConId) (f : Forest) → first_part (only c (mapped h f)) ≡ option_map h (first_part (only c f))
  part_mapped c f = rw (only_mapped c f) (first_mapped (only c f))

-- ---- settling

module _ (g : ConId → ConPart → ConState) where
  end_mapped : (f : Forest) → is_end (mapped (part_restated g) f) ≡ is_end f
  end_mapped end = refl
  end_mapped (con part kids floats rest) = refl

  shown_kept : (id : ConId) (kind : NodeKind) → shown_of (kind_restated g id kind) ≡ shown_of kind
  shown_kept id (Root c) = refl
  shown_kept id (Output o) = refl
  shown_kept id (Space s) = refl
  shown_kept id (Con c) = refl

  vacant_kept : (shown : Option ConId) (id : ConId) (kind : NodeKind) (kids floats : Forest) → is_vacant shown id (kind_restated g id kind) (mapped (part_restated g) kids) (mapped (part_restated g) floats) ≡ is_vacant shown id kind kids floats
  vacant_kept shown id (Root c) kids floats = refl
  vacant_kept shown id (Output o) kids floats = refl
  vacant_kept shown id (Space s) kids floats = rw (end_mapped kids, end_mapped floats) refl
  vacant_kept shown id (Con c) kids floats = rw (end_mapped kids) refl

  -- other states leave nothing to settle where nothing was
  pub settled_kept : (shown : Option ConId) (f : Forest) → is_settled shown (mapped (part_restated g) f) ≡ is_settled shown f
  settled_kept shown end = refl
  settled_kept shown (con part kids floats rest) =
      rw (vacant_kept shown part.id part.kind kids floats, shown_kept part.id part.kind, settled_kept (shown_of part.kind) kids, settled_kept shown rest) refl
