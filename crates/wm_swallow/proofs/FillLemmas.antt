-- A placeholder that becomes a window: what of the forest stays, and what the placeholder is afterwards.
use Rattle.std.proofs.Common.{◌≡◌, ℕ, Bool, true, false, cond, ◌++◌, Option, Some, None, refl, ap}
use Rattle.std.specs.Option.{option_map_or}
use Rattle.wm_base.specs.declared.geometry.Size.{Size}
use Rattle.wm_base.specs.declared.ids.ConId.{ConId}
use Rattle.wm_base.specs.declared.properties.Props.{Props}
use Rattle.wm_criteria.specs.Gathered.{con_ids, own_id}
use Rattle.wm_forest.specs.declared.kind.KindEdit.{KindEdit}
use Rattle.wm_forest.specs.declared.kind.KindEdit.TheVariants as edits
use Rattle.wm_forest.specs.declared.part.ConKind.{ConKind}
use Rattle.wm_forest.specs.declared.part.ConKind.TheVariants.{Split, Window, Placeholder}
use Rattle.wm_forest.specs.declared.part.ConPart.{ConPart}
use Rattle.wm_forest.specs.declared.part.NodeKind.{NodeKind}
use Rattle.wm_forest.specs.declared.part.NodeKind.TheVariants.{Root, Output, Space, Con}
use Rattle.wm_forest.specs.declared.part.Part.{Part}
use Rattle.wm_forest.specs.Change.{at}
use Rattle.wm_forest.specs.Forest.{Forest, end, con}
use Rattle.wm_forest.specs.Kinds.{changed, filled, kind_changed}
use Rattle.wm_forest.specs.Look.{con_kind, first_marks, first_part, has, kind_by, only, same}
use Rattle.wm_forest.proofs.ChangeLemmas.{by_change}
use Rattle.wm_tree.specs.Move.{marks_in}
use Rattle.wm_swallow.specs.Laws.{FoundTakes, IdsStay, IsWindowAfterwards, MarksStay}
use Rattle.wm_swallow.specs.Swallowing.{filled_at, has_entry, swallower, takes}
use Rattle.wm_swallow.proofs.WalkLemmas.{taker_takes, takes_first}

-- ---- what a change of one node leaves

module _ (c : ConId) (edit : KindEdit) where
  -- a node is there as before, with the same marks
  record Marked (v : ConId) (old new : Forest) : Type 0 where
    pub there : has v new ≡ has v old
    pub marks : first_marks (only v new) ≡ first_marks (only v old)

  pick : (v : ConId) (a k l : Bool) (x y z w x' y' z' w' : Forest) → first_marks x ≡ first_marks x' → first_marks y ≡ first_marks y' → first_marks z ≡ first_marks z' → first_marks w ≡ first_marks w'
      → first_marks (cond a x (cond k y (cond l z w))) ≡ first_marks (cond a x' (cond k y' (cond l z' w')))
  pick v true k l x y z w x' y' z' w' p q r s = p
  pick v false true l x y z w x' y' z' w' p q r s = q
  pick v false false true x y z w x' y' z' w' p q r s = r
  pick v false false false x y z w x' y' z' w' p q r s = s

  marked : (v : ConId) (f : Forest) → Marked v f (at c kind_changed edit f)
  marked v =
      by_change c kind_changed edit (λ old new found. Marked v old new) (record { there = refl; marks = refl })
      (λ part kids floats rest. record {
        there = refl;
        marks =
            pick v (same part.id v) (has v kids) (has v floats) (con (record part { kind = changed edit part.kind }) kids floats end) (only v kids) (only v floats) (only v rest) (con part kids floats end) (only v kids) (only v floats) (only v rest)
            refl refl refl refl;
      })
      (λ part kids floats rest new found h. record {
        there = rw h.there refl;
        marks = rw h.there (pick v (same part.id v) (has v kids) (has v floats) (con part new floats end) (only v new) (only v floats) (only v rest) (con part kids floats end) (only v kids) (only v floats) (only v rest) refl h.marks refl refl);
      })
      (λ part kids floats rest new found h. record {
        there = rw h.there refl;
        marks = rw h.there (pick v (same part.id v) (has v kids) (has v floats) (con part kids new end) (only v kids) (only v new) (only v rest) (con part kids floats end) (only v kids) (only v floats) (only v rest) refl refl h.marks refl);
      })
      (λ part kids floats rest new found h. record {
        there = rw h.there refl;
        marks = pick v (same part.id v) (has v kids) (has v floats) (con part kids floats end) (only v kids) (only v floats) (only v new) (con part kids floats end) (only v kids) (only v floats) (only v rest) refl refl refl h.marks;
      })

  pub marks_stay : (v : ConId) (f : Forest) → marks_in v (at c kind_changed edit f) ≡ marks_in v f
  marks_stay v f = (marked v f).marks

  pub still_there : (v : ConId) (f : Forest) → has v (at c kind_changed edit f) ≡ has v f
  still_there v f = (marked v f).there

module _ (c : ConId) (props : Props) (owner : ℕ) (natural : Size) where
  abbrev change : Forest → Forest
  change f = at c kind_changed (edits.Fill props owner natural) f

  -- ---- ids

  own_ids : (id : ConId) (kind : NodeKind) → own_id id (changed (edits.Fill props owner natural) kind) ≡ own_id id kind
  own_ids id (Root d) = refl
  own_ids id (Output o) = refl
  own_ids id (Space s) = refl
  own_ids id (Con d) = refl

  pub ids_stay : (f : Forest) → con_ids (change f) ≡ con_ids f
  ids_stay =
      by_change c kind_changed (edits.Fill props owner natural) (λ old new found. con_ids new ≡ con_ids old) refl
      (λ part kids floats rest. ap (λ ids. ids ++ (con_ids kids ++ (con_ids floats ++ con_ids rest))) (own_ids part.id part.kind))
      (λ part kids floats rest new found h. ap (λ ids. own_id part.id part.kind ++ (ids ++ (con_ids floats ++ con_ids rest))) h)
      (λ part kids floats rest new found h. ap (λ ids. own_id part.id part.kind ++ (con_ids kids ++ (ids ++ con_ids rest))) h)
      (λ part kids floats rest new found h. ap (λ ids. own_id part.id part.kind ++ (con_ids kids ++ (con_ids floats ++ ids))) h)

  -- ---- the placeholder itself

  abbrev Becomes : ConPart → Forest → Type 0
  Becomes p f = kind_by con_kind (first_part (only c (change f))) ≡ Some (record p { kind = Window props owner natural })

  abbrev Is : ConPart → Forest → Type 0
  Is p f = (kind_by con_kind (first_part (only c f)) ≡ Some p) × (takes_first props (first_part (only c f)) ≡ true)

  own_part : (own : ConKind) (p : ConPart) → p.kind ≡ own → has_entry props own ≡ true → record p { kind = filled props owner natural own } ≡ record p { kind = Window props owner natural }
  own_part (Split layout last) p e h = cc
  own_part (Window o n s) p e h = cc
  own_part (Placeholder o s) p e h = refl

  own : (kind : NodeKind) (p : ConPart) → con_kind kind ≡ Some p → takes props kind ≡ true → con_kind (changed (edits.Fill props owner natural) kind) ≡ Some (record p { kind = Window props owner natural })
  own (Root d) p e h = cc
  own (Output o) p e h = cc
  own (Space s) p e h = cc
  own (Con d) p e h = let one : d ≡ p = cc in rw one (ap Some (own_part p.kind p refl (rw (← one) h)))

  becomes_step : (a k l : Bool) (part : Part) (kids floats rest : Forest) (p : ConPart) → same part.id c ≡ a → has c kids ≡ k → has c floats ≡ l
      → (Is p kids → Becomes p kids) → (Is p floats → Becomes p floats) → (Is p rest → Becomes p rest)
      → (kind_by con_kind (first_part (cond a (con part kids floats end) (cond k (only c kids) (cond l (only c floats) (only c rest))))) ≡ Some p)
      × (takes_first props (first_part (cond a (con part kids floats end) (cond k (only c kids) (cond l (only c floats) (only c rest))))) ≡ true)
      → kind_by con_kind (first_part (only c (cond a (kind_changed (edits.Fill props owner natural) part kids floats rest) (cond k (con part (change kids) floats rest) (cond l (con part kids (change floats) rest) (con part kids floats (change rest)))))))
      ≡ Some (record p { kind = Window props owner natural })
  becomes_step true k l part kids floats rest p ea ek el u v w h = rw ea (own part.kind p h.0 h.1)
  becomes_step false true l part kids floats rest p ea ek el u v w h = rw (ea, still_there c (edits.Fill props owner natural) c kids, ek) (u h)
  becomes_step false false true part kids floats rest p ea ek el u v w h = rw (ea, ek, still_there c (edits.Fill props owner natural) c floats, el) (v h)
  becomes_step false false false part kids floats rest p ea ek el u v w h = rw (ea, ek, el) (w h)

  pub becomes : (p : ConPart) (f : Forest) → Is p f → Becomes p f
  becomes p end h = let no = h.0 in cc
  becomes p (con part kids floats rest) h =
      becomes_step (same part.id c) (has c kids) (has c floats) part kids floats rest p refl refl refl (becomes p kids) (becomes p floats) (becomes p rest) h

-- ---- the laws

entry_of_part : (props : Props) (o : Option Part) → takes_first props o ≡ true → option_map_or (λ (p : ConPart). has_entry props p.kind) (kind_by con_kind o) false ≡ true
entry_of_part props None h = cc
entry_of_part props (Some part) h = by part.kind h
  where
    by : (k : NodeKind) → takes props k ≡ true → option_map_or (λ (p : ConPart). has_entry props p.kind) (con_kind k) false ≡ true
    by (Root d) h = cc
    by (Output o) h = cc
    by (Space s) h = cc
    by (Con d) h = h

pub found_takes : FoundTakes
found_takes props t c sound found = entry_of_part props (first_part (only c t.nodes)) (taker_takes props c t.nodes (sound.once c) found)

pub window_afterwards : IsWindowAfterwards
window_afterwards props owner natural t c p sound found is =
    rw found (becomes c props owner natural p t.nodes (is, taker_takes props c t.nodes (sound.once c) found))

pub ids_after : IdsStay
ids_after props owner natural t = by (swallower props t)
  where
    by : (o : Option ConId) → con_ids (filled_at o props owner natural t).nodes ≡ con_ids t.nodes
    by None = refl
    by (Some c) = ids_stay c props owner natural t.nodes

pub marks_after : MarksStay
marks_after props owner natural t v = by (swallower props t)
  where
    by : (o : Option ConId) → marks_in v (filled_at o props owner natural t).nodes ≡ marks_in v t.nodes
    by None = refl
    by (Some c) = marks_stay c (edits.Fill props owner natural) v t.nodes
