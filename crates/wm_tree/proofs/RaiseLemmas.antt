-- Raising a container in its workspace keeps what holds of every tree.
use Rattle.std.proofs.Common.{◌≡◌, ℕ, ◌+◌, Bool, true, false, cond, ◌||◌, inl, List, Option, None, Some, refl, ap, ◌∙◌, arith}
use Rattle.wm_base.specs.declared.ids.ConId.{ConId}
use Rattle.wm_forest.specs.declared.part.Part.{Part}
use Rattle.wm_forest.specs.declared.part.NodeKind.{NodeKind}
use Rattle.wm_forest.specs.declared.part.NodeKind.TheVariants.{Root, Output, Space, Con}
use Rattle.wm_forest.specs.declared.spot.Spot.{Spot}
use Rattle.wm_forest.specs.Forest.{Forest, end, con}
use Rattle.wm_forest.specs.Change.{append, at, nobody, raised_in, to_end, unfull, unfull_kind, raised_at}
use Rattle.wm_forest.specs.Counts.{but, con_of, count, marks_of, one_con, one_space, row_length, row_with, space_of}
use Rattle.wm_forest.specs.Look.{first_alone, in_row, node_in, same}
use Rattle.wm_forest.specs.SoundRow.{Level, roots, outputs, spaces, containers, below, IsNode, IsSoundRow, one_of, rank_of, ranks}
use Rattle.wm_tree.specs.Sound.{IsSound}
use Rattle.wm_forest.specs.Spot.{room_below, top}
use Rattle.wm_tree.specs.TreeValue.{TreeValue, workspace_of}
use Rattle.wm_forest.specs.RootId.{root}
use Rattle.wm_tree.specs.Words.{with_raised}
use Rattle.wm_forest.proofs.CountLemmas.{count-append, count-same}
use Rattle.wm_forest.proofs.PutLemmas.{Here, sound-append}
use Rattle.wm_forest.proofs.RowLemmas.{KeepsRow, same_row, behind_row, node_keeps, Grows, keeps_by}
use Rattle.wm_forest.proofs.StandLemmas.{sound-but}
use Rattle.wm_forest.proofs.TimesLemmas.{times-raised}

-- ---- no other container is fullscreen

-- a part with or without fullscreen
abbrev pub unfull_part : ConId → Part → Part
unfull_part c part = cond (same part.id c) part (record part { kind = unfull_kind part.kind })

pub unfull_node : (l : Level) (tiled : Bool) (room : ℕ) (id : ConId) (kind : NodeKind) (marks : List (List ℕ)) (kids : Forest) → IsNode l tiled room id kind marks kids → IsNode l tiled room id (unfull_kind kind) marks kids
unfull_node l tiled room id (Root c) marks kids h = h
unfull_node l tiled room id (Output o) marks kids h = h
unfull_node l tiled room id (Space w) marks kids h = h
unfull_node roots tiled room id (Con c) marks kids h = h
unfull_node outputs tiled room id (Con c) marks kids h = h
unfull_node spaces tiled room id (Con c) marks kids h = h
unfull_node containers tiled room id (Con c) marks kids h = h

pub unfull_room : (room : ℕ) (kind : NodeKind) → room_below room (unfull_kind kind) ≡ room_below room kind
unfull_room room (Root c) = refl
unfull_room room (Output o) = refl
unfull_room room (Space w) = refl
unfull_room room (Con c) = refl

pub unfull_ranks : (kind : NodeKind) → ranks (unfull_kind kind) ≡ ranks kind
unfull_ranks (Root c) = refl
unfull_ranks (Output o) = refl
unfull_ranks (Space w) = refl
unfull_ranks (Con c) = refl

pub unfull_one : (kind : NodeKind) → one_con (unfull_kind kind) ≡ one_con kind
unfull_one (Root c) = refl
unfull_one (Output o) = refl
unfull_one (Space w) = refl
unfull_one (Con c) = refl

pub unfull_space : (kind : NodeKind) → one_space (unfull_kind kind) ≡ one_space kind
unfull_space (Root c) = refl
unfull_space (Output o) = refl
unfull_space (Space w) = refl
unfull_space (Con c) = refl

module _ (c : ConId) where
  part_id : (b : Bool) (part : Part) → (cond b part (record part { kind = unfull_kind part.kind })).id ≡ part.id
  part_id true part = refl
  part_id false part = refl

  row_step : (i : ConId) (part : Part) (kids floats rest : Forest) → in_row i (unfull c rest) ≡ in_row i rest → in_row i (unfull c (con part kids floats rest)) ≡ in_row i (con part kids floats rest)
  row_step i part kids floats rest h = rw (part_id (same part.id c) part) (ap (λ z. same part.id i || z) h)

  pub in_row-unfull : (i : ConId) (f : Forest) → in_row i (unfull c f) ≡ in_row i f
  in_row-unfull i end = refl
  in_row-unfull i (con part kids floats rest) = row_step i part kids floats rest (in_row-unfull i rest)

  pub row_length-unfull : (f : Forest) → row_length (unfull c f) ≡ row_length f
  row_length-unfull end = refl
  row_length-unfull (con part kids floats rest) = omega (arith, row_length-unfull rest)

  pub keeps-unfull : (l : Level) (f : Forest) → KeepsRow l f (unfull c f)
  keeps-unfull roots f = λ i h. in_row-unfull i f ∙ h
  keeps-unfull outputs f = λ i h. in_row-unfull i f ∙ h
  keeps-unfull spaces f = λ i h. in_row-unfull i f ∙ h
  keeps-unfull containers f = tt

  pub ends-unfull : (f : Forest) → f ≡ end → unfull c f ≡ end
  ends-unfull f e = ap (unfull c) e

  node_step : (b : Bool) (l : Level) (tiled : Bool) (room : ℕ) (part : Part) (kids : Forest) → IsNode l tiled room part.id part.kind part.marks kids
      → IsNode l tiled room (cond b part (record part { kind = unfull_kind part.kind })).id (cond b part (record part { kind = unfull_kind part.kind })).kind (cond b part (record part { kind = unfull_kind part.kind })).marks kids
  node_step true l tiled room part kids h = h
  node_step false l tiled room part kids h = unfull_node l tiled room part.id part.kind part.marks kids h

  room_step : (b : Bool) (room : ℕ) (part : Part) → room_below room (cond b part (record part { kind = unfull_kind part.kind })).kind ≡ room_below room part.kind
  room_step true room part = refl
  room_step false room part = unfull_room room part.kind

  pub sound-unfull : (l : Level) (tiled : Bool) (room : ℕ) (f : Forest) → IsSoundRow l tiled room f → IsSoundRow l tiled room (unfull c f)
  sound-unfull l tiled room end p = p
  sound-unfull l tiled room (con part kids floats rest) p = (
    node_step (same part.id c) l tiled room part (unfull c kids) (node_keeps l tiled room part.id part.kind part.marks kids (unfull c kids) (keeps-unfull (below l) kids) (ends-unfull kids) p.0),
    omega (arith, row_length-unfull kids, p.1),
    rw (room_step (same part.id c) room part) (sound-unfull (below l) true (room_below room part.kind) kids p.2),
    rw (room_step (same part.id c) room part) (sound-unfull containers false (room_below room part.kind) floats p.3),
    sound-unfull l tiled room rest p.4,
  )

  pub count-unfull : (m : Part → ℕ) → ((part : Part) → m (record part { kind = unfull_kind part.kind }) ≡ m part) → (f : Forest) → count m (unfull c f) ≡ count m f
  count-unfull m h end = refl
  count-unfull m h (con part kids floats rest) = omega (arith, one (same part.id c), count-unfull m h kids, count-unfull m h floats, count-unfull m h rest)
    where
      one : (b : Bool) → m (cond b part (record part { kind = unfull_kind part.kind })) ≡ m part
      one true = refl
      one false = h part

-- ---- the last of a row

sound_alone : (l : Level) (tiled : Bool) (room : ℕ) (f : Forest) → IsSoundRow l tiled room f → IsSoundRow l tiled room (first_alone f)
sound_alone l tiled room end p = tt
sound_alone l tiled room (con part kids floats rest) p = (p.0, p.1, p.2, p.3, tt)

pub sound_node_in : (c : ConId) (l : Level) (tiled : Bool) (room : ℕ) (f : Forest) → IsSoundRow l tiled room f → IsSoundRow l tiled room (node_in c f)
sound_node_in c l tiled room end p = p
sound_node_in c l tiled room (con part kids floats rest) p = step (same part.id c) (sound_node_in c l tiled room rest p.4)
  where
    step : (b : Bool) → IsSoundRow l tiled room (node_in c rest) → IsSoundRow l tiled room (cond b (con part kids floats rest) (node_in c rest))
    step true q = p
    step false q = q

sound-to_end : (c : ConId) (l : Level) (tiled : Bool) (room : ℕ) (f : Forest) → IsSoundRow l tiled room f → IsSoundRow l tiled room (to_end c f)
sound-to_end c l tiled room f p = step (in_row c f)
  where
    step : (b : Bool) → IsSoundRow l tiled room (cond b (append (but c f) (first_alone (node_in c f))) f)
    step true = sound-append l tiled room (but c f) (first_alone (node_in c f)) (sound-but c l tiled room f p) (sound_alone l tiled room (node_in c f) (sound_node_in c l tiled room f p))
    step false = p

count_but : (m : Part → ℕ) (c : ConId) (f : Forest) → count m (but c f) + count m (first_alone (node_in c f)) ≡ count m f
count_but m c end = refl
count_but m c (con part kids floats rest) = step (same part.id c) (count_but m c rest)
  where
    step : (b : Bool) → count m (but c rest) + count m (first_alone (node_in c rest)) ≡ count m rest
        → count m (cond b rest (con part kids floats (but c rest))) + count m (first_alone (cond b (con part kids floats rest) (node_in c rest))) ≡ count m (con part kids floats rest)
    step true h = omega arith
    step false h = omega (arith, h)

count-to_end : (m : Part → ℕ) (c : ConId) (f : Forest) → count m (to_end c f) ≡ count m f
count-to_end m c f = step (in_row c f)
  where
    step : (b : Bool) → count m (cond b (append (but c f) (first_alone (node_in c f))) f) ≡ count m f
    step true = count-append m (but c f) (first_alone (node_in c f)) ∙ count_but m c f
    step false = refl

-- ---- raising

pub sound-raised_in : (w c : ConId) (l : Level) (s : Spot) (forest : Forest) → IsSoundRow l s.tiled s.room forest → Grows 0 l s.tiled s.room forest forest (at w raised_in c forest) (row_with w forest forest)
sound-raised_in w c l s forest p = keeps_by IsNode node_keeps w raised_in c 0 (λ found sp st. Unit {0}) (λ found sp st h. inl refl) here l s forest forest tt p
  where
    here : (l : Level) (s : Spot) (whole : Forest) (part : Part) (kids floats rest : Forest) → Unit {0} → Here 0 l s (con part kids floats rest) (con part (unfull c kids) (to_end c (unfull c floats)) rest)
    here l s whole part kids floats rest ok p = (
      (
        node_keeps l s.tiled s.room part.id part.kind part.marks kids (unfull c kids) (keeps-unfull c (below l) kids) (ends-unfull c kids) p.0,
        omega (arith, row_length-unfull c kids, p.1),
        sound-unfull c (below l) true (room_below s.room part.kind) kids p.2,
        sound-to_end c containers false (room_below s.room part.kind) (unfull c floats) (sound-unfull c containers false (room_below s.room part.kind) floats p.3),
        p.4,
      ),
      behind_row l part part kids floats rest (unfull c kids) (to_end c (unfull c floats)) rest refl (same_row l rest),
      omega arith,
    )

count-raised_in : (m : Part → ℕ) → ((part : Part) → m (record part { kind = unfull_kind part.kind }) ≡ m part) → (w c : ConId) (f : Forest) → count m (at w raised_in c f) ≡ count m f
count-raised_in m h w c = count-same m w raised_in c (λ part kids floats rest. omega (arith, count-unfull c m h kids, count-to_end m c (unfull c floats), count-unfull c m h floats))

pub count-raised : (m : Part → ℕ) → ((part : Part) → m (record part { kind = unfull_kind part.kind }) ≡ m part) → (c : ConId) (w : Option ConId) (f : Forest) → count m (raised_at c w f) ≡ count m f
count-raised m h c None f = refl
count-raised m h c (Some w) f = count-raised_in m h w c f

raised_shape : (c : ConId) (w : Option ConId) (f : Forest) → IsSoundRow roots false 0 f → IsSoundRow roots false 0 (raised_at c w f) × KeepsRow roots f (raised_at c w f)
raised_shape c None f p = (p, λ i h. h)
raised_shape c (Some w) f p = let g = sound-raised_in w c roots top f p in (g.sound, g.keeps)

pub sound-raised : (c : ConId) (t : TreeValue) → IsSound t → IsSound (with_raised c t)
sound-raised c t s =
    let w = workspace_of t c in
    let shape = raised_shape c w t.nodes s.shaped in
    let ones : (i : ConId) → count (one_of i) (raised_at c w t.nodes) ≡ count (one_of i) t.nodes = λ i. count-raised (one_of i) (λ part. refl) c w t.nodes in
    record {
      shaped = shape.0;
      rooted = shape.1 root s.rooted;
      once = λ i. omega (arith, ones i, s.once i);
      fresh = λ i above. omega (arith, ones i, s.fresh i above);
      low = omega (arith, ones nobody, s.low);
      above = s.above;
      known = λ i. omega (arith, times-raised i c t.recency, s.known i, count-raised (rank_of i) (λ part. ap (λ n. cond (same part.id i) n 0) (unfull_ranks part.kind)) c w t.nodes);
      few = omega (arith, count-raised con_of (λ part. unfull_one part.kind) c w t.nodes, s.few);
      few_spaces = omega (arith, count-raised space_of (λ part. unfull_space part.kind) c w t.nodes, s.few_spaces);
      few_marks = omega (arith, count-raised marks_of (λ part. refl) c w t.nodes, s.few_marks);
      ids = s.ids;
    }
