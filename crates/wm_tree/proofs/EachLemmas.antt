-- A change of each node's part keeps what holds of every tree.
use Rattle.std.proofs.Common.{◌≡◌, ℕ, ◌≤◌, Bool, true, false, cond, ◌||◌, List, [], Option, refl, ap, sym, ◌∙◌, arith}
use Rattle.wm_base.specs.declared.ids.ConId.{ConId}
use Rattle.wm_forest.specs.declared.part.ConPart.{ConPart}
use Rattle.wm_forest.specs.declared.part.ConState.{ConState}
use Rattle.wm_forest.specs.declared.part.Part.{Part}
use Rattle.wm_forest.specs.declared.part.NodeKind.{NodeKind}
use Rattle.wm_forest.specs.declared.part.NodeKind.TheVariants.{Root, Output, Space, Con}
use Rattle.wm_forest.specs.Change.{is_id, nobody}
use Rattle.wm_forest.specs.Counts.{con_of, count, mark_count, marks_of, one_con, one_space, row_length, space_of}
use Rattle.wm_forest.specs.Each.{mapped}
use Rattle.wm_forest.specs.Forest.{Forest, end, con}
use Rattle.wm_forest.specs.Look.{in_row, same}
use Rattle.wm_forest.specs.Marks.{other_marks}
use Rattle.wm_forest.specs.RootId.{root}
use Rattle.wm_forest.specs.SoundRow.{Level, roots, outputs, spaces, containers, below, IsNode, IsSoundRow, one_of, rank_of, ranks}
use Rattle.wm_forest.specs.Spot.{room_below}
use Rattle.wm_tree.specs.Gaps.{kind_gapped, part_gapped}
use Rattle.wm_tree.specs.Marks.{bare, bare_part, part_off, taken_off}
use Rattle.wm_tree.specs.Sound.{IsSound}
use Rattle.wm_tree.specs.States.{kind_restated, part_restated}
use Rattle.wm_tree.specs.TreeValue.{TreeValue}
use Rattle.wm_forest.proofs.RowLemmas.{KeepsRow, node_keeps}
use Rattle.wm_tree.proofs.BearerLemmas.{other_most}
use Rattle.wm_tree.proofs.MarkLemmas.{IsFewer, fewer_node, other_fewer}

-- ---- what the walk makes

pub mapped_off : (keep : Option ConId) (n : List ℕ) (f : Forest) → mapped (part_off keep n) f ≡ taken_off keep n f
mapped_off keep n end = refl
mapped_off keep n (con part kids floats rest) = rw (mapped_off keep n kids, mapped_off keep n floats, mapped_off keep n rest) refl

pub mapped_bare : (f : Forest) → mapped bare_part f ≡ bare f
mapped_bare end = refl
mapped_bare (con part kids floats rest) = rw (mapped_bare kids, mapped_bare floats, mapped_bare rest) refl

-- ---- changes that keep every tree sound

-- a change of parts that keeps ids, what a node is, and the limits
pub record IsTame (g : Part → Part) : Type 0 where
  pub id : (p : Part) → (g p).id ≡ p.id
  pub room : (room : ℕ) (p : Part) → room_below room (g p).kind ≡ room_below room p.kind
  pub node : (l : Level) (tiled : Bool) (room : ℕ) (p : Part) (kids : Forest) → IsNode l tiled room p.id p.kind p.marks kids → IsNode l tiled room (g p).id (g p).kind (g p).marks kids
  pub ranks : (p : Part) → ranks (g p).kind ≡ ranks p.kind
  pub con : (p : Part) → con_of (g p) ≡ con_of p
  pub space : (p : Part) → space_of (g p) ≡ space_of p
  pub marks : (p : Part) → marks_of (g p) ≤ marks_of p

module _ (g : Part → Part) (ok : IsTame g) where
  in_row-mapped : (i : ConId) (f : Forest) → in_row i (mapped g f) ≡ in_row i f
  in_row-mapped i end = refl
  in_row-mapped i (con part kids floats rest) = rw (ok.id part) (ap (λ z. same part.id i || z) (in_row-mapped i rest))

  row_length-mapped : (f : Forest) → row_length (mapped g f) ≡ row_length f
  row_length-mapped end = refl
  row_length-mapped (con part kids floats rest) = omega (arith, row_length-mapped rest)

  keeps-mapped : (l : Level) (f : Forest) → KeepsRow l f (mapped g f)
  keeps-mapped roots f = λ i h. in_row-mapped i f ∙ h
  keeps-mapped outputs f = λ i h. in_row-mapped i f ∙ h
  keeps-mapped spaces f = λ i h. in_row-mapped i f ∙ h
  keeps-mapped containers f = tt

  sound_row-mapped : (l : Level) (tiled : Bool) (room : ℕ) (f : Forest) → IsSoundRow l tiled room f → IsSoundRow l tiled room (mapped g f)
  sound_row-mapped l tiled room end p = p
  sound_row-mapped l tiled room (con part kids floats rest) p = (
    ok.node l tiled room part (mapped g kids) (node_keeps l tiled room part.id part.kind part.marks kids (mapped g kids) (keeps-mapped (below l) kids) (λ e. ap (mapped g) e) p.0),
    omega (arith, row_length-mapped kids, p.1),
    rw (ok.room room part) (sound_row-mapped (below l) true (room_below room part.kind) kids p.2),
    rw (ok.room room part) (sound_row-mapped containers false (room_below room part.kind) floats p.3),
    sound_row-mapped l tiled room rest p.4,
  )

  count-mapped : (m : Part → ℕ) → ((p : Part) → m (g p) ≡ m p) → (f : Forest) → count m (mapped g f) ≡ count m f
  count-mapped m h end = refl
  count-mapped m h (con part kids floats rest) = omega (arith, h part, count-mapped m h kids, count-mapped m h floats, count-mapped m h rest)

  marks-mapped : (f : Forest) → mark_count (mapped g f) ≤ mark_count f
  marks-mapped end = omega arith
  marks-mapped (con part kids floats rest) = omega (arith, ok.marks part, marks-mapped kids, marks-mapped floats, marks-mapped rest)

  one-kept : (i : ConId) (p : Part) → one_of i (g p) ≡ one_of i p
  one-kept i p = rw (ok.id p) refl

  rank-kept : (i : ConId) (p : Part) → rank_of i (g p) ≡ rank_of i p
  rank-kept i p = rw (ok.id p, ok.ranks p) refl

  pub sound-mapped : (t : TreeValue) → IsSound t → IsSound (record t { nodes = mapped g t.nodes })
  sound-mapped t s = record {
    shaped = sound_row-mapped roots false 0 t.nodes s.shaped;
    rooted = in_row-mapped root t.nodes ∙ s.rooted;
    once = λ i. omega (arith, count-mapped (one_of i) (one-kept i) t.nodes, s.once i);
    fresh = λ i above. omega (arith, count-mapped (one_of i) (one-kept i) t.nodes, s.fresh i above);
    low = omega (arith, count-mapped (one_of nobody) (one-kept nobody) t.nodes, s.low);
    above = s.above;
    known = λ i. s.known i ∙ sym (count-mapped (rank_of i) (rank-kept i) t.nodes);
    few = omega (arith, count-mapped con_of ok.con t.nodes, s.few);
    few_spaces = omega (arith, count-mapped space_of ok.space t.nodes, s.few_spaces);
    few_marks = omega (arith, marks-mapped t.nodes, s.few_marks);
    ids = s.ids;
  }

-- ---- marks

bare_fewer : IsFewer (λ ms. [])
bare_fewer = record { none = refl; most = λ ms. omega arith }

bare_tame : IsTame bare_part
bare_tame = record {
  id = λ p. refl;
  room = λ room p. refl;
  node = λ l tiled room p kids h. fewer_node (λ ms. []) bare_fewer l tiled room p.id p.kind p.marks kids h;
  ranks = λ p. refl;
  con = λ p. refl;
  space = λ p. refl;
  marks = λ p. omega arith;
}

module _ (keep : Option ConId) (n : List ℕ) where
  abbrev off : Bool → Part → Part
  off kept p = cond kept p (record p { marks = other_marks n p.marks })

  off_id : (b : Bool) (p : Part) → (off b p).id ≡ p.id
  off_id true p = refl
  off_id false p = refl

  off_kind : (b : Bool) (p : Part) → (off b p).kind ≡ p.kind
  off_kind true p = refl
  off_kind false p = refl

  off_node : (b : Bool) (l : Level) (tiled : Bool) (room : ℕ) (p : Part) (kids : Forest) → IsNode l tiled room p.id p.kind p.marks kids → IsNode l tiled room (off b p).id (off b p).kind (off b p).marks kids
  off_node true l tiled room p kids h = h
  off_node false l tiled room p kids h = fewer_node (other_marks n) (other_fewer n) l tiled room p.id p.kind p.marks kids h

  off_marks : (b : Bool) (p : Part) → marks_of (off b p) ≤ marks_of p
  off_marks true p = omega arith
  off_marks false p = other_most n p.marks

  off_tame : IsTame (part_off keep n)
  off_tame = record {
    id = λ p. off_id (is_id p.id keep) p;
    room = λ room p. ap (room_below room) (off_kind (is_id p.id keep) p);
    node = λ l tiled room p kids h. off_node (is_id p.id keep) l tiled room p kids h;
    ranks = λ p. ap ranks (off_kind (is_id p.id keep) p);
    con = λ p. ap one_con (off_kind (is_id p.id keep) p);
    space = λ p. ap one_space (off_kind (is_id p.id keep) p);
    marks = λ p. off_marks (is_id p.id keep) p;
  }

  pub sound-off : (t : TreeValue) → IsSound t → IsSound (record t { nodes = taken_off keep n t.nodes })
  sound-off t s = rw (← mapped_off keep n t.nodes) (sound-mapped (part_off keep n) off_tame t s)

pub sound-bare : (t : TreeValue) → IsSound t → IsSound (record t { nodes = bare t.nodes })
sound-bare t s = rw (← mapped_bare t.nodes) (sound-mapped bare_part bare_tame t s)

-- ---- gaps

gapped_room : (f : ℕ → ℕ → ℕ × ℕ) (room : ℕ) (kind : NodeKind) → room_below room (kind_gapped f kind) ≡ room_below room kind
gapped_room f room (Root c) = refl
gapped_room f room (Output o) = refl
gapped_room f room (Space w) = refl
gapped_room f room (Con c) = refl

gapped_node : (f : ℕ → ℕ → ℕ × ℕ) (l : Level) (tiled : Bool) (room : ℕ) (id : ConId) (kind : NodeKind) (marks : List (List ℕ)) (kids : Forest) → IsNode l tiled room id kind marks kids → IsNode l tiled room id (kind_gapped f kind) marks kids
gapped_node f l tiled room id (Root c) marks kids h = h
gapped_node f l tiled room id (Output o) marks kids h = h
gapped_node f l tiled room id (Con c) marks kids h = h
gapped_node f roots tiled room id (Space w) marks kids h = h
gapped_node f outputs tiled room id (Space w) marks kids h = h
gapped_node f spaces tiled room id (Space w) marks kids h = h
gapped_node f containers tiled room id (Space w) marks kids h = h

gapped_ranks : (f : ℕ → ℕ → ℕ × ℕ) (kind : NodeKind) → ranks (kind_gapped f kind) ≡ ranks kind
gapped_ranks f (Root c) = refl
gapped_ranks f (Output o) = refl
gapped_ranks f (Space w) = refl
gapped_ranks f (Con c) = refl

gapped_con : (f : ℕ → ℕ → ℕ × ℕ) (kind : NodeKind) → one_con (kind_gapped f kind) ≡ one_con kind
gapped_con f (Root c) = refl
gapped_con f (Output o) = refl
gapped_con f (Space w) = refl
gapped_con f (Con c) = refl

gapped_space : (f : ℕ → ℕ → ℕ × ℕ) (kind : NodeKind) → one_space (kind_gapped f kind) ≡ one_space kind
gapped_space f (Root c) = refl
gapped_space f (Output o) = refl
gapped_space f (Space w) = refl
gapped_space f (Con c) = refl

gapped_tame : (f : ℕ → ℕ → ℕ × ℕ) → IsTame (part_gapped f)
gapped_tame f = record {
  id = λ p. refl;
  room = λ room p. gapped_room f room p.kind;
  node = λ l tiled room p kids h. gapped_node f l tiled room p.id p.kind p.marks kids h;
  ranks = λ p. gapped_ranks f p.kind;
  con = λ p. gapped_con f p.kind;
  space = λ p. gapped_space f p.kind;
  marks = λ p. omega arith;
}

pub sound-gapped : (f : ℕ → ℕ → ℕ × ℕ) (t : TreeValue) → IsSound t → IsSound (record t { nodes = mapped (part_gapped f) t.nodes })
sound-gapped f t s = sound-mapped (part_gapped f) (gapped_tame f) t s

-- ---- states

restated_room : (f : ConId → ConPart → ConState) (room : ℕ) (id : ConId) (kind : NodeKind) → room_below room (kind_restated f id kind) ≡ room_below room kind
restated_room f room id (Root c) = refl
restated_room f room id (Output o) = refl
restated_room f room id (Space w) = refl
restated_room f room id (Con c) = refl

restated_node : (f : ConId → ConPart → ConState) (l : Level) (tiled : Bool) (room : ℕ) (id : ConId) (kind : NodeKind) (marks : List (List ℕ)) (kids : Forest) → IsNode l tiled room id kind marks kids → IsNode l tiled room id (kind_restated f id kind) marks kids
restated_node f l tiled room id (Root c) marks kids h = h
restated_node f l tiled room id (Output o) marks kids h = h
restated_node f l tiled room id (Space w) marks kids h = h
restated_node f roots tiled room id (Con c) marks kids h = h
restated_node f outputs tiled room id (Con c) marks kids h = h
restated_node f spaces tiled room id (Con c) marks kids h = h
restated_node f containers tiled room id (Con c) marks kids h = h

restated_ranks : (f : ConId → ConPart → ConState) (id : ConId) (kind : NodeKind) → ranks (kind_restated f id kind) ≡ ranks kind
restated_ranks f id (Root c) = refl
restated_ranks f id (Output o) = refl
restated_ranks f id (Space w) = refl
restated_ranks f id (Con c) = refl

restated_con : (f : ConId → ConPart → ConState) (id : ConId) (kind : NodeKind) → one_con (kind_restated f id kind) ≡ one_con kind
restated_con f id (Root c) = refl
restated_con f id (Output o) = refl
restated_con f id (Space w) = refl
restated_con f id (Con c) = refl

restated_space : (f : ConId → ConPart → ConState) (id : ConId) (kind : NodeKind) → one_space (kind_restated f id kind) ≡ one_space kind
restated_space f id (Root c) = refl
restated_space f id (Output o) = refl
restated_space f id (Space w) = refl
restated_space f id (Con c) = refl

restated_tame : (f : ConId → ConPart → ConState) → IsTame (part_restated f)
restated_tame f = record {
  id = λ p. refl;
  room = λ room p. restated_room f room p.id p.kind;
  node = λ l tiled room p kids h. restated_node f l tiled room p.id p.kind p.marks kids h;
  ranks = λ p. restated_ranks f p.id p.kind;
  con = λ p. restated_con f p.id p.kind;
  space = λ p. restated_space f p.id p.kind;
  marks = λ p. omega arith;
}

pub sound-restated : (f : ConId → ConPart → ConState) (t : TreeValue) → IsSound t → IsSound (record t { nodes = mapped (part_restated f) t.nodes })
sound-restated f t s = sound-mapped (part_restated f) (restated_tame f) t s
