-- Other shares of several children keep what holds of every tree.
use Rattle.std.proofs.Common.{◌≡◌, ℕ, ◌+◌, Bool, true, false, cond, ◌||◌, inl, List, [], ◌∷◌, refl, ap, sym, ◌∙◌, arith}
use Rattle.wm_base.specs.declared.ids.ConId.{ConId}
use Rattle.wm_forest.specs.declared.kind.KindEdit.TheVariants as edits
use Rattle.wm_forest.specs.declared.part.NodeKind.{NodeKind}
use Rattle.wm_forest.specs.declared.part.NodeKind.TheVariants.{Root, Output, Space, Con}
use Rattle.wm_forest.specs.declared.part.Part.{Part}
use Rattle.wm_forest.specs.declared.shares.Sibling.{Sibling}
use Rattle.wm_forest.specs.declared.spot.Spot.{Spot}
use Rattle.wm_forest.specs.Change.{at, nobody}
use Rattle.wm_forest.specs.Counts.{con_of, count, marks_of, row_length, row_with, space_of}
use Rattle.wm_forest.specs.Forest.{Forest, end, con}
use Rattle.wm_forest.specs.Kinds.{changed}
use Rattle.wm_forest.specs.Look.{in_row, same}
use Rattle.wm_forest.specs.RootId.{root}
use Rattle.wm_forest.specs.Shares.{first_shared, left_behind, shared, shared_part, shares_word}
use Rattle.wm_forest.specs.SoundRow.{Level, roots, outputs, spaces, containers, below, HasShare, IsNode, IsSoundRow, one_of, rank_of}
use Rattle.wm_forest.specs.Spot.{room_below, top}
use Rattle.wm_tree.specs.Sound.{IsSound}
use Rattle.wm_tree.specs.TreeValue.{TreeValue}
use Rattle.wm_tree.specs.Words.{AreShares, with_shares}
use Rattle.wm_forest.proofs.CountLemmas.{count-same}
use Rattle.wm_forest.proofs.EditLemmas.{changed_one, changed_ranks, changed_space}
use Rattle.wm_forest.proofs.PutLemmas.{Here}
use Rattle.wm_forest.proofs.RowLemmas.{KeepsRow, same_row, behind_row, node_keeps, Grows, keeps_by}

-- ---- a node and what is listed for those behind it

first_id : (ss : List Sibling) (part : Part) → (first_shared ss part).id ≡ part.id
first_id [] part = refl
first_id (s ∷ ss) part = by (same part.id s.id) where
  by : (b : Bool) → (cond b (shared_part s.share part) part).id ≡ part.id
  by true = refl
  by false = refl

first_count : (m : Part → ℕ) → ((s : ℕ) (p : Part) → m (shared_part s p) ≡ m p) → (ss : List Sibling) (part : Part) → m (first_shared ss part) ≡ m part
first_count m h [] part = refl
first_count m h (s ∷ ss) part = by (same part.id s.id) where
  by : (b : Bool) → m (cond b (shared_part s.share part) part) ≡ m part
  by true = h s.share part
  by false = refl

left_shares : (ss : List Sibling) (c : ConId) → AreShares ss → AreShares (left_behind ss c)
left_shares [] c ok = ok
left_shares (s ∷ ss) c ok = by (same c s.id) where
  by : (b : Bool) → AreShares (cond b ss (s ∷ ss))
  by true = ok.1
  by false = ok

-- ---- a row

row_length-shared : (ss : List Sibling) (f : Forest) → row_length (shared ss f) ≡ row_length f
row_length-shared ss end = refl
row_length-shared ss (con part kids floats rest) = omega (arith, row_length-shared (left_behind ss part.id) rest)

in_row-shared : (i : ConId) (ss : List Sibling) (f : Forest) → in_row i (shared ss f) ≡ in_row i f
in_row-shared i ss end = refl
in_row-shared i ss (con part kids floats rest) = rw (first_id ss part) (ap (λ z. same part.id i || z) (in_row-shared i (left_behind ss part.id) rest))

keeps-shared : (l : Level) (ss : List Sibling) (f : Forest) → KeepsRow l f (shared ss f)
keeps-shared roots ss f = λ i h. in_row-shared i ss f ∙ h
keeps-shared outputs ss f = λ i h. in_row-shared i ss f ∙ h
keeps-shared spaces ss f = λ i h. in_row-shared i ss f ∙ h
keeps-shared containers ss f = tt

count-shared : (m : Part → ℕ) → ((s : ℕ) (p : Part) → m (shared_part s p) ≡ m p) → (ss : List Sibling) (f : Forest) → count m (shared ss f) ≡ count m f
count-shared m h ss end = refl
count-shared m h ss (con part kids floats rest) = omega (arith, first_count m h ss part, count-shared m h (left_behind ss part.id) rest)

-- ---- sound rows

shared_node : (s : ℕ) → HasShare true s → (l : Level) (room : ℕ) (id : ConId) (kind : NodeKind) (marks : List (List ℕ)) (kids : Forest) → IsNode l true room id kind marks kids → IsNode l true room id (changed (edits.Share s) kind) marks kids
shared_node s ok l room id (Root c) marks kids h = h
shared_node s ok l room id (Output o) marks kids h = h
shared_node s ok l room id (Space w) marks kids h = h
shared_node s ok roots room id (Con c) marks kids h = absurd h
shared_node s ok outputs room id (Con c) marks kids h = absurd h
shared_node s ok spaces room id (Con c) marks kids h = absurd h
shared_node s ok containers room id (Con c) marks kids h = (h.0, ok, h.2, h.3)

shared_room : (s room : ℕ) (kind : NodeKind) → room_below room (changed (edits.Share s) kind) ≡ room_below room kind
shared_room s room (Root c) = refl
shared_room s room (Output o) = refl
shared_room s room (Space w) = refl
shared_room s room (Con c) = refl

first_node : (ss : List Sibling) → AreShares ss → (l : Level) (room : ℕ) (part : Part) (kids : Forest) → IsNode l true room part.id part.kind part.marks kids
    → IsNode l true room (first_shared ss part).id (first_shared ss part).kind (first_shared ss part).marks kids
first_node [] ok l room part kids h = h
first_node (s ∷ ss) ok l room part kids h = by (same part.id s.id) where
  by : (b : Bool) → IsNode l true room (cond b (shared_part s.share part) part).id (cond b (shared_part s.share part) part).kind (cond b (shared_part s.share part) part).marks kids
  by true = shared_node s.share ok.0 l room part.id part.kind part.marks kids h
  by false = h

first_room : (ss : List Sibling) (room : ℕ) (part : Part) → room_below room (first_shared ss part).kind ≡ room_below room part.kind
first_room [] room part = refl
first_room (s ∷ ss) room part = by (same part.id s.id) where
  by : (b : Bool) → room_below room (cond b (shared_part s.share part) part).kind ≡ room_below room part.kind
  by true = shared_room s.share room part.kind
  by false = refl

sound_row-shared : (l : Level) (room : ℕ) (ss : List Sibling) (f : Forest) → AreShares ss → IsSoundRow l true room f → IsSoundRow l true room (shared ss f)
sound_row-shared l room ss end ok p = p
sound_row-shared l room ss (con part kids floats rest) ok p = (
  first_node ss ok l room part kids p.0,
  p.1,
  rw (first_room ss room part) p.2,
  rw (first_room ss room part) p.3,
  sound_row-shared l room (left_behind ss part.id) rest (left_shares ss part.id ok) p.4,
)

shaped-shared : (c : ConId) (ss : List Sibling) (l : Level) (s : Spot) (forest : Forest) → AreShares ss → IsSoundRow l s.tiled s.room forest
    → Grows 0 l s.tiled s.room forest forest (at c shares_word ss forest) (row_with c forest forest)
shaped-shared c ss l s forest ok p = keeps_by IsNode node_keeps c shares_word ss 0 (λ found sp st. Unit {0}) (λ found sp st h. inl refl) here l s forest forest tt p
  where
    here : (l : Level) (s : Spot) (whole : Forest) (part : Part) (kids floats rest : Forest) → Unit {0} → Here 0 l s (con part kids floats rest) (con part (shared ss kids) floats rest)
    here l s whole part kids floats rest un p = (
      (
        node_keeps l s.tiled s.room part.id part.kind part.marks kids (shared ss kids) (keeps-shared (below l) ss kids) (λ e. ap (shared ss) e) p.0,
        omega (arith, row_length-shared ss kids, p.1),
        sound_row-shared (below l) (room_below s.room part.kind) ss kids ok p.2,
        p.3,
        p.4,
      ),
      behind_row l part part kids floats rest (shared ss kids) floats rest refl (same_row l rest),
      omega arith,
    )

-- ---- the tree

module _ (c : ConId) (ss : List Sibling) where
  count-word : (m : Part → ℕ) → ((s : ℕ) (p : Part) → m (shared_part s p) ≡ m p) → (f : Forest) → count m (at c shares_word ss f) ≡ count m f
  count-word m h f = count-same m c shares_word ss (λ part kids floats rest. ap (λ n. m part + n + count m floats + count m rest) (count-shared m h ss kids)) f

  pub sound-shared : (t : TreeValue) → AreShares ss → IsSound t → IsSound (with_shares c ss t)
  sound-shared t ok s =
      let g = shaped-shared c ss roots top t.nodes ok s.shaped in
      record {
        shaped = g.sound;
        rooted = g.keeps root s.rooted;
        once = λ i. omega (arith, count-word (one_of i) (λ n p. refl) t.nodes, s.once i);
        fresh = λ i above. omega (arith, count-word (one_of i) (λ n p. refl) t.nodes, s.fresh i above);
        low = omega (arith, count-word (one_of nobody) (λ n p. refl) t.nodes, s.low);
        above = s.above;
        known = λ i. s.known i ∙ sym (count-word (rank_of i) (λ n p. ap (λ k. cond (same p.id i) k 0) (changed_ranks (edits.Share n) p.kind)) t.nodes);
        few = omega (arith, count-word con_of (λ n p. changed_one (edits.Share n) p.kind) t.nodes, s.few);
        few_spaces = omega (arith, count-word space_of (λ n p. changed_space (edits.Share n) p.kind) t.nodes, s.few_spaces);
        few_marks = omega (arith, count-word marks_of (λ n p. refl) t.nodes, s.few_marks);
        ids = s.ids;
      }
