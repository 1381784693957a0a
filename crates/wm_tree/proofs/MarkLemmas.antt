-- Other marks of a container keep what holds of every tree.
use Rattle.std.proofs.Common.{◌≡◌, ℕ, suc, ◌+◌, ◌≤◌, ◌<◌, Bool, true, false, cond, leb, ◌||◌, inl, List, [], ◌∷◌, ◌++◌, length, Option, None, Some, refl, ap, sym, ◌∙◌, subst, arith}
use Rattle.std.proofs.lemmas.Bool.Decides.{nat_tests}
use Rattle.std.specs.Str.{bytes_eq}
use Rattle.wm_base.specs.declared.ids.ConId.{ConId}
use Rattle.wm_forest.specs.declared.part.Part.{Part}
use Rattle.wm_forest.specs.declared.part.NodeKind.{NodeKind}
use Rattle.wm_forest.specs.declared.part.NodeKind.TheVariants.{Root, Output, Space, Con}
use Rattle.wm_forest.specs.declared.spot.Spot.{Spot}
use Rattle.wm_forest.specs.Forest.{Forest, end, con}
use Rattle.wm_forest.specs.Change.{at, nobody}
use Rattle.wm_forest.specs.Counts.{con_of, mark_count, row_with, space_of}
use Rattle.wm_forest.specs.Look.{first_marks, only}
use Rattle.wm_tree.specs.Move.{is_full_of_marks, marked, marks_in, unmarked, with_marks}
use Rattle.wm_forest.specs.Marks.{keep_word, marks_word, only_mark, other_marks, that_mark}
use Rattle.wm_forest.specs.SoundRow.{Level, roots, outputs, spaces, containers, IsNode, IsSoundRow, one_of, rank_of}
use Rattle.wm_tree.specs.Sound.{IsSound}
use Rattle.wm_forest.specs.Spot.{top}
use Rattle.wm_tree.specs.TreeValue.{TreeValue}
use Rattle.wm_forest.specs.RootId.{root}
use Rattle.wm_forest.proofs.ChangeLemmas.{by_change}
use Rattle.wm_tree.proofs.BearerLemmas.{other_most}
use Rattle.wm_tree.proofs.MarkForests.{kept_marks, marks_by}
use Rattle.wm_forest.proofs.CountLemmas.{count-same}
use Rattle.wm_forest.proofs.PutLemmas.{Here, IsConFirst, con_level}
use Rattle.wm_forest.proofs.RowLemmas.{same_row, behind_row, Grows, keeps_by, node_keeps}

con_marks : (tiled : Bool) (room : ℕ) (id : ConId) (kind : NodeKind) (old new : List (List ℕ)) (kids : Forest) → length new ≤ 32 → IsNode containers tiled room id kind old kids → IsNode containers tiled room id kind new kids
con_marks tiled room id (Root c) old new kids few h = absurd h
con_marks tiled room id (Output o) old new kids few h = absurd h
con_marks tiled room id (Space w) old new kids few h = absurd h
con_marks tiled room id (Con c) old new kids few h = (h.0, h.1, few, h.3)

-- of marks no more than there were, and none of none
pub record IsFewer (g : List (List ℕ) → List (List ℕ)) : Type 0 where
  pub none : g [] ≡ []
  pub most : (ms : List (List ℕ)) → length (g ms) ≤ length ms

pub fewer_node : (g : List (List ℕ) → List (List ℕ)) → IsFewer g → (l : Level) (tiled : Bool) (room : ℕ) (id : ConId) (kind : NodeKind) (marks : List (List ℕ)) (kids : Forest) → IsNode l tiled room id kind marks kids
    → IsNode l tiled room id kind (g marks) kids
fewer_node g ok roots tiled room id (Root c) marks kids h = (h.0, h.1, ap g h.2 ∙ ok.none)
fewer_node g ok roots tiled room id (Output o) marks kids h = absurd h
fewer_node g ok roots tiled room id (Space w) marks kids h = absurd h
fewer_node g ok roots tiled room id (Con c) marks kids h = absurd h
fewer_node g ok outputs tiled room id (Root c) marks kids h = absurd h
fewer_node g ok outputs tiled room id (Output o) marks kids h = (h.0, h.1, ap g h.2 ∙ ok.none)
fewer_node g ok outputs tiled room id (Space w) marks kids h = absurd h
fewer_node g ok outputs tiled room id (Con c) marks kids h = absurd h
fewer_node g ok spaces tiled room id (Root c) marks kids h = absurd h
fewer_node g ok spaces tiled room id (Output o) marks kids h = absurd h
fewer_node g ok spaces tiled room id (Space w) marks kids h = ap g h ∙ ok.none
fewer_node g ok spaces tiled room id (Con c) marks kids h = absurd h
fewer_node g ok containers tiled room id (Root c) marks kids h = absurd h
fewer_node g ok containers tiled room id (Output o) marks kids h = absurd h
fewer_node g ok containers tiled room id (Space w) marks kids h = absurd h
fewer_node g ok containers tiled room id (Con c) marks kids h = (h.0, h.1, omega (arith, ok.most marks, h.2), h.3)

pub other_fewer : (n : List ℕ) → IsFewer (other_marks n)
other_fewer n = record { none = refl; most = other_most n }

pub that_most : (n : List ℕ) (ms : List (List ℕ)) → length (that_mark n ms) ≤ length ms
that_most n [] = omega arith
that_most n (m ∷ ms) = by (bytes_eq m n) (that_most n ms) where
  by : (b : Bool) → length (that_mark n ms) ≤ length ms → length (cond b (m ∷ that_mark n ms) (that_mark n ms)) ≤ suc (length ms)
  by true h = omega (arith, h)
  by false h = omega (arith, h)

only_most : (kept : Option (List ℕ)) (ms : List (List ℕ)) → length (only_mark kept ms) ≤ length ms
only_most None ms = omega arith
only_most (Some n) ms = that_most n ms

only_none : (kept : Option (List ℕ)) → only_mark kept [] ≡ []
only_none None = refl
only_none (Some n) = refl

pub only_fewer : (kept : Option (List ℕ)) → IsFewer (only_mark kept)
only_fewer kept = record { none = only_none kept; most = only_most kept }

shaped-marks : (c : ConId) (marks : List (List ℕ)) (l : Level) (s : Spot) (forest : Forest) → IsConFirst (only c forest) → length marks ≤ 32 → IsSoundRow l s.tiled s.room forest
    → Grows 0 l s.tiled s.room forest forest (at c marks_word marks forest) (row_with c forest forest)
shaped-marks c marks l s forest ok few p = keeps_by IsNode node_keeps c marks_word marks 0 (λ found sp st. IsConFirst found) (λ found sp st h. inl refl) here l s forest forest ok p
  where
    here : (l : Level) (s : Spot) (whole : Forest) (part : Part) (kids floats rest : Forest) → IsConFirst (con part kids floats end) → Here 0 l s (con part kids floats rest) (con (record part { marks = marks }) kids floats rest)
    here l s whole part kids floats rest ok p =
        let At : Level → Type 0 = λ l. Here 0 l s (con part kids floats rest) (con (record part { marks = marks }) kids floats rest) in
        subst At (con_level l s.tiled s.room part.id part.kind part.marks kids ok p.0)
        (λ q. ((con_marks s.tiled s.room part.id part.kind part.marks marks kids few q.0, q.1, q.2, q.3, q.4), tt, omega arith)) p

-- the marks that a node is given, where it is there
abbrev pub given : ℕ → Forest → ℕ
given n end = 0
given n (con part kids floats rest) = n

-- other marks in the place of those that the node had
pub count_marks : (c : ConId) (marks : List (List ℕ)) (f : Forest) → mark_count (at c marks_word marks f) + length (first_marks (only c f)) ≡ mark_count f + given (length marks) (only c f)
count_marks c marks =
    by_change c marks_word marks (λ old new found. mark_count new + length (first_marks found) ≡ mark_count old + given (length marks) found) refl
    (λ part kids floats rest. omega arith)
    (λ part kids floats rest new found h. omega (arith, h))
    (λ part kids floats rest new found h. omega (arith, h))
    (λ part kids floats rest new found h. omega (arith, h))

pub given_most : (n : ℕ) (found : Forest) → given n found ≤ n
given_most n end = omega arith
given_most n (con part kids floats rest) = omega arith

pub room_for_mark : (all own : ℕ) → (leb 1024 all || leb 32 own) ≡ false → (all < 1024) × (own < 32)
room_for_mark all own h = by_tests (leb 1024 all) (leb 32 own) refl refl h
  where
    by_tests : (a b : Bool) → leb 1024 all ≡ a → leb 32 own ≡ b → (a || b) ≡ false → (all < 1024) × (own < 32)
    by_tests true b ea eb h = cc
    by_tests false true ea eb h = cc
    by_tests false false ea eb h = (grind (arith, nat_tests), grind (arith, nat_tests))

pub length_last : (xs : List (List ℕ)) (n : List ℕ) → length (xs ++ n ∷ []) ≡ length xs + 1
length_last [] n = omega arith
length_last (x ∷ xs) n = omega (arith, length_last xs n)

-- a container with other marks, within the limits
pub sound-with_marks : (c : ConId) (marks : List (List ℕ)) (t : TreeValue) → IsConFirst (only c t.nodes) → length marks ≤ 32 → mark_count (at c marks_word marks t.nodes) ≤ 1024 → IsSound t → IsSound (with_marks c marks t)
sound-with_marks c marks t ok short few s =
    let g = shaped-marks c marks roots top t.nodes ok short s.shaped in
    record {
      shaped = g.sound;
      rooted = g.keeps root s.rooted;
      once = λ i. omega (arith, count-same (one_of i) c marks_word marks (λ part kids floats rest. refl) t.nodes, s.once i);
      fresh = λ i above. omega (arith, count-same (one_of i) c marks_word marks (λ part kids floats rest. refl) t.nodes, s.fresh i above);
      low = omega (arith, count-same (one_of nobody) c marks_word marks (λ part kids floats rest. refl) t.nodes, s.low);
      above = s.above;
      known = λ i. s.known i ∙ sym (count-same (rank_of i) c marks_word marks (λ part kids floats rest. refl) t.nodes);
      few = omega (arith, count-same con_of c marks_word marks (λ part kids floats rest. refl) t.nodes, s.few);
      few_spaces = omega (arith, count-same space_of c marks_word marks (λ part kids floats rest. refl) t.nodes, s.few_spaces);
      few_marks = few;
      ids = s.ids;
    }

pub sound-marked : (c : ConId) (n : List ℕ) (t : TreeValue) → IsConFirst (only c t.nodes) → is_full_of_marks c t.nodes ≡ false → IsSound t → IsSound (marked c n t)
sound-marked c n t ok none s =
    let marks : List (List ℕ) = marks_in c t.nodes ++ n ∷ [] in
    let room = room_for_mark (mark_count t.nodes) (length (marks_in c t.nodes)) none in
    let long = length_last (marks_in c t.nodes) n in
    sound-with_marks c marks t ok (omega (arith, long, room.1)) (omega (arith, count_marks c marks t.nodes, given_most (length marks) (only c t.nodes), long, room.0)) s

-- ---- fewer marks of one node

module _ {X : Type 0} (g : X → List (List ℕ) → List (List ℕ)) (x : X) (ok : IsFewer (g x)) (c : ConId) where
  shaped-fewer : (l : Level) (s : Spot) (forest : Forest) → IsSoundRow l s.tiled s.room forest
      → Grows 0 l s.tiled s.room forest forest (at c (marks_by g) x forest) (row_with c forest forest)
  shaped-fewer l s forest p = keeps_by IsNode node_keeps c (marks_by g) x 0 (λ found sp st. Unit {0}) (λ found sp st h. inl refl) here l s forest forest tt p
    where
      here : (l : Level) (s : Spot) (whole : Forest) (part : Part) (kids floats rest : Forest) → Unit {0} → Here 0 l s (con part kids floats rest) (con (record part { marks = g x part.marks }) kids floats rest)
      here l s whole part kids floats rest un p =
          ((fewer_node (g x) ok l s.tiled s.room part.id part.kind part.marks kids p.0, p.1, p.2, p.3, p.4), behind_row l part (record part { marks = g x part.marks }) kids floats rest kids floats rest refl (same_row l rest), omega arith)

  count_fewer : (f : Forest) → mark_count (at c (marks_by g) x f) ≤ mark_count f
  count_fewer =
      by_change c (marks_by g) x (λ old new found. mark_count new ≤ mark_count old) (omega arith)
      (λ part kids floats rest. omega (arith, ok.most part.marks))
      (λ part kids floats rest new found h. omega (arith, h))
      (λ part kids floats rest new found h. omega (arith, h))
      (λ part kids floats rest new found h. omega (arith, h))

  pub sound-fewer : (t : TreeValue) → IsSound t → IsSound (record t { nodes = at c (marks_by g) x t.nodes })
  sound-fewer t s =
      let k = shaped-fewer roots top t.nodes s.shaped in
      record {
        shaped = k.sound;
        rooted = k.keeps root s.rooted;
        once = λ i. omega (arith, count-same (one_of i) c (marks_by g) x (λ part kids floats rest. refl) t.nodes, s.once i);
        fresh = λ i above. omega (arith, count-same (one_of i) c (marks_by g) x (λ part kids floats rest. refl) t.nodes, s.fresh i above);
        low = omega (arith, count-same (one_of nobody) c (marks_by g) x (λ part kids floats rest. refl) t.nodes, s.low);
        above = s.above;
        known = λ i. s.known i ∙ sym (count-same (rank_of i) c (marks_by g) x (λ part kids floats rest. refl) t.nodes);
        few = omega (arith, count-same con_of c (marks_by g) x (λ part kids floats rest. refl) t.nodes, s.few);
        few_spaces = omega (arith, count-same space_of c (marks_by g) x (λ part kids floats rest. refl) t.nodes, s.few_spaces);
        few_marks = omega (arith, count_fewer t.nodes, s.few_marks);
        ids = s.ids;
      }

pub sound-unmarked : (c : ConId) (n : List ℕ) (t : TreeValue) → IsSound t → IsSound (unmarked c n t)
sound-unmarked c n t s = sound-fewer other_marks n (other_fewer n) c t s

pub sound-kept : (c : ConId) (kept : Option (List ℕ)) (t : TreeValue) → IsSound t → IsSound (record t { nodes = at c keep_word kept t.nodes })
sound-kept c kept t s = sound-fewer only_mark kept (only_fewer kept) c t s

-- keeping one gives the container that one alone
pub as_kept : (c : ConId) (kept : Option (List ℕ)) (t new : TreeValue) → new ≡ record t { nodes = at c keep_word kept t.nodes } → new ≡ with_marks c (only_mark kept (marks_in c t.nodes)) t
as_kept c kept t new e = e ∙ ap (λ f. record t { nodes = f }) (kept_marks c kept t.nodes)
