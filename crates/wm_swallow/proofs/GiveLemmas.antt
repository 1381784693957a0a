-- A mark that is given to a new container passes no limit where there is room for all that are to come.
use Rattle.std.proofs.Common.{◌≡◌, ℕ, ◌+◌, ◌≤◌, Bool, true, false, cond, leb, ◌||◌, List, ◌∷◌, length, Some, None, refl, sym, ◌∙◌, ap, arith}
use Rattle.std.proofs.lemmas.Bool.Decides.{nat_tests}
use Rattle.wm_base.specs.declared.ids.ConId.{ConId}
use Rattle.wm_focus.specs.Marks.{bears, cleared, give_refusal, given_mark, is_marked, taken_off, with_mark}
use Rattle.wm_tree.proofs.MarkForests.{marks_off, marks_same, marks_set, off_marks, has_off, has_marks}
use Rattle.wm_forest.specs.Change.{at}
use Rattle.wm_forest.specs.Counts.{mark_count}
use Rattle.wm_forest.specs.Forest.{Forest}
use Rattle.wm_forest.specs.Look.{has}
use Rattle.wm_forest.specs.Marks.{marks_word}
use Rattle.wm_forest.specs.SoundRow.{tally}
use Rattle.wm_swallow.specs.Limits.{different, is_held}
use Rattle.wm_swallow.proofs.HeldLemmas.{held, held_beside, held_by, held_is, held_off, held_own, held_set, with_mark_length, with_mark_others, with_mark_own}
use Rattle.wm_swallow.proofs.MarkCounts.{off_count, set_count}
use Rattle.wm_swallow.proofs.MarkBudget.{LearnsOf, takes_one}
use Rattle.wm_tree.specs.Move.{is_full_of_marks, marks_in}
use Rattle.wm_tree.specs.TreeValue.{TreeValue}

-- the marks that there are and those to come that are new, are at most 1,024
abbrev pub HasRoom : Forest → List (List ℕ) → Type 0
HasRoom f ms = mark_count f + different (is_held f) ms ≤ 1024

-- the marks of one container and those to come that it has not, are at most 32
abbrev pub HasRoomOf : List (List ℕ) → List (List ℕ) → Type 0
HasRoomOf own ms = length own + different (λ x. bears x own) ms ≤ 32

module _ (c : ConId) (m : List ℕ) (t : TreeValue) (there : has c t.nodes ≡ true) (once : tally c t.nodes ≤ 1) where
  abbrev own : List (List ℕ)
  own = marks_in c t.nodes

  abbrev new : Forest
  new = (given_mark c m true t).nodes

  -- c has the mark, and else its marks as before
  pub marks_given : marks_in c new ≡ with_mark m own
  marks_given = marks_off c m (at c marks_word (with_mark m own) t.nodes) ∙ marks_set c (with_mark m own) t.nodes there

  pub there_given : has c new ≡ true
  there_given = has_off c (Some c) m (at c marks_word (with_mark m own) t.nodes) ∙ has_marks c c (with_mark m own) t.nodes ∙ there

  -- c learns of the mark
  own_learns : LearnsOf m (λ x. bears x own) (λ x. bears x (marks_in c new))
  own_learns = record {
    own = ap (bears m) marks_given ∙ with_mark_own m own;
    others = λ x d. ap (bears x) marks_given ∙ with_mark_others m x own d;
  }

  -- so does the tree
  tree_learns : LearnsOf m (is_held t.nodes) (is_held new)
  tree_learns = record {
    own = held_is m new ∙ held_own c m new (ap (bears m) marks_given ∙ with_mark_own m own);
    others = λ x d.
        held_is x new
        ∙ held_off (Some c) m x (at c marks_word (with_mark m own) t.nodes) d
        ∙ held_set c (with_mark m own) x t.nodes (with_mark_others m x own d)
        ∙ sym (held_is x t.nodes);
  }

  -- how many marks there are afterwards
  count_given : mark_count new ≡ mark_count (taken_off (Some c) m t.nodes) + cond (bears m own) 0 1
  count_given =
      let g : Forest = taken_off (Some c) m t.nodes in
      let swapped : mark_count new ≡ mark_count (at c marks_word (with_mark m own) g) = ap mark_count (off_marks c m (with_mark m own) t.nodes) in
      let here : has c g ≡ true = has_off c (Some c) m t.nodes ∙ there in
      let same : length (marks_in c g) ≡ length own = ap (λ (ms : List (List ℕ)). length ms) (marks_off c m t.nodes) in
      omega (arith, swapped, set_count c (with_mark m own) g here, same, with_mark_length m own)

  -- a mark that is held is one of c, or another one has it
  where_held : held m t.nodes ≡ true → held_beside c m t.nodes ≡ false → bears m own ≡ true
  where_held h b = held_by c m t.nodes once h b

  -- what is there is no more, but for a mark that nobody had
  count_most : mark_count (taken_off (Some c) m t.nodes) + cond (bears m own) 0 1 ≤ mark_count t.nodes + cond (is_held t.nodes m) 0 1
  count_most = by (bears m own) (held_beside c m t.nodes) (held m t.nodes) refl refl refl (off_count c m t.nodes)
    where
      by : (b k h : Bool) → bears m own ≡ b → held_beside c m t.nodes ≡ k → held m t.nodes ≡ h → mark_count (taken_off (Some c) m t.nodes) + cond (held_beside c m t.nodes) 1 0 ≤ mark_count t.nodes
          → mark_count (taken_off (Some c) m t.nodes) + cond b 0 1 ≤ mark_count t.nodes + cond (is_held t.nodes m) 0 1
      by true k h eb ek eh off = omega (arith, off)
      by false true h eb ek eh off = let one : ◌≡◌ {A = ℕ} (cond (held_beside c m t.nodes) 1 0) 1 = rw ek refl in omega (arith, off, one)
      by false false true eb ek eh off = let no : false ≡ true = sym eb ∙ where_held eh ek in cc
      by false false false eb ek eh off = let one : ◌≡◌ {A = ℕ} (cond (is_held t.nodes m) 0 1) 1 = rw (held_is m t.nodes, eh) refl in omega (arith, off, one)

  -- there is room afterwards for those that are still to come
  pub room_given : (ms : List (List ℕ)) → HasRoom t.nodes (m ∷ ms) → HasRoom new ms
  room_given ms room = omega (arith, room, takes_one m (is_held t.nodes) (is_held new) tree_learns ms, count_given, count_most)

  pub own_room_given : (ms : List (List ℕ)) → HasRoomOf own (m ∷ ms) → HasRoomOf (marks_in c new) ms
  own_room_given ms room =
      let same : length (marks_in c new) ≡ length own + cond (bears m own) 0 1 = ap (λ (ms : List (List ℕ)). length ms) marks_given ∙ with_mark_length m own in
      omega (arith, room, takes_one m (λ x. bears x own) (λ x. bears x (marks_in c new)) own_learns ms, same)

  -- it is not refused
  pub not_refused : (ms os : List (List ℕ)) → HasRoom t.nodes (m ∷ ms) → HasRoomOf own (m ∷ os) → give_refusal c m true t ≡ None
  not_refused ms os room own_room = by (is_marked c m t) refl
    where
      few : (a o : ℕ) → a ≤ 1023 → o ≤ 31 → (leb 1024 a || leb 32 o) ≡ false
      few a o p q = grind (arith, nat_tests)

      by : (b : Bool) → is_marked c m t ≡ b → give_refusal c m true t ≡ None
      by true e = rw e refl
      by false e =
          let nodes : (cleared c m true t).nodes ≡ taken_off (Some c) m t.nodes = ap (taken_off (Some c) m) (marks_same c t.nodes) in
          let all : mark_count (taken_off (Some c) m t.nodes) ≤ 1023 = let one : ◌≡◌ {A = ℕ} (cond (bears m own) 0 1) 1 = rw e refl in omega (arith, one, count_most, room, takes_one m (is_held t.nodes) (is_held new) tree_learns ms) in
          let mine : length (marks_in c (taken_off (Some c) m t.nodes)) ≤ 31 =
          let one : ◌≡◌ {A = ℕ} (cond (bears m own) 0 1) 1 = rw e refl in
          let same : length (marks_in c (taken_off (Some c) m t.nodes)) ≡ length own = ap (λ (ms : List (List ℕ)). length ms) (marks_off c m t.nodes) in
          omega (arith, one, own_room, takes_one m (λ x. bears x own) (λ x. bears x (marks_in c new)) own_learns os, same) in
          let full : is_full_of_marks c (cleared c m true t).nodes ≡ false = ap (is_full_of_marks c) nodes ∙ few (mark_count (taken_off (Some c) m t.nodes)) (length (marks_in c (taken_off (Some c) m t.nodes))) all mine in
          rw (e, full) refl
