use Rattle.std.proofs.Common.{◌≡◌, length}
use Rattle.wm_swallow.specs.Appending.{given_marks}
use Rattle.wm_swallow.specs.Steps.{IsRoomFor}
use Rattle.wm_tree.specs.Sound.{IsSound}
use Rattle.wm_swallow.proofs.appending.give_marks.Given as goal

-- giving those that are left makes the tree in which all are given
abbrev pub invariant-loop-rest : goal.invariant-loop-rest
invariant-loop-rest l = record {
  sound : IsSound l.tree;
  room : IsRoomFor l.con l.rest l.tree;
  whole : given_marks l.con l.rest l.tree ≡ given_marks l.con l.marks l.fn.tree;
}

abbrev pub decreases-loop-rest : goal.decreases-loop-rest
decreases-loop-rest l = length l.rest
