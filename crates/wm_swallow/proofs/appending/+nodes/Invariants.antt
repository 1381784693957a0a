use Rattle.std.proofs.Common.{◌≡◌, ◌≤◌, ◌+◌, ◌*◌, length}
use Rattle.wm_swallow.specs.Appending.{appended}
use Rattle.wm_swallow.specs.SavedRows.{row_below, rows, size}
use Rattle.wm_swallow.specs.Steps.{IsFree}
use Rattle.wm_tree.specs.Sound.{IsSound}
use Rattle.wm_swallow.proofs.appending.+nodes.Given as goal

abbrev pub decreases-attach_all : goal.decreases-attach_all
decreases-attach_all l = 2 * size (rows l.nodes.now)

abbrev pub decreases-attach_below : goal.decreases-attach_below
decreases-attach_below l = 2 * size (row_below l.kind.now) + 1

abbrev pub decreases-attach_all-loop-rest : goal.decreases-attach_all-loop-rest
decreases-attach_all-loop-rest l = length l.rest

-- appending those that are left makes the tree in which all are appended
abbrev pub invariant-attach_all-loop-rest : goal.invariant-attach_all-loop-rest
invariant-attach_all-loop-rest l = record {
  few : size (rows l.rest) ≤ size (rows l.nodes);
  sound : IsSound l.tree;
  free : IsFree l.parent (rows l.rest) l.tree;
  whole : appended l.parent (rows l.rest) l.tree ≡ appended l.parent (rows l.nodes) l.fn.tree;
}
