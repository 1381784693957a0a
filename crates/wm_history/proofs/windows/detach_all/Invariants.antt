use Rattle.std.proofs.Common.{◌≡◌, length}
use Rattle.wm_history.specs.Windows.{AreContainers, without_windows}
use Rattle.wm_tree.specs.Sound.{IsSound}
use Rattle.wm_history.proofs.windows.detach_all.Given as goal

-- the tree without the rest is the one without all
abbrev pub invariant-loop-rest : goal.invariant-loop-rest
invariant-loop-rest l = record {
  left : without_windows l.rest l.tree ≡ without_windows l.windows l.initial.tree;
  containers : AreContainers l.rest l.tree;
  sound : IsSound l.tree;
}

abbrev pub decreases-loop-rest : goal.decreases-loop-rest
decreases-loop-rest l = length l.rest
