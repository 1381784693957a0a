use Rattle.std.proofs.Common.{◌≡◌, length}
use Rattle.wm_apply.specs.Batches.{commands_done}
use Rattle.wm_tree.specs.Sound.{IsSound}
use Rattle.wm_apply.proofs.batches.Running.commands.Given as goal

-- what the commands so far did, and what the others will do, is what all do
abbrev pub invariant-loop-rest : goal.invariant-loop-rest
invariant-loop-rest l = record {
  done : commands_done l.env l.targets l.rest l.self ≡ commands_done l.env l.targets l.commands l.initial.self;
  sound : IsSound l.self.tree;
}

abbrev pub decreases-loop-rest : goal.decreases-loop-rest
decreases-loop-rest l = length l.rest
