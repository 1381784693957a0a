use Rattle.std.proofs.Common.{◌≡◌, length}
use Rattle.wm_habits.specs.Speaking.{answering}
use Rattle.wm_habits.proofs.filling.fill.Given as goal

-- what the client has to say in all stays the same
abbrev pub invariant-loop-cutter : goal.invariant-loop-cutter
invariant-loop-cutter l = record {
  same : answering l.actor l.cutter l.say.items ≡ answering l.initial.actor l.initial.cutter l.initial.say.items;
}

abbrev pub decreases-loop-cutter : goal.decreases-loop-cutter
decreases-loop-cutter l = length l.cutter
