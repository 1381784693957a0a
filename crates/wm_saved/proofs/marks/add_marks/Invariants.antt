use Rattle.std.proofs.Common.{◌≡◌, drop}
use Rattle.wm_saved.specs.Limits.{with_marks}
use Rattle.wm_saved.proofs.marks.add_marks.Given as goal

-- with those that are left it is all of them
abbrev pub invariant-loop-mark : goal.invariant-loop-mark
invariant-loop-mark l = with_marks l.initial.held.items l.marks ≡ with_marks l.held.items (drop l.mark-index l.marks)
