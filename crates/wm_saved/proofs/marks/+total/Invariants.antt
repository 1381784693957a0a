use Rattle.std.proofs.Common.{◌≡◌, drop}
use Rattle.wm_saved.specs.Limits.{all_marks, with_marks}
use Rattle.wm_saved.proofs.marks.+total.Given as goal

-- with the marks of those that are left it is all of them
abbrev pub invariant-add_all-loop-node : goal.invariant-add_all-loop-node
invariant-add_all-loop-node l = with_marks l.initial.held.items (all_marks l.nodes) ≡ with_marks l.held.items (all_marks (drop l.node-index l.nodes))
