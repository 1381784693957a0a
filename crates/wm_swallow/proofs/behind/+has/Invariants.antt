use Rattle.std.proofs.Common.{◌≡◌, drop}
use Rattle.wm_focus.specs.Marks.{bears}
use Rattle.wm_swallow.specs.SavedRows.{all_marks, rows}
use Rattle.wm_swallow.proofs.behind.+has.Given as goal

-- one with the mark is one of those that are left
abbrev pub invariant-has_mark-loop-node : goal.invariant-has_mark-loop-node
invariant-has_mark-loop-node l = bears l.mark (all_marks (rows l.nodes)) ≡ bears l.mark (all_marks (rows (drop l.node-index l.nodes)))
