use Rattle.std.proofs.Common.{◌≡◌, length}
use Rattle.std.specs.List.{list_any}
use Rattle.wm_shared.specs.Subject.{is_space}
use Rattle.wm_apply.proofs.kills.has_space_row.Given as goal

-- one of the rest is a workspace where one of all is
abbrev pub invariant-loop-rest : goal.invariant-loop-rest
invariant-loop-rest l = list_any (is_space l.rows.tree.now) l.rest ≡ list_any (is_space l.rows.tree.now) l.cons

abbrev pub decreases-loop-rest : goal.decreases-loop-rest
decreases-loop-rest l = length l.rest
