use Rattle.std.proofs.Common.{◌≡◌, length}
use Rattle.wm_apply.specs.Layouts.{layout_named}
use Rattle.wm_apply.proofs.layouts.layout_named.Given as goal

-- the first of those left is the first of all
abbrev pub invariant-loop-rest : goal.invariant-loop-rest
invariant-loop-rest l = layout_named l.name l.rest ≡ layout_named l.name l.layouts

abbrev pub decreases-loop-rest : goal.decreases-loop-rest
decreases-loop-rest l = length l.rest
