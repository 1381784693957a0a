use Rattle.std.proofs.Common.{◌≡◌, drop, nat_le}
use Rattle.wm_saved.specs.Containers.{levels}
use Rattle.wm_saved.proofs.limits.+depth.Given as goal

-- all fit where those that are left do
abbrev pub invariant-fits_levels-loop-node : goal.invariant-fits_levels-loop-node
invariant-fits_levels-loop-node l = nat_le (levels l.nodes) l.room ≡ nat_le (levels (drop l.node-index l.nodes)) l.room
