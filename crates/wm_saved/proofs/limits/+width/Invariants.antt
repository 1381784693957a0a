use Rattle.std.proofs.Common.{◌≡◌, drop}
use Rattle.std.specs.List.{list_any}
use Rattle.wm_saved.specs.Containers.{containers}
use Rattle.wm_saved.specs.Limits.{is_wide_own}
use Rattle.wm_saved.proofs.limits.+width.Given as goal

-- a container with too many is one of those that are left
abbrev pub invariant-is_wide-loop-node : goal.invariant-is_wide-loop-node
invariant-is_wide-loop-node l = list_any is_wide_own (containers l.nodes) ≡ list_any is_wide_own (containers (drop l.node-index l.nodes))
