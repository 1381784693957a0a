use Rattle.std.proofs.Common.{◌≡◌, Some}
use Rattle.wm_floats.proofs.FullLemmas.{fulls}
use Rattle.wm_floats.specs.Fullscreen.{others_unfull}
use Rattle.wm_tree.specs.Sound.{IsSound}
use Rattle.wm_floats.proofs.full.clear_others.Given as goal

-- the others lose it in this tree as in the first
abbrev pub invariant-loop-other : goal.invariant-loop-other
invariant-loop-other l = (IsSound l.t) × (others_unfull l.con (Some l.w) l.t ≡ others_unfull l.con (Some l.w) l.fn.t)

abbrev pub decreases-loop-other : goal.decreases-loop-other
decreases-loop-other l = fulls l.con l.t.nodes
