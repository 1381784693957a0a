use Rattle.std.proofs.Common.{◌≡◌, ◌++◌, length}
use Rattle.std.specs.Prelude.{flat_map}
use Rattle.wm_paint.specs.CanvasValue.{ink_bytes}
use Rattle.wm_paint.proofs.pixels.push_inks.Given as goal

-- the bytes so far and those of the rest make the whole
abbrev pub invariant-loop-rest : goal.invariant-loop-rest
invariant-loop-rest l = l.bytes.items ++ flat_map ink_bytes l.rest ≡ l.initial.bytes.items ++ flat_map ink_bytes l.inks

abbrev pub decreases-loop-rest : goal.decreases-loop-rest
decreases-loop-rest l = length l.rest
