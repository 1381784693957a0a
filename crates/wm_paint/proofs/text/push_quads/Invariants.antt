use Rattle.std.proofs.Common.{◌≡◌, ◌++◌, length, string_bytes}
use Rattle.wm_paint.specs.FrameText.{quads_text}
use Rattle.wm_paint.proofs.text.push_quads.Given as goal

-- the text so far and that of the rest make the whole
abbrev pub invariant-loop-rest : goal.invariant-loop-rest
invariant-loop-rest l = string_bytes l.out ++ quads_text l.rest ≡ string_bytes l.initial.out ++ quads_text l.quads

abbrev pub decreases-loop-rest : goal.decreases-loop-rest
decreases-loop-rest l = length l.rest
