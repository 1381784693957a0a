use Rattle.std.proofs.Common.{◌≡◌, length}
use Rattle.wm_arrange.specs.Sizes.{content_size}
use Rattle.wm_arrange.proofs.parts.Arrangement.size.Given as goal

-- the content is the first one of the rest
abbrev pub invariant-loop-rest : goal.invariant-loop-rest
invariant-loop-rest l = content_size l.con l.rest ≡ content_size l.con l.self.parts

abbrev pub decreases-loop-rest : goal.decreases-loop-rest
decreases-loop-rest l = length l.rest
