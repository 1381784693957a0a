use Rattle.std.proofs.Common.{◌≡◌, length}
use Rattle.wm_grammar.specs.Openings.{first_finished}
use Rattle.wm_grammar.specs.Ways.{seen}
use Rattle.wm_grammar.proofs.reading.first_finished.Given as goal

abbrev pub invariant-loop-rest : goal.invariant-loop-rest
invariant-loop-rest l = first_finished l.text l.raw (seen l.rest) ≡ first_finished l.text l.raw (seen l.ways)

abbrev pub decreases-loop-rest : goal.decreases-loop-rest
decreases-loop-rest l = length l.rest
