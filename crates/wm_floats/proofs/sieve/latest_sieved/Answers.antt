use Rattle.std.proofs.Common.{None, false}
use Rattle.wm_floats.proofs.SieveLemmas.{either, space_wanted}
use Rattle.wm_floats.specs.Sieve.{wants}
use Rattle.wm_floats.proofs.sieve.latest_sieved.Goals as goal

pub first_taken-requires : goal.first_taken-requires
first_taken-requires c = λ d h. c.take_in.ensures d (either (wants c.args.kind c.args.w d None false c.nodes.result) _ (rw c.nodes.ensures (space_wanted c.args.kind c.args.w d c.args.t.now h)))
