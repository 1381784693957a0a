use Rattle.std.proofs.Common.{arith, rules}
use Rattle.std.proofs.lemmas.Grind.{common_steps}
use Rattle.wm_floats.proofs.placing.place_at.Goals as goal

pub returns : goal.returns
returns c = record {
  tree = first_of (search rules, grind (arith, common_steps));
  fine = first_of (search rules, grind (arith, common_steps));
  err = search rules;
  cause = search rules;
  sound = search rules;
}
