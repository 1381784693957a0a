use Rattle.std.proofs.Common.{arith, rules}
use Rattle.std.proofs.lemmas.Grind.{common_steps}
use Rattle.wm_spaces.proofs.ShowLemmas.{new_is, space_cause}
use Rattle.wm_tree.proofs.SpaceLemmas.{has_output}
use Rattle.wm_spaces.proofs.showing.show_new.Goals as goal

pub show_there-requires-clause-space : goal.show_there-requires-clause-space
show_there-requires-clause-space c =
    new_is c.args.output c.in-Ok-add_workspace.w c.args.name.now c.args.t.now c.add_workspace.new.self (first_of (search rules, grind (arith, common_steps))) (first_of (search rules, grind (arith, common_steps)))
    (c.add_workspace.ensures.sound (λ there. c.requires.output) c.requires.sound) c.requires.sound c.requires.output

pub returns-in-Err : goal.returns-in-Err
returns-in-Err c = record {
  tree = search rules;
  fine = search rules;
  err = search rules;
  cause =
      rw c.refused.ensures (space_cause c.args.t.now c.args.output c.in-Err.error (has_output c.args.output c.args.t.now.nodes c.requires.output) c.in-Err.ensures.cause);
  sound = search rules;
}
