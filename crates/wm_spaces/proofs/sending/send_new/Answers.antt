use Rattle.std.proofs.Common.{arith, rules}
use Rattle.std.proofs.lemmas.Grind.{common_steps}
use Rattle.wm_spaces.proofs.KeptLemmas.{con_kept}
use Rattle.wm_shared.proofs.KidLemmas.{con_there}
use Rattle.wm_spaces.proofs.ShowLemmas.{new_is, space_cause_or}
use Rattle.wm_tree.proofs.SpaceLemmas.{has_output}
use Rattle.wm_spaces.proofs.sending.send_new.Goals as goal

pub returns-in-Err : goal.returns-in-Err
returns-in-Err c = record {
  tree = search rules;
  fine = search rules;
  err = search rules;
  cause =
      rw c.refused.ensures (space_cause_or c.args.t.now c.args.output c.in-Err.error _ (has_output c.args.output c.args.t.now.nodes c.requires.output) c.in-Err.ensures.cause);
  sound = search rules;
}

pub send-requires-clause-con : goal.send-requires-clause-con
send-requires-clause-con c =
    con_kept c.args.con c.args.output c.args.name.now c.args.t.now c.add_workspace.new.self (first_of (search rules, grind (arith, common_steps))) c.requires.sound (con_there c.args.con c.args.t.now.nodes c.requires.con) c.requires.con

pub send-requires-clause-space : goal.send-requires-clause-space
send-requires-clause-space c =
    new_is c.args.output c.in-Ok-add_workspace.w c.args.name.now c.args.t.now c.add_workspace.new.self (first_of (search rules, grind (arith, common_steps))) (first_of (search rules, grind (arith, common_steps)))
    (c.add_workspace.ensures.sound (λ there. c.requires.output) c.requires.sound) c.requires.sound c.requires.output
