use Rattle.std.proofs.Common.{arith, rules}
use Rattle.std.proofs.lemmas.Grind.{common_steps}
use Rattle.wm_spaces.proofs.MoveLemmas.{freed_new_by, held_on}
use Rattle.wm_spaces.proofs.ShowLemmas.{space_cause}
use Rattle.wm_spaces.specs.Coming.{free_name}
use Rattle.wm_spaces.specs.Moving.{IsFree}
use Rattle.wm_tree.proofs.SpaceLemmas.{has_output}
use Rattle.wm_spaces.proofs.moving.show_another.Goals as goal

pub returns-in-Ok-add_workspace : goal.returns-in-Ok-add_workspace
returns-in-Ok-add_workspace c =
    let out = (held_on c.args.w c.args.own c.args.t.now c.requires.sound c.requires.space c.requires.own).0 in
    let free : IsFree c.args.w c.args.t.now c.set_shown.new.self =
    freed_new_by c.args.w c.args.own c.in-Ok-add_workspace.v (free_name c.args.t.now) c.args.t.now c.add_workspace.new.self c.set_shown.new.self (first_of (search rules, grind (arith, common_steps)))
    (first_of (search rules, grind (arith, common_steps))) (first_of (search rules, grind (arith, common_steps))) (c.add_workspace.ensures.sound (λ there. out) c.requires.sound) c.requires.sound c.requires.space c.requires.own in
    record {
      does = record {
        tree = first_of (search rules, grind (arith, common_steps));
        fine = first_of (search rules, grind (arith, common_steps));
        err = tt;
        cause = tt;
        sound = free.sound;
      };
      free = free;
    }

pub returns-clause-does : goal.returns-clause-does
returns-clause-does c = record {
  tree = tt;
  fine = tt;
  err = first_of (search rules, grind (arith, common_steps));
  cause =
      let out = (held_on c.args.w c.args.own c.args.t.now c.requires.sound c.requires.space c.requires.own).0 in
      rw c.refused.ensures (space_cause c.args.t.now c.args.own c.in-Err.error (has_output c.args.own c.args.t.now.nodes out) c.in-Err.ensures.cause);
  sound = first_of (search rules, grind (arith, common_steps));
}
