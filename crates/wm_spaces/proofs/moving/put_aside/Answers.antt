use Rattle.std.proofs.Common.{arith, rules}
use Rattle.std.proofs.lemmas.Grind.{common_steps}
use Rattle.wm_spaces.proofs.MoveLemmas.{aside_fine, aside_tree, free_by, freed_by}
use Rattle.wm_spaces.specs.Moving.{IsFree}
use Rattle.wm_spaces.proofs.moving.put_aside.Goals as goal

pub returns-in-Some : goal.returns-in-Some
returns-in-Some c =
    let free : IsFree c.args.w c.args.t.now c.set_shown.new.self =
    freed_by c.args.w c.args.own c.in-Some.key c.args.t.now c.set_shown.new.self (first_of (search rules, grind (arith, common_steps))) (first_of (search rules, grind (arith, common_steps))) c.requires.sound c.requires.space c.requires.own in
    record {
      does = record {
        tree = first_of (search rules, grind (arith, common_steps));
        fine = first_of (search rules, grind (arith, common_steps));
        err = tt;
        cause = tt;
        sound = free.sound;
      };
      free = free;
    }

pub returns-in_ok-show_another-in-None-clause-does : goal.returns-in_ok-show_another-in-None-clause-does
returns-in_ok-show_another-in-None-clause-does c = record {
  tree =
      aside_tree c.args.w c.args.own c.args.t.now c.show_another.new.t (first_of (search rules, grind (arith, common_steps))) (first_of (search rules, grind (arith, common_steps))) (first_of (search rules, grind (arith, common_steps)));
  fine =
      aside_fine c.args.w c.args.own c.args.t.now (first_of (search rules, grind (arith, common_steps))) (first_of (search rules, grind (arith, common_steps))) (first_of (search rules, grind (arith, common_steps)));
  err = tt;
  cause = tt;
  sound = first_of (search rules, grind (arith, common_steps));
}

pub returns-else-eq-clause-free : goal.returns-else-eq-clause-free
returns-else-eq-clause-free c =
    free_by c.args.w c.args.own c.shown_on.result c.args.t.now (first_of (search rules, grind (arith, common_steps))) (first_of (search rules, grind (arith, common_steps))) c.requires.sound c.requires.space c.requires.own
