use Rattle.std.proofs.Common.{◌≡◌, false, rules}
use Rattle.wm_focus.proofs.GiveLemmas.{container_there, give_cause, give_fine, not_full}
use Rattle.wm_tree.specs.Marks.{is_full_for}
use Rattle.wm_focus.proofs.giving.give.Goals as goal

pub returns-in-Ok : goal.returns-in-Ok
returns-in-Ok c =
    let there = container_there c.args.t.now c.args.con c.requires.kind in
    let room : is_full_for c.args.con c.args.name.now c.args.add c.args.t.now ≡ false = not_full (is_full_for c.args.con c.args.name.now c.args.add c.args.t.now) (λ e. let refused = c.give_mark.ensures.full there e in cc (refused, c.in-Ok.is)) in
    record {
      tree = search rules;
      fine = give_fine c.args.con c.args.name.now c.args.add c.args.t.now c.requires.other room;
      err = search rules;
      cause = search rules;
      sound = search rules;
    }

pub returns-in-Err : goal.returns-in-Err
returns-in-Err c =
    let there = container_there c.args.t.now c.args.con c.requires.kind in
    record {
      tree = search rules;
      fine = search rules;
      err = search rules;
      cause = rw c.refused.ensures (give_cause c.args.con c.args.name.now c.args.add c.args.t.now c.in-Err.error there c.requires.other c.in-Err.ensures.cause);
      sound = search rules;
    }
