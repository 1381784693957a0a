use Rattle.std.proofs.Common.{◌≡◌, false, rules}
use Rattle.wm_focus.proofs.SplitLemmas.{split_cause}
use Rattle.wm_focus.proofs.SubjectLemmas.{subject_there}
use Rattle.wm_focus.specs.Splits.{gives_layout}
use Rattle.wm_focus.proofs.splits.split.Goals as goal

pub returns-in-Err : goal.returns-in-Err
returns-in-Err c = record {
  tree = search rules;
  fine = search rules;
  err = search rules;
  cause =
      let target = c.in_ok-target.ensures.laid in
      let alone : gives_layout c.args.t.now c.args.con ≡ false = cc (c.if-gives_layout.ensures, target.at, target.layouts, target.own) in
      rw c.refused.ensures
      (split_cause c.args.t.now c.args.con c.args.arg c.in-Err.error (subject_there c.args.t.now c.args.con c.requires) c.in_ok-target.ensures.fine alone c.in-Err.ensures.cause);
  sound = search rules;
}
