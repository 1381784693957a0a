use Rattle.std.proofs.Common.{◌≡◌, Some, sym, ◌∙◌, arith, rules}
use Rattle.std.proofs.lemmas.Grind.{common_steps}
use Rattle.wm_apply.proofs.OutputLemmas.{sent_refusal_is, sent_tree_is}
use Rattle.wm_spaces.specs.Outs.{output_at}
use Rattle.wm_apply.proofs.outputs.send_to_named.Goals as goal

pub returns : goal.returns
returns c =
    let at : output_at c.args.con c.args.arg.now c.args.t.now ≡ Some c.in-Some.output = sym c.output_at.ensures.value ∙ c.in-Some.is in
    let why = sent_refusal_is c.args.con c.in-Some.output c.args.arg.now c.args.t.now at in
    let new = sent_tree_is c.args.con c.in-Some.output c.args.arg.now c.args.t.now at in
    record {
      tree = rw new c.send_to_output.ensures.tree;
      fine = rw why c.send_to_output.ensures.fine;
      err = c.send_to_output.ensures.err;
      cause = rw why (first_of (search rules, grind (arith, common_steps)));
      sound = c.send_to_output.ensures.sound;
    }
