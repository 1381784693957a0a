use Rattle.std.proofs.Common.{◌∙◌}
use Rattle.wm_json.specs.Spaces.{outputs_data}
use Rattle.wm_json.proofs.SpaceLemmas.{outputs_print}
use Rattle.wm_written.proofs.SentLemmas.{written_is}
use Rattle.wm_written.proofs.spaces.outputs_json.Goals as goal

pub returns : goal.returns
returns c =
    written_is (outputs_data c.args.outputs.now) (c.new-out.ensures.before ∙ c.in_ok-with_capacity.ensures.items) c.new-out.ensures.tokens c.in_ok-put_outputs.ensures c.into_inner.ensures.items
    ∙ (outputs_print c.args.outputs.now).text
