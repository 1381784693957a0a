use Rattle.std.proofs.Common.{◌∙◌}
use Rattle.wm_json.specs.Spaces.{workspaces_data}
use Rattle.wm_json.proofs.SpaceLemmas.{workspaces_print}
use Rattle.wm_written.proofs.SentLemmas.{written_is}
use Rattle.wm_written.proofs.spaces.workspaces_json.Goals as goal

pub returns : goal.returns
returns c =
    written_is (workspaces_data c.args.spaces.now) (c.new-out.ensures.before ∙ c.in_ok-with_capacity.ensures.items) c.new-out.ensures.tokens c.in_ok-put_workspaces.ensures c.into_inner.ensures.items
    ∙ (workspaces_print c.args.spaces.now).text
