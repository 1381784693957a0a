use Rattle.std.proofs.Common.{◌∙◌}
use Rattle.wm_json.specs.Nodes.{node_data}
use Rattle.wm_json.proofs.NodeTextLemmas.{node_prints}
use Rattle.wm_written.proofs.SentLemmas.{written_is}
use Rattle.wm_written.proofs.nodes.node_json.Goals as goal

pub returns : goal.returns
returns c =
    written_is (node_data c.args.node.now) (c.new-out.ensures.before ∙ c.in_ok-with_capacity.ensures.items) c.new-out.ensures.tokens c.in_ok-put_node.ensures c.into_inner.ensures.items
    ∙ (node_prints c.args.node.now).text
