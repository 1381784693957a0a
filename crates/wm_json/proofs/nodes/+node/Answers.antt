use Rattle.std.proofs.Common.{codes, ap, ◌∙◌}
use Rattle.serde_json.specs.Data.{put as with_member}
use Rattle.serde_json.specs.View.{members_view}
use Rattle.serde_json.specs.Written.{has_float, compact_text}
use Rattle.serde_json.proofs.Views.{view-Object}
use Rattle.wm_json.specs.Nodes.{nodes_data}
use Rattle.wm_json.proofs.NodeLemmas.{added}
use Rattle.wm_json.proofs.NodeTextLemmas.{node_prints}
use Rattle.wm_json.proofs.nodes.+node.Goals as goal

pub put_node-returns : goal.put_node-returns
put_node-returns t c = added c.args.n.now _ _ _ _ _ _
    (ap members_view c.requires)
    c.in_ok-put_last.ensures
    (c.in_ok-put_nodes.ensures ∙ ap (λ ns. with_member (codes "nodes") (nodes_data ns) (members_view c.put_last.new.members.entries)) c.items.ensures)
    c.in_ok-put_middle.ensures
    (c.in_ok-put_nodes-2.ensures ∙ ap (λ ns. with_member (codes "floating_nodes") (nodes_data ns) (members_view c.put_middle.new.members.entries)) c.items-2.ensures)
    c.in_ok-put_border.ensures

pub node_value-returns-clause-value : goal.node_value-returns-clause-value
node_value-returns-clause-value t c = view-Object c.put_node.new.members ∙ c.in_ok-put_node.ensures

pub node_value-returns-clause-text : goal.node_value-returns-clause-text
node_value-returns-clause-text t c = ap compact_text (node_value-returns-clause-value t c) ∙ (node_prints c.args.n.now).text

pub node_value-returns-clause-whole : goal.node_value-returns-clause-whole
node_value-returns-clause-whole t c = ap has_float (node_value-returns-clause-value t c) ∙ (node_prints c.args.n.now).whole
