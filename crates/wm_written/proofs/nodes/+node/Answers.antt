use Rattle.std.proofs.Common.{Some, codes, sym, ap, ◌∷◌}
use Rattle.std.proofs.lemmas.Result.{on_ok_weaker}
use Rattle.wm_json.specs.Nodes.{node_data, nodes_data}
use Rattle.json.specs.Token.{key}
use Rattle.wm_written.proofs.NodeLemmas.{node_sent}
use Rattle.wm_written.specs.Sent.{sent, sent_if}
use Rattle.wm_written.proofs.SentLemmas.{array_sent, sends_is, sends_then, taken_more}
use Rattle.wm_written.proofs.nodes.+node.Goals as goal

pub put_nodes-loop-node-preserved : goal.put_nodes-loop-node-preserved
put_nodes-loop-node-preserved t c = sends_is (sends_then c.loop-node.invariant (sends_is c.in_ok-put_node.ensures (ap (λ n. sent (node_data n)) c.node-item.is))) (sym (taken_more node_data c.args.nodes.now c.loop-node.node-index _ c.loop-node-test.true))

pub put_nodes-returns : goal.put_nodes-returns
put_nodes-returns t c =
    on_ok_weaker _ (λ last. sends_is (sends_then c.in_ok-name.ensures (sends_then c.in_ok-open_array.ensures (sends_then c.loop-node.invariant last))) (ap (λ ts. key c.args.field.now ∷ ts) (array_sent node_data c.args.nodes.now c.loop-node.node-index c.loop-node-test.false))) c.close_array.ensures

pub put_node-returns : goal.put_node-returns
put_node-returns t c =
    let floating = sends_is c.in_ok-put_nodes.ensures (ap (λ ns. sent_if (codes "floating_nodes") (Some (nodes_data ns))) c.items.ensures) in
    let tiled = sends_is c.in_ok-put_nodes-2.ensures (ap (λ ns. sent_if (codes "nodes") (Some (nodes_data ns))) c.items-2.ensures) in
    on_ok_weaker _ (λ last.
    sends_is (sends_then c.in_ok-open_object.ensures (sends_then c.in_ok-put_border.ensures (sends_then floating (sends_then c.in_ok-put_middle.ensures
    (sends_then tiled (sends_then c.in_ok-put_last.ensures last)))))) (node_sent c.args.n.now)) c.close_object.ensures
