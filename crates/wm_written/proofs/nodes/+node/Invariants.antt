use Rattle.std.proofs.Common.{map, take}
use Rattle.wm_json.specs.Nodes.{node_data}
use Rattle.wm_written.specs.Sent.{Sends, sent_all}
use Rattle.wm_written.proofs.nodes.+node.Given as goal

-- what was sent for those so far
abbrev pub invariant-put_nodes-loop-node : goal.invariant-put_nodes-loop-node
invariant-put_nodes-loop-node l = Sends l.initial.out l.out (sent_all (map node_data (take l.node-index l.nodes)))
