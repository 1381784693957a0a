use Rattle.std.proofs.Common.{◌≡◌, map, take}
use Rattle.serde_json.specs.View.{view}
use Rattle.wm_json.specs.Nodes.{node_data}
use Rattle.wm_json.proofs.nodes.+node.Given as goal

-- the values so far are those of the nodes so far
abbrev pub invariant-put_nodes-loop-node : goal.invariant-put_nodes-loop-node
invariant-put_nodes-loop-node l = (map view l.values.items ≡ map node_data (take l.node-index l.nodes))
