use Rattle.std.proofs.Common.{◌≡◌, drop}
use Rattle.serde_json.specs.View.{items_view, members_view}
use Rattle.wm_saved.specs.Reading.{nodes_from, nodes_in}
use Rattle.wm_saved.proofs.ItemLemmas.{with_front}
use Rattle.wm_saved.proofs.reading.+reading.Given as goal

-- the nodes so far stand in front of those that are left
abbrev pub invariant-nodes_from-loop-place : goal.invariant-nodes_from-loop-place
invariant-nodes_from-loop-place l = nodes_from l.path 0 (items_view l.values) ≡ with_front l.nodes.items (nodes_from l.path l.place (items_view (drop l.place l.values)))

-- the nodes are those of the members that are left
abbrev pub invariant-nodes_in-loop-key : goal.invariant-nodes_in-loop-key
invariant-nodes_in-loop-key l = nodes_in l.path (members_view l.members.entries) ≡ nodes_in l.path (members_view l.key-iterator)
