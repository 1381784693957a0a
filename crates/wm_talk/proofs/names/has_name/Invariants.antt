use Rattle.std.proofs.Common.{◌≡◌, length}
use Rattle.serde_json.specs.View.{items_view}
use Rattle.wm_talk.specs.Names.{has_name}
use Rattle.wm_talk.proofs.names.has_name.Given as goal

-- none of the items before was the name
abbrev pub invariant-loop-rest : goal.invariant-loop-rest
invariant-loop-rest l = has_name l.name (items_view l.rest) ≡ has_name l.initial.name (items_view l.initial.items)

abbrev pub decreases-loop-rest : goal.decreases-loop-rest
decreases-loop-rest l = length l.rest
