use Rattle.std.proofs.Common.{◌≡◌, drop}
use Rattle.serde_json.specs.View.{items_view}
use Rattle.wm_saved.specs.Fields.{items_from}
use Rattle.wm_saved.specs.Swallows.{swallow_at}
use Rattle.wm_saved.proofs.ItemLemmas.{with_front}
use Rattle.wm_saved.proofs.swallows.swallows_at.Given as goal

-- those so far stand in front of those that are left
abbrev pub invariant-loop-place : goal.invariant-loop-place
invariant-loop-place l = items_from swallow_at l.path 0 (items_view l.values) ≡ with_front l.swallows.items (items_from swallow_at l.path l.place (items_view (drop l.place l.values)))
