-- Laws of sending containers to workspaces.
use Rattle.std.specs.Prelude.{◌≡◌, true, None, Some}
use Rattle.wm_base.specs.declared.ids.ConId.{ConId}
use Rattle.wm_shared.specs.Subject.{is_container, is_space}
use Rattle.wm_spaces.specs.Sending.{sent, sent_refusal}
use Rattle.wm_tree.specs.Along.{nowhere}
use Rattle.wm_forest.specs.Change.{nobody, placed, unfull, unfull_kind}
use Rattle.wm_forest.specs.Forest.{Forest, end, con}
use Rattle.wm_forest.specs.Look.{only}
use Rattle.wm_tree.specs.Sound.{IsSound}
use Rattle.wm_tree.specs.TreeValue.{TreeValue}

-- a node with all that is below it, without what its place gives it: its share, its rectangle, and fullscreen
abbrev pub unplaced : Forest → Forest
unplaced end = end
unplaced (con part kids floats rest) = con (record part { kind = unfull_kind (placed 0 (Some nowhere) part.kind) }) (unfull nobody kids) (unfull nobody floats) rest

-- a container that is sent to a workspace, where that passes no limit, and from there back or to another one, is as it was
-- but for its place, and so is all that stands below it
abbrev pub SendsBack : Type 0
SendsBack =
    (c v w : ConId) (t : TreeValue) → IsSound t → is_container t c ≡ true → is_space t w ≡ true → sent_refusal c w t ≡ None → is_space (sent c w t) v ≡ true
    → unplaced (only c (sent c v (sent c w t)).nodes) ≡ unplaced (only c t.nodes)
