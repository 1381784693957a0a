-- Two nodes that change places over a hole.
use Rattle.std.specs.Prelude.{ℕ, Bool, None}
use Rattle.wm_base.specs.declared.ids.ConId.{ConId}
use Rattle.wm_forest.specs.Change.{arriving, hole, nobody, replaced}
use Rattle.wm_forest.specs.Forest.{Forest}
use Rattle.wm_forest.specs.Look.{only}

-- a hole stands in the place of a
abbrev pub holed : ConId → Forest → Forest
holed a forest = replaced a hole forest

-- a stands in the place of b with the share sb, and b in the place of a with the share sa
abbrev pub exchanged_nodes : ConId → ConId → ℕ → ℕ → Bool → Forest → Forest
exchanged_nodes a b sa sb away forest =
    replaced nobody (arriving sa None away (only b (holed a forest)))
    (replaced b (arriving sb None away (only a forest)) (holed a forest))
