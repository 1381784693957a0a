-- The nearest of a row of floating windows is found node by node.
use Rattle.std.proofs.Common.{◌≡◌, ◌∙◌, Option, Some, ap, sym}
use Rattle.wm_base.specs.declared.geometry.Dir.{Dir}
use Rattle.wm_base.specs.declared.ids.ConId.{ConId}
use Rattle.wm_floats.specs.Rounds.{key_round, keys_round}
use Rattle.wm_shared.proofs.KeyLemmas.{least_with, lesser_assoc}
use Rattle.wm_shared.specs.declared.keys.Key.{Key}
use Rattle.wm_shared.specs.Keys.{least, lesser}
use Rattle.wm_forest.specs.declared.part.Part.{Part}
use Rattle.wm_forest.specs.Forest.{Forest, end, con}
use Rattle.wm_forest.specs.Look.{first_part, rest_of}

-- the best so far of a row, with its first node
pub round_step : (d : Dir) (c : ConId) (row rest : Forest) (part : Part) (best k new all : Option Key) → first_part row ≡ Some part → rest ≡ rest_of row → k ≡ key_round d c part.id → new ≡ lesser best k
    → lesser best (least (keys_round d c row)) ≡ all → lesser new (least (keys_round d c rest)) ≡ all
round_step d c end rest part best k new all first e ek en h = cc
round_step d c (con own kids floats behind) rest part best k new all first e ek en h =
    let one : own ≡ part = cc in
    let key : k ≡ key_round d c own.id = rw one ek in
    rw (en, e, key) (lesser_assoc best (key_round d c own.id) (least (keys_round d c behind)) ∙ (ap (lesser best) (sym (least_with (key_round d c own.id) (keys_round d c behind))) ∙ h))
