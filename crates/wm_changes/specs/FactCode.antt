-- How the logic stores a window and a workspace of a tree.
use Rattle.std.specs.Prelude.{refl}
use Rattle.std.specs.Coded.{Coded, code_by, coded×}
use Rattle.wm_base.specs.contracts.ids.ConId as con_id
use Rattle.wm_base.specs.declared.ids.ConId.{ConId}
use Rattle.wm_changes.specs.contracts.standing.Standing as standing_of
use Rattle.wm_changes.specs.declared.standing.Standing.{Standing}
use Rattle.wm_changes.specs.Facts.{SpaceFact, WindowFact}
use Rattle.wm_forest.specs.contracts.part.ConPart as con_of
use Rattle.wm_forest.specs.contracts.part.OutputPart as output_of
use Rattle.wm_forest.specs.contracts.part.Part as part_of
use Rattle.wm_forest.specs.contracts.part.SpacePart as space_of
use Rattle.wm_forest.specs.declared.part.ConPart.{ConPart}
use Rattle.wm_forest.specs.declared.part.OutputPart.{OutputPart}
use Rattle.wm_forest.specs.declared.part.Part.{Part}
use Rattle.wm_forest.specs.declared.part.SpacePart.{SpacePart}
use Rattle.wm_forest.specs.Forest.{Forest}
use Rattle.wm_forest.specs.ForestCode.{forest_code}

abbrev pub window_code : Coded WindowFact
window_code =
    code_by ((Part × ConPart) × Standing) (coded× (coded× part_of.the_row.coded con_of.the_row.coded) standing_of.the_row.coded) (λ w. ((w.part, w.state), w.standing))
    (λ p. record { part = p.0.0; state = p.0.1; standing = p.1 }) (λ _. refl)

abbrev pub space_code : Coded SpaceFact
space_code =
    code_by ((Part × SpacePart) × ((ConId × OutputPart) × (Forest × Forest)))
    (coded× (coded× part_of.the_row.coded space_of.the_row.coded) (coded× (coded× con_id.the_row.coded output_of.the_row.coded) (coded× forest_code forest_code)))
    (λ s. ((s.part, s.state), ((s.output_id, s.output), (s.kids, s.floats))))
    (λ p. record { part = p.0.0; state = p.0.1; output_id = p.1.0.0; output = p.1.0.1; kids = p.1.1.0; floats = p.1.1.1 }) (λ _. refl)
