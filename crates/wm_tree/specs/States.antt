-- States of all containers.
use Rattle.wm_base.specs.declared.ids.ConId.{ConId}
use Rattle.wm_forest.specs.declared.part.ConPart.{ConPart}
use Rattle.wm_forest.specs.declared.part.ConState.{ConState}
use Rattle.wm_forest.specs.declared.part.NodeKind.{NodeKind}
use Rattle.wm_forest.specs.declared.part.NodeKind.TheVariants.{Root, Output, Space, Con}
use Rattle.wm_forest.specs.declared.part.Part.{Part}

-- a container with the state that f makes of its own; other nodes have none
abbrev pub kind_restated : (ConId → ConPart → ConState) → ConId → NodeKind → NodeKind
kind_restated f id (Root c) = Root c
kind_restated f id (Output o) = Output o
kind_restated f id (Space s) = Space s
kind_restated f id (Con c) = Con (record c { state = f id c })

abbrev pub part_restated : (ConId → ConPart → ConState) → Part → Part
part_restated f part = record part { kind = kind_restated f part.id part.kind }
