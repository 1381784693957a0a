-- Windows as subjects of commands: their state and their natural size.
use Rattle.std.specs.Prelude.{Option, None, Some}
use Rattle.std.specs.Option.{option_map}
use Rattle.wm_base.specs.declared.geometry.Rect.{Rect}
use Rattle.wm_base.specs.declared.geometry.Size.{Size}
use Rattle.wm_base.specs.declared.ids.ConId.{ConId}
use Rattle.wm_forest.specs.declared.kind.KindEdit.TheVariants as edits
use Rattle.wm_forest.specs.declared.part.ConKind.{ConKind}
use Rattle.wm_forest.specs.declared.part.ConKind.TheVariants.{Split, Window, Placeholder}
use Rattle.wm_forest.specs.declared.part.ConPart.{ConPart}
use Rattle.wm_forest.specs.declared.part.ConState.{ConState}
use Rattle.wm_forest.specs.Look.{con_kind, kind_of}
use Rattle.wm_tree.specs.TreeValue.{TreeValue}
use Rattle.wm_tree.specs.Words.{edited}

-- ---- what is a window

-- the natural size of a window; splits and placeholders have none
abbrev pub natural_by : ConKind → Option Size
natural_by (Split layout last) = None
natural_by (Window props owner natural) = Some natural
natural_by (Placeholder props swallows) = None

abbrev pub natural_in : Option ConPart → Option Size
natural_in None = None
natural_in (Some part) = natural_by part.kind

abbrev pub natural_of : ConId → TreeValue → Option Size
natural_of c t = natural_in (kind_of con_kind c t.nodes)

-- ---- what its state is

abbrev pub state_of : ConId → TreeValue → Option ConState
state_of c t = option_map (λ (p : ConPart). p.state) (kind_of con_kind c t.nodes)

-- the container c has this state, where there is one
abbrev pub restated : ConId → Option ConState → TreeValue → TreeValue
restated c None t = t
restated c (Some s) t = edited c (edits.State s) t

-- c has this outer rectangle
abbrev pub rect_set : Rect → ConId → TreeValue → TreeValue
rect_set r c t = restated c (option_map (λ (s : ConState). record s { rect = Some r }) (state_of c t)) t
