-- Windows that fill their output.
use Rattle.std.specs.Prelude.{Bool, true, false, ◌&&◌, not, if◌then◌else◌, Option, None, Some, is_none}
use Rattle.std.specs.Option.{option_or}
use Rattle.wm_base.specs.declared.ids.ConId.{ConId}
use Rattle.wm_floats.specs.Windows.{full_set}
use Rattle.wm_forest.specs.declared.part.NodeKind.{NodeKind}
use Rattle.wm_forest.specs.declared.part.NodeKind.TheVariants.{Root, Output, Space, Con}
use Rattle.wm_forest.specs.declared.part.Part.{Part}
use Rattle.wm_forest.specs.Change.{at, unfull}
use Rattle.wm_forest.specs.Forest.{Forest, end, con}
use Rattle.wm_forest.specs.Look.{same}
use Rattle.wm_tree.specs.TreeValue.{TreeValue, workspace_of}

-- a workspace in which no container but c is fullscreen
abbrev pub unfull_but : ConId → Part → Forest → Forest → Forest → Forest
unfull_but c part kids floats rest = con part (unfull c kids) (unfull c floats) rest

abbrev pub others_unfull : ConId → Option ConId → TreeValue → TreeValue
others_unfull c None t = t
others_unfull c (Some w) t = record t { nodes = at w unfull_but c t.nodes }

-- c is fullscreen, and no other container of its workspace; or it is so no longer
abbrev pub fullscreen_tree : ConId → Bool → TreeValue → TreeValue
fullscreen_tree c true t = full_set true c (others_unfull c (workspace_of t c) t)
fullscreen_tree c false t = full_set false c t

-- ---- who is fullscreen

abbrev pub is_full : NodeKind → Bool
is_full (Root c) = false
is_full (Output o) = false
is_full (Space s) = false
is_full (Con c) = c.state.fullscreen

-- a fullscreen container of the row other than c, at any depth
abbrev pub other_full : ConId → Forest → Option ConId
other_full c end = None
other_full c (con part kids floats rest) =
    if not (same part.id c) && is_full part.kind then Some part.id
    else option_or (other_full c kids) (option_or (other_full c floats) (other_full c rest))

-- a fullscreen container of the workspace w other than c
abbrev pub full_in : ConId → ConId → Forest → Option ConId
full_in w c end = None
full_in w c (con part kids floats rest) =
    if same part.id w then option_or (other_full c kids) (other_full c floats)
    else option_or (full_in w c kids) (option_or (full_in w c floats) (full_in w c rest))

-- no container of the workspace but c is fullscreen
abbrev pub fills_alone : ConId → Option ConId → TreeValue → Bool
fills_alone c None t = true
fills_alone c (Some w) t = is_none (full_in w c t.nodes)
