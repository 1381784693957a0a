-- The events that two trees, one before and one after, tell of.
use Rattle.std.specs.Prelude.{not, if◌then◌else◌, List, [], ◌∷◌, ◌++◌, flat_map, Option, None, Some, option_map}
use Rattle.std.specs.Map.{values_of}
use Rattle.wm_arrange.specs.declared.parts.Placed.{Placed}
use Rattle.wm_arrange.specs.AreaOf.{nowhere}
use Rattle.wm_base.specs.declared.geometry.Rect.{Rect}
use Rattle.wm_base.specs.declared.ids.ConId.{ConId}
use Rattle.wm_changes.specs.declared.standing.Standing.{Standing}
use Rattle.wm_changes.specs.declared.words.Change.{Change}
use Rattle.wm_changes.specs.declared.words.Change.TheVariants.{Close, Focus, Empty}
use Rattle.wm_changes.specs.Differences.{Word, change_text, space_words, window_words}
use Rattle.wm_changes.specs.Facts.{SpaceFact, WindowFact, spaces, windows}
use Rattle.wm_changes.specs.OutputChanges.{outputs_differ}
use Rattle.wm_forest.specs.Forest.{end}
use Rattle.wm_forest.specs.Look.{same}
use Rattle.wm_json.specs.declared.views.EventBody.{EventBody}
use Rattle.wm_json.specs.declared.views.EventBody.TheVariants as body
use Rattle.wm_json.specs.declared.views.NodeView.{NodeView}
use Rattle.wm_json.specs.declared.views.NodeView.TheViews.{roll-NodeView}
use Rattle.wm_tree.specs.TreeValue.{TreeValue, focused, shown}
use Rattle.wm_views.specs.declared.cons.Above.{Above}
use Rattle.wm_views.specs.Maps.{area, holds, value_at}
use Rattle.wm_views.specs.Nodes.{con_node, space_node}

-- ---- events of a window or of a workspace

-- above the nodes that stand so
abbrev pub holder_area : List Placed → Option ConId → Rect
holder_area parts None = nowhere
holder_area parts (Some c) = area parts c

abbrev pub above : List Placed → Standing → Above
above parts s = record { rect = holder_area parts s.holder; shares = s.shares; floating = s.floating }

-- a window as events show it: nothing is below it
abbrev pub window_view : TreeValue → List Placed → WindowFact → NodeView
window_view t parts w = roll-NodeView (con_node t parts (above parts w.standing) w.part w.state w.state.kind end)

-- a workspace as events show it, without what is below it
abbrev pub space_view : TreeValue → List Placed → SpaceFact → NodeView
space_view t parts s = roll-NodeView (space_node t parts s.output s.part s.state s.kids s.floats)

abbrev pub window_event : NodeView → Change → EventBody
window_event view change = body.Window (change_text change) view

abbrev pub space_event : NodeView → Change → EventBody
space_event view change = body.Workspace (change_text change) view None

-- an event for each word that holds
abbrev pub told : (Change → EventBody) → List Word → List EventBody
told event [] = []
told event (word ∷ words) = if word.0 then event word.1 ∷ told event words else told event words

-- an event of the workspace that is focused, with the one that was
abbrev pub focus_event : Option NodeView → Option NodeView → List EventBody
focus_event old None = []
focus_event old (Some view) = body.Workspace (change_text Focus) view old ∷ []

abbrev pub focus_of : Option NodeView → List EventBody
focus_of None = []
focus_of (Some view) = window_event view Focus ∷ []

-- ---- all events

abbrev pub output_events : TreeValue → TreeValue → List EventBody
output_events t u = if outputs_differ t u then body.Output ∷ [] else []

-- workspaces that are new, or have another name or output
abbrev pub space_line : TreeValue → TreeValue → List Placed → SpaceFact → List EventBody
space_line t u parts s = told (space_event (space_view u parts s)) (space_words (value_at (spaces t) s.part.id) s)

-- windows that are new, or differ from what they were
abbrev pub window_line : TreeValue → TreeValue → List Placed → WindowFact → List EventBody
window_line t u parts w = told (window_event (window_view u parts w)) (window_words t u (value_at (windows t) w.part.id) w)

-- a window that is gone, as it was
abbrev pub close_line : TreeValue → List Placed → TreeValue → WindowFact → List EventBody
close_line t parts u w = told (window_event (window_view t parts w)) ((not (holds (windows u) w.part.id), Close) ∷ [])

-- a workspace that is gone, as it was
abbrev pub empty_line : TreeValue → List Placed → TreeValue → SpaceFact → List EventBody
empty_line t parts u s = told (space_event (space_view t parts s)) ((not (holds (spaces u) s.part.id), Empty) ∷ [])

-- the focused workspace is another one
abbrev pub space_focus : TreeValue → List Placed → TreeValue → List Placed → List EventBody
space_focus t a u b = if same (shown t) (shown u) then [] else focus_event (option_map (space_view t a) (value_at (spaces t) (shown t))) (option_map (space_view u b) (value_at (spaces u) (shown u)))

-- the focused container is another one, and a window
abbrev pub window_focus : TreeValue → TreeValue → List Placed → List EventBody
window_focus t u b = if same (focused t) (focused u) then [] else focus_of (option_map (window_view u b) (value_at (windows u) (focused u)))

-- windows and workspaces that are gone
abbrev pub gone_events : TreeValue → List Placed → TreeValue → List EventBody
gone_events t a u = flat_map (close_line t a u) (values_of (windows t)) ++ flat_map (empty_line t a u) (values_of (spaces t))

-- what is focused
abbrev pub focus_events : TreeValue → List Placed → TreeValue → List Placed → List EventBody
focus_events t a u b = space_focus t a u b ++ window_focus t u b

-- outputs, workspaces and windows that are new or differ
abbrev pub here_events : TreeValue → TreeValue → List Placed → List EventBody
here_events t u b = output_events t u ++ flat_map (space_line t u b) (values_of (spaces u)) ++ flat_map (window_line t u b) (values_of (windows u))

-- the events of two trees with their arrangements, in the order in which they are told
abbrev pub changes : TreeValue → List Placed → TreeValue → List Placed → List EventBody
changes t a u b = here_events t u b ++ gone_events t a u ++ focus_events t a u b
