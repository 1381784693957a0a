-- Showing a workspace on its output, and focusing a container in it.
use Rattle.std.specs.Prelude.{ℕ, if◌then◌else◌, List, Option, None, Some}
use Rattle.std.specs.Option.{option_map}
use Rattle.wm_base.specs.declared.ids.ConId.{ConId}
use Rattle.wm_shared.specs.Outputs.{output_of}
use Rattle.wm_forest.specs.declared.kind.KindEdit.TheVariants as edits
use Rattle.wm_forest.specs.declared.part.SpacePart.{SpacePart}
use Rattle.wm_tree.specs.Along.{gone_along}
use Rattle.wm_forest.specs.Change.{shown_of}
use Rattle.wm_forest.specs.Look.{first_part, kind_by, kind_of, only, same, space_kind}
use Rattle.wm_tree.specs.Sets.{with_shown}
use Rattle.wm_tree.specs.TreeValue.{TreeValue, parent, shown, workspace_of}
use Rattle.wm_forest.specs.RootId.{root}
use Rattle.wm_tree.specs.Words.{edited, with_raised}

-- the name of the workspace w
abbrev pub space_name : ConId → TreeValue → Option (List ℕ)
space_name w t = option_map (λ (s : SpacePart). s.name) (kind_of space_kind w t.nodes)

-- a tree in which the name of the workspace `was` is the previous one, where another one is focused now
abbrev pub remembered : ConId → Option (List ℕ) → TreeValue → TreeValue
remembered was name t = if same was (shown t) then t else record t { previous = name }

-- the new tree, which keeps the name of the workspace that was focused
abbrev pub remembering : TreeValue → TreeValue → TreeValue
remembering old new = remembered (shown old) (space_name (shown old) old) new

-- o is the current output
abbrev pub with_current : ConId → TreeValue → TreeValue
with_current o t = edited root (edits.Current o) t

-- the output o becomes the current one
abbrev pub output_focused : ConId → TreeValue → TreeValue
output_focused o t = remembering t (with_current o t)

-- the workspace that the output o shows
abbrev pub shown_on : ConId → TreeValue → Option ConId
shown_on o t = kind_by shown_of (first_part (only o t.nodes))

-- the sticky windows of what was shown come to w
abbrev pub followed : Option ConId → ConId → TreeValue → TreeValue
followed None w t = t
followed (Some v) w t = if same v w then t else gone_along v w t

-- w is what its output o shows, which is the current one, and sticky windows of what it showed are there
abbrev pub shown_there : ConId → Option ConId → TreeValue → TreeValue
shown_there w None t = t
shown_there w (Some o) t = followed (shown_on o t) w (with_shown w (with_current o t))

-- the workspace w is shown
abbrev pub showing : ConId → TreeValue → TreeValue
showing w t = remembering t (shown_there w (parent t w) t)

-- the workspace of a container is shown, where it has one
abbrev pub showing_some : Option ConId → TreeValue → TreeValue
showing_some None t = t
showing_some (Some w) t = showing w t

-- the container or workspace c is focused: its workspace is shown, and it is raised
abbrev pub focusing : ConId → TreeValue → TreeValue
focusing c t = with_raised c (showing_some (workspace_of t c) t)

-- the container or workspace is raised, where there is one
abbrev pub raised_some : Option ConId → TreeValue → TreeValue
raised_some None t = t
raised_some (Some c) t = with_raised c t

abbrev pub current_some : Option ConId → TreeValue → TreeValue
current_some None t = t
current_some (Some o) t = with_current o t

-- the output on which c stands is the current one
abbrev pub entered : ConId → TreeValue → TreeValue
entered c t = current_some (output_of c t) t
