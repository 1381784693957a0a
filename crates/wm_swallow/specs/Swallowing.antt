-- Windows that go to placeholders: which placeholder takes a window, and the tree afterwards.
use Rattle.std.specs.Prelude.{ℕ, Bool, false, ◌&&◌, if◌then◌else◌, List, Option, None, Some}
use Rattle.std.specs.List.{list_all, list_any}
use Rattle.std.specs.Option.{option_or}
use Rattle.wm_base.specs.declared.geometry.Size.{Size}
use Rattle.wm_base.specs.declared.ids.ConId.{ConId}
use Rattle.wm_base.specs.declared.properties.Props.{Props}
use Rattle.wm_criteria.specs.Plain.{is_plain, plain_search}
use Rattle.wm_forest.specs.declared.kind.KindEdit.TheVariants as edits
use Rattle.wm_forest.specs.declared.part.ConKind.{ConKind}
use Rattle.wm_forest.specs.declared.part.ConKind.TheVariants.{Split, Window, Placeholder}
use Rattle.wm_forest.specs.declared.part.NodeKind.{NodeKind}
use Rattle.wm_forest.specs.declared.part.NodeKind.TheVariants.{Root, Output, Space, Con}
use Rattle.wm_forest.specs.declared.part.Swallow.{Swallow}
use Rattle.wm_forest.specs.declared.part.SwallowKey.{SwallowKey}
use Rattle.wm_forest.specs.declared.part.SwallowKey.TheVariants.{Class, Instance, Role, Title, Machine}
use Rattle.wm_forest.specs.Forest.{Forest, end, con}
use Rattle.wm_tree.specs.TreeValue.{TreeValue}
use Rattle.wm_tree.specs.Words.{edited}

-- ---- which windows a placeholder is for

-- the property that a key is held against
abbrev pub property_of : SwallowKey → Props → List ℕ
property_of Class props = props.class
property_of Instance props = props.instance
property_of Role props = props.role
property_of Title props = props.title
property_of Machine props = props.machine

-- the key's text is a plain pattern that is found in its property
abbrev pub key_matches : Props → SwallowKey × List ℕ → Bool
key_matches props key = is_plain key.1 && plain_search key.1 (property_of key.0 props)

-- an entry is for the window: all its keys match
abbrev pub entry_matches : Props → Swallow → Bool
entry_matches props entry = list_all (key_matches props) entry.keys

-- a placeholder with an entry for the window
abbrev pub has_entry : Props → ConKind → Bool
has_entry props (Split layout last) = false
has_entry props (Window own owner natural) = false
has_entry props (Placeholder own swallows) = list_any (entry_matches props) swallows

-- a node that takes the window
abbrev pub takes : Props → NodeKind → Bool
takes props (Root c) = false
takes props (Output o) = false
takes props (Space s) = false
takes props (Con c) = has_entry props c.kind

-- ---- the first of them

-- the first node of a row that takes the window, depth first: a node, then its tiled children, then the rest of the row.
-- Floating windows and the scratchpad are not looked at
abbrev pub takes_at : Props → Forest → Option ConId
takes_at props end = None
takes_at props (con part kids floats rest) =
    if takes props part.kind then Some part.id
    else option_or (takes_at props kids) (takes_at props rest)

-- the first placeholder that takes the window, depth first over outputs, workspaces and tiled children
abbrev pub swallower : Props → TreeValue → Option ConId
swallower props t = takes_at props t.nodes

-- the tree in which that placeholder is the window
abbrev pub filled_at : Option ConId → Props → ℕ → Size → TreeValue → TreeValue
filled_at None props owner natural t = t
filled_at (Some c) props owner natural t = edited c (edits.Fill props owner natural) t

-- the tree after a window has come to its placeholder; as it was where none takes the window
abbrev pub swallowed : Props → ℕ → Size → TreeValue → TreeValue
swallowed props owner natural t = filled_at (swallower props t) props owner natural t
