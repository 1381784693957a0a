-- What criteria ask of a container: what each key asks, and that all keys of a group hold.
use Rattle.std.specs.Prelude.{ℕ, ◌-◌, Bool, false, ◌&&◌, ◌==◌, not, if◌then◌else◌, List, length, Option, None, Some, codes, option_map, option_and_then, is_some}
use Rattle.std.specs.List.{list_all, list_any, slice_get}
use Rattle.std.specs.Option.{option_map_or}
use Rattle.std.specs.Str.{bytes_eq}
use Rattle.wm_base.specs.declared.ids.ConId.{ConId}
use Rattle.wm_base.specs.declared.properties.Props.{Props}
use Rattle.wm_language.specs.declared.batch.Key.{Key}
use Rattle.wm_language.specs.declared.batch.Key.TheVariants as keys
use Rattle.wm_forest.specs.declared.part.ConKind.{ConKind}
use Rattle.wm_forest.specs.declared.part.ConKind.TheVariants.{Split, Window, Placeholder}
use Rattle.wm_forest.specs.declared.part.ConPart.{ConPart}
use Rattle.wm_forest.specs.declared.part.SpacePart.{SpacePart}
use Rattle.wm_forest.specs.Change.{is_id}
use Rattle.wm_forest.specs.Look.{con_kind, first_marks, kind_of, only, same, space_kind}
use Rattle.wm_tree.specs.TreeValue.{TreeValue, focused, is_tiled_con, shown, workspace_of}
use Rattle.wm_criteria.specs.declared.property.Property.{Property}
use Rattle.wm_criteria.specs.declared.property.Property.TheVariants.{Class, Instance, Role, Machine, Title}
use Rattle.wm_criteria.specs.Searching.{searches}

-- ---- windows

abbrev pub window_kind : ConKind → Option Props
window_kind (Split layout last) = None
window_kind (Window props owner natural) = Some props
window_kind (Placeholder props swallows) = None

-- the properties of the window c; None where c is no window
abbrev pub window : TreeValue → ConId → Option Props
window t c = option_and_then (λ (con : ConPart). window_kind con.kind) (kind_of con_kind c t.nodes)

abbrev pub is_window : TreeValue → ConId → Bool
is_window t c = is_some (window t c)

abbrev pub property_of : Property → Props → List ℕ
property_of Class props = props.class
property_of Instance props = props.instance
property_of Role props = props.role
property_of Machine props = props.machine
property_of Title props = props.title

-- there is a text, and this is it
abbrev pub is_text : Option (List ℕ) → List ℕ → Bool
is_text None text = false
is_text (Some x) text = bytes_eq x text

-- the text is that of the focused one where `__focused__` is asked for, and else is matched by the pattern
abbrev pub asks : List ℕ → Option (List ℕ) → List ℕ → Bool
asks value focused text = if bytes_eq value (codes "__focused__") then is_text focused text else searches value text

-- the property of the focused window
abbrev pub focused_property : Property → TreeValue → Option (List ℕ)
focused_property which t = option_map (property_of which) (window t (focused t))

-- c is a window with a property as it is asked for
abbrev pub window_asks : Property → List ℕ → TreeValue → ConId → Bool
window_asks which value t c = option_map_or (λ own. asks value (focused_property which t) (property_of which own)) (window t c) false

-- ---- workspaces and urgent windows

-- the name of the workspace w
abbrev pub space_name : TreeValue → ConId → Option (List ℕ)
space_name t w = option_map (λ (s : SpacePart). s.name) (kind_of space_kind w t.nodes)

abbrev pub or_scratch : Option (List ℕ) → List ℕ
or_scratch None = codes "__i3_scratch"
or_scratch (Some name) = name

-- the name of the workspace of c; `__i3_scratch` in the scratchpad
abbrev pub workspace_name : TreeValue → ConId → List ℕ
workspace_name t c = or_scratch (option_and_then (λ w. space_name t w) (workspace_of t c))

-- the last of the ids, or the first
abbrev pub end_id : Bool → List ConId → Option ConId
end_id latest ids = slice_get ids (if latest then length ids - 1 else 0)

-- ---- keys

-- what a key asks of the container c
abbrev pub key_holds : TreeValue → ConId → Key → Bool
key_holds t c (keys.Class x) = window_asks Class x t c
key_holds t c (keys.Instance x) = window_asks Instance x t c
key_holds t c (keys.Role x) = window_asks Role x t c
key_holds t c (keys.Kind x) = is_text (option_map (λ (p : Props). p.kind) (window t c)) x
key_holds t c (keys.Machine x) = window_asks Machine x t c
key_holds t c (keys.Title x) = window_asks Title x t c
key_holds t c (keys.Mark x) = list_any (searches x) (first_marks (only c t.nodes))
key_holds t c (keys.Workspace x) = asks x (space_name t (shown t)) (workspace_name t c)
key_holds t c (keys.Id n) = is_window t c && (c.0 == n)
key_holds t c (keys.Con None) = same c (focused t)
key_holds t c (keys.Con (Some n)) = c.0 == n
key_holds t c (keys.Urgent latest) = is_id c (end_id latest t.urgent)
key_holds t c keys.Floating = is_window t c && is_some (workspace_of t c) && not (is_tiled_con t c)
key_holds t c keys.Tiling = is_window t c && is_tiled_con t c
key_holds t c keys.All = is_window t c

-- all keys hold for the container c
abbrev pub holds : TreeValue → List Key → ConId → Bool
holds t ks c = list_all (key_holds t c) ks
