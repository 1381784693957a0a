-- Laws of placeholders that swallow windows.
use Rattle.std.specs.Prelude.{◌≡◌, ℕ, ◌+◌, true, false, List, [], ◌∷◌, ◌++◌, Some, option_map}
use Rattle.std.specs.List.{find}
use Rattle.std.specs.Option.{option_map_or}
use Rattle.wm_base.specs.declared.geometry.Size.{Size}
use Rattle.wm_base.specs.declared.ids.ConId.{ConId}
use Rattle.wm_base.specs.declared.properties.Props.{Props}
use Rattle.wm_criteria.specs.Gathered.{con_ids}
use Rattle.wm_forest.specs.declared.part.ConKind.TheVariants.{Window}
use Rattle.wm_forest.specs.declared.part.ConPart.{ConPart}
use Rattle.wm_forest.specs.declared.part.Part.{Part}
use Rattle.wm_forest.specs.Forest.{Forest, end, con}
use Rattle.wm_forest.specs.Look.{con_kind, first_kids, has, kind_of, only}
use Rattle.wm_forest.specs.Counts.{con_count, row_length}
use Rattle.wm_swallow.specs.Appending.{appended}
use Rattle.wm_swallow.specs.SavedRows.{Saved, row_size, size}
use Rattle.wm_swallow.specs.Swallowing.{has_entry, swallowed, swallower, takes}
use Rattle.wm_tree.specs.Move.{marks_in}
use Rattle.wm_tree.specs.Sound.{IsSound}
use Rattle.wm_tree.specs.TreeValue.{TreeValue}

-- the container that is found is a placeholder with an entry for the window
abbrev pub FoundTakes : Type 0
FoundTakes = (props : Props) (t : TreeValue) (c : ConId) → IsSound t → swallower props t ≡ Some c → option_map_or (λ (p : ConPart). has_entry props p.kind) (kind_of con_kind c t.nodes) false ≡ true

-- it is the window afterwards, and else as it was: its state with the border, its share and its title format
abbrev pub IsWindowAfterwards : Type 0
IsWindowAfterwards =
    (props : Props) (owner : ℕ) (natural : Size) (t : TreeValue) (c : ConId) (p : ConPart) → IsSound t → swallower props t ≡ Some c → kind_of con_kind c t.nodes ≡ Some p
    → kind_of con_kind c (swallowed props owner natural t).nodes ≡ Some (record p { kind = Window props owner natural })

-- the ids of all containers stay, in their order
abbrev pub IdsStay : Type 0
IdsStay = (props : Props) (owner : ℕ) (natural : Size) (t : TreeValue) → con_ids (swallowed props owner natural t).nodes ≡ con_ids t.nodes

-- each container keeps its marks
abbrev pub MarksStay : Type 0
MarksStay = (props : Props) (owner : ℕ) (natural : Size) (t : TreeValue) (v : ConId) → marks_in v (swallowed props owner natural t).nodes ≡ marks_in v t.nodes

-- the nodes of a row and below it, depth first, each before its tiled children; no floating window is among them
abbrev pub tiled_nodes : Forest → List Part
tiled_nodes end = []
tiled_nodes (con part kids floats rest) = part ∷ (tiled_nodes kids ++ tiled_nodes rest)

-- what is found is the first of all these that takes the window
abbrev pub IsFirst : Type 0
IsFirst = (props : Props) (t : TreeValue) → swallower props t ≡ option_map (λ (p : Part). p.id) (find (λ (p : Part). takes props p.kind) (tiled_nodes t.nodes))

-- ---- appending

-- all containers of the row were added, each under the next id, the first ones of them to w, and nothing was lost
pub record IsMore (w : ConId) (row : Saved) (old new : TreeValue) : Type 0 where
  pub ids : new.next_id ≡ old.next_id + size row
  pub containers : con_count new.nodes ≡ con_count old.nodes + size row
  pub children : row_length (first_kids (only w new.nodes)) ≡ row_length (first_kids (only w old.nodes)) + row_size row
  pub kept : (c : ConId) → has c old.nodes ≡ true → has c new.nodes ≡ true

abbrev pub AppendingAdds : Type 0
AppendingAdds = (w : ConId) (row : Saved) (t : TreeValue) → IsSound t → has w t.nodes ≡ true → IsMore w row t (appended w row t)
