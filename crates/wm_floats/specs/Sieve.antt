-- A sieve over the containers of a kind in a workspace.
use Rattle.std.specs.Prelude.{◌≡◌, ◌||◌, ◌&&◌, Bool, true, false, List, Option}
use Rattle.wm_base.specs.declared.ids.ConId.{ConId}
use Rattle.wm_floats.specs.declared.kinds.Kind.{Kind}
use Rattle.wm_floats.specs.Kinds.{is_placed_of}
use Rattle.wm_forest.specs.declared.part.NodeKind.{NodeKind}
use Rattle.wm_forest.specs.declared.part.NodeKind.TheVariants.{Root, Output, Space, Con}
use Rattle.wm_forest.specs.declared.part.Part.{Part}
use Rattle.wm_forest.specs.Change.{is_id}
use Rattle.wm_forest.specs.Forest.{Forest, end, con}
use Rattle.wm_forest.specs.Look.{same}
use Rattle.wm_forest.specs.Sieve.{is_taken}
use Rattle.wm_forest.specs.Spot.{space_at}

-- a container of this kind, tiled or not
abbrev pub is_kind : Kind → Bool → NodeKind → Bool
is_kind k tiled (Root c) = false
is_kind k tiled (Output o) = false
is_kind k tiled (Space s) = false
is_kind k tiled (Con c) = is_placed_of k c tiled

-- a node of this workspace, or of none, tiled or not, that is such a container of the workspace w
abbrev pub is_wanted : Kind → ConId → Option ConId → Bool → NodeKind → Bool
is_wanted k w space tiled node = is_id w space && is_kind k tiled node

-- the row has such a container with the id c, at any depth; it is in this workspace, or in none, and of tiled nodes or not
abbrev pub wants : Kind → ConId → ConId → Option ConId → Bool → Forest → Bool
wants k w c space tiled end = false
wants k w c space tiled (con part kids floats rest) =
    (same part.id c && is_wanted k w (space_at space part) tiled part.kind) || wants k w c (space_at space part) true kids || wants k w c (space_at space part) false floats || wants k w c space tiled rest

-- the place of a node is taken where it is such a container, and those that were
abbrev pub Takes : Kind → ConId → Option ConId → Bool → Part → List Bool → List Bool → Type 0
Takes k w space tiled part old new = (c : ConId) → (same part.id c && is_wanted k w space tiled part.kind) || is_taken c old ≡ true → is_taken c new ≡ true

-- the places of such containers of the row are taken, and those that were
abbrev pub TakesIn : Kind → ConId → Option ConId → Bool → Forest → List Bool → List Bool → Type 0
TakesIn k w space tiled row old new = (c : ConId) → wants k w c space tiled row || is_taken c old ≡ true → is_taken c new ≡ true
