-- The child that each tabbed or stacked container shows, found by the places of ids in the list by recency.
use Rattle.std.specs.Prelude.{◌≡◌, ℕ, ◌+◌, ◌&&◌, Bool, true, false, nat_le, if◌then◌else◌, List, [], ◌∷◌, Option, None, Some}
use Rattle.std.specs.Option.{option_map, option_or}
use Rattle.wm_base.specs.declared.ids.ConId.{ConId}
use Rattle.wm_base.specs.declared.plan.Layout.{Layout}
use Rattle.wm_base.specs.declared.plan.Layout.TheVariants.{SplitH, SplitV, Tabbed, Stacked}
use Rattle.wm_forest.specs.declared.part.NodeKind.{NodeKind}
use Rattle.wm_forest.specs.declared.part.NodeKind.TheVariants.{Root, Output, Space, Con}
use Rattle.wm_forest.specs.declared.part.OutputPart.{OutputPart}
use Rattle.wm_forest.specs.declared.part.Part.{Part}
use Rattle.wm_forest.specs.Focus.{focused_in, row_holder}
use Rattle.wm_forest.specs.Forest.{Forest, end, con}
use Rattle.wm_forest.specs.Look.{node_in, output_kind, same}
use Rattle.wm_forest.specs.Recency.{place_from}
use Rattle.wm_arrange.specs.AreaOf.{con_layout}
use Rattle.wm_arrange.specs.declared.choosing.Near.{Near}
use Rattle.wm_arrange.specs.declared.places.Recency.{Recency}
use Rattle.wm_arrange.specs.Maps.{value_at}

-- the places are those in the list
abbrev pub ArePlaces : Recency → Type 0
ArePlaces r = (c : ConId) → value_at r.places c ≡ place_from 0 c r.ids

-- ---- the nearest node of a row

abbrev pub or_later : ℕ → Option ConId → Option Near → Option Near
or_later n None later = later
or_later n (Some c) later = Some (record { place = n; child = c })

-- the place, counted from n, of the first of the ids for which there is a node, and that node
abbrev pub first_by : ℕ → (ConId → Option ConId) → List ConId → Option Near
first_by n f [] = None
first_by n f (id ∷ ids) = or_later n (f id) (first_by (n + 1) f ids)

-- the node of a row whose subtree holds the first of the ids that any has, and the place of that id
abbrev pub nearest : List ConId → Forest → Option Near
nearest ids row = first_by 0 (λ id. row_holder id row) ids

-- of two nodes the one with the lower place, or else the first
abbrev pub sooner : Option Near → Option Near → Option Near
sooner None b = b
sooner (Some a) None = Some a
sooner (Some a) (Some b) = if nat_le a.place b.place then Some a else Some b

-- the same place, of the node that holds all these
abbrev pub under : ConId → Option Near → Option Near
under c near = option_map (λ (n : Near). record { place = n.place; child = c }) near

abbrev pub at_place : ConId → Option ℕ → Option Near
at_place c place = option_map (λ n. record { place = n; child = c }) place

abbrev pub child_of : Option Near → Option ConId
child_of near = option_map (λ (n : Near). n.child) near

-- ---- what is kept of a tree

-- a tabbed or stacked container shows one of its children
abbrev pub shows_one : Layout → Bool
shows_one SplitH = false
shows_one SplitV = false
shows_one Tabbed = true
shows_one Stacked = true

-- the layout of a workspace's or container's children
abbrev pub row_layout : NodeKind → Layout
row_layout (Root c) = SplitH
row_layout (Output o) = SplitH
row_layout (Space s) = s.layout
row_layout (Con c) = con_layout c.kind

-- what is kept for c of a node, of whose children this is the nearest
abbrev pub kept : ConId → Part → Option Near → Option ConId
kept c part near = if same part.id c && shows_one (row_layout part.kind) then child_of near else None

-- what is kept for c of a row, and below it
abbrev pub choice_in : List ConId → ConId → Forest → Option ConId
choice_in ids c end = None
choice_in ids c (con part kids floats rest) =
    option_or (kept c part (nearest ids kids)) (option_or (choice_in ids c kids) (option_or (choice_in ids c floats) (choice_in ids c rest)))

-- ---- what is known

-- what is known of each tabbed or stacked node of a row, and below it, is its most recent child
abbrev pub KnowsRow : (ConId → Option ConId) → List ConId → Forest → Type 0
KnowsRow known ids end = Unit {0}
KnowsRow known ids (con part kids floats rest) =
    ((shows_one (row_layout part.kind) ≡ true → known part.id ≡ focused_in ids kids) × KnowsRow known ids kids) × KnowsRow known ids rest

-- so of the node c with this layout and children, and below it
abbrev pub KnowsNode : (ConId → Option ConId) → List ConId → ConId → Layout → Forest → Type 0
KnowsNode known ids c layout kids = (shows_one layout ≡ true → known c ≡ focused_in ids kids) × KnowsRow known ids kids

-- so of the first node of a row
abbrev pub KnowsFirst : (ConId → Option ConId) → List ConId → Forest → Type 0
KnowsFirst known ids end = Unit {0}
KnowsFirst known ids (con part kids floats rest) = KnowsNode known ids part.id (row_layout part.kind) kids

abbrev pub KnowsOutput : (ConId → Option ConId) → List ConId → Option OutputPart → Forest → Type 0
KnowsOutput known ids None spaces = Unit {0}
KnowsOutput known ids (Some output) spaces = KnowsFirst known ids (node_in output.shown spaces)

-- so of the workspaces that a row of outputs shows
abbrev pub KnowsOutputs : (ConId → Option ConId) → List ConId → Forest → Type 0
KnowsOutputs known ids end = Unit {0}
KnowsOutputs known ids (con part kids floats rest) = KnowsOutput known ids (output_kind part.kind) kids × KnowsOutputs known ids rest
