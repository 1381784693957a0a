-- The value of a tree, its opening, and what is seen in it.
use Rattle.std.specs.Prelude.{Bool, false, ◌&&◌, ℕ, ◌+◌, ◌*◌, List, [], ◌∷◌, length, Option, None, Some, option_and_then, refl, if◌then◌else◌}
use Rattle.std.specs.Coded.{Coded, code_by, coded×, coded_ℕ, coded_list, coded_option}
use Rattle.wm_base.specs.contracts.ids.ConId as con_id
use Rattle.wm_base.specs.contracts.plan.Border as border_of
use Rattle.wm_base.specs.declared.ids.ConId.{ConId}
use Rattle.wm_base.specs.declared.plan.Border.{Border}
use Rattle.wm_base.specs.declared.plan.Layout.TheVariants.{SplitH}
use Rattle.wm_base.specs.declared.plan.OutputPlan.{OutputPlan}
use Rattle.wm_forest.specs.declared.part.Part.{Part}
use Rattle.wm_forest.specs.declared.part.NodeKind.TheVariants.{Root, Output, Space}
use Rattle.wm_forest.specs.declared.place.Place.{Place}
use Rattle.wm_forest.specs.declared.place.Place.TheVariants.{After, Last}
use Rattle.wm_forest.specs.declared.spot.Spot.{Spot}
use Rattle.wm_forest.specs.Forest.{Forest, end, con}
use Rattle.wm_forest.specs.ForestCode.{forest_code}
use Rattle.wm_forest.specs.Change.{shown_of}
pub use Rattle.wm_forest.specs.Kinds.{is_con_kind}
use Rattle.wm_forest.specs.Look.{only, node_in, first_alone, first_kids, first_part, kind_by, same}
use Rattle.wm_forest.specs.Focus.{focused_in, leaf_of, tiled_kids}
use Rattle.wm_forest.specs.Recency.{first_held}
use Rattle.wm_forest.specs.RootId.{current_of, id, root}
use Rattle.wm_forest.specs.Spot.{spot_in, top}

pub record TreeValue : Type 0 where
  -- the root: its children are the outputs, and its second row is the scratchpad
  pub nodes : Forest
  -- the ids of all workspaces and containers, the most recent first
  pub recency : List ConId
  -- the urgent windows in the order they became so
  pub urgent : List ConId
  -- the name of the previous workspace
  pub previous : Option (List ℕ)
  -- the id that the next node gets
  pub next_id : ℕ
  -- what new containers and workspaces get: a border, and inner and outer gaps
  pub border : Border
  pub inner : ℕ
  pub outer : ℕ

-- ---- the opening tree

-- the name of workspace k of at most eight: its digit
abbrev pub digit : ℕ → List ℕ
digit k = (48 + k) ∷ []

abbrev pub space_part : ConId → List ℕ → ℕ → ℕ → Part
space_part c name inner outer = record { id = c; kind = Space (record { name = name; layout = SplitH; last_split = SplitH; inner = inner; outer = outer }); marks = [] }

abbrev pub output_part : ConId → OutputPlan → ConId → Part
output_part c plan shown = record { id = c; kind = Output (record { name = plan.name; rect = plan.rect; reserved = plan.reserved; shown = shown }); marks = [] }

-- outputs of these plans: output k has the id k + 1 and shows its workspace, which has the id `last` + k and is named k
abbrev pub opening_outputs : ℕ → ℕ → ℕ → ℕ → List OutputPlan → Forest
opening_outputs k last inner outer [] = end
opening_outputs k last inner outer (plan ∷ plans) =
    con (output_part (id (k + 1)) plan (id (last + k)))
    (con (space_part (id (last + k)) (digit k) inner outer) end end end)
    end (opening_outputs (k + 1) last inner outer plans)

-- as many ids as there are plans, from n on
abbrev pub ids_from : ℕ → List OutputPlan → List ConId
ids_from n [] = []
ids_from n (plan ∷ plans) = id n ∷ ids_from (n + 1) plans

abbrev pub root_part : Part
root_part = record { id = root; kind = Root (id 2); marks = [] }

-- a tree with no node
abbrev pub bare : ℕ → Border → ℕ → ℕ → TreeValue
bare next border inner outer = record {
  nodes = end;
  recency = [];
  urgent = [];
  previous = None;
  next_id = next;
  border = border;
  inner = inner;
  outer = outer;
}

-- a tree with the nodes of another, and what that says of them
abbrev pub filled : TreeValue → TreeValue → TreeValue
filled from t = record t { nodes = from.nodes; recency = from.recency; urgent = from.urgent; previous = from.previous }

-- the root over the outputs of these plans
abbrev pub opening_nodes : ℕ → ℕ → List OutputPlan → Forest
opening_nodes inner outer plans = con root_part (opening_outputs 1 (1 + length plans) inner outer plans) end end

-- a tree with the nodes of its opening
abbrev pub opened : List OutputPlan → TreeValue → TreeValue
opened plans t = record t { nodes = opening_nodes t.inner t.outer plans; recency = ids_from (2 + length plans) plans }

-- the opening tree of these outputs: root 1, then an id for each output, then one for each workspace
abbrev pub opening : List OutputPlan → Border → ℕ → ℕ → TreeValue
opening plans border inner outer = record {
  nodes = opening_nodes inner outer plans;
  recency = ids_from (2 + length plans) plans;
  urgent = [];
  previous = None;
  next_id = 2 + 2 * length plans;
  border = border;
  inner = inner;
  outer = outer;
}

-- ---- looking

abbrev pub current_in : Option Part → ConId
current_in None = root
current_in (Some part) = current_of part.kind

abbrev pub current : TreeValue → ConId
current t = current_in (first_part t.nodes)

-- the row of outputs from the current one on
abbrev pub current_row : TreeValue → Forest
current_row t = node_in (current t) (first_kids t.nodes)

abbrev pub or_id : Option ConId → ConId → ConId
or_id None d = d
or_id (Some c) d = c

-- the workspace that the current output shows
abbrev pub shown : TreeValue → ConId
shown t = or_id (kind_by shown_of (first_part (current_row t))) (current t)

-- that workspace with what is below it, alone
abbrev pub shown_space : TreeValue → Forest
shown_space t = first_alone (node_in (shown t) (first_kids (current_row t)))

-- the most recent node within the workspace that the current output shows, itself included
abbrev pub focused : TreeValue → ConId
focused t = or_id (first_held (shown_space t) t.recency) (shown t)

-- where the node c stands
abbrev pub spot : TreeValue → ConId → Option Spot
spot t c = spot_in top c t.nodes

-- the node that holds c among its children or floating windows; a window in the scratchpad has none
abbrev pub parent : TreeValue → ConId → Option ConId
parent t c = option_and_then (λ (s : Spot). s.holder) (spot t c)

abbrev pub workspace_of : TreeValue → ConId → Option ConId
workspace_of t c = option_and_then (λ (s : Spot). s.space) (spot t c)

-- the tiled child of c that is the most recent, by itself or what is below it
abbrev pub focused_child : TreeValue → ConId → Option ConId
focused_child t c = focused_in t.recency (tiled_kids (only c t.nodes))

-- the node that is reached from c by the focused child until there is none
abbrev pub leaf : TreeValue → ConId → Option ConId
leaf t c = leaf_of t.recency (only c t.nodes)

-- ---- where a new window goes

abbrev pub is_con : Option Part → Bool
is_con None = false
is_con (Some part) = is_con_kind part.kind

abbrev pub is_tiled_spot : Option Spot → Bool
is_tiled_spot None = false
is_tiled_spot (Some s) = s.tiled

-- c is a tiled container
abbrev pub is_tiled_con : TreeValue → ConId → Bool
is_tiled_con t c = is_con (first_part (only c t.nodes)) && is_tiled_spot (spot t c)

-- after the leaf of the workspace w, or last in it where nothing is tiled
abbrev pub tiling_place : ConId → TreeValue → Place
tiling_place w t = if is_tiled_con t (or_id (leaf t w) w) then After (or_id (leaf t w) w) else Last w

-- last into a focused workspace; after the focused container where that is tiled; after the leaf of the workspace
-- where a floating window is focused, or last in it where nothing is tiled
abbrev pub newcomer_place : TreeValue → Place
newcomer_place t =
    if same (focused t) (shown t) then Last (shown t)
    else if is_tiled_con t (focused t) then After (focused t)
    else tiling_place (shown t) t

-- ---- how the logic stores it

abbrev ids : Coded (List ConId)
ids = coded_list con_id.the_row.coded

abbrev pub tree_code : Coded TreeValue
tree_code =
    code_by (((Forest × List ConId) × (List ConId × Option (List ℕ))) × ((ℕ × Border) × (ℕ × ℕ)))
    (coded× (coded× (coded× forest_code ids) (coded× ids (coded_option (coded_list coded_ℕ)))) (coded× (coded× coded_ℕ border_of.the_row.coded) (coded× coded_ℕ coded_ℕ)))
    (λ t. (((t.nodes, t.recency), (t.urgent, t.previous)), ((t.next_id, t.border), (t.inner, t.outer))))
    (λ p. record { nodes = p.0.0.0; recency = p.0.0.1; urgent = p.0.1.0; previous = p.0.1.1; next_id = p.1.0.0; border = p.1.0.1; inner = p.1.1.0; outer = p.1.1.1 }) (λ _. refl)
