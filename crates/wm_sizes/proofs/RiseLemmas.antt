-- The commands on sizes and looks let ids rise.
use Rattle.std.proofs.Common.{ℕ, Bool, true, false, cond, List, [], ◌∷◌, Option, None, Some, refl, ◌∙◌}
use Rattle.std.specs.Option.{option_map}
use Rattle.wm_base.specs.declared.geometry.Rect.{Rect}
use Rattle.wm_base.specs.declared.ids.ConId.{ConId}
use Rattle.wm_base.specs.declared.plan.Border.{Border}
use Rattle.wm_language.specs.declared.arguments.GapOp.{GapOp}
use Rattle.wm_language.specs.declared.arguments.Side.{Side}
use Rattle.wm_shared.proofs.RiseLemmas.{SameIds, ids_same}
use Rattle.wm_sizes.specs.Borders.{cycle_border_tree, next_border, set_border_tree, turned}
use Rattle.wm_sizes.specs.Climbing.{rung_of, side_axis}
use Rattle.wm_sizes.specs.Deals.{dealt, siblings}
use Rattle.wm_sizes.specs.declared.climbing.Rung.{Rung}
use Rattle.wm_sizes.specs.declared.gaps.Change.{Change}
use Rattle.wm_sizes.specs.declared.tiled.Growth.{Growth}
use Rattle.wm_sizes.specs.Floating.{as_rect, grow_tree, grown, resize_set_tree, step}
use Rattle.wm_sizes.specs.Gaps.{all_gapped, own_gapped, regapped, set_gaps_tree, space_gapped}
use Rattle.wm_sizes.specs.Resizing.{resize_tree}
use Rattle.wm_sizes.specs.Tiled.{children_of, rung_deal, rung_tree, shares_set, tiled_tree}
use Rattle.wm_sizes.specs.Titles.{title_format_tree}
use Rattle.wm_sizes.specs.Windows.{border_set}
use Rattle.wm_shared.specs.Rects.{rect_of}
use Rattle.wm_shared.specs.Windows.{rect_set, restated, state_of}
use Rattle.wm_forest.specs.declared.part.ConState.{ConState}
use Rattle.wm_forest.specs.declared.part.SpacePart.{SpacePart}
use Rattle.wm_forest.specs.declared.shares.Sibling.{Sibling}
use Rattle.wm_tree.specs.Ids.{IdsRise}
use Rattle.wm_forest.specs.Look.{kind_of, space_kind}
use Rattle.wm_tree.specs.TreeValue.{TreeValue, is_tiled_con, workspace_of}

none : (t : TreeValue) → SameIds t t
none t = record { next = refl; recency = refl }

along : (a b c : TreeValue) → SameIds a b → SameIds b c → SameIds a c
along a b c p q = record { next = q.next ∙ p.next; recency = q.recency ∙ p.recency }

-- ---- states

restated_same : (c : ConId) (s : Option ConState) (t : TreeValue) → SameIds t (restated c s t)
restated_same c None t = none t
restated_same c (Some s) t = record { next = refl; recency = refl }

border_same : (b : Border) (c : ConId) (t : TreeValue) → SameIds t (border_set b c t)
border_same b c t = restated_same c (option_map (λ (s : ConState). record s { border = b }) (state_of c t)) t

rect_same : (r : Rect) (c : ConId) (t : TreeValue) → SameIds t (rect_set r c t)
rect_same r c t = restated_same c (option_map (λ (s : ConState). record s { rect = Some r }) (state_of c t)) t

turned_same : (c : ConId) (s : Option ConState) (t : TreeValue) → SameIds t (turned c s t)
turned_same c None t = none t
turned_same c (Some s) t = border_same (next_border s.border) c t

pub ids_bordered : (c : ConId) (b : Border) (t : TreeValue) → IdsRise t (set_border_tree c b t)
ids_bordered c b t = ids_same t (set_border_tree c b t) (border_same b c t)

pub ids_cycled : (c : ConId) (t : TreeValue) → IdsRise t (cycle_border_tree c t)
ids_cycled c t = ids_same t (cycle_border_tree c t) (turned_same c (state_of c t) t)

pub ids_formatted : (c : ConId) (format : List ℕ) (t : TreeValue) → IdsRise t (title_format_tree c format t)
ids_formatted c format t = ids_same t (title_format_tree c format t) (record { next = refl; recency = refl })

pub ids_resize_set : (c : ConId) (w h : ℕ) (t : TreeValue) → IdsRise t (resize_set_tree c w h t)
ids_resize_set c w h t = ids_same t (resize_set_tree c w h t) (rect_same (record { x = (rect_of c t).x; y = (rect_of c t).y; w = w; h = h }) c t)

-- ---- gaps

regapped_same : (ch : Change) (w : ConId) (s : Option SpacePart) (t : TreeValue) → SameIds t (regapped ch w s t)
regapped_same ch w None t = none t
regapped_same ch w (Some s) t = record { next = refl; recency = refl }

space_same : (ch : Change) (w : ConId) (t : TreeValue) → SameIds t (space_gapped ch w t)
space_same ch w t = regapped_same ch w (kind_of space_kind w t.nodes) t

all_same : (ch : Change) (t : TreeValue) → SameIds t (all_gapped ch t)
all_same ch t = record { next = refl; recency = refl }

own_same : (ch : Change) (w : Option ConId) (t : TreeValue) → SameIds t (own_gapped ch w t)
own_same ch None t = none t
own_same ch (Some w) t = space_same ch w t

pub ids_gapped : (c : ConId) (outer all : Bool) (op : GapOp) (px : ℕ) (t : TreeValue) → IdsRise t (set_gaps_tree c outer all op px t)
ids_gapped c outer all op px t = ids_same t (set_gaps_tree c outer all op px t) (by all) where
  by : (b : Bool) → SameIds t (cond b (all_gapped (record { outer = outer; op = op; px = px }) t) (own_gapped (record { outer = outer; op = op; px = px }) (workspace_of t c) t))
  by true = all_same (record { outer = outer; op = op; px = px }) t
  by false = own_same (record { outer = outer; op = op; px = px }) (workspace_of t c) t

-- ---- sizes

shares_same : (l : List Sibling) (t : TreeValue) → SameIds t (shares_set l t)
shares_same [] t = none t
shares_same (s ∷ l) t = along t (shares_set l t) (shares_set (s ∷ l) t) (shares_same l t) (record { next = refl; recency = refl })

rung_same : (g : Growth) (r : Option Rung) (t : TreeValue) → SameIds t (rung_tree g r t)
rung_same g None t = none t
rung_same g (Some r) t = shares_same (dealt (rung_deal g r t) 0 (siblings (children_of r.parent t))) t

tiled_same : (c : ConId) (g : Growth) (t : TreeValue) → SameIds t (tiled_tree c g t)
tiled_same c g t = rung_same g (rung_of (side_axis g.side) c t) t

pub ids_resized : (c : ConId) (grow : Bool) (side : Side) (px ppt : ℕ) (t : TreeValue) → IdsRise t (resize_tree c grow side px ppt t)
ids_resized c grow side px ppt t = ids_same t (resize_tree c grow side px ppt t) (by (is_tiled_con t c)) where
  by : (b : Bool) → SameIds t (cond b (tiled_tree c (record { grow = grow; side = side; px = px; ppt = ppt }) t) (grow_tree c side (step grow px) t))
  by true = tiled_same c (record { grow = grow; side = side; px = px; ppt = ppt }) t
  by false = rect_same (as_rect (grown side (step grow px) (rect_of c t))) c t
