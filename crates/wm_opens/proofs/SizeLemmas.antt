-- Commands on sizes, borders, gaps and rounds make no window.
use Rattle.std.proofs.Common.{ℕ, Bool, true, false, cond, List, [], ◌∷◌, Option, None, Some, refl, arith}
use Rattle.std.specs.Option.{option_map}
use Rattle.wm_base.specs.declared.geometry.Dir.{Dir}
use Rattle.wm_base.specs.declared.geometry.Rect.{Rect}
use Rattle.wm_base.specs.declared.ids.ConId.{ConId}
use Rattle.wm_base.specs.declared.plan.Border.{Border}
use Rattle.wm_floats.specs.Rounds.{focus_round_tree, focused_some, round_to}
use Rattle.wm_floats.specs.Windows.{rect_set, state_of}
use Rattle.wm_language.specs.declared.arguments.GapOp.{GapOp}
use Rattle.wm_language.specs.declared.arguments.Side.{Side}
use Rattle.wm_opens.proofs.FloatLemmas.{kept_restated}
use Rattle.wm_opens.proofs.KeptLemmas.{Kept, kept_count, kept_edited, kept_nodes, kept_refl, kept_trans}
use Rattle.wm_opens.proofs.ShowingLemmas.{kept_focusing}
use Rattle.wm_sizes.specs.Borders.{cycle_border_tree, next_border, turned}
use Rattle.wm_sizes.specs.Climbing.{rung_of, side_axis}
use Rattle.wm_sizes.specs.declared.climbing.Rung.{Rung}
use Rattle.wm_forest.specs.declared.shares.Sibling.{Sibling}
use Rattle.wm_sizes.specs.declared.gaps.Change.{Change}
use Rattle.wm_sizes.specs.declared.tiled.Growth.{Growth}
use Rattle.wm_sizes.proofs.AllGapLemmas.{all}
use Rattle.wm_sizes.proofs.GapSteps.{count_all}
use Rattle.wm_sizes.specs.Deals.{dealt, siblings}
use Rattle.wm_sizes.specs.Floating.{as_rect, grow_tree, grown, step}
use Rattle.wm_sizes.specs.Gaps.{default_gapped, gapped, own_gapped, regapped, set_gaps_tree}
use Rattle.wm_sizes.specs.Resizing.{resize_tree}
use Rattle.wm_sizes.specs.Tiled.{children_of, rung_deal, rung_tree, shares_set, tiled_tree}
use Rattle.wm_sizes.specs.Windows.{border_set}
use Rattle.wm_shared.specs.Rects.{rect_of}
use Rattle.wm_forest.specs.declared.kind.KindEdit.TheVariants as edits
use Rattle.wm_forest.specs.declared.part.ConState.{ConState}
use Rattle.wm_forest.specs.declared.part.SpacePart.{SpacePart}
use Rattle.wm_forest.specs.Look.{kind_of, space_kind}
use Rattle.wm_tree.specs.TreeValue.{TreeValue, is_tiled_con, workspace_of}

-- ---- rounds of floating windows

kept_focused_some : (c : Option ConId) (t : TreeValue) → Kept t (focused_some c t)
kept_focused_some None t = kept_refl t
kept_focused_some (Some c) t = kept_focusing c t

pub kept_round : (c : ConId) (d : Dir) (t : TreeValue) → Kept t (focus_round_tree c d t)
kept_round c d t = kept_focused_some (round_to d c t) t

-- ---- rectangles and borders

pub kept_rect : (r : Rect) (c : ConId) (t : TreeValue) → Kept t (rect_set r c t)
kept_rect r c t = kept_restated c (option_map (λ (z : ConState). record z { rect = Some r }) (state_of c t)) t

pub kept_border : (b : Border) (c : ConId) (t : TreeValue) → Kept t (border_set b c t)
kept_border b c t = kept_restated c (option_map (λ (z : ConState). record z { border = b }) (state_of c t)) t

kept_turned : (c : ConId) (o : Option ConState) (t : TreeValue) → Kept t (turned c o t)
kept_turned c None t = kept_refl t
kept_turned c (Some s) t = kept_border (next_border s.border) c t

pub kept_cycled : (c : ConId) (t : TreeValue) → Kept t (cycle_border_tree c t)
kept_cycled c t = kept_turned c (state_of c t) t

-- ---- gaps

kept_regapped : (change : Change) (w : ConId) (o : Option SpacePart) (t : TreeValue) → Kept t (regapped change w o t)
kept_regapped change w None t = kept_refl t
kept_regapped change w (Some s) t = kept_edited w (edits.Gaps (gapped change s.inner s.outer).0 (gapped change s.inner s.outer).1) t refl

pub kept_default : (change : Change) (t : TreeValue) → Kept t (default_gapped change t)
kept_default change t = kept_nodes t (default_gapped change t) (record { next = refl; nodes = refl })

kept_own : (change : Change) (w : Option ConId) (t : TreeValue) → Kept t (own_gapped change w t)
kept_own change None t = kept_refl t
kept_own change (Some w) t = kept_regapped change w (kind_of space_kind w t.nodes) t

pub kept_gaps : (c : ConId) (outer all : Bool) (op : GapOp) (px : ℕ) (t : TreeValue) → Kept t (set_gaps_tree c outer all op px t)
kept_gaps c outer true op px t =
    let change : Change = record { outer = outer; op = op; px = px } in
    let each : TreeValue = record t { nodes = all (gapped change) t.nodes } in
    kept_trans t each (default_gapped change each) (kept_count t each refl (λ m k. omega (arith, count_all m (λ a b p. k.edited (edits.Gaps a b) p refl) (gapped change) t.nodes))) (kept_default change each)
kept_gaps c outer false op px t = kept_own (record { outer = outer; op = op; px = px }) (workspace_of t c) t

-- ---- shares

kept_shares : (l : List Sibling) (t : TreeValue) → Kept t (shares_set l t)
kept_shares [] t = kept_refl t
kept_shares (s ∷ l) t = kept_trans t (shares_set l t) (shares_set (s ∷ l) t) (kept_shares l t) (kept_edited s.id (edits.Share s.share) (shares_set l t) refl)

pub kept_rung : (g : Growth) (r : Option Rung) (t : TreeValue) → Kept t (rung_tree g r t)
kept_rung g None t = kept_refl t
kept_rung g (Some r) t = kept_shares (dealt (rung_deal g r t) 0 (siblings (children_of r.parent t))) t

pub kept_resized : (c : ConId) (grow : Bool) (side : Side) (px ppt : ℕ) (t : TreeValue) → Kept t (resize_tree c grow side px ppt t)
kept_resized c grow side px ppt t = by_test (is_tiled_con t c)
  where
    g : Growth
    g = record { grow = grow; side = side; px = px; ppt = ppt }

    by_test : (b : Bool) → Kept t (cond b (tiled_tree c g t) (grow_tree c side (step grow px) t))
    by_test true = kept_rung g (rung_of (side_axis side) c t) t
    by_test false = kept_rect (as_rect (grown side (step grow px) (rect_of c t))) c t
