-- Commands on sizes, borders, gaps and rounds keep a sound tree sound, what is known, and containers without floating windows.
use Rattle.std.proofs.Common.{◌≡◌, ℕ, Bool, true, false, cond, not, ◌&&◌, ◌||◌, List, [], ◌∷◌, Option, None, Some, refl}
use Rattle.std.specs.Prelude.{◌==◌}
use Rattle.std.specs.Option.{option_map}
use Rattle.wm_base.specs.declared.errors.ErrorText.{ErrorText}
use Rattle.wm_base.specs.declared.errors.ErrorText.TheVariants as texts
use Rattle.wm_base.specs.declared.errors.Refusal.{Refusal}
use Rattle.wm_base.specs.declared.geometry.Dir.{Dir}
use Rattle.wm_base.specs.declared.geometry.Rect.{Rect}
use Rattle.wm_base.specs.declared.ids.ConId.{ConId}
use Rattle.wm_base.specs.declared.plan.Border.{Border}
use Rattle.wm_floats.specs.Rounds.{focus_round_tree, focused_some, round_to}
use Rattle.wm_floats.specs.Windows.{rect_set, state_of}
use Rattle.wm_language.specs.declared.arguments.GapOp.{GapOp}
use Rattle.wm_language.specs.declared.arguments.Side.{Side}
use Rattle.wm_opens.proofs.SureFloats.{sure_restated}
use Rattle.wm_opens.proofs.SureLemmas.{Sure, sure_by, sure_edited, sure_refl, sure_trans}
use Rattle.wm_opens.proofs.SureSpaces.{fits_all, sure_focusing}
use Rattle.wm_opens.proofs.TidyLemmas.{tidy_edited}
use Rattle.wm_opens.specs.Opens.{IsTidy}
use Rattle.wm_shared.specs.Refusing.{error_if}
use Rattle.wm_opens.proofs.SizeLemmas.{kept_default, kept_rung}
use Rattle.wm_sizes.proofs.FamilyLemmas.{rung_family}
use Rattle.wm_sizes.proofs.SetLemmas.{family_tiled, set_sound}
use Rattle.wm_sizes.specs.Borders.{cycle_border_tree, next_border, turned}
use Rattle.wm_sizes.specs.Climbing.{rung_of, side_axis}
use Rattle.wm_sizes.specs.declared.climbing.Rung.{Rung}
use Rattle.wm_forest.specs.declared.shares.Sibling.{Sibling}
use Rattle.wm_sizes.specs.declared.gaps.Change.{Change}
use Rattle.wm_sizes.specs.declared.tiled.Growth.{Growth}
use Rattle.wm_sizes.proofs.AllGapLemmas.{all}
use Rattle.wm_sizes.proofs.GapSteps.{gaps_last}
use Rattle.wm_sizes.specs.Deals.{dealt, fits_all as shares_fit, siblings}
use Rattle.wm_sizes.specs.Floating.{as_rect, grow_refusal, grow_tree, grown, step}
use Rattle.wm_sizes.specs.Gaps.{all_gapped, default_gapped, gapped, own_gapped, regapped, set_gaps_tree}
use Rattle.wm_sizes.specs.Resizing.{resize_refusal, resize_tree}
use Rattle.wm_sizes.specs.Tiled.{cannot, children_of, lacks, length_of, rung_deal, rung_refusal, rung_tree, shares_set, tiled_refusal, tiled_tree}
use Rattle.wm_sizes.specs.Windows.{border_set}
use Rattle.wm_shared.specs.Rects.{rect_of}
use Rattle.wm_shared.specs.Subject.{is_hidden, is_space}
use Rattle.wm_tree.proofs.SoundLemmas.{sound-edited}
use Rattle.wm_forest.specs.declared.kind.KindEdit.TheVariants as edits
use Rattle.wm_forest.specs.declared.part.ConState.{ConState}
use Rattle.wm_forest.specs.declared.part.SpacePart.{SpacePart}
use Rattle.wm_forest.specs.Look.{first_kids, kind_of, only, space_kind}
use Rattle.wm_tree.specs.Sound.{IsSound}
use Rattle.wm_forest.specs.Spot.{spot_in, top}
use Rattle.wm_tree.specs.TreeValue.{TreeValue, is_tiled_con, workspace_of}
use Rattle.wm_tree.specs.Words.{edited}

-- ---- rounds of floating windows

sure_focused_some : (c : Option ConId) (t : TreeValue) → IsSound t → Sure t (focused_some c t)
sure_focused_some None t s = sure_refl t s
sure_focused_some (Some c) t s = sure_focusing c t s

pub sure_round : (c : ConId) (d : Dir) (t : TreeValue) → IsSound t → Sure t (focus_round_tree c d t)
sure_round c d t s = sure_focused_some (round_to d c t) t s

-- ---- rectangles and borders

pub sure_rect : (r : Rect) (c : ConId) (t : TreeValue) → IsSound t → Sure t (rect_set r c t)
sure_rect r c t s = sure_restated c (option_map (λ (z : ConState). record z { rect = Some r }) (state_of c t)) t s

pub sure_border : (b : Border) (c : ConId) (t : TreeValue) → IsSound t → Sure t (border_set b c t)
sure_border b c t s = sure_restated c (option_map (λ (z : ConState). record z { border = b }) (state_of c t)) t s

sure_turned : (c : ConId) (o : Option ConState) (t : TreeValue) → IsSound t → Sure t (turned c o t)
sure_turned c None t s = sure_refl t s
sure_turned c (Some z) t s = sure_border (next_border z.border) c t s

pub sure_cycled : (c : ConId) (t : TreeValue) → IsSound t → Sure t (cycle_border_tree c t)
sure_cycled c t s = sure_turned c (state_of c t) t s

-- ---- title formats

pub sure_format : (c : ConId) (text : List ℕ) (t : TreeValue) → IsSound t → Sure t (edited c (edits.TitleFormat text) t)
sure_format c text t s =
    sure_edited c (edits.TitleFormat text) t refl
    (sound-edited c (edits.TitleFormat text) t (fits_all (edits.TitleFormat text) (λ b kids. tt) (spot_in top c t.nodes) (first_kids (only c t.nodes))) s)

-- ---- gaps

sure_gap : (w : ConId) (a b : ℕ) (t : TreeValue) → IsSound t → Sure t (edited w (edits.Gaps a b) t)
sure_gap w a b t s = sure_edited w (edits.Gaps a b) t refl (sound-edited w (edits.Gaps a b) t (fits_all (edits.Gaps a b) (λ b kids. tt) (spot_in top w t.nodes) (first_kids (only w t.nodes))) s)

sure_regapped : (change : Change) (w : ConId) (o : Option SpacePart) (t : TreeValue) → IsSound t → Sure t (regapped change w o t)
sure_regapped change w None t s = sure_refl t s
sure_regapped change w (Some z) t s = sure_gap w (gapped change z.inner z.outer).0 (gapped change z.inner z.outer).1 t s

sure_default : (change : Change) (t : TreeValue) → IsSound t → Sure t (default_gapped change t)
sure_default change t s =
    sure_by t (default_gapped change t)
    (record { shaped = s.shaped; rooted = s.rooted; once = s.once; fresh = s.fresh; low = s.low; above = s.above; known = s.known; few = s.few; few_spaces = s.few_spaces; few_marks = s.few_marks; ids = s.ids })
    (kept_default change t) refl (λ (h : IsTidy t.nodes). h)

sure_own : (change : Change) (w : Option ConId) (t : TreeValue) → IsSound t → Sure t (own_gapped change w t)
sure_own change None t s = sure_refl t s
sure_own change (Some w) t s = sure_regapped change w (kind_of space_kind w t.nodes) t s

pub sure_gaps : (c : ConId) (outer all : Bool) (op : GapOp) (px : ℕ) (t : TreeValue) → IsSound t → Sure t (set_gaps_tree c outer all op px t)
sure_gaps c outer true op px t s =
    let change : Change = record { outer = outer; op = op; px = px } in
    let each : TreeValue = record t { nodes = all (gapped change) t.nodes } in
    let first : Sure t each = gaps_last (Sure t) (λ w a b u p. sure_trans t u (edited w (edits.Gaps a b) u) p (sure_gap w a b u p.sound)) (gapped change) t s (sure_refl t s) in
    sure_trans t each (all_gapped change t) first (sure_default change each first.sound)
sure_gaps c outer false op px t s = sure_own (record { outer = outer; op = op; px = px }) (workspace_of t c) t s

-- ---- shares

tidy_shares : (l : List Sibling) (t : TreeValue) → IsTidy t.nodes → IsTidy (shares_set l t).nodes
tidy_shares [] t h = h
tidy_shares (s ∷ l) t h = tidy_edited s.id (edits.Share s.share) (shares_set l t).nodes (tidy_shares l t h)

shares_recency : (l : List Sibling) (t : TreeValue) → (shares_set l t).recency ≡ t.recency
shares_recency [] t = refl
shares_recency (s ∷ l) t = shares_recency l t

not_either : (a b : Bool) → (a || not b) ≡ false → b ≡ true
not_either true b h = cc
not_either false true h = refl
not_either false false h = cc

unless : (b : Bool) (text : ErrorText) (rest : Option Refusal) → error_if b text rest ≡ None → (b ≡ false) × (rest ≡ None)
unless true text rest h = cc
unless false text rest h = (refl, h)

sure_rung : (c : ConId) (g : Growth) (r : Option Rung) (t : TreeValue) → rung_of (side_axis g.side) c t ≡ r → IsSound t → rung_refusal g r t ≡ None → Sure t (rung_tree g r t)
sure_rung c g None t e s fits = sure_refl t s
sure_rung c g (Some r) t e s fits =
    let row : List Sibling = siblings (children_of r.parent t) in
    let a = unless (lacks g.side r.node (children_of r.parent t)) texts.NoNeighbour (error_if (cannot g (length_of g.side r.parent t) (rung_deal g r t) (children_of r.parent t)) texts.CannotResize None) fits in
    let b = unless (cannot g (length_of g.side r.parent t) (rung_deal g r t) (children_of r.parent t)) texts.CannotResize None a.1 in
    let fit : shares_fit (rung_deal g r t) 0 row ≡ true = not_either (g.ppt == 0 && length_of g.side r.parent t == 0) (shares_fit (rung_deal g r t) 0 row) b.0 in
    let family = rung_family (side_axis g.side) c t r s e in
    sure_by t (rung_tree g (Some r) t) (set_sound (rung_deal g r t) 0 row t fit (family_tiled r t s family) s)
    (kept_rung g (Some r) t) (shares_recency (dealt (rung_deal g r t) 0 row) t) (tidy_shares (dealt (rung_deal g r t) 0 row) t)

pub sure_resized : (c : ConId) (grow : Bool) (side : Side) (px ppt : ℕ) (t : TreeValue) → IsSound t → resize_refusal c grow side px ppt t ≡ None → Sure t (resize_tree c grow side px ppt t)
sure_resized c grow side px ppt t s fits =
    let a = unless (is_hidden t c) texts.NoWorkspace _ fits in
    let b = unless (is_space t c) texts.AtWorkspace _ a.1 in
    by_test (is_tiled_con t c) b.1
  where
    g : Growth
    g = record { grow = grow; side = side; px = px; ppt = ppt }

    by_test : (b : Bool) → cond b (tiled_refusal c g t) (grow_refusal c side (step grow px) t) ≡ None → Sure t (cond b (tiled_tree c g t) (grow_tree c side (step grow px) t))
    by_test true k = sure_rung c g (rung_of (side_axis side) c t) t refl s k
    by_test false k = sure_rect (as_rect (grown side (step grow px) (rect_of c t))) c t s
