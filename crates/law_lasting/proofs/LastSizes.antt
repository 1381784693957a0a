-- Commands on marks, sizes, borders, gaps and title formats keep what lasts.
use Rattle.std.proofs.Common.{ℕ, ◌≡◌, Bool, true, false, cond, ◌&&◌, ◌||◌, not, List, [], ◌∷◌, Option, None, Some, refl}
use Rattle.wm_base.specs.declared.geometry.Dir.{Dir}
use Rattle.wm_base.specs.declared.geometry.Rect.{Rect}
use Rattle.wm_base.specs.declared.ids.ConId.{ConId}
use Rattle.wm_base.specs.declared.plan.Border.{Border}
use Rattle.wm_floats.specs.Rounds.{focus_round_tree, focused_some, round_to}
use Rattle.wm_floats.specs.Windows.{rect_set, state_of}
use Rattle.wm_focus.specs.Marks.{given_mark, is_marked, mark_tree, unmark_tree}
use Rattle.wm_language.specs.declared.arguments.GapOp.{GapOp}
use Rattle.wm_language.specs.declared.arguments.Side.{Side}
use Rattle.law_lasting.proofs.LastFloats.{last_restated}
use Rattle.law_lasting.proofs.LastSpaces.{last_focusing}
use Rattle.law_lasting.specs.Lasting.{Lasts}
use Rattle.wm_sizes.specs.Borders.{cycle_border_tree, next_border, turned}
use Rattle.wm_sizes.specs.Climbing.{rung_of, side_axis}
use Rattle.wm_sizes.specs.declared.climbing.Rung.{Rung}
use Rattle.wm_forest.specs.declared.shares.Sibling.{Sibling}
use Rattle.wm_sizes.specs.declared.gaps.Change.{Change}
use Rattle.wm_sizes.specs.declared.tiled.Growth.{Growth}
use Rattle.wm_sizes.specs.Deals.{dealt, siblings}
use Rattle.std.specs.Prelude.{◌==◌}
use Rattle.wm_base.specs.declared.errors.ErrorText.TheVariants as texts
use Rattle.law_lasting.proofs.PlaceLemmas.{MayHave, dealt_may}
use Rattle.law_lasting.proofs.RectLemmas.{grown_fits}
use Rattle.law_lasting.specs.Rects.{RectsFit}
use Rattle.wm_opens.proofs.SureCommands.{unless}
use Rattle.wm_shared.specs.Refusing.{error_if}
use Rattle.wm_shared.specs.Subject.{is_hidden, is_space}
use Rattle.wm_sizes.specs.Deals.{fits_all}
use Rattle.wm_sizes.specs.Floating.{as_rect, grow_refusal, grow_tree, grown, step}
use Rattle.wm_forest.specs.SoundRow.{IsOutputRect}
use Rattle.wm_sizes.proofs.AllGapLemmas.{all as gapped_all}
use Rattle.wm_sizes.proofs.GapSteps.{gaps_last}
use Rattle.wm_sizes.specs.Gaps.{default_gapped, gapped, own_gapped, regapped, set_gaps_tree}
use Rattle.wm_sizes.specs.Resizing.{resize_refusal, resize_tree}
use Rattle.wm_sizes.specs.Tiled.{cannot, children_of, lacks, length_of, rung_deal, rung_refusal, rung_tree, shares_set, tiled_refusal, tiled_tree}
use Rattle.wm_sizes.specs.Windows.{border_set}
use Rattle.wm_shared.specs.Rects.{rect_of}
use Rattle.wm_forest.specs.declared.kind.KindEdit.TheVariants as edits
use Rattle.wm_forest.specs.declared.part.ConState.{ConState}
use Rattle.wm_forest.specs.declared.part.SpacePart.{SpacePart}
use Rattle.wm_forest.specs.Look.{kind_of, space_kind}
use Rattle.wm_tree.specs.Move.{unmarked}
use Rattle.wm_tree.specs.Sound.{IsSound}
use Rattle.wm_tree.specs.TreeValue.{TreeValue, is_tiled_con, workspace_of}
use Rattle.wm_tree.specs.Words.{edited}

not_either : (a b : Bool) → (a || not b) ≡ false → b ≡ true
not_either true b h = cc
not_either false true h = refl
not_either false false h = cc

module _ {P : TreeValue → Type 0} (k : Lasts P) where
  -- ---- marks

  pub last_unmark : (c : Option ConId) (n : Option (List ℕ)) (t : TreeValue) → P t → P (unmark_tree c n t)
  last_unmark None None t p = k.baring t p
  last_unmark None (Some n) t p = k.taking_off None n t p
  last_unmark (Some c) None t p = k.stripping c t p
  last_unmark (Some c) (Some n) t p = k.unmarking c n t p

  pub last_mark : (c : ConId) (n : List ℕ) (add toggle : Bool) (t : TreeValue) → IsSound t → P t → P (mark_tree c n add toggle t)
  last_mark c n add toggle t s p = step_mark (toggle && is_marked c n t)
    where
      step_mark : (b : Bool) → P (cond b (unmarked c n t) (given_mark c n add t))
      step_mark true = k.unmarking c n t p
      step_mark false = k.giving c n add t s p

  -- ---- rounds of floating windows

  last_focused_some : (c : Option ConId) (t : TreeValue) → IsSound t → P t → P (focused_some c t)
  last_focused_some None t s p = p
  last_focused_some (Some c) t s p = last_focusing k c t s p

  pub last_round : (c : ConId) (d : Dir) (t : TreeValue) → IsSound t → P t → P (focus_round_tree c d t)
  last_round c d t s p = last_focused_some (round_to d c t) t s p

  -- ---- rectangles, borders and title formats

  pub last_rect : (r : Rect) (c : ConId) (t : TreeValue) → (RectsFit t → IsOutputRect r) → P t → P (rect_set r c t)
  last_rect r c t fits p = last_restated k c (λ (z : ConState). record z { rect = Some r }) t (λ s. (refl, refl, λ h. refl)) (λ s f h. fits f) p

  pub last_border : (b : Border) (c : ConId) (t : TreeValue) → P t → P (border_set b c t)
  last_border b c t p = last_restated k c (λ (z : ConState). record z { border = b }) t (λ s. (refl, refl, λ h. h)) (λ s f h. h) p

  pub last_cycled : (c : ConId) (t : TreeValue) → P t → P (cycle_border_tree c t)
  last_cycled c t p = by (state_of c t)
    where
      by : (o : Option ConState) → P (turned c o t)
      by None = p
      by (Some z) = last_border (next_border z.border) c t p

  pub last_format : (c : ConId) (text : List ℕ) (t : TreeValue) → P t → P (edited c (edits.TitleFormat text) t)
  last_format c text t p = k.editing c (edits.TitleFormat text) t refl tt p

  -- ---- gaps

  last_regapped : (change : Change) (w : ConId) (o : Option SpacePart) (t : TreeValue) → P t → P (regapped change w o t)
  last_regapped change w None t p = p
  last_regapped change w (Some z) t p = k.editing w (edits.Gaps (gapped change z.inner z.outer).0 (gapped change z.inner z.outer).1) t refl tt p

  last_own : (change : Change) (w : Option ConId) (t : TreeValue) → P t → P (own_gapped change w t)
  last_own change None t p = p
  last_own change (Some w) t p = last_regapped change w (kind_of space_kind w t.nodes) t p

  pub last_gaps : (c : ConId) (outer all : Bool) (op : GapOp) (px : ℕ) (t : TreeValue) → IsSound t → P t → P (set_gaps_tree c outer all op px t)
  last_gaps c outer true op px t s p =
      let change : Change = record { outer = outer; op = op; px = px } in
      let each : TreeValue = record t { nodes = gapped_all (gapped change) t.nodes } in
      k.alike each (default_gapped change each) refl refl refl refl (gaps_last P (λ w a b u q. k.editing w (edits.Gaps a b) u refl tt q) (gapped change) t s p)
  last_gaps c outer false op px t s p = last_own (record { outer = outer; op = op; px = px }) (workspace_of t c) t p

  -- ---- sizes

  last_shares : (l : List Sibling) (t : TreeValue) → MayHave l → P t → P (shares_set l t)
  last_shares [] t may p = p
  last_shares (s ∷ l) t may p = k.editing s.id (edits.Share s.share) (shares_set l t) refl may.0 (last_shares l t may.1 p)

  last_rung : (g : Growth) (r : Option Rung) (t : TreeValue) → rung_refusal g r t ≡ None → P t → P (rung_tree g r t)
  last_rung g None t fits p = p
  last_rung g (Some r) t fits p =
      let a = unless (lacks g.side r.node (children_of r.parent t)) texts.NoNeighbour (error_if (cannot g (length_of g.side r.parent t) (rung_deal g r t) (children_of r.parent t)) texts.CannotResize None) fits in
      let b = unless (cannot g (length_of g.side r.parent t) (rung_deal g r t) (children_of r.parent t)) texts.CannotResize None a.1 in
      let fit : fits_all (rung_deal g r t) 0 (siblings (children_of r.parent t)) ≡ true = not_either (g.ppt == 0 && length_of g.side r.parent t == 0) (fits_all (rung_deal g r t) 0 (siblings (children_of r.parent t))) b.0 in
      last_shares (dealt (rung_deal g r t) 0 (siblings (children_of r.parent t))) t (dealt_may (rung_deal g r t) 0 (siblings (children_of r.parent t)) fit) p

  pub last_resized : (c : ConId) (grow : Bool) (side : Side) (px ppt : ℕ) (t : TreeValue) → resize_refusal c grow side px ppt t ≡ None → P t → P (resize_tree c grow side px ppt t)
  last_resized c grow side px ppt t fits p =
      let a = unless (is_hidden t c) texts.NoWorkspace _ fits in
      let b = unless (is_space t c) texts.AtWorkspace _ a.1 in
      by_test (is_tiled_con t c) b.1
    where
      g : Growth
      g = record { grow = grow; side = side; px = px; ppt = ppt }

      by_test : (b : Bool) → cond b (tiled_refusal c g t) (grow_refusal c side (step grow px) t) ≡ None → P (cond b (tiled_tree c g t) (grow_tree c side (step grow px) t))
      by_test true h = last_rung g (rung_of (side_axis side) c t) t h p
      by_test false h = last_rect (as_rect (grown side (step grow px) (rect_of c t))) c t (λ r. grown_fits c side (step grow px) t h) p
