-- Where no node is one of a container or below it, no part is an area of one of them.
use Rattle.std.proofs.Common.{◌≡◌, ℕ, ◌+◌, ◌≤◌, Bool, true, false, cond, ℤ, List, [], ◌∷◌, ◌++◌, Option, None, Some, option_and_then, refl, subst, ◌∙◌, arith}
use Rattle.std.specs.Option.{option_or}
use Rattle.wm_base.specs.declared.geometry.Rect.{Rect}
use Rattle.wm_base.specs.declared.ids.ConId.{ConId}
use Rattle.wm_base.specs.declared.plan.Layout.{Layout}
use Rattle.wm_forest.specs.declared.part.ConKind.{ConKind}
use Rattle.wm_forest.specs.declared.part.ConKind.TheVariants.{Split, Window, Placeholder}
use Rattle.wm_forest.specs.declared.part.ConPart.{ConPart}
use Rattle.wm_forest.specs.declared.part.NodeKind.{NodeKind}
use Rattle.wm_forest.specs.declared.part.NodeKind.TheVariants.{Root, Output, Space, Con}
use Rattle.wm_forest.specs.declared.part.OutputPart.{OutputPart}
use Rattle.wm_forest.specs.declared.part.Part.{Part}
use Rattle.wm_forest.specs.declared.part.SpacePart.{SpacePart}
use Rattle.wm_forest.specs.Forest.{Forest, end, con}
use Rattle.wm_forest.specs.Look.{node_in, output_kind, same, space_kind}
use Rattle.wm_forest.specs.SoundRow.{tally}
use Rattle.wm_tree.specs.TreeValue.{TreeValue}
use Rattle.wm_forest.proofs.RecencyLemmas.{same_is}
use Rattle.wm_arrange.specs.declared.parts.Placed.{Placed}
use Rattle.wm_arrange.specs.declared.parts.PlacedPart.TheVariants as parts
use Rattle.wm_arrange.specs.Areas.{near_area, some_area}
use Rattle.wm_arrange.specs.Arranged.{Standing, con_parts, first_space, floats_parts, fullscreen_in, has_own_title, kids_parts, node_parts, on_space, output_parts, outputs_parts, rect_of, row_parts, shown_parts, slot, space_parts, standing, tiled_parts}
use Rattle.wm_arrange.specs.Borders.{window_parts}
use Rattle.wm_arrange.specs.Cover.{covered, is_area, leaf_in}
use Rattle.wm_arrange.specs.CoverTree.{area_in}
use Rattle.wm_arrange.specs.Gaps.{ground}
use Rattle.wm_arrange.specs.Parts.{placed}
use Rattle.wm_arrange.specs.Scene.{Seen, seen_in}
use Rattle.wm_arrange.specs.Titles.{kids_titles, own_title}
use Rattle.wm_arrange.proofs.BareLemmas.{Bare, area_in_first, area_in_other, bare_own, bare_placed, bare_titles, bare_window}
use Rattle.wm_arrange.proofs.CoverLemmas.{an_area, covered_append}
use Rattle.wm_arrange.proofs.LeafLemmas.{here_once, leaf-absent}

module _ (c : ConId) (target : Forest) (x y : ℤ) (there : 1 ≤ tally c target) where
  -- no node of the row, or below it, is one of the target
  abbrev pub Apart : Forest → Type 0
  Apart f = (d : ConId) → 1 ≤ tally d f → tally d target ≡ 0

  -- the parts have no area of c, and none of the target's windows and placeholders has the pixel
  abbrev pub Absent : List Placed → Type 0
  Absent ps = (covered (leaf_in target) x y ps ≡ 0) × (area_in c ps ≡ None)

  pub bare_absent : (ps : List Placed) → Bare ps → Absent ps
  bare_absent [] h = (refl, refl)
  bare_absent (p ∷ ps) h =
      let more = bare_absent ps h.1 in
      let none : is_area p.part ≡ false = h.0 in
      let rest : covered (leaf_in target) x y ps ≡ 0 = more.0 in
      (rw none (omega (arith, rest)), rw none more.1)

  pub absent_append : (ps qs : List Placed) → Absent ps → Absent qs → Absent (ps ++ qs)
  absent_append ps qs p q =
      let first : covered (leaf_in target) x y ps ≡ 0 = p.0 in
      let second : covered (leaf_in target) x y qs ≡ 0 = q.0 in
      (omega (arith, covered_append (leaf_in target) x y ps qs, first, second), area_in_first c ps qs q.1 ∙ p.1)

  other : (d : ConId) → tally d target ≡ 0 → (b : Bool) → same d c ≡ b → b ≡ false
  other d gone true e = let none : tally c target ≡ 0 = subst (λ (z : ConId). tally z target ≡ 0) (same_is d c e) gone in absurd (omega (arith, none, there))
  other d gone false e = refl

  pub not_c : (d : ConId) → tally d target ≡ 0 → same d c ≡ false
  not_c d gone = other d gone (same d c) refl

  -- the area of another node
  pub area_absent : (id : ConId) (r : Rect) → tally id target ≡ 0 → Absent (placed id parts.Area r)
  area_absent id r gone = (an_area (leaf_in target) x y id r ∙ rw (leaf-absent target id gone) refl, area_in_other c id parts.Area r (not_c id gone))

  -- ---- containers

  module _ (s : Seen) (own : Bool) (part : Part) (kids : Forest) where
    con_absent : (r : Rect) (children : Layout → List Placed) → ((layout : Layout) → Absent (children layout)) → (cp : ConPart) (kind : ConKind) → Absent (con_parts s own part cp kind kids r children)
    con_absent r children inside cp (Split layout last) = inside layout
    con_absent r children inside cp (Window props owner natural) = bare_absent (window_parts s own part kids cp.state.border r) (bare_window s own part kids cp.state.border r)
    con_absent r children inside cp (Placeholder props swallows) = bare_absent (own_title s own part kids cp.state.border r) (bare_own s own part kids cp.state.border r)

    pub node_absent : (r : Rect) (children : Layout → List Placed) → ((layout : Layout) → Absent (children layout)) → (kind : NodeKind) → Absent (node_parts s own part kind kids r children)
    node_absent r children inside (Root i) = (refl, refl)
    node_absent r children inside (Output o) = (refl, refl)
    node_absent r children inside (Space w) = (refl, refl)
    node_absent r children inside (Con cp) = con_absent r children inside cp cp.kind

    pub shown_absent : (children : Rect → Layout → List Placed) → tally part.id target ≡ 0 → ((r : Rect) (layout : Layout) → Absent (children r layout)) → (place : Option Rect) → Absent (shown_parts s own part kids children place)
    shown_absent children gone inside None = (refl, refl)
    shown_absent children gone inside (Some r) =
        absent_append (placed part.id parts.Area r) (node_parts s own part part.kind kids r (children r)) (area_absent part.id r gone) (node_absent r (children r) (inside r) part.kind)

  -- a node of a row apart is none of the target
  pub first_gone : (part : Part) (kids floats rest : Forest) → Apart (con part kids floats rest) → tally part.id target ≡ 0
  first_gone part kids floats rest h = h part.id (omega (arith, here_once part kids floats rest))

  pub row_absent : (s : Seen) (row : Forest) → Apart row → (st : Standing) (i : ℕ) → Absent (row_parts s st i row)
  row_absent s end h st i = (refl, refl)
  row_absent s (con part kids floats rest) h st i =
      let own = has_own_title st in
      let inside : (r : Rect) (layout : Layout) → Absent (kids_parts s kids r layout)
      = λ r layout. absent_append (kids_titles s layout r kids) (row_parts s (standing s.recency layout r kids) 0 kids)
      (bare_absent (kids_titles s layout r kids) (bare_titles s layout r kids)) (row_absent s kids (λ d k. h d (omega (arith, k))) (standing s.recency layout r kids) 0) in
      absent_append (shown_parts s own part kids (kids_parts s kids) (slot s.inner st i part.id rest)) (row_parts s st (i + 1) rest)
      (shown_absent s own part kids (kids_parts s kids) (first_gone part kids floats rest h) inside (slot s.inner st i part.id rest))
      (row_absent s rest (λ d k. h d (omega (arith, k))) st (i + 1))

  pub kids_absent : (s : Seen) (kids : Forest) → Apart kids → (r : Rect) (layout : Layout) → Absent (kids_parts s kids r layout)
  kids_absent s kids h r layout =
      absent_append (kids_titles s layout r kids) (row_parts s (standing s.recency layout r kids) 0 kids)
      (bare_absent (kids_titles s layout r kids) (bare_titles s layout r kids)) (row_absent s kids h (standing s.recency layout r kids) 0)

  pub floats_absent : (s : Seen) (row : Forest) → Apart row → Absent (floats_parts s row)
  floats_absent s end h = (refl, refl)
  floats_absent s (con part kids floats rest) h =
      absent_append (shown_parts s true part kids (λ area layout. []) (option_and_then near_area (rect_of part.kind))) (floats_parts s rest)
      (shown_absent s true part kids (λ area layout. []) (first_gone part kids floats rest h) (λ r layout. (refl, refl)) (option_and_then near_area (rect_of part.kind)))
      (floats_absent s rest (λ d k. h d (omega (arith, k))))

  -- ---- workspaces and outputs

  module _ (t : TreeValue) (f : ConId) where
    module _ (output : OutputPart) (id : ConId) (kids floats : Forest) (gone : tally id target ≡ 0) (kids_apart : Apart kids) (floats_apart : Apart floats) where
      tiled_absent : (s : Seen) (w : SpacePart) (area : Option Rect) → Absent (tiled_parts s id w kids area)
      tiled_absent s w None = (refl, refl)
      tiled_absent s w (Some r) = absent_append (placed id parts.Area r) (kids_parts s kids r w.layout) (area_absent id r gone) (kids_absent s kids kids_apart r w.layout)

      on_absent : (s : Seen) (w : SpacePart) (full : Option ConId) → Absent (on_space s output id w kids floats full)
      on_absent s w None =
          let area = some_area (ground output.rect output.reserved w.outer w.inner) in
          absent_append (tiled_parts s id w kids area) (floats_parts s floats) (tiled_absent s w area) (floats_absent s floats floats_apart)
      on_absent s w (Some window) = bare_absent (placed window parts.Content output.rect) (bare_placed window parts.Content output.rect refl)

      pub space_absent : (w : Option SpacePart) → Absent (space_parts t f output id w kids floats)
      space_absent None = (refl, refl)
      space_absent (Some w) =
          let full = option_or (fullscreen_in kids) (fullscreen_in floats) in
          absent_append (placed id parts.Back output.rect) (on_space (seen_in t f w.inner) output id w kids floats full)
          (bare_absent (placed id parts.Back output.rect) (bare_placed id parts.Back output.rect refl)) (on_absent (seen_in t f w.inner) w full)

    pub shown_space_absent : (output : OutputPart) (row : Forest) → Apart row → Absent (first_space t f output (node_in output.shown row))
    shown_space_absent output end h = (refl, refl)
    shown_space_absent output (con part kids floats rest) h = by_shown (shown_space_absent output rest (λ d k. h d (omega (arith, k)))) (same part.id output.shown)
      where
        by_shown : Absent (first_space t f output (node_in output.shown rest)) → (b : Bool) → Absent (first_space t f output (cond b (con part kids floats rest) (node_in output.shown rest)))
        by_shown behind true = space_absent output part.id kids floats (first_gone part kids floats rest h) (λ d k. h d (omega (arith, k))) (λ d k. h d (omega (arith, k))) (space_kind part.kind)
        by_shown behind false = behind

    pub output_absent : (o : Option OutputPart) (row : Forest) → Apart row → Absent (output_parts t f o row)
    output_absent None row h = (refl, refl)
    output_absent (Some o) row h = shown_space_absent o row h

    pub outputs_absent : (row : Forest) → Apart row → Absent (outputs_parts t f row)
    outputs_absent end h = (refl, refl)
    outputs_absent (con part kids floats rest) h =
        absent_append (output_parts t f (output_kind part.kind) kids) (outputs_parts t f rest) (output_absent (output_kind part.kind) kids (λ d k. h d (omega (arith, k))))
        (outputs_absent rest (λ d k. h d (omega (arith, k))))
