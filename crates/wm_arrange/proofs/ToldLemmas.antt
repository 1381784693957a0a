-- The area that a tiled container or a workspace has in the arrangement is the one that is told of it.
use Rattle.std.proofs.Common.{◌≡◌, ℕ, ◌+◌, ◌*◌, ◌≤◌, eqb, Bool, true, false, cond, ◌||◌, pos, List, [], Option, None, Some, refl, ap, sym, subst, ◌∙◌, arith}
use Rattle.std.specs.Option.{option_or}
use Rattle.wm_defs.specs.Cut.{cut}
use Rattle.wm_base.specs.declared.geometry.Axis.TheVariants.{Across, Down}
use Rattle.wm_base.specs.declared.geometry.Rect.{Rect}
use Rattle.wm_base.specs.Rect.{inset}
use Rattle.wm_base.specs.declared.ids.ConId.{ConId}
use Rattle.wm_base.specs.declared.plan.Layout.{Layout}
use Rattle.wm_base.specs.declared.plan.Layout.TheVariants.{SplitH, SplitV, Tabbed, Stacked}
use Rattle.wm_forest.specs.declared.part.ConKind.{ConKind}
use Rattle.wm_forest.specs.declared.part.ConKind.TheVariants.{Split, Window, Placeholder}
use Rattle.wm_forest.specs.declared.part.ConPart.{ConPart}
use Rattle.wm_forest.specs.declared.part.NodeKind.{NodeKind}
use Rattle.wm_forest.specs.declared.part.NodeKind.TheVariants.{Root, Output, Space, Con}
use Rattle.wm_forest.specs.declared.part.Part.{Part}
use Rattle.wm_forest.specs.Change.{is_id}
use Rattle.wm_forest.specs.Counts.{row_length}
use Rattle.wm_forest.specs.Forest.{Forest, end, con}
use Rattle.wm_forest.specs.Look.{same}
use Rattle.wm_forest.specs.SoundRow.{tally}
use Rattle.wm_forest.specs.Focus.{focused_in}
use Rattle.wm_arrange.specs.declared.parts.Placed.{Placed}
use Rattle.wm_arrange.specs.declared.parts.PlacedPart.TheVariants as parts
use Rattle.wm_arrange.specs.AreaOf.{area_among, as_area, child_area, con_layout, layout_of}
use Rattle.wm_arrange.specs.Areas.{shares, side_of, slice_of, some_area}
use Rattle.wm_arrange.specs.Arranged.{con_parts, has_own_title, kids_parts, node_parts, row_parts, shown_parts, slot, standing}
use Rattle.wm_arrange.specs.Borders.{window_parts}
use Rattle.wm_arrange.specs.CoverTree.{area_in, tiled_at}
use Rattle.wm_arrange.specs.Gaps.{gaps, is_first, is_last}
use Rattle.wm_arrange.specs.Parts.{placed}
use Rattle.wm_arrange.specs.Scene.{Seen}
use Rattle.wm_arrange.specs.Titles.{kids_titles, lower, own_title}
use Rattle.wm_arrange.proofs.AbsentLemmas.{bare_absent, kids_absent, node_absent, not_c, row_absent, shown_absent}
use Rattle.wm_arrange.proofs.BareLemmas.{Bare, area_in_first, area_in_other, area_in_placed, area_in_second, bare_own, bare_titles, bare_window}
use Rattle.wm_arrange.proofs.CoverTreeLemmas.{none_below}
use Rattle.wm_arrange.proofs.TiledLemmas.{apart_behind, apart_below, apart_here, stands_at, tiled-within}

-- ---- an area that is shown is the one that is told

pub kept : (b : Bool) (q r : Rect) → cond b None (Some q) ≡ Some r → Some q ≡ Some r
kept true q r h = cc
kept false q r h = h

told_by : (b : Bool) (z q r : Rect) → cond b None (Some q) ≡ Some r → cond b z q ≡ r
told_by true z q r h = cc
told_by false z q r h = cc

pub some_told : (q r : Rect) → some_area q ≡ Some r → as_area q ≡ r
some_told q r h = told_by (eqb q.w 0 || eqb q.h 0) (record { x = pos 0; y = pos 0; w = q.w; h = q.h }) q r h

chosen : (b : Bool) (o : Option Rect) (r : Rect) → cond b o None ≡ Some r → o ≡ Some r
chosen true o r h = h
chosen false o r h = cc

slot_told : (inner : ℕ) (recency : List ConId) (layout : Layout) (area : Rect) (kids : Forest) (i : ℕ) (id : ConId) (rest : Forest) (r : Rect) → slot inner (standing recency layout area kids) i id rest ≡ Some r
    → child_area inner layout area kids i rest ≡ r
slot_told inner recency SplitH area kids i id rest r h = some_told (inset (slice_of Across area (cut (side_of Across area) (shares kids) i)) (gaps Across inner (is_first i) (is_last rest))) r h
slot_told inner recency SplitV area kids i id rest r h = some_told (inset (slice_of Down area (cut (side_of Down area) (shares kids) i)) (gaps Down inner (is_first i) (is_last rest))) r h
slot_told inner recency Tabbed area kids i id rest r h = some_told (lower 20 area) r (chosen (is_id id (focused_in recency kids)) (some_area (lower 20 area)) r h)
slot_told inner recency Stacked area kids i id rest r h = let left = lower (20 * row_length kids) area in some_told left r (chosen (is_id id (focused_in recency kids)) (some_area left) r h)

pub not_first : (b : Bool) (c : ConId) (part : Part) (kids floats rest : Forest) → same part.id c ≡ b → tally c (con part kids floats rest) ≡ 0 → b ≡ false
not_first true c part kids floats rest e h = let bad : 1 + tally c kids + tally c floats + tally c rest ≡ 0 = rw e at h in absurd (omega (arith, bad))
not_first false c part kids floats rest e h = refl

-- nothing is told of what is not there
pub among_absent : (inner : ℕ) (c : ConId) (layout : Layout) (area : Rect) (kids : Forest) (i : ℕ) (row : Forest) → tally c row ≡ 0 → area_among inner c layout area kids i row ≡ None
among_absent inner c layout area kids i end h = refl
among_absent inner c layout area kids i (con part below floats rest) h =
    let none = among_absent inner c (layout_of part.kind) (child_area inner layout area kids i rest) below 0 below (omega (arith, h)) in
    let later = among_absent inner c layout area kids (i + 1) rest (omega (arith, h)) in
    rw (not_first (same part.id c) c part below floats rest refl h, none, later) refl

-- ---- containers

module _ (c : ConId) (target : Forest) (there : 1 ≤ tally c target) where
  abbrev pub Told : List Placed → Rect → Type 0
  Told ps r = area_in c ps ≡ Some r

  pub bare_none : (ps : List Placed) → Bare ps → area_in c ps ≡ None
  bare_none ps h = (bare_absent c target (pos 0) (pos 0) there ps h).1

  pub not_told : (A : Type 0) (ps : List Placed) (r : Rect) → area_in c ps ≡ None → Told ps r → A
  not_told A ps r none told = let bad : None ≡ Some r = sym none ∙ told in cc

  module _ (s : Seen) (own : Bool) (part : Part) (kids : Forest) (r : Rect) where
    con_below : (q : Rect) (cp : ConPart) (kind : ConKind) → Told (con_parts s own part cp kind kids q (kids_parts s kids q)) r → Told (kids_parts s kids q (con_layout kind)) r
    con_below q cp (Split layout last) told = told
    con_below q cp (Window props owner natural) told =
        let ps = window_parts s own part kids cp.state.border q in
        not_told (Told (kids_parts s kids q SplitH) r) ps r (bare_none ps (bare_window s own part kids cp.state.border q)) told
    con_below q cp (Placeholder props swallows) told =
        let ps = own_title s own part kids cp.state.border q in
        not_told (Told (kids_parts s kids q SplitH) r) ps r (bare_none ps (bare_own s own part kids cp.state.border q)) told

    node_below : (q : Rect) (kind : NodeKind) → Told (node_parts s own part kind kids q (kids_parts s kids q)) r → Told (kids_parts s kids q (layout_of kind)) r
    node_below q (Root i) told = cc
    node_below q (Output o) told = cc
    node_below q (Space w) told = cc
    node_below q (Con cp) told = con_below q cp cp.kind told

    -- what is told of the children of a shown node
    shown_below : (A : Type 0) (place : Option Rect) → same part.id c ≡ false → Told (shown_parts s own part kids (kids_parts s kids) place) r → ((q : Rect) → place ≡ Some q → Told (kids_parts s kids q (layout_of part.kind)) r → A) → A
    shown_below A None apart told more = not_told A [] r refl told
    shown_below A (Some q) apart told more =
        let inside = node_parts s own part part.kind kids q (kids_parts s kids q) in
        more q refl (node_below q part.kind (sym (area_in_second c (placed part.id parts.Area q) inside (area_in_other c part.id parts.Area q apart)) ∙ told))

    shown_here : (floats rest : Forest) → same part.id c ≡ true → ((d : ConId) → tally d (con part kids floats rest) ≤ 1) → (place : Option Rect) → Told (shown_parts s own part kids (kids_parts s kids) place) r → place ≡ Some r
    shown_here floats rest e once None told = told
    shown_here floats rest e once (Some q) told =
        let apart = none_below c target (pos 0) (pos 0) there part kids floats rest e once in
        let alone : Forest = con part end end end in
        let inside = node_parts s own part part.kind kids q (kids_parts s kids q) in
        let none = (node_absent c alone (pos 0) (pos 0) apart.0 s own part kids q (kids_parts s kids q) (kids_absent c alone (pos 0) (pos 0) apart.0 s kids apart.1 q) part.kind).1 in
        kept (eqb q.w 0 || eqb q.h 0) q r (sym (area_in_first c (placed part.id parts.Area q) inside none ∙ area_in_placed c part.id q e) ∙ told)

  pub titles_told : (s : Seen) (kids : Forest) (q : Rect) (layout : Layout) (r : Rect) → Told (kids_parts s kids q layout) r → Told (row_parts s (standing s.recency layout q kids) 0 kids) r
  titles_told s kids q layout r told =
      let titles = kids_titles s layout q kids in
      sym (area_in_second c titles (row_parts s (standing s.recency layout q kids) 0 kids) (bare_none titles (bare_titles s layout q kids))) ∙ told

  -- the area of c in a row of tiled containers that has c
  pub row_told : (s : Seen) (row : Forest) → ((d : ConId) → tally d row ≤ 1) → tiled_at c row ≡ target → (layout : Layout) (area : Rect) (kids : Forest) (i : ℕ) (r : Rect)
      → Told (row_parts s (standing s.recency layout area kids) i row) r → area_among s.inner c layout area kids i row ≡ Some r
  row_told s end once found layout area kids i r told = cc
  row_told s (con part below floats rest) once found layout area kids i r told =
      let st = standing s.recency layout area kids in
      let own = has_own_title st in
      let place = slot s.inner st i part.id rest in
      let first = shown_parts s own part below (kids_parts s below) place in
      let behind = row_parts s st (i + 1) rest in
      let later = area_among s.inner c layout area kids (i + 1) rest in
      let goal : Type 0 = area_among s.inner c layout area kids i (con part below floats rest) ≡ Some r in
      let is_child : (q : Rect) → place ≡ Some q → child_area s.inner layout area kids i rest ≡ q = λ q e. slot_told s.inner s.recency layout area kids i part.id rest q e in
      let deeper : tiled_at c below ≡ target → (q : Rect) → Told (kids_parts s below q (layout_of part.kind)) r → area_among s.inner c (layout_of part.kind) q below 0 below ≡ Some r
      = λ low q h. row_told s below (λ d. omega (arith, once d)) low (layout_of part.kind) q below 0 r (titles_told s below q (layout_of part.kind) r h) in
      stands_at c target goal part below floats rest once found
      (λ e whole gap. let none = (row_absent c target (pos 0) (pos 0) there s rest (apart_here c target goal part below floats rest once whole rest (λ d. omega arith)) st (i + 1)).1 in
      rw e (ap Some (is_child r (shown_here s own part below r floats rest e once place (sym (area_in_first c first behind none) ∙ told)))))
      (λ low gone gap. let none = (row_absent c target (pos 0) (pos 0) there s rest (apart_below c target goal part below floats rest once low rest (λ d. omega arith)) st (i + 1)).1 in
      let apart = not_c c target (pos 0) (pos 0) there part.id gone in
      shown_below s own part below r goal place apart (sym (area_in_first c first behind none) ∙ told)
      (λ q e h. rw apart (ap (λ z. option_or (area_among s.inner c (layout_of part.kind) z below 0 below) later) (is_child q e) ∙ ap (λ m. option_or m later) (deeper low q h))))
      (λ more gone gap. let kids_apart = apart_behind c target goal part below floats rest once more below (λ d. omega arith) in
      let none = (shown_absent c target (pos 0) (pos 0) there s own part below (kids_parts s below) gone (kids_absent c target (pos 0) (pos 0) there s below kids_apart) place).1 in
      let within : tally c target ≤ tally c rest = subst (λ z. tally c z ≤ tally c rest) more (tiled-within c c rest) in
      let nothing = among_absent s.inner c (layout_of part.kind) (child_area s.inner layout area kids i rest) below 0 below (omega (arith, within, there, once c)) in
      let rec = row_told s rest (λ d. omega (arith, once d)) more layout area kids (i + 1) r (sym (area_in_second c first behind none) ∙ told) in
      rw (not_c c target (pos 0) (pos 0) there part.id gone, nothing) rec)
