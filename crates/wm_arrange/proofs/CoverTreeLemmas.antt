-- In the arrangement of a whole tree the windows and placeholders below splits cover the area around them once.
use Rattle.std.proofs.Common.{◌≡◌, ℕ, ◌+◌, ◌≤◌, eqb, Bool, true, false, cond, ◌&&◌, ◌||◌, ℤ, List, [], ◌++◌, Option, None, Some, refl, ap, sym, subst, ◌∙◌, arith}
use Rattle.std.specs.Option.{option_or}
use Rattle.wm_base.specs.declared.geometry.Rect.{Rect}
use Rattle.wm_base.specs.declared.ids.ConId.{ConId}
use Rattle.wm_base.specs.declared.plan.Layout.{Layout}
use Rattle.wm_forest.specs.declared.part.ConKind.{ConKind}
use Rattle.wm_forest.specs.declared.part.ConKind.TheVariants.{Split, Window, Placeholder}
use Rattle.wm_forest.specs.declared.part.ConPart.{ConPart}
use Rattle.wm_forest.specs.declared.part.NodeKind.{NodeKind}
use Rattle.wm_forest.specs.declared.part.NodeKind.TheVariants.{Root, Output, Space, Con}
use Rattle.wm_forest.specs.declared.part.OutputPart.{OutputPart}
use Rattle.wm_forest.specs.declared.part.Part.{Part}
use Rattle.wm_forest.specs.declared.part.SpacePart.{SpacePart}
use Rattle.wm_forest.specs.Change.{is_end}
use Rattle.wm_forest.specs.Counts.{share_sum}
use Rattle.wm_forest.specs.Forest.{Forest, end, con}
use Rattle.wm_forest.specs.Look.{first_kids, node_in, output_kind, same, space_kind}
use Rattle.wm_forest.specs.SoundRow.{IsNode, IsSoundRow, containers, outputs, roots, spaces, tally}
use Rattle.wm_forest.specs.Spot.{room_below}
use Rattle.wm_tree.specs.TreeValue.{TreeValue, focused}
use Rattle.wm_arrange.specs.declared.parts.Placed.{Placed}
use Rattle.wm_arrange.specs.declared.parts.PlacedPart.TheVariants as parts
use Rattle.wm_arrange.specs.Areas.{some_area}
use Rattle.wm_arrange.specs.Arranged.{Standing, con_parts, first_space, floats_parts, fullscreen_in, has_own_title, kids_parts, node_parts, on_space, output_parts, outputs_parts, row_parts, shown_parts, slot, space_parts, standing, tiled_parts}
use Rattle.wm_arrange.specs.Borders.{window_parts}
use Rattle.wm_arrange.specs.Cover.{AreSplits, SplitsNode, covered, has_pixel, is_leaf, is_split, leaf_in, one_if}
use Rattle.wm_arrange.specs.CoverTree.{CoversInTree, IsOfSplits, IsOfSplitsNode, LeavesCover, area_in, has_in, inner_at, inner_or, tiled_at}
use Rattle.wm_arrange.specs.Gaps.{ground}
use Rattle.wm_arrange.specs.Parts.{placed}
use Rattle.wm_arrange.specs.Scene.{Seen, seen_in}
use Rattle.wm_arrange.specs.Titles.{kids_titles, own_title}
use Rattle.wm_arrange.proofs.AbsentLemmas.{Absent, Apart, area_absent, bare_absent, floats_absent, kids_absent, node_absent, output_absent, outputs_absent, row_absent, shown_absent, shown_space_absent, space_absent}
use Rattle.wm_arrange.proofs.BareLemmas.{area_in_first, area_in_placed, area_in_second, bare_own, bare_placed, bare_titles, bare_window}
use Rattle.wm_arrange.proofs.CoverLemmas.{an_area, covered_append, empty_area, kids_cover, node_covers, row_covers, shares_some}
use Rattle.wm_arrange.proofs.LeafLemmas.{Tells, tells_leaves}
use Rattle.wm_arrange.proofs.TiledLemmas.{apart_behind, apart_below, apart_here, stands_at, tiled-there, tiled-within}

-- an area is placed with its pixels, or not at all where it has none
pixel_placed : (x y : ℤ) (b : Bool) (r : Rect) → (eqb r.w 0 || eqb r.h 0) ≡ b → has_in x y (cond b None (Some r)) ≡ has_pixel x y r
pixel_placed x y true r e = sym (empty_area (λ c. true) x y r e)
pixel_placed x y false r e = refl

-- a tiled container of splits is one in the sense of its row
of_splits : (room : ℕ) (id : ConId) (kind : NodeKind) (marks : List (List ℕ)) (kids : Forest) → IsNode containers true room id kind marks kids → IsOfSplitsNode kind kids → SplitsNode kind kids (AreSplits kids)
of_splits room id (Root c) marks kids node h = absurd node
of_splits room id (Output o) marks kids node h = absurd node
of_splits room id (Space w) marks kids node h = absurd node
of_splits room id (Con c) marks kids node h = h

-- ---- parts that cover

module _ (c : ConId) (target : Forest) (x y : ℤ) (there : 1 ≤ tally c target) where
  abbrev pub Covers : List Placed → Type 0
  Covers ps = covered (leaf_in target) x y ps ≡ one_if (has_in x y (area_in c ps))

  absent_covers : (ps : List Placed) → Absent c target x y there ps → Covers ps
  absent_covers ps h = rw h.1 h.0

  covers_first : (ps qs : List Placed) → Covers ps → Absent c target x y there qs → Covers (ps ++ qs)
  covers_first ps qs p q =
      let none : covered (leaf_in target) x y qs ≡ 0 = q.0 in
      let n : ℕ = one_if (has_in x y (area_in c ps)) in
      let some : covered (leaf_in target) x y ps ≡ n = p in
      let all : covered (leaf_in target) x y (ps ++ qs) ≡ n = omega (arith, covered_append (leaf_in target) x y ps qs, some, none) in
      rw (area_in_first c ps qs q.1) all

  covers_second : (ps qs : List Placed) → Absent c target x y there ps → Covers qs → Covers (ps ++ qs)
  covers_second ps qs p q =
      let none : covered (leaf_in target) x y ps ≡ 0 = p.0 in
      let n : ℕ = one_if (has_in x y (area_in c qs)) in
      let some : covered (leaf_in target) x y qs ≡ n = q in
      let all : covered (leaf_in target) x y (ps ++ qs) ≡ n = omega (arith, covered_append (leaf_in target) x y ps qs, some, none) in
      rw (area_in_second c ps qs p.1) all

  -- ---- c is below a node

  module _ (s : Seen) (own : Bool) (part : Part) (kids : Forest) where
    con_covered : (r : Rect) (children : Layout → List Placed) → ((layout : Layout) → Covers (children layout)) → (cp : ConPart) (kind : ConKind) → Covers (con_parts s own part cp kind kids r children)
    con_covered r children inside cp (Split layout last) = inside layout
    con_covered r children inside cp (Window props owner natural) =
        absent_covers (window_parts s own part kids cp.state.border r) (bare_absent c target x y there (window_parts s own part kids cp.state.border r) (bare_window s own part kids cp.state.border r))
    con_covered r children inside cp (Placeholder props swallows) =
        absent_covers (own_title s own part kids cp.state.border r) (bare_absent c target x y there (own_title s own part kids cp.state.border r) (bare_own s own part kids cp.state.border r))

    node_covered : (r : Rect) (children : Layout → List Placed) → ((layout : Layout) → Covers (children layout)) → (kind : NodeKind) → Covers (node_parts s own part kind kids r children)
    node_covered r children inside (Root i) = refl
    node_covered r children inside (Output o) = refl
    node_covered r children inside (Space w) = refl
    node_covered r children inside (Con cp) = con_covered r children inside cp cp.kind

    shown_covered : (children : Rect → Layout → List Placed) → tally part.id target ≡ 0 → ((r : Rect) (layout : Layout) → Covers (children r layout)) → (place : Option Rect) → Covers (shown_parts s own part kids children place)
    shown_covered children gone inside None = refl
    shown_covered children gone inside (Some r) =
        covers_second (placed part.id parts.Area r) (node_parts s own part part.kind kids r (children r)) (area_absent c target x y there part.id r gone) (node_covered r (children r) (inside r) part.kind)

  -- ---- c is a node itself

  -- below c no part is an area of c
  pub none_below : (part : Part) (kids floats rest : Forest) → same part.id c ≡ true → ((d : ConId) → tally d (con part kids floats rest) ≤ 1) → (1 ≤ tally c (con part end end end)) × ((d : ConId) → 1 ≤ tally d kids → tally d (con part end end end) ≡ 0)
  none_below part kids floats rest e once = (rw e (omega arith), λ d k. omega (arith, k, once d))

  -- an area of c and what is in it, without an area of c, cover it where the counts agree
  own_covers : (id : ConId) (r : Rect) (inside : List Placed) → same id c ≡ true → area_in c inside ≡ None
      → one_if (leaf_in target id && has_pixel x y r) + covered (leaf_in target) x y inside ≡ one_if (has_pixel x y r) → Covers (placed id parts.Area r ++ inside)
  own_covers id r inside e none counts =
      let first = an_area (leaf_in target) x y id r in
      let all : covered (leaf_in target) x y (placed id parts.Area r ++ inside) ≡ one_if (has_pixel x y r) = covered_append (leaf_in target) x y (placed id parts.Area r) inside ∙ (ap (λ n. n + covered (leaf_in target) x y inside) first ∙ counts) in
      let here = area_in_first c (placed id parts.Area r) inside none ∙ area_in_placed c id r e in
      all ∙ (ap one_if (sym (pixel_placed x y (eqb r.w 0 || eqb r.h 0) r refl)) ∙ ap (λ a. one_if (has_in x y a)) (sym here))

  module _ (s : Seen) (inner : s.inner ≡ 0) where
    -- the children of c cover its area
    inside_covers : (kids : Forest) (room : ℕ) → IsSoundRow containers true room kids → Tells (leaf_in target) kids → (r : Rect) (layout : Layout) → is_split layout ≡ true → is_end kids ≡ false → AreSplits kids
        → covered (leaf_in target) x y (kids_parts s kids r layout) ≡ one_if (has_pixel x y r)
    inside_covers kids room sound tells r layout split some splits =
        kids_cover (leaf_in target) x y s inner kids r layout split (shares_some room kids sound some)
        (λ axis. row_covers (leaf_in target) x y s inner axis r (share_sum kids) true 0 room kids sound splits tells)

    here_covered : (own : Bool) (part : Part) (kids floats rest : Forest) (room room' : ℕ) → same part.id c ≡ true → ((d : ConId) → tally d (con part kids floats rest) ≤ 1)
        → IsNode containers true room part.id part.kind part.marks kids → IsSoundRow containers true room' kids → Tells (leaf_in target) (con part kids end end) → IsOfSplitsNode part.kind kids
        → (place : Option Rect) → Covers (shown_parts s own part kids (kids_parts s kids) place)
    here_covered own part kids floats rest room room' e once node sound tells splits None = refl
    here_covered own part kids floats rest room room' e once node sound tells splits (Some r) =
        let apart = none_below part kids floats rest e once in
        let alone : Forest = con part end end end in
        let none = node_absent c alone x y apart.0 s own part kids r (kids_parts s kids r) (kids_absent c alone x y apart.0 s kids apart.1 r) part.kind in
        own_covers part.id r (node_parts s own part part.kind kids r (kids_parts s kids r)) e none.1
        (node_covers (leaf_in target) x y s own part kids r (kids_parts s kids r) (inside_covers kids room' sound tells.1 r) part.kind room node tells.0 (of_splits room part.id part.kind part.marks kids node splits))

    -- a row of tiled containers that has c
    row_covered : (splits : IsOfSplits target) (tells : Tells (leaf_in target) target) (room : ℕ) (row : Forest) → IsSoundRow containers true room row → ((d : ConId) → tally d row ≤ 1) → tiled_at c row ≡ target
        → (st : Standing) (i : ℕ) → Covers (row_parts s st i row)
    row_covered splits tells room end sound once found st i = refl
    row_covered splits tells room (con part kids floats rest) sound once found st i =
        let own = has_own_title st in
        let place = slot s.inner st i part.id rest in
        let first = shown_parts s own part kids (kids_parts s kids) place in
        let behind = row_parts s st (i + 1) rest in
        let inside : tiled_at c kids ≡ target → (r : Rect) (layout : Layout) → Covers (kids_parts s kids r layout)
        = λ below r layout. covers_second (kids_titles s layout r kids) (row_parts s (standing s.recency layout r kids) 0 kids)
        (bare_absent c target x y there (kids_titles s layout r kids) (bare_titles s layout r kids))
        (row_covered splits tells (room_below room part.kind) kids sound.2 (λ d. omega (arith, once d)) below (standing s.recency layout r kids) 0) in
        stands_at c target (Covers (first ++ behind)) part kids floats rest once found
        (λ e whole gap. covers_first first behind
        (here_covered own part kids floats rest room (room_below room part.kind) e once sound.0 sound.2 (subst (Tells (leaf_in target)) (sym whole) tells) (subst IsOfSplits (sym whole) splits) place)
        (row_absent c target x y there s rest (apart_here c target (Covers behind) part kids floats rest once whole rest (λ d. omega arith)) st (i + 1)))
        (λ below gone gap. covers_first first behind (shown_covered s own part kids (kids_parts s kids) gone (inside below) place)
        (row_absent c target x y there s rest (apart_below c target (Covers behind) part kids floats rest once below rest (λ d. omega arith)) st (i + 1)))
        (λ more gone gap. covers_second first behind
        (shown_absent c target x y there s own part kids (kids_parts s kids) gone
        (kids_absent c target x y there s kids (apart_behind c target (Covers behind) part kids floats rest once more kids (λ d. omega arith))) place)
        (row_covered splits tells room rest sound.4 (λ d. omega (arith, once d)) more st (i + 1)))

  -- ---- workspaces

  module _ (t : TreeValue) (f : ConId) (splits : IsOfSplits target) (tells : Tells (leaf_in target) target) where
    -- what stands on a workspace that is c or has it, where its tiled children cover
    module _ (output : OutputPart) (id : ConId) (kids floats : Forest) (w : SpacePart) (floats_apart : Apart c target x y there floats)
        (tiled : (r : Rect) → Covers (placed id parts.Area r ++ kids_parts (seen_in t f w.inner) kids r w.layout))
      where
        tiled_covered : (area : Option Rect) → Covers (tiled_parts (seen_in t f w.inner) id w kids area)
        tiled_covered None = refl
        tiled_covered (Some r) = tiled r

        on_covered : (full : Option ConId) → Covers (on_space (seen_in t f w.inner) output id w kids floats full)
        on_covered None =
            let s = seen_in t f w.inner in
            let area = some_area (ground output.rect output.reserved w.outer w.inner) in
            covers_first (tiled_parts s id w kids area) (floats_parts s floats) (tiled_covered area) (floats_absent c target x y there s floats floats_apart)
        on_covered (Some window) =
            let whole = placed window parts.Content output.rect in
            absent_covers whole (bare_absent c target x y there whole (bare_placed window parts.Content output.rect refl))

        space_covered : Covers (space_parts t f output id (Some w) kids floats)
        space_covered =
            let back = placed id parts.Back output.rect in
            let full = option_or (fullscreen_in kids) (fullscreen_in floats) in
            covers_second back (on_space (seen_in t f w.inner) output id w kids floats full) (bare_absent c target x y there back (bare_placed id parts.Back output.rect refl)) (on_covered full)

    -- c is the workspace
    space_here : (output : OutputPart) (part : Part) (kids floats rest : Forest) (room : ℕ) → same part.id c ≡ true → ((d : ConId) → tally d (con part kids floats rest) ≤ 1) → IsSoundRow containers true room kids
        → con part kids end end ≡ target → (kind : NodeKind) → inner_or kind 0 ≡ 0 → leaf_in target part.id ≡ is_leaf kind → Tells (leaf_in target) kids → IsOfSplitsNode kind kids
        → Covers (space_parts t f output part.id (space_kind kind) kids floats)
    space_here output part kids floats rest room e once sound whole (Root i) gap leaf told of = refl
    space_here output part kids floats rest room e once sound whole (Output o) gap leaf told of = refl
    space_here output part kids floats rest room e once sound whole (Space w) gap leaf told of =
        let s = seen_in t f w.inner in
        let apart = none_below part kids floats rest e once in
        let tiled : (r : Rect) → Covers (placed part.id parts.Area r ++ kids_parts s kids r w.layout)
        = λ r. own_covers part.id r (kids_parts s kids r w.layout) e (kids_absent c (con part end end end) x y apart.0 s kids apart.1 r w.layout).1
        (let inside = inside_covers s gap kids room sound told r w.layout of.0 of.1 of.2 in rw leaf (omega (arith, inside))) in
        space_covered output part.id kids floats w (apart_here c target (Covers []) part kids floats rest once whole floats (λ d. omega arith)) tiled
    space_here output part kids floats rest room e once sound whole (Con i) gap leaf told of = refl

    -- c is below the workspace
    space_below : (output : OutputPart) (part : Part) (kids floats rest : Forest) (room : ℕ) → ((d : ConId) → tally d (con part kids floats rest) ≤ 1) → IsSoundRow containers true room kids
        → tiled_at c kids ≡ target → tally part.id target ≡ 0 → (kind : NodeKind) (n : ℕ) → inner_or kind n ≡ 0 → Covers (space_parts t f output part.id (space_kind kind) kids floats)
    space_below output part kids floats rest room once sound below gone (Root i) n gap = refl
    space_below output part kids floats rest room once sound below gone (Output o) n gap = refl
    space_below output part kids floats rest room once sound below gone (Space w) n gap =
        let s = seen_in t f w.inner in
        let tiled : (r : Rect) → Covers (placed part.id parts.Area r ++ kids_parts s kids r w.layout)
        = λ r. covers_second (placed part.id parts.Area r) (kids_parts s kids r w.layout) (area_absent c target x y there part.id r gone)
        (covers_second (kids_titles s w.layout r kids) (row_parts s (standing s.recency w.layout r kids) 0 kids)
        (bare_absent c target x y there (kids_titles s w.layout r kids) (bare_titles s w.layout r kids))
        (row_covered s gap splits tells room kids sound (λ d. omega (arith, once d)) below (standing s.recency w.layout r kids) 0)) in
        space_covered output part.id kids floats w (apart_below c target (Covers []) part kids floats rest once below floats (λ d. omega arith)) tiled
    space_below output part kids floats rest room once sound below gone (Con i) n gap = refl

    -- the workspace that an output shows, c being in the row of its workspaces or below it
    module _ (output : OutputPart) (room : ℕ) (part : Part) (kids floats rest : Forest) (sound : IsSoundRow spaces true room (con part kids floats rest)) (once : (d : ConId) → tally d (con part kids floats rest) ≤ 1)
        (found : tiled_at c (con part kids floats rest) ≡ target) (gap : inner_at c (con part kids floats rest) ≡ 0)
      where
        first_covered : Covers (space_parts t f output part.id (space_kind part.kind) kids floats)
        first_covered =
            let goal : Type 0 = Covers (space_parts t f output part.id (space_kind part.kind) kids floats) in
            stands_at c target goal part kids floats rest once found
            (λ e whole inner. let told = subst (Tells (leaf_in target)) (sym whole) tells in
            space_here output part kids floats rest (room_below room part.kind) e once sound.2 whole part.kind (sym inner ∙ gap) told.0 told.1 (subst IsOfSplits (sym whole) splits))
            (λ below gone inner. space_below output part kids floats rest (room_below room part.kind) once sound.2 below gone part.kind (inner_at c kids) (sym inner ∙ gap))
            (λ more gone inner. absent_covers (space_parts t f output part.id (space_kind part.kind) kids floats)
            (space_absent c target x y there t f output part.id kids floats gone (apart_behind c target goal part kids floats rest once more kids (λ d. omega arith))
            (apart_behind c target goal part kids floats rest once more floats (λ d. omega arith)) (space_kind part.kind)))

        later_covered : (tiled_at c rest ≡ target → inner_at c rest ≡ 0 → Covers (first_space t f output (node_in output.shown rest))) → Covers (first_space t f output (node_in output.shown rest))
        later_covered later =
            let behind = first_space t f output (node_in output.shown rest) in
            stands_at c target (Covers behind) part kids floats rest once found
            (λ e whole inner. absent_covers behind (shown_space_absent c target x y there t f output rest (apart_here c target (Covers behind) part kids floats rest once whole rest (λ d. omega arith))))
            (λ below gone inner. absent_covers behind (shown_space_absent c target x y there t f output rest (apart_below c target (Covers behind) part kids floats rest once below rest (λ d. omega arith))))
            (λ more gone inner. later more (sym inner ∙ gap))

        either_covered : (tiled_at c rest ≡ target → inner_at c rest ≡ 0 → Covers (first_space t f output (node_in output.shown rest))) → (b : Bool)
            → Covers (first_space t f output (cond b (con part kids floats rest) (node_in output.shown rest)))
        either_covered later true = first_covered
        either_covered later false = later_covered later

    shown_space_covered : (output : OutputPart) (room : ℕ) (row : Forest) → IsSoundRow spaces true room row → ((d : ConId) → tally d row ≤ 1) → tiled_at c row ≡ target → inner_at c row ≡ 0
        → Covers (first_space t f output (node_in output.shown row))
    shown_space_covered output room end sound once found gap = refl
    shown_space_covered output room (con part kids floats rest) sound once found gap =
        either_covered output room part kids floats rest sound once found gap
        (λ more inner. shown_space_covered output room rest sound.4 (λ d. omega (arith, once d)) more inner) (same part.id output.shown)

    -- ---- outputs

    output_covered : (room room' : ℕ) (id : ConId) (marks : List (List ℕ)) (row : Forest) → IsSoundRow spaces true room row → ((d : ConId) → tally d row ≤ 1) → tiled_at c row ≡ target
        → (kind : NodeKind) → IsNode outputs true room' id kind marks row → inner_or kind (inner_at c row) ≡ 0 → Covers (output_parts t f (output_kind kind) row)
    output_covered room room' id marks row sound once found (Root i) node gap = refl
    output_covered room room' id marks row sound once found (Output o) node gap = shown_space_covered o room row sound once found gap
    output_covered room room' id marks row sound once found (Space w) node gap = refl
    output_covered room room' id marks row sound once found (Con i) node gap = refl

    no_output : (room : ℕ) (id : ConId) (marks : List (List ℕ)) (kids : Forest) (kind : NodeKind) → IsNode outputs true room id kind marks kids → IsOfSplitsNode kind kids → ⊥
    no_output room id marks kids (Root i) node of = node
    no_output room id marks kids (Output o) node of = of
    no_output room id marks kids (Space w) node of = node
    no_output room id marks kids (Con i) node of = node

    outputs_covered : (room : ℕ) (row : Forest) → IsSoundRow outputs true room row → ((d : ConId) → tally d row ≤ 1) → tiled_at c row ≡ target → inner_at c row ≡ 0 → Covers (outputs_parts t f row)
    outputs_covered room end sound once found gap = refl
    outputs_covered room (con part kids floats rest) sound once found gap =
        let first = output_parts t f (output_kind part.kind) kids in
        let behind = outputs_parts t f rest in
        stands_at c target (Covers (first ++ behind)) part kids floats rest once found
        (λ e whole inner. absurd (no_output room part.id part.marks kids part.kind sound.0 (subst IsOfSplits (sym whole) splits)))
        (λ below gone inner. covers_first first behind
        (output_covered (room_below room part.kind) room part.id part.marks kids sound.2 (λ d. omega (arith, once d)) below part.kind sound.0 (sym inner ∙ gap))
        (outputs_absent c target x y there t f rest (apart_below c target (Covers behind) part kids floats rest once below rest (λ d. omega arith))))
        (λ more gone inner. covers_second first behind
        (output_absent c target x y there t f (output_kind part.kind) kids (apart_behind c target (Covers behind) part kids floats rest once more kids (λ d. omega arith)))
        (outputs_covered room rest sound.4 (λ d. omega (arith, once d)) more (sym inner ∙ gap)))

-- ---- the whole tree

has_node : (f : Forest) → IsOfSplits f → is_end f ≡ false
has_node end h = absurd h
has_node (con part kids floats rest) h = refl

covers_below : (t : TreeValue) (c : ConId) (nodes : Forest) → IsSoundRow roots false 0 nodes → ((d : ConId) → tally d nodes ≤ 1) → inner_at c (first_kids nodes) ≡ 0 → IsOfSplits (tiled_at c (first_kids nodes))
    → LeavesCover (tiled_at c (first_kids nodes)) c (outputs_parts t (focused t) (first_kids nodes))
covers_below t c end sound once gap splits x y = absurd splits
covers_below t c (con part kids floats rest) sound once gap splits x y =
    let target = tiled_at c kids in
    let there = tiled-there c kids (has_node target splits) in
    let tells = tells_leaves target (λ d. omega (arith, tiled-within c d kids, once d)) in
    outputs_covered c target x y there t (focused t) splits tells (room_below 0 part.kind) kids sound.2 (λ d. omega (arith, once d)) refl gap

-- in a sound tree the windows and placeholders below splits cover the area around them once
pub covers_in_tree : CoversInTree
covers_in_tree t c sound gap splits = covers_below t c t.nodes sound.shaped sound.once gap splits
