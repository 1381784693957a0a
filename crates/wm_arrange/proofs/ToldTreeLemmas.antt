-- In the arrangement of a whole tree a tiled container or a workspace has the area that is told of it.
use Rattle.std.proofs.Common.{◌≡◌, ◌≤◌, eqb, Bool, true, false, cond, ◌||◌, pos, [], ◌++◌, Option, None, Some, refl, ap, sym, subst, ◌∙◌, arith}
use Rattle.std.specs.Option.{option_or}
use Rattle.wm_base.specs.declared.geometry.Rect.{Rect}
use Rattle.wm_base.specs.declared.ids.ConId.{ConId}
use Rattle.wm_forest.specs.declared.part.NodeKind.{NodeKind}
use Rattle.wm_forest.specs.declared.part.NodeKind.TheVariants.{Root, Output, Space, Con}
use Rattle.wm_forest.specs.declared.part.OutputPart.{OutputPart}
use Rattle.wm_forest.specs.declared.part.Part.{Part}
use Rattle.wm_forest.specs.declared.part.SpacePart.{SpacePart}
use Rattle.wm_forest.specs.Change.{is_end}
use Rattle.wm_forest.specs.Forest.{Forest, end, con}
use Rattle.wm_forest.specs.Look.{first_kids, node_in, output_kind, same, space_kind}
use Rattle.wm_forest.specs.SoundRow.{tally}
use Rattle.wm_tree.specs.TreeValue.{TreeValue, focused}
use Rattle.wm_arrange.specs.declared.parts.PlacedPart.TheVariants as parts
use Rattle.wm_arrange.specs.AreaOf.{area_in_output, area_in_outputs, area_in_space, area_in_spaces, as_area, or_nowhere}
use Rattle.wm_arrange.specs.Areas.{some_area}
use Rattle.wm_arrange.specs.Arranged.{first_space, floats_parts, fullscreen_in, kids_parts, on_space, output_parts, outputs_parts, space_parts, tiled_parts}
use Rattle.wm_arrange.specs.CoverTree.{AreasAreTold, area_in, tiled_at}
use Rattle.wm_arrange.specs.Gaps.{ground}
use Rattle.wm_arrange.specs.Parts.{placed}
use Rattle.wm_arrange.specs.Scene.{seen_in}
use Rattle.wm_arrange.proofs.AbsentLemmas.{Apart, floats_absent, kids_absent, not_c, output_absent, outputs_absent, shown_space_absent, space_absent}
use Rattle.wm_arrange.proofs.BareLemmas.{area_in_first, area_in_other, area_in_placed, area_in_second, bare_placed}
use Rattle.wm_arrange.proofs.CoverTreeLemmas.{none_below}
use Rattle.wm_arrange.proofs.TiledLemmas.{apart_behind, apart_below, apart_here, stands_at, tiled-there, tiled-within}
use Rattle.wm_arrange.proofs.ToldLemmas.{Told, among_absent, bare_none, kept, not_first, not_told, row_told, some_told, titles_told}

module _ (c : ConId) (target : Forest) (there : 1 ≤ tally c target) where
  -- where c is in the row behind a node, it is not below the node
  none_in_kids : (part : Part) (kids floats rest : Forest) → ((d : ConId) → tally d (con part kids floats rest) ≤ 1) → tiled_at c rest ≡ target → tally c kids ≡ 0
  none_in_kids part kids floats rest once more =
      let within : tally c target ≤ tally c rest = subst (λ z. tally c z ≤ tally c rest) more (tiled-within c c rest) in
      omega (arith, within, there, once c)

  module _ (t : TreeValue) (f : ConId) (output : OutputPart) (r : Rect) where
    -- a workspace that is c or has it, where what is told of its area is told of c
    module _ (id : ConId) (kids floats : Forest) (w : SpacePart) (floats_apart : Apart c target (pos 0) (pos 0) there floats)
        (tiled : (q : Rect) → as_area (ground output.rect output.reserved w.outer w.inner) ≡ q → Told c target there (placed id parts.Area q ++ kids_parts (seen_in t f w.inner) kids q w.layout) r → area_in_space c output id (Some w) kids ≡ Some r)
      where
        area_told : (area : Option Rect) → some_area (ground output.rect output.reserved w.outer w.inner) ≡ area → Told c target there (tiled_parts (seen_in t f w.inner) id w kids area) r → area_in_space c output id (Some w) kids ≡ Some r
        area_told None is told = not_told c target there (area_in_space c output id (Some w) kids ≡ Some r) [] r refl told
        area_told (Some q) is told = tiled q (some_told (ground output.rect output.reserved w.outer w.inner) q is) told

        on_told : (full : Option ConId) → Told c target there (on_space (seen_in t f w.inner) output id w kids floats full) r → area_in_space c output id (Some w) kids ≡ Some r
        on_told None told =
            let s = seen_in t f w.inner in
            let area = some_area (ground output.rect output.reserved w.outer w.inner) in
            let none = (floats_absent c target (pos 0) (pos 0) there s floats floats_apart).1 in
            area_told area refl (sym (area_in_first c (tiled_parts s id w kids area) (floats_parts s floats) none) ∙ told)
        on_told (Some window) told =
            let whole = placed window parts.Content output.rect in
            not_told c target there (area_in_space c output id (Some w) kids ≡ Some r) whole r (bare_none c target there whole (bare_placed window parts.Content output.rect refl)) told

        space_told : Told c target there (space_parts t f output id (Some w) kids floats) r → area_in_space c output id (Some w) kids ≡ Some r
        space_told told =
            let back = placed id parts.Back output.rect in
            let full = option_or (fullscreen_in kids) (fullscreen_in floats) in
            on_told full (sym (area_in_second c back (on_space (seen_in t f w.inner) output id w kids floats full) (bare_none c target there back (bare_placed id parts.Back output.rect refl))) ∙ told)

    -- c is the workspace
    space_here : (part : Part) (kids floats rest : Forest) → same part.id c ≡ true → ((d : ConId) → tally d (con part kids floats rest) ≤ 1) → con part kids end end ≡ target
        → (kind : NodeKind) → Told c target there (space_parts t f output part.id (space_kind kind) kids floats) r → area_in_space c output part.id (space_kind kind) kids ≡ Some r
    space_here part kids floats rest e once whole (Root i) told = not_told c target there _ [] r refl told
    space_here part kids floats rest e once whole (Output o) told = not_told c target there _ [] r refl told
    space_here part kids floats rest e once whole (Con i) told = not_told c target there _ [] r refl told
    space_here part kids floats rest e once whole (Space w) told =
        let s = seen_in t f w.inner in
        let goal : Type 0 = area_in_space c output part.id (Some w) kids ≡ Some r in
        let apart = none_below c target (pos 0) (pos 0) there part kids floats rest e once in
        let tiled : (q : Rect) → as_area (ground output.rect output.reserved w.outer w.inner) ≡ q → Told c target there (placed part.id parts.Area q ++ kids_parts s kids q w.layout) r → goal
        = λ q is h. let none = (kids_absent c (con part end end end) (pos 0) (pos 0) apart.0 s kids apart.1 q w.layout).1 in
        rw (e, is) (kept (eqb q.w 0 || eqb q.h 0) q r (sym (area_in_first c (placed part.id parts.Area q) (kids_parts s kids q w.layout) none ∙ area_in_placed c part.id q e) ∙ h)) in
        space_told part.id kids floats w (apart_here c target goal part kids floats rest once whole floats (λ d. omega arith)) tiled told

    -- c is below the workspace
    space_below : (part : Part) (kids floats rest : Forest) → ((d : ConId) → tally d (con part kids floats rest) ≤ 1) → tiled_at c kids ≡ target → same part.id c ≡ false
        → (kind : NodeKind) → Told c target there (space_parts t f output part.id (space_kind kind) kids floats) r → area_in_space c output part.id (space_kind kind) kids ≡ Some r
    space_below part kids floats rest once below apart (Root i) told = not_told c target there _ [] r refl told
    space_below part kids floats rest once below apart (Output o) told = not_told c target there _ [] r refl told
    space_below part kids floats rest once below apart (Con i) told = not_told c target there _ [] r refl told
    space_below part kids floats rest once below apart (Space w) told =
        let s = seen_in t f w.inner in
        let goal : Type 0 = area_in_space c output part.id (Some w) kids ≡ Some r in
        let tiled : (q : Rect) → as_area (ground output.rect output.reserved w.outer w.inner) ≡ q → Told c target there (placed part.id parts.Area q ++ kids_parts s kids q w.layout) r → goal
        = λ q is h. let inside = sym (area_in_second c (placed part.id parts.Area q) (kids_parts s kids q w.layout) (area_in_other c part.id parts.Area q apart)) ∙ h in
        rw (apart, is) (row_told c target there s kids (λ d. omega (arith, once d)) below w.layout q kids 0 r (titles_told c target there s kids q w.layout r inside)) in
        space_told part.id kids floats w (apart_below c target goal part kids floats rest once below floats (λ d. omega arith)) tiled told

    -- c is behind the workspace
    none_here : (part : Part) (kids : Forest) → same part.id c ≡ false → tally c kids ≡ 0 → (kind : NodeKind) → area_in_space c output part.id (space_kind kind) kids ≡ None
    none_here part kids apart none (Root i) = refl
    none_here part kids apart none (Output o) = refl
    none_here part kids apart none (Con i) = refl
    none_here part kids apart none (Space w) = rw apart (among_absent w.inner c w.layout (as_area (ground output.rect output.reserved w.outer w.inner)) kids 0 kids none)

    first_of_two : (m n : Option Rect) → m ≡ Some r → option_or m n ≡ Some r
    first_of_two m n e = ap (λ z. option_or z n) e

    second_of_two : (m n : Option Rect) → m ≡ None → n ≡ Some r → option_or m n ≡ Some r
    second_of_two m n none e = ap (λ z. option_or z n) none ∙ e

    -- the workspace that an output shows, c being in the row of its workspaces or below it
    module _ (part : Part) (kids floats rest : Forest) (once : (d : ConId) → tally d (con part kids floats rest) ≤ 1) (found : tiled_at c (con part kids floats rest) ≡ target) where
      first_told : Told c target there (space_parts t f output part.id (space_kind part.kind) kids floats) r → area_in_spaces c output (con part kids floats rest) ≡ Some r
      first_told told =
          let goal : Type 0 = area_in_spaces c output (con part kids floats rest) ≡ Some r in
          let here = area_in_space c output part.id (space_kind part.kind) kids in
          let later = area_in_spaces c output rest in
          stands_at c target goal part kids floats rest once found
          (λ e whole inner. first_of_two here later (space_here part kids floats rest e once whole part.kind told))
          (λ below gone inner. first_of_two here later (space_below part kids floats rest once below (not_c c target (pos 0) (pos 0) there part.id gone) part.kind told))
          (λ more gone inner. not_told c target there goal (space_parts t f output part.id (space_kind part.kind) kids floats) r
          (space_absent c target (pos 0) (pos 0) there t f output part.id kids floats gone (apart_behind c target goal part kids floats rest once more kids (λ d. omega arith))
          (apart_behind c target goal part kids floats rest once more floats (λ d. omega arith)) (space_kind part.kind)).1 told)

      later_told : (tiled_at c rest ≡ target → Told c target there (first_space t f output (node_in output.shown rest)) r → area_in_spaces c output rest ≡ Some r)
          → Told c target there (first_space t f output (node_in output.shown rest)) r → area_in_spaces c output (con part kids floats rest) ≡ Some r
      later_told later told =
          let goal : Type 0 = area_in_spaces c output (con part kids floats rest) ≡ Some r in
          let behind = first_space t f output (node_in output.shown rest) in
          let none_at : Apart c target (pos 0) (pos 0) there rest → goal = λ apart. not_told c target there goal behind r (shown_space_absent c target (pos 0) (pos 0) there t f output rest apart).1 told in
          stands_at c target goal part kids floats rest once found
          (λ e whole inner. none_at (apart_here c target goal part kids floats rest once whole rest (λ d. omega arith)))
          (λ below gone inner. none_at (apart_below c target goal part kids floats rest once below rest (λ d. omega arith)))
          (λ more gone inner. second_of_two (area_in_space c output part.id (space_kind part.kind) kids) (area_in_spaces c output rest)
          (none_here part kids (not_c c target (pos 0) (pos 0) there part.id gone) (none_in_kids part kids floats rest once more) part.kind) (later more told))

      either_told : (tiled_at c rest ≡ target → Told c target there (first_space t f output (node_in output.shown rest)) r → area_in_spaces c output rest ≡ Some r)
          → (b : Bool) → Told c target there (first_space t f output (cond b (con part kids floats rest) (node_in output.shown rest))) r → area_in_spaces c output (con part kids floats rest) ≡ Some r
      either_told later true told = first_told told
      either_told later false told = later_told later told

    shown_space_told : (row : Forest) → ((d : ConId) → tally d row ≤ 1) → tiled_at c row ≡ target → Told c target there (first_space t f output (node_in output.shown row)) r → area_in_spaces c output row ≡ Some r
    shown_space_told end once found told = not_told c target there (area_in_spaces c output end ≡ Some r) [] r refl told
    shown_space_told (con part kids floats rest) once found told =
        either_told part kids floats rest once found (λ more h. shown_space_told rest (λ d. omega (arith, once d)) more h) (same part.id output.shown) told

    spaces_absent : (row : Forest) → tally c row ≡ 0 → area_in_spaces c output row ≡ None
    spaces_absent end none = refl
    spaces_absent (con part kids floats rest) none =
        let apart = not_first (same part.id c) c part kids floats rest refl none in
        ap (λ z. option_or z (area_in_spaces c output rest)) (none_here part kids apart (omega (arith, none)) part.kind) ∙ spaces_absent rest (omega (arith, none))

  -- ---- outputs

  module _ (t : TreeValue) (f : ConId) (r : Rect) where
    output_absent_told : (kind : NodeKind) (row : Forest) → tally c row ≡ 0 → area_in_output c (output_kind kind) row ≡ None
    output_absent_told (Root i) row none = refl
    output_absent_told (Output o) row none = spaces_absent t f o r row none
    output_absent_told (Space w) row none = refl
    output_absent_told (Con i) row none = refl

    output_told : (kind : NodeKind) (row : Forest) → ((d : ConId) → tally d row ≤ 1) → tiled_at c row ≡ target → Told c target there (output_parts t f (output_kind kind) row) r → area_in_output c (output_kind kind) row ≡ Some r
    output_told (Root i) row once found told = not_told c target there _ [] r refl told
    output_told (Output o) row once found told = shown_space_told t f o r row once found told
    output_told (Space w) row once found told = not_told c target there _ [] r refl told
    output_told (Con i) row once found told = not_told c target there _ [] r refl told

    -- an output has no area
    output_here : (part : Part) (kids floats rest : Forest) → same part.id c ≡ true → ((d : ConId) → tally d (con part kids floats rest) ≤ 1) → area_in c (output_parts t f (output_kind part.kind) kids) ≡ None
    output_here part kids floats rest e once =
        let apart = none_below c target (pos 0) (pos 0) there part kids floats rest e once in
        (output_absent c (con part end end end) (pos 0) (pos 0) apart.0 t f (output_kind part.kind) kids apart.1).1

    pub outputs_told : (row : Forest) → ((d : ConId) → tally d row ≤ 1) → tiled_at c row ≡ target → Told c target there (outputs_parts t f row) r → area_in_outputs c row ≡ Some r
    outputs_told end once found told = not_told c target there (area_in_outputs c end ≡ Some r) [] r refl told
    outputs_told (con part kids floats rest) once found told =
        let goal : Type 0 = area_in_outputs c (con part kids floats rest) ≡ Some r in
        let first = output_parts t f (output_kind part.kind) kids in
        let behind = outputs_parts t f rest in
        let later = area_in_outputs c rest in
        let no_more : Apart c target (pos 0) (pos 0) there rest → area_in c (first ++ behind) ≡ area_in c first = λ apart. area_in_first c first behind (outputs_absent c target (pos 0) (pos 0) there t f rest apart).1 in
        stands_at c target goal part kids floats rest once found
        (λ e whole inner. not_told c target there goal first r (output_here part kids floats rest e once)
        (sym (no_more (apart_here c target goal part kids floats rest once whole rest (λ d. omega arith))) ∙ told))
        (λ below gone inner. ap (λ z. option_or z later) (output_told part.kind kids (λ d. omega (arith, once d)) below
        (sym (no_more (apart_below c target goal part kids floats rest once below rest (λ d. omega arith))) ∙ told)))
        (λ more gone inner. let none = (output_absent c target (pos 0) (pos 0) there t f (output_kind part.kind) kids (apart_behind c target goal part kids floats rest once more kids (λ d. omega arith))).1 in
        ap (λ z. option_or z later) (output_absent_told part.kind kids (none_in_kids part kids floats rest once more)) ∙
        outputs_told rest (λ d. omega (arith, once d)) more (sym (area_in_second c first behind none) ∙ told))

-- ---- the whole tree

told_below : (t : TreeValue) (c : ConId) (r : Rect) (nodes : Forest) → ((d : ConId) → tally d nodes ≤ 1) → is_end (tiled_at c (first_kids nodes)) ≡ false → area_in c (outputs_parts t (focused t) (first_kids nodes)) ≡ Some r
    → area_in_outputs c (first_kids nodes) ≡ Some r
told_below t c r end once some told = cc
told_below t c r (con part kids floats rest) once some told =
    outputs_told c (tiled_at c kids) (tiled-there c kids some) t (focused t) r kids (λ d. omega (arith, once d)) refl told

-- the area that is placed is the one that is told
pub areas_are_told : AreasAreTold
areas_are_told t c r sound some told = ap or_nowhere (told_below t c r t.nodes sound.once some told)
