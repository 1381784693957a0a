-- A container or a workspace that comes to another place leaves each workspace at most one fullscreen container.
use Rattle.std.proofs.Common.{◌≡◌, ◌≢◌, ℕ, ◌+◌, ◌≤◌, Bool, true, false, cond, not, Option, None, Some, refl, ap, sym, subst, arith}
use Rattle.wm_base.specs.declared.ids.ConId.{ConId}
use Rattle.wm_floats.specs.Floating.{IsGoal}
use Rattle.law_fullscreen.proofs.RowLemmas.{within-arriving, within-away, within-cleared}
use Rattle.law_fullscreen.proofs.WithinLemmas.{space_free, space_in, within-append, within-without, within_add, within_at}
use Rattle.law_fullscreen.proofs.WordLemmas.{single}
use Rattle.law_fullscreen.specs.Fullscreen.{IsSingle, full_of, within}
use Rattle.wm_forest.proofs.CountLemmas.{count-without}
use Rattle.wm_forest.proofs.LookLemmas.{seen-without}
use Rattle.wm_tree.proofs.MoveLemmas.{found_alone}
use Rattle.wm_forest.proofs.RecencyLemmas.{same_is}
use Rattle.wm_tree.specs.Along.{gone_along, nowhere}
use Rattle.wm_forest.specs.Sticky.{is_sticky, loose, loosened, sticky}
use Rattle.wm_forest.specs.Change.{arriving, at, is_id, nobody, unfull, without}
use Rattle.wm_forest.specs.Counts.{count, row_length}
use Rattle.wm_forest.specs.declared.part.NodeKind.{NodeKind}
use Rattle.wm_forest.specs.declared.part.NodeKind.TheVariants.{Root, Output, Space, Con}
use Rattle.wm_forest.specs.declared.part.Part.{Part}
use Rattle.wm_forest.specs.declared.place.Place.{Place}
use Rattle.wm_forest.specs.declared.place.Place.TheVariants.{After, Before, First, Last, Float, Scratchpad}
use Rattle.wm_forest.specs.declared.spot.Spot.{Spot}
use Rattle.wm_forest.specs.Forest.{Forest, end, con}
use Rattle.wm_forest.specs.Look.{con_kind, first_floats, first_part, has, kind_by, kind_of, only, space_kind}
use Rattle.wm_tree.specs.Move.{apart, moved, moved_share, same_space}
use Rattle.wm_tree.specs.Outputs.{space_moved}
use Rattle.wm_forest.specs.Place.{IsPlace, named, put, put_word, rect_at}
use Rattle.wm_tree.specs.Sound.{IsSound}
use Rattle.wm_forest.specs.SoundRow.{one_of, tally}
use Rattle.wm_forest.specs.Spot.{space_at, spot_in, top}
use Rattle.wm_tree.specs.TreeValue.{TreeValue, workspace_of}

-- ---- putting a row at a place

-- what the place names is no workspace where the row comes beside it
abbrev pub IsBeside : Place → Option Part → Type 0
IsBeside (After c) o = kind_by space_kind o ≡ None
IsBeside (Before c) o = kind_by space_kind o ≡ None
IsBeside (First c) o = Unit {0}
IsBeside (Last c) o = Unit {0}
IsBeside (Float w r) o = Unit {0}
IsBeside (Scratchpad r) o = Unit {0}

put_here : (w : ConId) (row : Forest) (p : Place) (space : Option ConId) (part : Part) (kids floats rest : Forest) → IsBeside p (Some part)
    → within full_of w space (put_word p row part kids floats rest) ≤ within full_of w space (con part kids floats rest) + within full_of w (space_at space part) row
put_here w row (After c) space part kids floats rest k = rw (space_free space part.id part.kind k) (omega (arith, within-append full_of w space row rest))
put_here w row (Before c) space part kids floats rest k = rw (space_free space part.id part.kind k) (omega (arith, within-append full_of w space row (con part kids floats rest), beside))
  where
    beside : within full_of w space (con part kids floats rest) ≡ cond (is_id w space) (full_of part) 0 + within full_of w space kids + within full_of w space floats + within full_of w space rest
    beside = rw (space_free space part.id part.kind k) refl
put_here w row (First c) space part kids floats rest k = omega (arith, within-append full_of w (space_at space part) row kids)
put_here w row (Last c) space part kids floats rest k = omega (arith, within-append full_of w (space_at space part) kids row)
put_here w row (Float v r) space part kids floats rest k = omega (arith, within-append full_of w (space_at space part) floats row)
put_here w row (Scratchpad r) space part kids floats rest k = omega (arith, within-append full_of w (space_at space part) floats row)

-- what a place gets counts in the workspace of what the place names
pub within-put : (w : ConId) (p : Place) (row : Forest) (s : Spot) (f : Forest) → IsBeside p (first_part (only (named p) f))
    → within full_of w s.space (put p row f) ≤ within full_of w s.space f + within full_of w (space_in (spot_in s (named p) f)) row
within-put w p row s f = within_add full_of w (named p) (put_word p) row row (IsBeside p) (put_here w row p) s f

pub con_no_space : (o : Option Part) → kind_by con_kind o ≢ None → kind_by space_kind o ≡ None
con_no_space None ok = refl
con_no_space (Some part) ok = by part.kind ok
  where
    by : (kind : NodeKind) → con_kind kind ≢ None → space_kind kind ≡ None
    by (Root c) h = refl
    by (Output o) h = refl
    by (Space s) h = absurd (h refl)
    by (Con c) h = refl

beside_place : (p : Place) (f : Forest) → has (named p) f ≡ true → IsPlace p f → IsBeside p (first_part (only (named p) f))
beside_place (After c) f there ok = con_no_space (first_part (only c f)) (ok there).0
beside_place (Before c) f there ok = con_no_space (first_part (only c f)) (ok there).0
beside_place (First c) f there ok = tt
beside_place (Last c) f there ok = tt
beside_place (Float w r) f there ok = tt
beside_place (Scratchpad r) f there ok = tt

-- ---- moving

-- one workspace, or none
pub one_space : (a b : Option ConId) → not (same_space a b) ≡ false → a ≡ b
one_space None None h = refl
one_space None (Some b) h = cc
one_space (Some a) None h = cc
one_space (Some a) (Some b) h = ap Some (same_is a b (by (same_space (Some a) (Some b)) h))
  where
    by : (d : Bool) → not d ≡ false → d ≡ true
    by true h = refl
    by false h = cc

-- what comes to a node counts no more in its workspace than it did in its own
pub comes_most : (w c n : ConId) (share : ℕ) (p : Place) (t : TreeValue) → IsSound t
    → within full_of w (workspace_of t n) (arriving share (rect_at p) (apart t c n) (only c t.nodes)) ≤ within full_of w (workspace_of t c) (only c t.nodes)
comes_most w c n share p t s = by (apart t c n) refl
  where
    low : tally nobody (only c t.nodes) ≡ 0
    low = omega (arith, s.low, count-without (one_of nobody) c t.nodes)

    by : (b : Bool) → apart t c n ≡ b → within full_of w (workspace_of t n) (arriving share (rect_at p) b (only c t.nodes)) ≤ within full_of w (workspace_of t c) (only c t.nodes)
    by true e = omega (arith, within-away w (workspace_of t n) share (rect_at p) (only c t.nodes) (found_alone c t.nodes) low)
    by false e =
        let same : workspace_of t c ≡ workspace_of t n = one_space (workspace_of t c) (workspace_of t n) e in
        let Count : Option ConId → Type 0 = λ z. within full_of w z (arriving share (rect_at p) false (only c t.nodes)) ≤ within full_of w (workspace_of t c) (only c t.nodes) in
        subst Count same (omega (arith, within-arriving w (workspace_of t c) share (rect_at p) (only c t.nodes)))

pub one_moved : (c : ConId) (p : Place) (t : TreeValue) → IsSound t → IsGoal c p t → IsSingle t.nodes → IsSingle (moved c p t).nodes
one_moved c p t s g =
    let f : Forest = t.nodes in
    let n : ConId = named p in
    let row : Forest = arriving (moved_share c p f) (rect_at p) (apart t c n) (only c f) in
    let seen = seen-without c n top f (g.2.2 g.0 g.1) in
    let Beside : Option Part → Type 0 = λ z. IsBeside p z in
    let beside : IsBeside p (first_part (only n (without c f))) = subst Beside (sym seen.part) (beside_place p f g.1 g.2.1) in
    single f (moved c p t).nodes
    (λ w.
    let place : within full_of w (space_in (spot_in top n (without c f))) row ≡ within full_of w (workspace_of t n) row = ap (λ z. within full_of w (space_in z) row) seen.spot in
    omega (arith, place, within-put w p row top (without c f) beside, within-without full_of w c top f, comes_most w c n (moved_share c p f) p t s))

-- ---- a workspace that moves

-- a workspace alone counts the same wherever it stands
space_anywhere : (w : ConId) (a b : Option ConId) (f : Forest) → kind_by space_kind (first_part f) ≢ None → row_length f ≤ 1 → within full_of w a f ≡ within full_of w b f
space_anywhere w a b end ok one = refl
space_anywhere w a b (con part kids floats (con q k l r)) ok one = absurd (omega (arith, one))
space_anywhere w a b (con part kids floats end) ok one = by part.kind ok
  where
    by : (kind : NodeKind) → space_kind kind ≢ None → within full_of w a (con (record part { kind = kind }) kids floats end) ≡ within full_of w b (con (record part { kind = kind }) kids floats end)
    by (Root c) k = absurd (k refl)
    by (Output o) k = absurd (k refl)
    by (Space s) k = refl
    by (Con c) k = absurd (k refl)

pub one_space_moved : (w o : ConId) (t : TreeValue) → kind_of space_kind w t.nodes ≢ None → IsSingle t.nodes → IsSingle (space_moved w o t).nodes
one_space_moved w o t ok =
    let f : Forest = t.nodes in
    let node : Forest = only w f in
    let rest : Forest = without w f in
    single f (space_moved w o t).nodes
    (λ v.
    omega (
      arith,
      within-put v (Last o) node top rest tt,
      within-without full_of v w top f,
      space_anywhere v (space_in (spot_in top o rest)) (space_in (spot_in top w f)) node ok (found_alone w f),
    ))

-- ---- windows that go along

within-loose : (w : ConId) (space : Option ConId) (f : Forest) → within full_of w space (loose f) ≤ within full_of w space f
within-loose w space end = omega arith
within-loose w space (con part kids floats rest) = step (is_sticky part.kind) (within-loose w space rest)
  where
    step : (b : Bool) → within full_of w space (loose rest) ≤ within full_of w space rest → within full_of w space (cond b (loose rest) (con part kids floats (loose rest))) ≤ within full_of w space (con part kids floats rest)
    step true h = omega (arith, h)
    step false h = omega (arith, h)

sticky_most : (m : Part → ℕ) (f : Forest) → count m (sticky f) ≤ count m f
sticky_most m end = omega arith
sticky_most m (con part kids floats rest) = step (is_sticky part.kind) (sticky_most m rest)
  where
    step : (b : Bool) → count m (sticky rest) ≤ count m rest → count m (cond b (con part kids floats (sticky rest)) (sticky rest)) ≤ count m (con part kids floats rest)
    step true h = omega (arith, h)
    step false h = omega (arith, h)

floats_most : (m : Part → ℕ) (f : Forest) → count m (first_floats f) ≤ count m f
floats_most m end = omega arith
floats_most m (con part kids floats rest) = omega arith

-- where no id is that of nobody, none of the sticky windows has it
pub stuck_none : (v : ConId) (f : Forest) → tally nobody f ≡ 0 → tally nobody (sticky (first_floats (only v f))) ≡ 0
stuck_none v f low = omega (arith, low, sticky_most (one_of nobody) (first_floats (only v f)), floats_most (one_of nobody) (only v f), count-without (one_of nobody) v f)

-- the sticky windows lose fullscreen there
pub one_along : (v w : ConId) (t : TreeValue) → tally nobody t.nodes ≡ 0 → IsSingle t.nodes → IsSingle (gone_along v w t).nodes
one_along v w t low =
    let f : Forest = t.nodes in
    let stuck : Forest = sticky (first_floats (only v f)) in
    let others : Forest = at v loosened end f in
    single f (gone_along v w t).nodes
    (λ x.
    omega (
      arith,
      within-put x (Float w nowhere) (unfull nobody stuck) top others tt,
      within-cleared x (space_in (spot_in top w others)) stuck (stuck_none v f low),
      within_at full_of x v loosened end 0 (λ space part kids floats rest e. omega (arith, within-loose x (space_at space part) floats)) None f,
    ))
