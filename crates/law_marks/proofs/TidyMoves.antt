-- No container gets floating windows where a container moves, and where an output goes.
use Rattle.std.proofs.Common.{◌≡◌, ◌≢◌, ◌+◌, ◌≤◌, Bool, true, false, cond, Option, None, Some, refl, arith}
use Rattle.wm_base.specs.declared.ids.ConId.{ConId}
use Rattle.law_marks.proofs.UrgentWords.{SameLists}
use Rattle.law_fullscreen.proofs.HasOneLemmas.{IsFirst, first_found}
use Rattle.wm_floats.specs.Floating.{IsGoal}
use Rattle.wm_floats.specs.Scratchpad.{put_away}
use Rattle.wm_opens.proofs.MeasureLemmas.{cons_kept, kinds_at, kinds_measured}
use Rattle.wm_opens.proofs.SureLemmas.{IsNoCon, cons_tallied, first_alone_no, no_con_none, root_no_con, space_no_con}
use Rattle.wm_opens.proofs.TidyLemmas.{IsFreeAt, holds_free, tidy_append, tidy_arriving, tidy_edited, tidy_first_floats, tidy_first_kids, tidy_free, tidy_only, tidy_put, tidy_without}
use Rattle.wm_opens.proofs.WordLemmas.{count-edited}
use Rattle.wm_opens.specs.Opens.{IsTidy}
use Rattle.wm_shared.specs.Rects.{rect_of}
use Rattle.wm_spaces.proofs.ComingLemmas.{heir_output}
use Rattle.wm_forest.proofs.CountLemmas.{count-without, found_counted}
use Rattle.wm_forest.specs.Change.{append, arriving, without}
use Rattle.wm_forest.specs.Counts.{one_con}
use Rattle.wm_forest.specs.declared.kind.KindEdit.TheVariants as edits
use Rattle.wm_forest.specs.declared.part.NodeKind.{NodeKind}
use Rattle.wm_forest.specs.declared.part.NodeKind.TheVariants.{Root, Output, Space, Con}
use Rattle.wm_forest.specs.declared.place.Place.{Place}
use Rattle.wm_forest.specs.declared.place.Place.TheVariants.{After, Before, First, Last, Float, Scratchpad}
use Rattle.wm_forest.specs.Forest.{Forest, end, con}
use Rattle.wm_forest.specs.Look.{first_floats, first_kids, first_part, has, kind_by, only, output_kind, same}
use Rattle.wm_forest.specs.Place.{IsPlace, named, rect_at}
use Rattle.wm_forest.specs.RootId.{root}
use Rattle.wm_forest.specs.SoundRow.{one_of, tally}
use Rattle.wm_forest.specs.Taking.{heir, taking_in}
use Rattle.wm_tree.proofs.OutputRows.{output_found}
use Rattle.wm_tree.proofs.SpaceLemmas.{has_output}
use Rattle.wm_tree.specs.Move.{apart, moved, moved_share}
use Rattle.wm_tree.specs.Outputs.{IsOutput, handed_on, left_to, without_output, yielded}
use Rattle.wm_tree.specs.Sound.{IsSound}
use Rattle.wm_tree.specs.TreeValue.{TreeValue, current}
use Rattle.wm_tree.specs.Words.{edited}

-- ---- moves

free_place : (c : ConId) (p : Place) (t : TreeValue) → IsSound t → has (named p) t.nodes ≡ true → IsPlace p t.nodes → IsFreeAt p (without c t.nodes)
free_place c (After n) t s h fits = tt
free_place c (Before n) t s h fits = tt
free_place c (First n) t s h fits = tt
free_place c (Last n) t s h fits = tt
free_place c (Float w r) t s h fits =
    let none : IsNoCon w t.nodes = space_no_con w t s (fits h) in
    no_con_none w (without c t.nodes) (omega (arith, none, count-without (kinds_at one_con w) c t.nodes))
free_place c (Scratchpad r) t s h fits =
    let none : IsNoCon root t.nodes = root_no_con t s in
    no_con_none root (without c t.nodes) (omega (arith, none, count-without (kinds_at one_con root) c t.nodes))

tidy_put_in : (c : ConId) (p : Place) (t : TreeValue) → IsFreeAt p (without c t.nodes) → IsTidy t.nodes → IsTidy (moved c p t).nodes
tidy_put_in c p t free h =
    tidy_put p (arriving (moved_share c p t.nodes) (rect_at p) (apart t c (named p)) (only c t.nodes)) (without c t.nodes) free
    (tidy_arriving (moved_share c p t.nodes) (rect_at p) (apart t c (named p)) (only c t.nodes) (tidy_only c t.nodes h)) (tidy_without c t.nodes h)

pub tidy_moved : (c : ConId) (p : Place) (t : TreeValue) → IsSound t → IsGoal c p t → IsTidy t.nodes → IsTidy (moved c p t).nodes
tidy_moved c p t s goal h = tidy_put_in c p t (free_place c p t s goal.1 goal.2.1) h

-- into the scratchpad
pub tidy_stowed : (c : ConId) (t : TreeValue) → IsSound t → IsTidy t.nodes → IsTidy (put_away c t).nodes
tidy_stowed c t s h =
    let none : IsNoCon root t.nodes = root_no_con t s in
    tidy_put_in c (Scratchpad (rect_of c t)) t (no_con_none root (without c t.nodes) (omega (arith, none, count-without (kinds_at one_con root) c t.nodes))) h

-- ---- an output that goes

tidy_yielded : (o h : ConId) (t : TreeValue) → IsTidy t.nodes → IsTidy (yielded o h t).nodes
tidy_yielded o h t p = step (same (current t) o)
  where
    step : (b : Bool) → IsTidy (cond b (edited root (edits.Current h) t) t).nodes
    step true = tidy_edited root (edits.Current h) t.nodes p
    step false = p

no_con_yielded : (w o h : ConId) (t : TreeValue) → IsNoCon w t.nodes → IsNoCon w (yielded o h t).nodes
no_con_yielded w o h t none = step (same (current t) o)
  where
    step : (b : Bool) → IsNoCon w (cond b (edited root (edits.Current h) t) t).nodes
    step true = omega (arith, none, count-edited (kinds_at one_con w) (kinds_measured one_con w cons_kept) root (edits.Current h) t refl)
    step false = none

tidy_handed : (o h : ConId) (t : TreeValue) → IsNoCon h t.nodes → IsTidy t.nodes → IsTidy (handed_on o h t).nodes
tidy_handed o h t none p =
    let gone : Forest = only o t.nodes in
    let q = tidy_only o t.nodes p in
    let left_none : IsNoCon h (without o t.nodes) = omega (arith, none, count-without (kinds_at one_con h) o t.nodes) in
    tidy_free h taking_in gone
    (λ part kids floats rest k r. (holds_free part.kind (append floats (first_floats gone)) k, tidy_append kids (first_kids gone) r.1 (tidy_first_kids gone q), tidy_append floats (first_floats gone) r.2 (tidy_first_floats gone q), r.3))
    (without o t.nodes) (no_con_none h (without o t.nodes) left_none) (tidy_without o t.nodes p)

output_one : (kind : NodeKind) → output_kind kind ≢ None → one_con kind ≡ 0
output_one (Root c) ok = refl
output_one (Output o) ok = refl
output_one (Space s) ok = refl
output_one (Con c) ok = absurd (ok refl)

output_alone : (h : ConId) (g : Forest) → IsFirst h g → tally h g ≤ 1 → kind_by output_kind (first_part g) ≢ None → IsNoCon h g
output_alone h end i once ok = refl
output_alone h (con part kids floats rest) i once ok = first_alone_no h part kids floats rest i (output_one part.kind ok) once

-- no container has the id of an output
output_no_con : (h : ConId) (t : TreeValue) → IsSound t → IsOutput h t.nodes → IsNoCon h t.nodes
output_no_con h t s out =
    let all : tally h (without h t.nodes) + tally h (only h t.nodes) ≡ tally h t.nodes = count-without (one_of h) h t.nodes in
    let ok = (output_found h t.nodes s.shaped out (s.once h)).first in
    let here : IsNoCon h (only h t.nodes) = output_alone h (only h t.nodes) (first_found h t.nodes) (omega (arith, all, s.once h)) ok in
    omega (arith, here, all, s.once h, found_counted h t.nodes (has_output h t.nodes out), cons_tallied h (without h t.nodes), count-without (kinds_at one_con h) h t.nodes)

pub tidy_without_output : (o : ConId) (t : TreeValue) → IsSound t → IsTidy t.nodes → IsTidy (without_output o t).nodes
tidy_without_output o t s p = by (heir o t.nodes) refl
  where
    by : (h : Option ConId) → heir o t.nodes ≡ h → IsTidy (left_to h o t).nodes
    by None e = p
    by (Some h) e = tidy_handed o h (yielded o h t) (no_con_yielded h o h t (output_no_con h t s (heir_output o h t e))) (tidy_yielded o h t p)

yielded_lists : (o h : ConId) (t : TreeValue) → SameLists t (handed_on o h (yielded o h t))
yielded_lists o h t = step (same (current t) o)
  where
    step : (b : Bool) → SameLists t (handed_on o h (cond b (edited root (edits.Current h) t) t))
    step true = record { urgent = refl; recency = refl }
    step false = record { urgent = refl; recency = refl }

pub without_output_lists : (o : ConId) (t : TreeValue) → SameLists t (without_output o t)
without_output_lists o t = by (heir o t.nodes)
  where
    by : (h : Option ConId) → SameLists t (left_to h o t)
    by None = record { urgent = refl; recency = refl }
    by (Some h) = yielded_lists o h t
