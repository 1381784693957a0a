-- Moving a workspace to another output keeps what holds of every tree.
use Rattle.std.proofs.Common.{◌≡◌, ℕ, ◌≤◌, Bool, true, false, cond, ◌||◌, List, Option, None, Some, refl, ap, sym, ◌∙◌, subst, arith}
use Rattle.wm_base.specs.declared.ids.ConId.{ConId}
use Rattle.wm_shared.proofs.ShowLemmas.{space_is}
use Rattle.wm_shared.proofs.SpaceLemmas.{placed}
use Rattle.wm_shared.specs.declared.keys.Key.{Key}
use Rattle.wm_shared.specs.Showing.{shown_on}
use Rattle.wm_shared.specs.Subject.{is_space}
use Rattle.wm_spaces.proofs.AsideLemmas.{aside, found_only, not_shown, one_output}
use Rattle.wm_spaces.proofs.StandLemmas.{but_picked, row_holds}
use Rattle.wm_shared.proofs.StandingLemmas.{of_output, stands_has, stands_space}
use Rattle.wm_spaces.specs.Moving.{IsFree, aside_refusal, other_refusal, other_space, set_aside, showing_other}
use Rattle.wm_spaces.specs.Targets.{spaces_of}
use Rattle.wm_tree.proofs.AttachLemmas.{has_row}
use Rattle.wm_forest.proofs.CountLemmas.{counted, count-without}
use Rattle.wm_tree.proofs.FocusLemmas.{has_kids}
use Rattle.wm_forest.proofs.OnceLemmas.{at_kids}
use Rattle.wm_tree.proofs.OutputRows.{by_row, in_row-append, in_row-last}
use Rattle.wm_forest.proofs.RecencyLemmas.{same_is, same_self}
use Rattle.wm_tree.proofs.SoundLemmas.{sound-shown}
use Rattle.wm_tree.proofs.AlongLemmas.{space_there}
use Rattle.wm_tree.proofs.SpaceLemmas.{sound-space_moved}
use Rattle.wm_tree.proofs.SpaceRows.{sound-left}
use Rattle.wm_forest.specs.Change.{at, is_id, without}
use Rattle.wm_forest.specs.declared.kind.KindEdit.TheVariants as edits
use Rattle.wm_forest.specs.declared.place.Place.TheVariants.{Last}
use Rattle.wm_forest.specs.Forest.{Forest, end, con}
use Rattle.wm_forest.specs.Look.{first_kids, has, in_row, node_in, only, same}
use Rattle.wm_tree.specs.Outputs.{IsNotShown, IsOutput, IsSpaceMove, new_space, space_moved, with_space}
use Rattle.wm_forest.specs.Place.{put, put_word}
use Rattle.wm_tree.specs.Sets.{shown_by, with_shown}
use Rattle.wm_tree.specs.Sound.{IsSound}
use Rattle.wm_forest.specs.SoundRow.{one_of, tally}
use Rattle.wm_tree.specs.TreeValue.{TreeValue, parent}
use Rattle.wm_forest.specs.RootId.{id}
use Rattle.wm_tree.specs.Words.{edited}

-- the workspace w stands on the output o
abbrev pub IsOn : ConId → ConId → TreeValue → Type 0
IsOn w o t = in_row w (spaces_of o t) ≡ true

once_below : (w : ConId) (f : Forest) → tally w f ≤ 1 → tally w (first_kids f) ≤ 1
once_below w end once = omega arith
once_below w (con part kids floats rest) once = omega (arith, once)

-- ---- the output of a workspace

-- what holds a workspace is an output, on which it stands
pub held_on : (w o : ConId) (t : TreeValue) → IsSound t → is_space t w ≡ true → parent t w ≡ Some o → IsOutput o t.nodes × IsOn w o t
held_on w o t s h e =
    let p = placed w t s (space_is w t h) in
    let one : p.output ≡ o = let z : Some p.output ≡ Some o = sym p.held_by ∙ e in cc in
    let Out : ConId → Type 0 = λ z. IsOutput z t.nodes in
    let In : ConId → Type 0 = λ z. in_row w (first_kids (only z t.nodes)) ≡ true in
    let listed : IsOutput o t.nodes = subst Out one p.listed in
    let inside : in_row w (first_kids (only o t.nodes)) ≡ true = subst In one p.inside in
    (listed, ap (in_row w) (sym (found_only o t.nodes (s.once o) listed).0) ∙ inside)

-- the output on which a workspace stands holds it
pub on_held : (w o : ConId) (t : TreeValue) → IsSound t → IsOutput o t.nodes → IsOn w o t → parent t w ≡ Some o
on_held w o t s out on =
    let space : is_space t w ≡ true = stands_space w t s (of_output w o (first_kids t.nodes) on) in
    let p = placed w t s (space_is w t space) in
    let h = held_on w p.output t s space p.held_by in
    p.held_by ∙ ap (λ z. Some z) (one_output p.output o w (first_kids t.nodes) (once_below w t.nodes (s.once w)) h.1 on)

-- ---- an output shows another workspace

-- the output o shows v, another one of its own
pub freed : (w o v : ConId) (t : TreeValue) → IsSound t → IsOutput o t.nodes → IsOn w o t → IsOn v o t → same w v ≡ false → IsFree w t (with_shown v t)
freed w o v t s out on_w on_v other =
    let a = aside o v t.nodes (s.once o) out in
    let held = on_held v o t s out on_v in
    let found = (found_only o t.nodes (s.once o) out).0 in
    let showable : in_row v (first_kids (only o t.nodes)) ≡ true = ap (in_row v) found ∙ on_v in
    let e : with_shown v t ≡ edited o (edits.Shown v) t = ap (λ z. shown_by z v t) held in
    let s_new : IsSound (edited o (edits.Shown v) t) = subst IsSound e (sound-shown v t (rw held showable) s) in
    let on_new : IsOn w o (edited o (edits.Shown v) t) = ap (in_row w) a.row ∙ on_w in
    subst (λ n. IsFree w t n) (sym e) (record {
      sound = s_new;
      space = stands_space w (edited o (edits.Shown v) t) s_new (a.stand w ∙ of_output w o (first_kids t.nodes) on_w);
      hidden = not_shown w o (edited o (edits.Shown v) t) s_new on_new (a.now w other);
      outs = λ i h. a.outs i ∙ h;
    })

-- a workspace that its output does not show is free as it is
pub free_here : (w o : ConId) (t : TreeValue) → IsSound t → is_space t w ≡ true → parent t w ≡ Some o → is_id w (shown_on o t) ≡ false → IsFree w t t
free_here w o t s h e none =
    let held = held_on w o t s h e in
    let found = (found_only o t.nodes (s.once o) held.0).1 in
    record { sound = s; space = h; hidden = not_shown w o t s held.1 (rw (← found) none); outs = λ i k. k }

-- ---- a row of workspaces that comes last on an output

-- the workspace c has come to the output o
pub record Added (o c : ConId) (old new : Forest) : Type 0 where
  pub outs : (i : ConId) → in_row i (first_kids new) ≡ in_row i (first_kids old)
  pub keeps : (i : ConId) → in_row i (first_kids (node_in o (first_kids old))) ≡ true → in_row i (first_kids (node_in o (first_kids new))) ≡ true
  pub there : in_row c (first_kids (node_in o (first_kids new))) ≡ true

record AddedRow (o c : ConId) (old new : Forest) : Type 0 where
  pub outs : (i : ConId) → in_row i new ≡ in_row i old
  pub keeps : (i : ConId) → in_row i (first_kids (node_in o old)) ≡ true → in_row i (first_kids (node_in o new)) ≡ true
  pub there : in_row c (first_kids (node_in o new)) ≡ true

added_row : (o c : ConId) (a row : Forest) → in_row c a ≡ true → in_row o row ≡ true → tally o row ≤ 1 → AddedRow o c row (at o (put_word (Last o)) a row)
added_row o c a row has_c h once =
    by_row o (put_word (Last o)) a (λ old new found. AddedRow o c old new)
    (λ part kids floats rest e. record {
      outs = λ i. refl;
      keeps = λ i. rw e (in_row-append i kids a);
      there = rw e (in_row-last c kids a has_c);
    })
    (λ part kids floats rest new found e g. record {
      outs = λ i. ap (λ z. same part.id i || z) (g.outs i);
      keeps = λ i. rw e (g.keeps i);
      there = rw e g.there;
    }) row h once

pub added : (o c : ConId) (a f : Forest) → in_row c a ≡ true → tally o f ≤ 1 → IsOutput o f → Added o c f (put (Last o) a f)
added o c a end has_c once h = cc
added o c a (con part kids floats rest) has_c once h =
    let New : Forest → Type 0 = λ z. Added o c (con part kids floats rest) z in
    let g = added_row o c a kids has_c h (omega (arith, once)) in
    subst New (sym (at_kids o (put_word (Last o)) a part kids floats rest once (has_row o kids h))) (record { outs = g.outs; keeps = g.keeps; there = g.there })

-- ---- an output shows a new workspace

on_other : (w o : ConId) (t : TreeValue) → IsSound t → IsOn w o t → same w (id t.next_id) ≡ false
on_other w o t s on = by (same w (id t.next_id)) refl where
  by : (b : Bool) → same w (id t.next_id) ≡ b → same w (id t.next_id) ≡ false
  by false e = e
  by true e =
      let there : has w t.nodes ≡ true = has_kids w t.nodes (stands_has w (first_kids t.nodes) (of_output w o (first_kids t.nodes) on)) in
      let New : ConId → Type 0 = λ z. tally z t.nodes ≡ 0 in
      let none : tally w t.nodes ≡ 0 = subst New (sym (same_is w (id t.next_id) e)) (s.fresh (id t.next_id) (omega arith)) in
      absurd (omega (arith, counted w t.nodes there, none))

pub freed_new : (w o : ConId) (n : List ℕ) (t : TreeValue) → IsSound t → IsSound (with_space o n t) → IsOutput o t.nodes → IsOn w o t → IsFree w t (with_shown (id t.next_id) (with_space o n t))
freed_new w o n t s s_new out on =
    let row : Forest = new_space (id t.next_id) n t in
    let g = added o (id t.next_id) row t.nodes (rw (same_self (id t.next_id) (id t.next_id) refl) refl) (s.once o) out in
    let f = freed w o (id t.next_id) (with_space o n t) s_new (g.outs o ∙ out) (g.keeps w on) g.there (on_other w o t s on) in
    record { sound = f.sound; space = f.space; hidden = f.hidden; outs = λ i h. f.outs i (g.outs i ∙ h) }

-- ---- the workspace that comes in its place

-- another one of the output is found
pub other_on : (w o : ConId) (t : TreeValue) (k : Key) → other_space w o t ≡ Some k → IsOn k.id o t × (same w k.id ≡ false)
other_on w o t k e = (row_holds false (spaces_of o t) w k e, but_picked w (spaces_of o t) k e)

-- ---- the workspace is moved

only_first : (w : ConId) (f : Forest) → has w f ≡ true → in_row w (only w f) ≡ true
only_first w end h = cc
only_first w (con part kids floats rest) h = step (same part.id w) (has w kids) (has w floats) refl refl refl h (only_first w kids) (only_first w floats) (only_first w rest)
  where
    step : (a k l : Bool) → same part.id w ≡ a → has w kids ≡ k → has w floats ≡ l → (a || k || l || has w rest) ≡ true
        → (has w kids ≡ true → in_row w (only w kids) ≡ true) → (has w floats ≡ true → in_row w (only w floats) ≡ true) → (has w rest ≡ true → in_row w (only w rest) ≡ true)
        → in_row w (cond a (con part kids floats end) (cond k (only w kids) (cond l (only w floats) (only w rest)))) ≡ true
    step true k l ea ek el h p q r = rw ea refl
    step false true l ea ek el h p q r = p ek
    step false false true ea ek el h p q r = q el
    step false false false ea ek el h p q r = r h

pub may_move : (w o : ConId) (t : TreeValue) → is_space t w ≡ true → IsOutput o t.nodes → IsNotShown w t.nodes → IsSpaceMove w o t.nodes
may_move w o t h out hidden = (λ there. (space_is w t h, hidden), λ there. out)

-- the workspace that was moved is one
pub moved_is : (w o : ConId) (t : TreeValue) → IsSound t → is_space t w ≡ true → IsOutput o t.nodes → IsNotShown w t.nodes → is_space (space_moved w o t) w ≡ true
moved_is w o t s h out hidden =
    let p = placed w t s (space_is w t h) in
    let held = held_on w p.output t s h p.held_by in
    let there : has w t.nodes ≡ true = has_kids w t.nodes (stands_has w (first_kids t.nodes) (of_output w p.output (first_kids t.nodes) held.1)) in
    let left = sound-left w t.nodes (space_is w t h) hidden s.shaped in
    let g = added o w (only w t.nodes) (without w t.nodes) (only_first w t.nodes there) (once_left (s.once o)) (left.outs o out) in
    stands_space w (space_moved w o t) (sound-space_moved w o t s (space_is w t h) hidden out) (of_output w o (first_kids (put (Last o) (only w t.nodes) (without w t.nodes))) g.there)
  where
    once_left : tally o t.nodes ≤ 1 → tally o (without w t.nodes) ≤ 1
    once_left once = omega (arith, once, count-without (one_of o) w t.nodes)

pub moved_by : (w o : ConId) (t new : TreeValue) → new ≡ space_moved w o t → IsSound t → is_space t w ≡ true → IsOutput o t.nodes → IsNotShown w t.nodes → is_space new w ≡ true
moved_by w o t new e s h out hidden = rw e (moved_is w o t s h out hidden)

-- ---- the new tree of a call

pub has_space : (w : ConId) (t : TreeValue) → is_space t w ≡ true → has w t.nodes ≡ true
has_space w t h = space_there w t.nodes (space_is w t h)

pub freed_by : (w o : ConId) (k : Key) (t new : TreeValue) → new ≡ with_shown k.id t → other_space w o t ≡ Some k → IsSound t → is_space t w ≡ true → parent t w ≡ Some o → IsFree w t new
freed_by w o k t new e found s h held =
    let on = held_on w o t s h held in
    let other = other_on w o t k found in
    subst (λ n. IsFree w t n) (sym e) (freed w o k.id t s on.0 on.1 other.0 other.1)

pub freed_new_by : (w o v : ConId) (n : List ℕ) (t made new : TreeValue) → made ≡ with_space o n t → v ≡ id t.next_id → new ≡ with_shown v made → IsSound made → IsSound t → is_space t w ≡ true → parent t w ≡ Some o → IsFree w t new
freed_new_by w o v n t made new e i d s_made s h held =
    let on = held_on w o t s h held in
    let same_tree : new ≡ with_shown (id t.next_id) (with_space o n t) = rw (d, e, i) refl in
    subst (λ n. IsFree w t n) (sym same_tree) (freed_new w o n t s (subst IsSound e s_made) on.0 on.1)

-- where the output shows the workspace and has no other one
pub set_aside_new : (w o : ConId) (t : TreeValue) → shown_on o t ≡ Some w → other_space w o t ≡ None → set_aside w o t ≡ showing_other None o t
set_aside_new w o t shown none = rw (shown, none, same_self w w refl) refl

pub aside_tree : (w o : ConId) (t new : TreeValue) → new ≡ showing_other None o t → shown_on o t ≡ Some w → other_space w o t ≡ None → new ≡ set_aside w o t
aside_tree w o t new e shown none = e ∙ sym (set_aside_new w o t shown none)

pub aside_fine : (w o : ConId) (t : TreeValue) → other_refusal None t ≡ None → shown_on o t ≡ Some w → other_space w o t ≡ None → aside_refusal w o t ≡ None
aside_fine w o t fine shown none = rw (shown, none, same_self w w refl) fine

-- where it shows another one
pub free_by : (w o : ConId) (shown : Option ConId) (t : TreeValue) → shown ≡ shown_on o t → is_id w shown ≡ false → IsSound t → is_space t w ≡ true → parent t w ≡ Some o → IsFree w t t
free_by w o shown t e other s h held = free_here w o t s h held (ap (is_id w) (sym e) ∙ other)
