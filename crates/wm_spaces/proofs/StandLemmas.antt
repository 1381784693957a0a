-- What stands on an output is a workspace, and so is what a command names.
use Rattle.std.proofs.Common.{◌≡◌, ℕ, ◌≤◌, Bool, true, false, cond, ◌||◌, ◌⊎◌, inl, inr, ⊎_elim, List, Option, None, Some, refl, ap, sym, ◌∙◌, subst, arith}
use Rattle.std.specs.Prelude.{Err, IfOk, Ok, Result, not, option_and_then}
use Rattle.std.specs.Option.{option_or}
use Rattle.wm_base.specs.declared.errors.ErrorText.TheVariants as texts
use Rattle.wm_base.specs.declared.ids.ConId.{ConId}
use Rattle.wm_language.specs.declared.arguments.Target.{Target}
use Rattle.wm_language.specs.declared.arguments.Target.TheVariants as targets
use Rattle.wm_shared.specs.declared.keys.Key.{Key}
use Rattle.wm_shared.proofs.StandingLemmas.{either, of_output, shown_stands, stands_on, stands_space}
use Rattle.wm_shared.specs.Keys.{comes_before}
use Rattle.wm_shared.specs.Showing.{shown_on}
use Rattle.wm_spaces.specs.declared.order.Pick.{Pick}
use Rattle.wm_spaces.specs.declared.order.Pick.TheVariants as picking
use Rattle.wm_spaces.specs.declared.targets.Goal.{Goal}
use Rattle.wm_spaces.specs.declared.targets.Goal.TheVariants.{Refused}
use Rattle.wm_spaces.specs.Names.{is_reserved, output_named, space_called, space_in_row, space_named, space_on}
use Rattle.wm_spaces.specs.Order.{best_on, best_with, better, key_if, keys_in, num, picks, space_key}
use Rattle.wm_spaces.specs.Targets.{IsGoal, before, best_at, by_name, by_number, called, focused_key, goal_named, goal_of, home, home_name, key_id, neighbour, numbered, past, spaces_of}
use Rattle.wm_spaces.proofs.ComingLemmas.{named_output}
use Rattle.wm_spaces.proofs.OrderLemmas.{best_step}
use Rattle.wm_tree.proofs.AttachLemmas.{has_row}
use Rattle.wm_tree.proofs.FocusLemmas.{current_there, outputs_of}
use Rattle.wm_forest.proofs.OnceLemmas.{at_kids, only_kids}
use Rattle.wm_tree.proofs.OutputRows.{by_row, in_row-last}
use Rattle.wm_forest.proofs.RecencyLemmas.{same_self}
use Rattle.wm_forest.specs.declared.part.NodeKind.{NodeKind}
use Rattle.wm_forest.specs.declared.part.NodeKind.TheVariants.{Root, Output, Space, Con}
use Rattle.wm_forest.specs.declared.part.Part.{Part}
use Rattle.wm_forest.specs.declared.part.SpacePart.{SpacePart}
use Rattle.wm_forest.specs.declared.place.Place.TheVariants.{Last}
use Rattle.wm_forest.specs.Change.{at, shown_of}
use Rattle.wm_forest.specs.Forest.{Forest, end, con}
use Rattle.wm_forest.specs.Look.{first_kids, first_part, in_row, kind_by, only, same, space_kind}
use Rattle.wm_tree.specs.Outputs.{IsOutput, new_space, with_space}
use Rattle.wm_forest.specs.Place.{put, put_word}
use Rattle.wm_forest.specs.SoundRow.{IsNode, IsSoundRow, outputs, roots, tally}
use Rattle.wm_tree.specs.Sound.{IsSound}
use Rattle.wm_tree.specs.TreeValue.{TreeValue, current, or_id, shown}
use Rattle.wm_forest.specs.RootId.{id}

-- ---- what is found

in_row_called : (n : List ℕ) (w : ConId) (row : Forest) → space_in_row n row ≡ Some w → in_row w row ≡ true
in_row_called n w end h = cc
in_row_called n w (con part kids floats rest) h = step (space_called n (space_kind part.kind)) h (in_row_called n w rest)
  where
    step : (b : Bool) → cond b (Some part.id) (space_in_row n rest) ≡ Some w → (space_in_row n rest ≡ Some w → in_row w rest ≡ true) → (same part.id w || in_row w rest) ≡ true
    step true h ih = let e : part.id ≡ w = cc in rw (same_self part.id w e) refl
    step false h ih = either (same part.id w) (in_row w rest) (ih h)

stands_called : (n : List ℕ) (w : ConId) (row : Forest) → space_on n row ≡ Some w → stands_on w row ≡ true
stands_called n w end h = cc
stands_called n w (con part kids floats rest) h = step (space_in_row n kids) refl h (stands_called n w rest)
  where
    step : (o : Option ConId) → space_in_row n kids ≡ o → option_or o (space_on n rest) ≡ Some w → (space_on n rest ≡ Some w → stands_on w rest ≡ true) → (in_row w kids || stands_on w rest) ≡ true
    step None e h ih = either (in_row w kids) (stands_on w rest) (ih h)
    step (Some v) e h ih = rw (in_row_called n w kids (e ∙ h)) refl

chosen : (p : Bool) (a b k : Key) → cond p (Some b) (Some a) ≡ Some k → (Some a ≡ Some k) ⊎ (Some b ≡ Some k)
chosen true a b k h = inr h
chosen false a b k h = inl h

better_from : (back : Bool) (a b : Option Key) (k : Key) → better back a b ≡ Some k → (a ≡ Some k) ⊎ (b ≡ Some k)
better_from true None b k h = inr h
better_from true (Some a) None k h = inl h
better_from true (Some a) (Some b) k h = chosen (comes_before a b) a b k h
better_from false None b k h = inr h
better_from false (Some a) None k h = inl h
better_from false (Some a) (Some b) k h = chosen (comes_before b a) a b k h

key_of : (p : Pick) (c : ConId) (s : Option SpacePart) (k : Key) → key_if p c s ≡ Some k → c ≡ k.id
key_of p c None k h = cc
key_of p c (Some s) k h = by_test (picks p (space_key c s.name)) h
  where
    by_test : (b : Bool) → cond b (Some (space_key c s.name)) None ≡ Some k → c ≡ k.id
    by_test true h = let e : space_key c s.name ≡ k = cc in ap (λ (z : Key). z.id) e
    by_test false h = cc

best_row : (back : Bool) (p : Pick) (row : Forest) (m : Option Key) (k : Key) → best_with back (keys_in p row) m ≡ Some k → (in_row k.id row ≡ true) ⊎ (m ≡ Some k)
best_row back p end m k h = inr h
best_row back p (con part kids floats rest) m k h =
    ⊎_elim
    (λ e. inl (rw (same_self part.id k.id (key_of p part.id (space_kind part.kind) k e)) refl))
    (λ e. ⊎_elim (λ i. inl (either (same part.id k.id) (in_row k.id rest) i)) (λ i. inr i) (best_row back p rest m k e))
    (better_from back (key_if p part.id (space_kind part.kind)) (best_with back (keys_in p rest) m) k (best_step back (key_if p part.id (space_kind part.kind)) m (keys_in p rest) ∙ h))

-- the best one of a row is in it
pub row_holds : (back : Bool) (row : Forest) (w : ConId) (k : Key) → best_with back (keys_in (picking.But w) row) None ≡ Some k → in_row k.id row ≡ true
row_holds back row w k h = ⊎_elim (λ i. i) (λ e. cc) (best_row back (picking.But w) row None k h)

-- and is looked at
key_picked : (p : Pick) (c : ConId) (s : Option SpacePart) (k : Key) → key_if p c s ≡ Some k → picks p k ≡ true
key_picked p c None k h = cc
key_picked p c (Some s) k h = by_test (picks p (space_key c s.name)) refl h
  where
    by_test : (b : Bool) → picks p (space_key c s.name) ≡ b → cond b (Some (space_key c s.name)) None ≡ Some k → picks p k ≡ true
    by_test true e h = let one : space_key c s.name ≡ k = cc in ap (picks p) (sym one) ∙ e
    by_test false e h = cc

best_picked : (back : Bool) (p : Pick) (row : Forest) (m : Option Key) (k : Key) → best_with back (keys_in p row) m ≡ Some k → (picks p k ≡ true) ⊎ (m ≡ Some k)
best_picked back p end m k h = inr h
best_picked back p (con part kids floats rest) m k h =
    ⊎_elim
    (λ e. inl (key_picked p part.id (space_kind part.kind) k e))
    (λ e. best_picked back p rest m k e)
    (better_from back (key_if p part.id (space_kind part.kind)) (best_with back (keys_in p rest) m) k (best_step back (key_if p part.id (space_kind part.kind)) m (keys_in p rest) ∙ h))

-- one that is found beside w is another
pub but_picked : (w : ConId) (row : Forest) (k : Key) → best_with false (keys_in (picking.But w) row) None ≡ Some k → same w k.id ≡ false
but_picked w row k h = ⊎_elim (λ i. not_same i) (λ e. cc) (best_picked false (picking.But w) row None k h)
  where
    not_same : not (same k.id w) ≡ true → same w k.id ≡ false
    not_same i = grind (arith, i)

best_stands : (back : Bool) (p : Pick) (row : Forest) (k : Key) → best_on back p row ≡ Some k → stands_on k.id row ≡ true
best_stands back p end k h = cc
best_stands back p (con part kids floats rest) k h =
    ⊎_elim (λ i. rw i refl) (λ e. either (in_row k.id kids) (stands_on k.id rest) (best_stands back p rest k e)) (best_row back p kids (best_on back p rest) k h)

-- the workspace that an output shows stands on it
pub shown_stands_on : (o w : ConId) (t : TreeValue) → IsSound t → in_row o (first_kids t.nodes) ≡ true → shown_on o t ≡ Some w → stands_on w (first_kids t.nodes) ≡ true
shown_stands_on o w t s h e = by_nodes t.nodes s.shaped (s.once o) h e
  where
    by_kind : (part : Part) (kids : Forest) (kind : NodeKind) → IsNode outputs true 32 part.id kind part.marks kids → shown_of kind ≡ Some w → in_row w kids ≡ true
    by_kind part kids (Root d) n e = absurd n
    by_kind part kids (Output o) n e = let same_id : o.shown ≡ w = cc in rw (← same_id) n.1
    by_kind part kids (Space v) n e = absurd n
    by_kind part kids (Con d) n e = absurd n

    on_row : (row : Forest) → in_row o row ≡ true → tally o row ≤ 1 → IsSoundRow outputs true 32 row → kind_by shown_of (first_part (only o row)) ≡ Some w → stands_on w row ≡ true
    on_row row h once =
        by_row o (λ row part kids floats rest. rest) end (λ old new found. IsSoundRow outputs true 32 old → kind_by shown_of (first_part found) ≡ Some w → stands_on w old ≡ true)
        (λ part kids floats rest e p q. rw (by_kind part kids part.kind p.0 q) refl)
        (λ part kids floats rest new found e ih p q. either (in_row w kids) (stands_on w rest) (ih p.4 q)) row h once

    by_nodes : (f : Forest) → IsSoundRow roots false 0 f → tally o f ≤ 1 → in_row o (first_kids f) ≡ true → kind_by shown_of (first_part (only o f)) ≡ Some w → stands_on w (first_kids f) ≡ true
    by_nodes end p once h e = cc
    by_nodes (con part kids floats rest) p once h e =
        let found = only_kids o part kids floats rest once (has_row o kids h) in
        on_row kids h (omega (arith, once)) (outputs_of (con part kids floats rest) p) (sym (ap (λ z. kind_by shown_of (first_part z)) found) ∙ e)

-- ---- goals

best_at_stands : (here back : Bool) (p : Pick) (t : TreeValue) (k : Key) → best_at here back p t ≡ Some k → stands_on k.id (first_kids t.nodes) ≡ true
best_at_stands true back p t k h = ⊎_elim (λ i. of_output k.id (current t) (first_kids t.nodes) i) (λ e. cc) (best_row back p (spaces_of (current t) t) None k h)
best_at_stands false back p t k h = best_stands back p (first_kids t.nodes) k h

neighbour_stands : (here back : Bool) (t : TreeValue) → IsSound t → stands_on (neighbour here back t) (first_kids t.nodes) ≡ true
neighbour_stands here back t s = by_keys (best_at here back (past back (focused_key t)) t) (best_at here back picking.All t) refl refl
  where
    by_keys : (a b : Option Key) → best_at here back (past back (focused_key t)) t ≡ a → best_at here back picking.All t ≡ b → stands_on (key_id (option_or a b) (shown t)) (first_kids t.nodes) ≡ true
    by_keys (Some k) b ea eb = best_at_stands here back (past back (focused_key t)) t k ea
    by_keys None (Some k) ea eb = best_at_stands here back picking.All t k eb
    by_keys None None ea eb = shown_stands t s

named_goal : (n : List ℕ) (t : TreeValue) → IsSound t → IsGoal (goal_named n t) t
named_goal n t s = by_test (is_reserved n)
  where
    by_space : (o : Option ConId) → space_named n t ≡ o → IsGoal (by_name n o) t
    by_space None e = tt
    by_space (Some w) e = stands_space w t s (stands_called n w (first_kids t.nodes) e)

    by_test : (b : Bool) → IsGoal (cond b (Refused texts.NameReserved) (by_name n (space_named n t))) t
    by_test true = tt
    by_test false = by_space (space_named n t) refl

number_goal : (n : List ℕ) (k : Option ℕ) (t : TreeValue) → IsSound t → IsGoal (numbered n k t) t
number_goal n None t s = named_goal n t s
number_goal n (Some k) t s = by_key (best_on false (picking.Numbered k) (first_kids t.nodes)) refl
  where
    by_key : (o : Option Key) → best_on false (picking.Numbered k) (first_kids t.nodes) ≡ o → IsGoal (by_number n o t) t
    by_key None e = named_goal n t s
    by_key (Some j) e = stands_space j.id t s (best_stands false (picking.Numbered k) (first_kids t.nodes) j e)

before_goal : (o : Option (List ℕ)) (t : TreeValue) → IsSound t → IsGoal (before o t) t
before_goal None t s = tt
before_goal (Some n) t s = named_goal n t s

is_goal : (target : Target) (t : TreeValue) → IsSound t → IsGoal (goal_of target t) t
is_goal targets.Next t s = stands_space (neighbour false false t) t s (neighbour_stands false false t s)
is_goal targets.Prev t s = stands_space (neighbour false true t) t s (neighbour_stands false true t s)
is_goal targets.NextOnOutput t s = stands_space (neighbour true false t) t s (neighbour_stands true false t s)
is_goal targets.PrevOnOutput t s = stands_space (neighbour true true t) t s (neighbour_stands true true t s)
is_goal targets.BackAndForth t s = before_goal t.previous t s
is_goal (targets.Number n) t s = number_goal n (num n) t s
is_goal (targets.Named n) t s = named_goal n t s
is_goal targets.Current t s = stands_space (shown t) t s (shown_stands t s)

-- the home of a name is one of the outputs
pub home_output : (n : List ℕ) (homes : List (List ℕ × List ℕ)) (t : TreeValue) → IsSound t → IsOutput (home n homes t) t.nodes
home_output n homes t s = by_home (home_name n homes)
  where
    by_output : (o : Option ConId) (m : List ℕ) → output_named m t ≡ o → IsOutput (or_id o (current t)) t.nodes
    by_output None m e = current_there t.nodes s.shaped s.rooted
    by_output (Some o) m e = named_output m o t e

    by_home : (h : Option (List ℕ)) → IsOutput (or_id (option_and_then (called t) h) (current t)) t.nodes
    by_home None = current_there t.nodes s.shaped s.rooted
    by_home (Some m) = by_output (output_named m t) m refl

-- a new workspace stands on its output
pub new_stands : (o : ConId) (n : List ℕ) (t : TreeValue) → IsSound t → IsOutput o t.nodes → stands_on (id t.next_id) (first_kids (with_space o n t).nodes) ≡ true
new_stands o n t s ok = by_nodes t.nodes (s.once o) ok
  where
    w : ConId
    w = id t.next_id

    here : (row : Forest) → in_row o row ≡ true → tally o row ≤ 1 → stands_on (id t.next_id) (at o (put_word (Last o)) (new_space (id t.next_id) n t) row) ≡ true
    here row h once =
        by_row o (put_word (Last o)) (new_space (id t.next_id) n t) (λ old new found. stands_on (id t.next_id) new ≡ true)
        (λ part kids floats rest e. rw (in_row-last (id t.next_id) kids (new_space (id t.next_id) n t) (rw (same_self (id t.next_id) (id t.next_id) refl) refl)) refl)
        (λ part kids floats rest new found e h. either (in_row (id t.next_id) kids) (stands_on (id t.next_id) new) h) row h once

    by_nodes : (f : Forest) → tally o f ≤ 1 → in_row o (first_kids f) ≡ true → stands_on (id t.next_id) (first_kids (put (Last o) (new_space (id t.next_id) n t) f)) ≡ true
    by_nodes end once h = cc
    by_nodes (con part kids floats rest) once h =
        let On : Forest → Type 0 = λ z. stands_on (id t.next_id) (first_kids z) ≡ true in
        subst On (sym (at_kids o (put_word (Last o)) (new_space (id t.next_id) n t) part kids floats rest once (has_row o kids h))) (here kids h (omega (arith, once)))

-- an answer that is that goal
pub goal_by : (target : Target) (t : TreeValue) (g : Goal) → g ≡ goal_of target t → IsSound t → IsGoal g t
goal_by target t g e s = rw e (is_goal target t s)

pub goal_if : {E : Type 0} (target : Target) (t : TreeValue) (r : Result Goal E) → IfOk r (λ g. g ≡ goal_of target t) → IsSound t → IfOk r (λ g. IsGoal g t)
goal_if target t (Ok g) e s = goal_by target t g e s
goal_if target t (Err e) h s = tt
