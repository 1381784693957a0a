-- Names of new workspaces are free: the one that a command gives, where none has it, and the least number that is no name.
use Rattle.std.proofs.Common.{◌≡◌, ℕ, zero, suc, ◌+◌, ◌<◌, ◌≤◌, ◌^◌, Bool, true, false, cond, ◌⊎◌, inl, inr, List, Option, None, Some, refl, sym, ◌∙◌, arith}
use Rattle.std.specs.Prelude.{is_some}
use Rattle.std.specs.Fmt.{decimal}
use Rattle.std.specs.Option.{option_or}
use Rattle.std.proofs.lemmas.Fmt.{decimal_injective}
use Rattle.std.proofs.lemmas.Slice.Eq.{bytes_eq-Decides}
use Rattle.wm_base.specs.declared.errors.ErrorText.TheVariants as texts
use Rattle.wm_base.specs.declared.ids.ConId.{ConId}
use Rattle.wm_language.specs.declared.arguments.Target.{Target}
use Rattle.wm_language.specs.declared.arguments.Target.TheVariants as targets
use Rattle.wm_shared.specs.declared.keys.Key.{Key}
use Rattle.wm_spaces.specs.Coming.{free_from, free_name}
use Rattle.wm_spaces.specs.declared.order.Pick.TheVariants as picking
use Rattle.wm_spaces.specs.declared.targets.Goal.{Goal}
use Rattle.wm_spaces.specs.declared.targets.Goal.TheVariants.{There, Absent, Refused}
use Rattle.wm_spaces.specs.Names.{is_reserved, space_called, space_in_row, space_named, space_on}
use Rattle.wm_spaces.specs.Order.{best_on, num}
use Rattle.wm_spaces.specs.Targets.{before, by_name, by_number, goal_named, goal_of, numbered}
use Rattle.wm_forest.specs.Counts.{count, one_space, space_count}
use Rattle.wm_forest.specs.declared.part.NodeKind.{NodeKind}
use Rattle.wm_forest.specs.declared.part.NodeKind.TheVariants.{Root, Output, Space, Con}
use Rattle.wm_forest.specs.declared.part.Part.{Part}
use Rattle.wm_forest.specs.declared.part.SpacePart.{SpacePart}
use Rattle.wm_forest.specs.Forest.{Forest, end, con}
use Rattle.wm_forest.specs.Look.{first_kids, space_kind}
use Rattle.wm_tree.specs.Sound.{IsSound}
use Rattle.wm_tree.specs.TreeValue.{TreeValue}

-- ---- the workspace that a command names

-- where a target is a workspace that is not there yet, none has its name
abbrev pub IsNewGoal : Goal → TreeValue → Type 0
IsNewGoal (There w) t = Unit {0}
IsNewGoal (Absent n) t = space_named n t ≡ None
IsNewGoal (Refused text) t = Unit {0}

new_named : (n : List ℕ) (t : TreeValue) → IsNewGoal (goal_named n t) t
new_named n t = step (is_reserved n) (space_named n t) refl
  where
    step : (b : Bool) (o : Option ConId) → space_named n t ≡ o → IsNewGoal (cond b (Refused texts.NameReserved) (by_name n o)) t
    step true o e = tt
    step false None e = e
    step false (Some w) e = tt

new_before : (o : Option (List ℕ)) (t : TreeValue) → IsNewGoal (before o t) t
new_before None t = tt
new_before (Some n) t = new_named n t

new_by_number : (n : List ℕ) (o : Option Key) (t : TreeValue) → IsNewGoal (by_number n o t) t
new_by_number n None t = new_named n t
new_by_number n (Some k) t = tt

new_numbered : (n : List ℕ) (o : Option ℕ) (t : TreeValue) → IsNewGoal (numbered n o t) t
new_numbered n None t = new_named n t
new_numbered n (Some k) t = new_by_number n (best_on false (picking.Numbered k) (first_kids t.nodes)) t

pub new_goal : (target : Target) (t : TreeValue) → IsNewGoal (goal_of target t) t
new_goal targets.Next t = tt
new_goal targets.Prev t = tt
new_goal targets.NextOnOutput t = tt
new_goal targets.PrevOnOutput t = tt
new_goal targets.BackAndForth t = new_before t.previous t
new_goal (targets.Number n) t = new_numbered n (num n) t
new_goal (targets.Named n) t = new_named n t
new_goal targets.Current t = tt

-- ---- workspaces of a name, counted

-- one where the node is a workspace of this name
abbrev pub spaces_called : List ℕ → NodeKind → ℕ
spaces_called n kind = cond (space_called n (space_kind kind)) 1 0

abbrev pub called_of : List ℕ → Part → ℕ
called_of n p = spaces_called n p.kind

row_counts : (n : List ℕ) (w : ConId) (row : Forest) → space_in_row n row ≡ Some w → 1 ≤ count (called_of n) row
row_counts n w end h = cc
row_counts n w (con part kids floats rest) h = step (space_called n (space_kind part.kind)) h (row_counts n w rest)
  where
    step : (b : Bool) → cond b (Some part.id) (space_in_row n rest) ≡ Some w → (space_in_row n rest ≡ Some w → 1 ≤ count (called_of n) rest)
        → 1 ≤ cond b 1 0 + count (called_of n) kids + count (called_of n) floats + count (called_of n) rest
    step true h ih = omega arith
    step false h ih = omega (arith, ih h)

outs_count : (n : List ℕ) (w : ConId) (row : Forest) → space_on n row ≡ Some w → 1 ≤ count (called_of n) row
outs_count n w end h = cc
outs_count n w (con part kids floats rest) h = step (space_in_row n kids) refl h (outs_count n w rest)
  where
    step : (o : Option ConId) → space_in_row n kids ≡ o → option_or o (space_on n rest) ≡ Some w → (space_on n rest ≡ Some w → 1 ≤ count (called_of n) rest) → 1 ≤ count (called_of n) (con part kids floats rest)
    step None e h ih = omega (arith, ih h)
    step (Some v) e h ih = omega (arith, row_counts n v kids e)

kids_most : (m : Part → ℕ) (f : Forest) → count m (first_kids f) ≤ count m f
kids_most m end = omega arith
kids_most m (con part kids floats rest) = omega arith

-- a name by which a workspace is found is counted
pub named_counts : (n : List ℕ) (w : ConId) (t : TreeValue) → space_named n t ≡ Some w → 1 ≤ count (called_of n) t.nodes
named_counts n w t h = omega (arith, outs_count n w (first_kids t.nodes) h, kids_most (called_of n) t.nodes)

-- ---- there are fewer workspaces than numbers that are tried

-- how often a node has one of the n numbers from k on as its name
abbrev hits : ℕ → ℕ → NodeKind → ℕ
hits zero k kind = 0
hits (suc n) k kind = spaces_called (decimal k) kind + hits n (k + 1) kind

small : (k : ℕ) → k ≤ 1000 → k < 2 ^ 64
small k h = omega (arith, h)

-- a number that is the name, and the others are not
no_hits : (n k j : ℕ) (s : SpacePart) → s.name ≡ decimal j → j < k → k + n ≤ 1000 → hits n k (Space s) ≡ 0
no_hits zero k j s e less most = refl
no_hits (suc n) k j s e less most = step (space_called (decimal k) (Some s)) refl (no_hits n (k + 1) j s e (omega (arith, less)) (omega (arith, most)))
  where
    step : (b : Bool) → space_called (decimal k) (Some s) ≡ b → hits n (k + 1) (Space s) ≡ 0 → cond b 1 0 + hits n (k + 1) (Space s) ≡ 0
    step false h none = omega (arith, none)
    step true h none =
        let one : s.name ≡ decimal k = (bytes_eq-Decides s.name (decimal k)).0 h in
        let same : j ≡ k = decimal_injective j k (small j (omega (arith, less, most))) (small k (omega (arith, most))) (sym e ∙ one) in
        absurd (omega (arith, same, less))

space_hits : (n k : ℕ) (s : SpacePart) → k + n ≤ 1000 → hits n k (Space s) ≤ 1
space_hits zero k s most = omega arith
space_hits (suc n) k s most = step (space_called (decimal k) (Some s)) refl (space_hits n (k + 1) s (omega (arith, most)))
  where
    step : (b : Bool) → space_called (decimal k) (Some s) ≡ b → hits n (k + 1) (Space s) ≤ 1 → cond b 1 0 + hits n (k + 1) (Space s) ≤ 1
    step false h less = omega (arith, less)
    step true h less =
        let none : hits n (k + 1) (Space s) ≡ 0 = no_hits n (k + 1) k s ((bytes_eq-Decides s.name (decimal k)).0 h) (omega arith) (omega (arith, most)) in
        omega (arith, none)

no_space_hits : (n k : ℕ) (kind : NodeKind) → space_kind kind ≡ None → hits n k kind ≡ 0
no_space_hits zero k kind e = refl
no_space_hits (suc n) k kind e = rw e (omega (arith, no_space_hits n (k + 1) kind e))

kind_hits : (n k : ℕ) (kind : NodeKind) → k + n ≤ 1000 → hits n k kind ≤ one_space kind
kind_hits n k (Root c) most = omega (arith, no_space_hits n k (Root c) refl)
kind_hits n k (Output o) most = omega (arith, no_space_hits n k (Output o) refl)
kind_hits n k (Space s) most = space_hits n k s most
kind_hits n k (Con c) most = omega (arith, no_space_hits n k (Con c) refl)

abbrev hits_of : ℕ → ℕ → Part → ℕ
hits_of n k p = hits n k p.kind

hits_most : (n k : ℕ) (f : Forest) → k + n ≤ 1000 → count (hits_of n k) f ≤ space_count f
hits_most n k end most = omega arith
hits_most n k (con part kids floats rest) most = omega (arith, kind_hits n k part.kind most, hits_most n k kids most, hits_most n k floats most, hits_most n k rest most)

hits_more : (n k : ℕ) (f : Forest) → count (hits_of (suc n) k) f ≡ count (called_of (decimal k)) f + count (hits_of n (k + 1)) f
hits_more n k end = refl
hits_more n k (con part kids floats rest) = omega (arith, hits_more n k kids, hits_more n k floats, hits_more n k rest)

-- the number that is found is free, or all that were tried are names
tried : (n k : ℕ) (t : TreeValue) → (space_named (decimal (free_from n k t)) t ≡ None) ⊎ (n + 1 ≤ count (hits_of (suc n) k) t.nodes)
tried zero k t = step (space_named (decimal k) t) refl
  where
    step : (o : Option ConId) → space_named (decimal k) t ≡ o → (space_named (decimal k) t ≡ None) ⊎ (1 ≤ count (hits_of 1 k) t.nodes)
    step None e = inl e
    step (Some w) e = inr (omega (arith, named_counts (decimal k) w t e, hits_more 0 k t.nodes))
tried (suc n) k t = step (space_named (decimal k) t) refl (tried n (k + 1) t)
  where
    step : (o : Option ConId) → space_named (decimal k) t ≡ o → (space_named (decimal (free_from n (k + 1) t)) t ≡ None) ⊎ (n + 1 ≤ count (hits_of (suc n) (k + 1)) t.nodes)
        → (space_named (decimal (cond (is_some o) (free_from n (k + 1) t) k)) t ≡ None) ⊎ (suc n + 1 ≤ count (hits_of (suc (suc n)) k) t.nodes)
    step None e ih = inl e
    step (Some w) e (inl h) = inl h
    step (Some w) e (inr h) = inr (omega (arith, h, named_counts (decimal k) w t e, hits_more (suc n) k t.nodes))

-- the number that a new workspace gets is the name of no other one
pub new_name_free : (t : TreeValue) → IsSound t → space_named (free_name t) t ≡ None
new_name_free t s = step (tried 256 1 t)
  where
    step : (space_named (decimal (free_from 256 1 t)) t ≡ None) ⊎ (257 ≤ count (hits_of 257 1) t.nodes) → space_named (free_name t) t ≡ None
    step (inl h) = h
    step (inr h) = absurd (omega (arith, h, hits_most 257 1 t.nodes (omega arith), s.few_spaces))
