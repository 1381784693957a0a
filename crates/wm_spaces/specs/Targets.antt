-- The workspace that a command names, and the output on which a new one is made.
use Rattle.std.specs.Prelude.{◌≡◌, ℕ, Bool, true, false, if◌then◌else◌, List, [], ◌∷◌, Option, None, Some, option_and_then}
use Rattle.std.specs.Option.{option_or}
use Rattle.std.specs.Str.{bytes_eq}
use Rattle.wm_base.specs.declared.errors.ErrorText.TheVariants as texts
use Rattle.wm_base.specs.declared.ids.ConId.{ConId}
use Rattle.wm_language.specs.declared.arguments.Target.{Target}
use Rattle.wm_language.specs.declared.arguments.Target.TheVariants as targets
use Rattle.wm_shared.specs.declared.keys.Key.{Key}
use Rattle.wm_shared.specs.Subject.{is_space}
use Rattle.wm_spaces.specs.declared.order.Pick.{Pick}
use Rattle.wm_spaces.specs.declared.order.Pick.TheVariants as picking
use Rattle.wm_spaces.specs.declared.targets.Goal.{Goal}
use Rattle.wm_spaces.specs.declared.targets.Goal.TheVariants.{There, Absent, Refused}
use Rattle.wm_spaces.specs.Names.{is_reserved, output_named, space_named}
use Rattle.wm_spaces.specs.Order.{best_on, best_with, keys_in, num, space_key}
use Rattle.wm_forest.specs.declared.part.SpacePart.{SpacePart}
use Rattle.wm_forest.specs.Forest.{Forest}
use Rattle.wm_forest.specs.Look.{first_kids, kind_of, node_in, space_kind}
use Rattle.wm_tree.specs.TreeValue.{TreeValue, current, or_id, shown}

-- ---- the output of a new workspace

-- the output's name that the first home of this name has
abbrev pub home_name : List ℕ → List (List ℕ × List ℕ) → Option (List ℕ)
home_name n [] = None
home_name n (h ∷ hs) = if bytes_eq h.0 n then Some h.1 else home_name n hs

abbrev pub called : TreeValue → List ℕ → Option ConId
called t n = output_named n t

-- the output that the homes give a name, if it is there, else the current one
abbrev pub home : List ℕ → List (List ℕ × List ℕ) → TreeValue → ConId
home n homes t = or_id (option_and_then (called t) (home_name n homes)) (current t)

-- ---- names

abbrev pub by_name : List ℕ → Option ConId → Goal
by_name n None = Absent n
by_name n (Some w) = There w

-- the workspace of a name that is not reserved
abbrev pub goal_named : List ℕ → TreeValue → Goal
goal_named n t = if is_reserved n then Refused texts.NameReserved else by_name n (space_named n t)

-- ---- neighbours in the order

abbrev pub own_key : ConId → Option SpacePart → Key
own_key w None = record { first = 0; id = w }
own_key w (Some s) = space_key w s.name

-- the place of the focused workspace in the order
abbrev pub focused_key : TreeValue → Key
focused_key t = own_key (shown t) (kind_of space_kind (shown t) t.nodes)

-- those on the other side of one, going back or on
abbrev pub past : Bool → Key → Pick
past true k = picking.Ahead k
past false k = picking.Behind k

-- the workspaces on the output p
abbrev pub spaces_of : ConId → TreeValue → Forest
spaces_of p t = first_kids (node_in p (first_kids t.nodes))

-- the last or first of the current output's workspaces (`here`), or of all
abbrev pub best_at : Bool → Bool → Pick → TreeValue → Option Key
best_at true back p t = best_with back (keys_in p (spaces_of (current t) t)) None
best_at false back p t = best_on back p (first_kids t.nodes)

abbrev pub key_id : Option Key → ConId → ConId
key_id None w = w
key_id (Some k) w = k.id

-- the neighbour of the focused workspace in the order, from the end to the other end
abbrev pub neighbour : Bool → Bool → TreeValue → ConId
neighbour here back t = key_id (option_or (best_at here back (past back (focused_key t)) t) (best_at here back picking.All t)) (shown t)

-- ---- the workspace of a target

abbrev pub by_number : List ℕ → Option Key → TreeValue → Goal
by_number n None t = goal_named n t
by_number n (Some k) t = There k.id

-- the first workspace of the number with which the text begins, else the one that has the text as its name
abbrev pub numbered : List ℕ → Option ℕ → TreeValue → Goal
numbered n None t = goal_named n t
numbered n (Some k) t = by_number n (best_on false (picking.Numbered k) (first_kids t.nodes)) t

abbrev pub before : Option (List ℕ) → TreeValue → Goal
before None t = Refused texts.NoPrevious
before (Some n) t = goal_named n t

abbrev pub goal_of : Target → TreeValue → Goal
goal_of targets.Next t = There (neighbour false false t)
goal_of targets.Prev t = There (neighbour false true t)
goal_of targets.NextOnOutput t = There (neighbour true false t)
goal_of targets.PrevOnOutput t = There (neighbour true true t)
goal_of targets.BackAndForth t = before t.previous t
goal_of (targets.Number n) t = numbered n (num n) t
goal_of (targets.Named n) t = goal_named n t
goal_of targets.Current t = There (shown t)

-- a workspace that is there is one
abbrev pub IsGoal : Goal → TreeValue → Type 0
IsGoal (There w) t = is_space t w ≡ true
IsGoal (Absent n) t = Unit {0}
IsGoal (Refused text) t = Unit {0}
