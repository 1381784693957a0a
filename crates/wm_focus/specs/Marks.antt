-- Giving marks to containers and taking them off.
use Rattle.std.specs.Prelude.{ℕ, Bool, ◌&&◌, not, nat_lt, nat_le, if◌then◌else◌, List, [], length, Option, None, Some}
use Rattle.wm_base.specs.declared.errors.ErrorText.TheVariants as texts
use Rattle.wm_base.specs.declared.errors.Limit.TheVariants as limits
use Rattle.wm_base.specs.declared.errors.Refusal.{Refusal}
use Rattle.wm_base.specs.declared.errors.Refusal.TheVariants.{Full}
use Rattle.wm_base.specs.declared.ids.ConId.{ConId}
use Rattle.wm_shared.specs.Refusing.{error_if}
use Rattle.wm_shared.specs.Subject.{is_space}
use Rattle.wm_forest.specs.Forest.{Forest}
use Rattle.wm_tree.specs.Move.{is_full_of_marks, unmarked, with_marks}
pub use Rattle.wm_tree.specs.Marks.{bare, bearer, bears, cleared, freed, given_mark, is_marked, kept_marks, part_off, taken_off, that_mark, with_mark}
use Rattle.wm_tree.specs.TreeValue.{TreeValue}

-- the first container, depth first, that has the mark
abbrev pub holder_of : List ℕ → TreeValue → Option ConId
holder_of n t = bearer None n t.nodes

-- ---- taking off

-- that mark off one container, or all marks
abbrev pub unmark_one : ConId → Option (List ℕ) → TreeValue → TreeValue
unmark_one c None t = with_marks c [] t
unmark_one c (Some n) t = unmarked c n t

-- that mark off all containers, or all marks
abbrev pub unmark_all : Option (List ℕ) → TreeValue → TreeValue
unmark_all None t = record t { nodes = bare t.nodes }
unmark_all (Some n) t = record t { nodes = taken_off None n t.nodes }

abbrev pub unmark_tree : Option ConId → Option (List ℕ) → TreeValue → TreeValue
unmark_tree None n t = unmark_all n t
unmark_tree (Some c) n t = unmark_one c n t

-- ---- giving

-- a mark has 1 to 256 bytes
abbrev pub is_mark : List ℕ → Bool
is_mark n = nat_lt 0 (length n) && nat_le (length n) 256

-- a limit would be passed by one more mark of c
abbrev pub full_of_marks : ConId → Forest → Option Refusal
full_of_marks c forest = if is_full_of_marks c forest then Some (Full limits.Marks) else None

-- a new mark passes no limit after others are taken off
abbrev pub give_refusal : ConId → List ℕ → Bool → TreeValue → Option Refusal
give_refusal c n add t = if is_marked c n t then None else full_of_marks c (cleared c n add t).nodes

-- a workspace has no marks
abbrev pub mark_refusal : ConId → List ℕ → Bool → Bool → TreeValue → Option Refusal
mark_refusal c n add toggle t =
    error_if (is_space t c) texts.AtWorkspace (error_if (not (is_mark n)) texts.OutOfRange (give_refusal c n add t))

-- with `toggle` the mark is taken off where c has it
abbrev pub mark_tree : ConId → List ℕ → Bool → Bool → TreeValue → TreeValue
mark_tree c n add toggle t = if toggle && is_marked c n t then unmarked c n t else given_mark c n add t

-- taking marks off is never refused
abbrev pub unmark_refusal : Option ConId → Option (List ℕ) → TreeValue → Option Refusal
unmark_refusal c n t = None
