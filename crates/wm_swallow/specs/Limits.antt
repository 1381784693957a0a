-- The limits that appending a saved layout may pass, and why it is refused.
use Rattle.std.specs.Prelude.{◌≡◌, ◌≢◌, ℕ, ◌+◌, Bool, true, false, ◌||◌, not, nat_lt, if◌then◌else◌, List, [], ◌∷◌, Option, None, Some, is_some}
use Rattle.std.specs.List.{list_all}
use Rattle.std.specs.Option.{option_or}
use Rattle.wm_base.specs.declared.errors.Limit.{Limit}
use Rattle.wm_base.specs.declared.errors.Limit.TheVariants.{Containers, Children, Depth, Marks, Ids}
use Rattle.wm_base.specs.declared.ids.ConId.{ConId}
use Rattle.wm_focus.specs.Marks.{bearer, bears, is_mark}
use Rattle.wm_forest.specs.Counts.{con_count, mark_count, row_length}
use Rattle.wm_forest.specs.Forest.{Forest}
use Rattle.wm_forest.specs.Look.{first_kids, has, kind_of, only, space_kind}
use Rattle.wm_swallow.specs.SavedRows.{Saved, none, saved, all_marks, fits, is_wide, row_size, size}
use Rattle.wm_tree.specs.declared.refusal.TreeRefusal.{TreeRefusal}
use Rattle.wm_tree.specs.declared.refusal.TreeRefusal.TheVariants as refusals
use Rattle.wm_tree.specs.TreeValue.{TreeValue}

-- some container has the mark
abbrev pub is_held : Forest → List ℕ → Bool
is_held f m = is_some (bearer None m f)

-- how many different marks there are that are not known
abbrev pub different : (List ℕ → Bool) → List (List ℕ) → ℕ
different known [] = 0
different known (m ∷ ms) = (if bears m ms || known m then 0 else 1) + different known ms

-- some container has more than 32 different marks
abbrev pub is_overmarked : Saved → Bool
is_overmarked none = false
is_overmarked (saved border marks newcomer kids rest) = nat_lt 32 (different (λ m. false) marks) || is_overmarked kids || is_overmarked rest

-- the first of the limits on containers that the row would pass last in a row of such children of a workspace
abbrev pub passed_in : Forest → Saved → TreeValue → Option Limit
passed_in kids row t =
    if nat_lt 4096 (con_count t.nodes + size row) then Some Containers
    else if nat_lt 256 (row_length kids + row_size row) || is_wide row then Some Children
    else if not (fits 32 row) then Some Depth
    else None

-- the first of these limits that appending the row to the workspace w would pass
abbrev pub passed_by_containers : ConId → Saved → TreeValue → Option Limit
passed_by_containers w row t = passed_in (first_kids (only w t.nodes)) row t

-- the first of the limits on marks and ids that it would pass
abbrev pub passed_by_marks : Saved → TreeValue → Option Limit
passed_by_marks row t =
    if is_overmarked row || nat_lt 1024 (mark_count t.nodes + different (is_held t.nodes) (all_marks row)) then Some Marks
    else if nat_lt 4000000001 (t.next_id + size row) then Some Ids
    else None

-- the first limit that it would pass
abbrev pub passed_by_append : ConId → Saved → TreeValue → Option Limit
passed_by_append w row t = option_or (passed_by_containers w row t) (passed_by_marks row t)

-- why appending was refused
abbrev pub IsAppendCause : TreeValue → ConId → Saved → TreeRefusal → Type 0
IsAppendCause t w row (refusals.Missing c) = (c ≡ w) × (has w t.nodes ≡ false)
IsAppendCause t w row (refusals.Full limit) = (has w t.nodes ≡ true) × (passed_by_append w row t ≡ Some limit)
IsAppendCause t w row refusals.NoMemory = (has w t.nodes ≡ true) × (passed_by_append w row t ≡ None)

-- w is a workspace where it is there
abbrev pub IsSpaceThere : ConId → Forest → Type 0
IsSpaceThere w f = has w f ≡ true → kind_of space_kind w f ≢ None

-- each mark has 1 to 256 bytes
abbrev pub HasFitMarks : Saved → Type 0
HasFitMarks row = list_all is_mark (all_marks row) ≡ true
