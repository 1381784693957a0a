-- What a layout alone may have, and which containers are fit for a tree.
use Rattle.std.specs.Prelude.{ℕ, Bool, true, ◌&&◌, ◌||◌, nat_le, nat_lt, if◌then◌else◌, List, [], ◌∷◌, ◌++◌, length, Option, Some, None, Ok, Err}
use Rattle.std.specs.List.{flat_map, list_all, list_any}
use Rattle.std.specs.Str.{bytes_eq}
use Rattle.serde_json.specs.Data.{Data}
use Rattle.wm_base.specs.declared.errors.Limit.{Limit}
use Rattle.wm_base.specs.declared.errors.Limit.TheVariants.{Children, Containers, Depth, Marks}
use Rattle.wm_base.specs.declared.plan.Border.{Border}
use Rattle.wm_base.specs.declared.plan.Border.TheVariants.{Bare, Normal, Pixel}
use Rattle.wm_saved.specs.Answers.{Answer, ◌>>=◌}
use Rattle.wm_saved.specs.Containers.{Own, containers, levels}
use Rattle.wm_saved.specs.Fields.{is_fit_mark}
use Rattle.wm_saved.specs.Reading.{trees_at}
use Rattle.wm_saved.specs.declared.refusal.LayoutRefusal.TheVariants.{Full}
use Rattle.wm_saved.specs.declared.saved.SavedLayout.{SavedLayout}
use Rattle.wm_saved.specs.declared.saved.SavedNode.{SavedNode}

-- a mark that is held already is not added again
abbrev pub with_mark : List (List ℕ) → List ℕ → List (List ℕ)
with_mark held m = if list_any (bytes_eq m) held then held else held ++ m ∷ []

-- marks that are added one after another
abbrev pub with_marks : List (List ℕ) → List (List ℕ) → List (List ℕ)
with_marks held [] = held
with_marks held (m ∷ ms) = with_marks (with_mark held m) ms

-- how many different marks these are
abbrev pub different : List (List ℕ) → ℕ
different ms = length (with_marks [] ms)

-- the marks of all containers of these trees
abbrev pub all_marks : List SavedNode → List (List ℕ)
all_marks trees = flat_map (λ o. o.marks) (containers trees)

abbrev pub is_wide_own : Own → Bool
is_wide_own o = nat_lt 256 o.children

-- a container, or the workspace, has more than 256 children
abbrev pub is_wide : List SavedNode → Bool
is_wide trees = list_any is_wide_own (containers trees) || nat_lt 256 (length trees)

abbrev pub is_crowded_own : Own → Bool
is_crowded_own o = nat_lt 32 (different o.marks)

-- a container has more than 32 different marks
abbrev pub is_crowded : List SavedNode → Bool
is_crowded trees = list_any is_crowded_own (containers trees)

-- a container, or all of them together, has too many marks
abbrev pub has_many_marks : List SavedNode → Bool
has_many_marks trees = is_crowded trees || nat_lt 1024 (different (all_marks trees))

-- the first limit that these trees pass on an empty workspace, where nothing else is: 4,096 containers, 256 children of one, 32 levels, 32 marks of one and 1,024 in all
abbrev pub passed : List SavedNode → Option Limit
passed trees =
    if nat_lt 4096 (length (containers trees)) then Some Containers
    else if is_wide trees then Some Children
    else if nat_lt 32 (levels trees) then Some Depth
    else if has_many_marks trees then Some Marks
    else None

-- the layout of trees that pass no limit
abbrev pub limited : List SavedNode → Option Limit → Answer SavedLayout
limited trees None = Ok (record { trees = trees })
limited trees (Some limit) = Err (Full limit)

-- what reading a layout file answers: its first fault, else the first limit that it passes, else the layout
abbrev pub layout_at : Data → Answer SavedLayout
layout_at d = trees_at [] d >>= λ trees. limited trees (passed trees)

-- ---- fit

-- a border is at most 64 pixels wide
abbrev pub is_fit_border : Border → Bool
is_fit_border (Normal n) = nat_le n 64
is_fit_border (Pixel n) = nat_le n 64
is_fit_border Bare = true

abbrev pub is_fit_with : Border → List (List ℕ) → Bool
is_fit_with border marks = is_fit_border border && list_all is_fit_mark marks

abbrev pub is_fit_own : Own → Bool
is_fit_own o = is_fit_with o.border o.marks

-- each border is at most 64 pixels wide, and each mark has 1 to 256 bytes
abbrev pub are_fit : List SavedNode → Bool
are_fit trees = list_all is_fit_own (containers trees)

abbrev pub is_fit : SavedLayout → Bool
is_fit l = are_fit l.trees
