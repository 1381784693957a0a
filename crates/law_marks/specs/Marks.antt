-- How often a mark is on the containers of a tree, and that none is there twice.
use Rattle.std.specs.Prelude.{ℕ, ◌+◌, ◌≤◌, if◌then◌else◌, List, [], ◌∷◌}
use Rattle.std.specs.Str.{bytes_eq}
use Rattle.wm_forest.specs.Counts.{count}
use Rattle.wm_forest.specs.declared.part.Part.{Part}
use Rattle.wm_tree.specs.TreeValue.{TreeValue}

-- how often this one is among the marks
abbrev pub mark_times : List ℕ → List (List ℕ) → ℕ
mark_times n [] = 0
mark_times n (m ∷ ms) = (if bytes_eq m n then 1 else 0) + mark_times n ms

-- how often a node has the mark
abbrev pub times_on : List ℕ → Part → ℕ
times_on n p = mark_times n p.marks

-- no mark is on two containers, nor twice on one
abbrev pub MarksDiffer : TreeValue → Type 0
MarksDiffer t = (n : List ℕ) → count (times_on n) t.nodes ≤ 1
