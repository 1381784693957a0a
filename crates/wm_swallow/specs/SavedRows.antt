-- A saved layout as rows of the containers that come for it, and what is counted in them.
use Rattle.std.specs.Prelude.{ℕ, ◌+◌, ◌-◌, Bool, true, false, ◌&&◌, ◌||◌, nat_lt, List, [], ◌∷◌, ◌++◌}
use Rattle.wm_base.specs.declared.plan.Border.{Border}
use Rattle.wm_base.specs.declared.properties.Props.{Props}
use Rattle.wm_forest.specs.declared.place.NewCon.{NewCon}
use Rattle.wm_forest.specs.declared.place.NewCon.TheVariants as new
use Rattle.wm_saved.specs.declared.saved.SavedKind.{SavedKind, Split', Placeholder, Row_of-SavedNode, end_of-SavedNode, more_of-SavedNode}
use Rattle.wm_saved.specs.declared.saved.SavedNode.{SavedNode}

-- a row of saved containers: nothing, or its first container with the rest of the row behind it. A container has its
-- border, its marks, what comes for it, and the row of its children
pub data Saved : Type 0 where
  none : Saved
  saved : Border → List (List ℕ) → NewCon → Saved → Saved → Saved

-- the properties of a placeholder: this title, and nothing else
abbrev pub titled_only : List ℕ → Props
titled_only name = record { class = []; instance = []; role = []; kind = []; machine = []; title = name }

-- a split without children, or a placeholder whose title is its name
abbrev pub newcomer : SavedKind → NewCon
newcomer (Split' layout _ nodes) = new.Split layout
newcomer (Placeholder name swallows) = new.Placeholder (titled_only name) swallows

abbrev mutual
  -- the row of a kind's children
  pub row_below : SavedKind → Saved
  row_below (Split' layout _ nodes) = row_of nodes
  row_below (Placeholder name swallows) = none

  -- the row of a split's nodes
  pub row_of : {n : _} → Row_of-SavedNode n → Saved
  row_of end_of-SavedNode = none
  row_of (more_of-SavedNode border marks kind rest) = saved border marks (newcomer kind) (row_below kind) (row_of rest)

-- the row of a list of nodes
abbrev pub rows : List SavedNode → Saved
rows [] = none
rows (n ∷ ns) = saved n.border n.marks (newcomer n.kind) (row_below n.kind) (rows ns)

-- ---- what is counted

-- how many containers there are
abbrev pub size : Saved → ℕ
size none = 0
size (saved border marks newcomer kids rest) = 1 + size kids + size rest

-- how many containers a row has
abbrev pub row_size : Saved → ℕ
row_size none = 0
row_size (saved border marks newcomer kids rest) = 1 + row_size rest

-- some container has more than 256 children
abbrev pub is_wide : Saved → Bool
is_wide none = false
is_wide (saved border marks newcomer kids rest) = nat_lt 256 (row_size kids) || is_wide kids || is_wide rest

-- the row and what is below it have at most so many levels
abbrev pub fits : ℕ → Saved → Bool
fits levels none = true
fits levels (saved border marks newcomer kids rest) = nat_lt 0 levels && fits (levels - 1) kids && fits levels rest

-- the marks of all containers, depth first
abbrev pub all_marks : Saved → List (List ℕ)
all_marks none = []
all_marks (saved border marks newcomer kids rest) = marks ++ (all_marks kids ++ all_marks rest)
