-- What holds of each node of a forest.
use Rattle.std.specs.Prelude.{ℕ, List, Option}
use Rattle.wm_base.specs.declared.geometry.Rect.{Rect}
use Rattle.wm_forest.specs.declared.part.Part.{Part}
use Rattle.wm_forest.specs.Change.{placed, unfull_kind}
use Rattle.wm_forest.specs.Forest.{Forest, end, con}

-- Q holds of each node of the forest
abbrev pub Each : (Part → Type 0) → Forest → Type 0
Each Q end = Unit {0}
Each Q (con part kids floats rest) = Q part × Each Q kids × Each Q floats × Each Q rest

-- what holds of a node whatever its marks, its share, its rectangle, and also when it is fullscreen no longer
pub record IsLoose (Q : Part → Type 0) : Type 0 where
  pub unfulled : (p : Part) → Q p → Q (record p { kind = unfull_kind p.kind })
  pub placed : (share : ℕ) (rect : Option Rect) (p : Part) → Q p → Q (record p { kind = placed share rect p.kind })
  pub remarked : (marks : List (List ℕ)) (p : Part) → Q p → Q (record p { marks = marks })
