-- The lines of the plan, a case each.
use Rattle.std.specs.Prelude.{◌≡◌, ℕ, ◌*◌, ◌≤◌, List, [], ◌∷◌, Some, codes, length}
use Rattle.wm_base.specs.declared.plan.Border.{Border}
use Rattle.wm_base.specs.declared.plan.Border.TheVariants as border
use Rattle.wm_base.specs.declared.plan.OutputPlan.{OutputPlan}
use Rattle.wm_binds.specs.Lines.{layout_of}
use Rattle.wm_saved.specs.declared.saved.SavedLayout.{SavedLayout}
use Rattle.law_script.specs.Pieces.{AreWords, BeginsWithout, IsName, IsNumber}
use Rattle.law_script.specs.Steps.{SaysOutput}

-- `output NAME X,Y WxH`: no side is 0, and the area is at most 33,554,432 pixels
pub record SaysPlanned (text : List ℕ) (o : OutputPlan) : Type 0 where
  pub output : SaysOutput (codes "output") text o
  pub wide : 1 ≤ o.rect.w
  pub high : 1 ≤ o.rect.h
  pub area : o.rect.w * o.rect.h ≤ 33554432

-- two words and a number of at most `most`
pub record SaysSet (first second : List ℕ) (most : ℕ) (text : List ℕ) (n : ℕ) : Type 0 where
  pub number : List ℕ
  pub words : AreWords (first ∷ second ∷ number ∷ []) text
  pub is_number : IsNumber most number n

-- `border none`, `border pixel N` and `border normal N`, of at most 64 pixels
abbrev pub SaysBorder : List ℕ → Border → Type 0
SaysBorder text border.Bare = AreWords (codes "border" ∷ codes "none" ∷ []) text
SaysBorder text (border.Pixel n) = SaysSet (codes "border") (codes "pixel") 64 text n
SaysBorder text (border.Normal n) = SaysSet (codes "border") (codes "normal") 64 text n

-- `gaps inner N`, of at most 1,000 pixels
abbrev pub SaysInner : List ℕ → ℕ → Type 0
SaysInner text n = SaysSet (codes "gaps") (codes "inner") 1000 text n

-- `gaps outer N`, of at most 1,000 pixels
abbrev pub SaysOuter : List ℕ → ℕ → Type 0
SaysOuter text n = SaysSet (codes "gaps") (codes "outer") 1000 text n

-- `mode NAME`
pub record SaysMode (text said : List ℕ) : Type 0 where
  pub name : List ℕ
  pub words : AreWords (codes "mode" ∷ name ∷ []) text
  pub is_name : IsName name said

-- `bind MODE CHORD COMMAND`, where COMMAND is the rest of the line, and not empty
pub record SaysBind (text mode chord command : List ℕ) : Type 0 where
  pub mode_name : List ℕ
  pub chord_name : List ℕ
  pub words : AreWords (codes "bind" ∷ mode_name ∷ chord_name ∷ command ∷ []) text
  pub is_mode : IsName mode_name mode
  pub is_chord : IsName chord_name chord
  pub some : 1 ≤ length command
  pub begins : BeginsWithout 32 command

-- `layout NAME JSON`, where JSON is the rest of the line, and describes the layout
pub record SaysLayout (text said : List ℕ) (layout : SavedLayout) : Type 0 where
  pub name : List ℕ
  pub json : List ℕ
  pub words : AreWords (codes "layout" ∷ name ∷ json ∷ []) text
  pub is_name : IsName name said
  pub begins : BeginsWithout 32 json
  pub is_layout : layout_of json ≡ Some layout
