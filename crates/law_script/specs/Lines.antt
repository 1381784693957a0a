-- What a line of a script says, a case each.
use Rattle.std.specs.Prelude.{◌≡◌, ℕ, ◌⊎◌, List, [], ◌∷◌, ◌++◌, codes}
use Rattle.std.specs.List.{AllByRecursion}
use Rattle.std.specs.Str.{IsUtf8}
use Rattle.wm_script.specs.declared.said.Said.{Said}
use Rattle.wm_script.specs.declared.said.Said.TheVariants.{Nothing, Version, Output, Border, Inner, Outer, Mode, Bind, Layout, Does}
use Rattle.law_script.specs.Deeds.{SaysLine}
use Rattle.law_script.specs.Pieces.{AreWords}
use Rattle.law_script.specs.PlanLines.{SaysBind, SaysBorder, SaysInner, SaysLayout, SaysMode, SaysOuter, SaysPlanned}

-- a comment: `#` and anything
pub record IsComment (text : List ℕ) : Type 0 where
  pub remark : List ℕ
  pub whole : text ≡ codes "#" ++ remark

-- a line that says this, but for its UTF-8
abbrev pub SaysSo : List ℕ → Said → Type 0
SaysSo text Nothing = AllByRecursion (λ c. c ≡ 32) text ⊎ IsComment text
SaysSo text Version = AreWords (codes "version" ∷ codes "1" ∷ []) text
SaysSo text (Output o) = SaysPlanned text o
SaysSo text (Border b) = SaysBorder text b
SaysSo text (Inner n) = SaysInner text n
SaysSo text (Outer n) = SaysOuter text n
SaysSo text (Mode name) = SaysMode text name
SaysSo text (Bind mode chord command) = SaysBind text mode chord command
SaysSo text (Layout name layout) = SaysLayout text name layout
SaysSo text (Does line) = SaysLine text line

-- the text is in UTF-8, and a line that says this
pub record Says (text : List ℕ) (said : Said) : Type 0 where
  pub utf8 : IsUtf8 text
  pub so : SaysSo text said
