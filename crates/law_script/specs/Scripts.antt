-- Scripts by what their lines say.
use Rattle.std.specs.Prelude.{◌≡◌, ℕ, ◌+◌, List, [], ◌∷◌, ◌++◌, length, None, Some}
use Rattle.wm_script.specs.Script.{at_first, script_of, with_said}
use Rattle.wm_script.specs.declared.reading.Reading.{Reading}
use Rattle.wm_script.specs.declared.said.Said.{Said}
use Rattle.wm_script.specs.declared.script.Script.{Script}
use Rattle.law_script.specs.Lines.{Says}

-- a line says something that may stand there, and something holds of what was read with it
pub record IsLineThen (before : Reading) (text : List ℕ) (Holds : Reading → Type 0) : Type 0 where
  pub said : Said
  pub next : Reading
  pub says : Says text said
  pub may : with_said before said ≡ Some next
  pub holds : Holds next

-- each of these lines says something that may stand there, and all of them come to this
abbrev pub AreLines : Reading → List (List ℕ) → Reading → Type 0
AreLines before [] after = before ≡ after
AreLines before (text ∷ texts) after = IsLineThen before text (λ next. AreLines next texts after)

-- the line is outside the grammar, or says what may not stand there
abbrev pub IsOutside : Reading → List ℕ → Type 0
IsOutside before text = (said : Said) → Says text said → with_said before said ≡ None

-- these lines are this script
pub record AreScript (texts : List (List ℕ)) (s : Script) : Type 0 where
  pub after : Reading
  pub lines : AreLines at_first texts after
  pub is : script_of after ≡ s

-- the line of this number, counted from 1, is the first of these that is outside the grammar, or says what may not stand there
pub record IsFirstOutside (texts : List (List ℕ)) (line : ℕ) : Type 0 where
  pub before : List (List ℕ)
  pub text : List ℕ
  pub later : List (List ℕ)
  pub whole : texts ≡ before ++ text ∷ later
  pub counted : line ≡ length before + 1
  pub reading : Reading
  pub lines : AreLines at_first before reading
  pub outside : IsOutside reading text
