-- What playing a line on a desk promises.
use Rattle.std.specs.Prelude.{◌≡◌, ℕ, ◌<◌, ◌^◌, List, [], ◌∷◌, length, Option, None, Some, Result, Ok, Err, IsTrue, is_some, option_and_then}
use Rattle.std.specs.Option.{option_to_list}
use Rattle.wm_binds.specs.declared.config.Bind.{Bind}
use Rattle.wm_core.specs.DeskValue.{DeskValue, Stands}
use Rattle.wm_history.specs.History.{Entry, History, answer, opening_of}
use Rattle.wm_history.specs.Sizes.{IsFitStep}
use Rattle.wm_history.specs.declared.step.Step.{Step}
use Rattle.wm_history.specs.declared.step.Step.TheVariants as step
use Rattle.wm_criteria.specs.Building.{Grew, Log}
use Rattle.wm_criteria.specs.declared.verdict.Verdict.{Verdict}
use Rattle.wm_criteria.specs.declared.verdict.Verdict.TheVariants.{PatternRefused}
use Rattle.wm_lines.specs.Told.{answer_text}
use Rattle.wm_criteria.specs.Patterns.{pattern_at, unless_plain}
use Rattle.wm_layouts.specs.Sizes.{IsFitSize}
use Rattle.wm_script.specs.Out.{after_effect, effect_text, effect_with, text_run}
use Rattle.wm_script.specs.declared.line.Deed.{Deed}
use Rattle.wm_script.specs.declared.line.Deed.TheVariants as deed
use Rattle.wm_script.specs.declared.line.Line.{Line}
use Rattle.wm_script.specs.declared.playing.Played.{Played}

-- ---- what a caller owes

-- a step is as a desk takes it, but the text that a window brings may have no patterns yet
abbrev pub IsFitAnew : Step → Type 0
IsFitAnew (step.Map props buffer (Some p)) = IsFitSize buffer.size × (length p.text < 2 ^ 32)
IsFitAnew other = IsFitStep other

-- texts that are prepared are short enough for that
abbrev pub IsPlayable : Deed → Type 0
IsPlayable (deed.Run text) = length text < 2 ^ 32
IsPlayable (deed.Do s) = IsFitAnew s
IsPlayable other = Unit {0}

abbrev pub IsShort : Bind → Type 0
IsShort bind = length bind.text < 2 ^ 32

-- ---- refusals

-- the pattern of a text, where there is a text
abbrev pub pattern_of : Option (List ℕ) → ℕ → Option (List ℕ)
pattern_of text k = option_and_then (λ t. pattern_at t k) text

-- between two logs of a build this pattern of the text was refused, which is not plain; or nothing was
abbrev pub IsRefusal : Option (List ℕ) → Option ℕ → Log → Log → Type 0
IsRefusal text None old new = Grew old new []
IsRefusal text (Some k) old new = IsTrue (is_some (unless_plain (pattern_of text k))) × Grew old new (option_to_list (pattern_of text k))

-- the pattern that a play names was refused; where it ended with an error, one may have been that it cannot name
abbrev pub Refuses : {E : Type 0} → Option (List ℕ) → Result Played E → Log → Log → Type 0
Refuses text (Ok p) old new = IsRefusal text p.refused old new
Refuses text (Err e) old new = (refusal : Option ℕ) × IsRefusal text refusal old new

-- ---- one step, and one line

-- after each history for which the desk stood, this is the answer to the entry, and the desk stands for the entry too
abbrev pub Tells : DeskValue → DeskValue → Entry → List ℕ → Type 0
Tells old new entry text = (history : History) → Stands old history → Stands new (entry ∷ history) × (text ≡ answer_text (answer (opening_of old.plan) history entry))

-- after a history for which the desk stood, a line writes what the definition says, and the desk stands for what it leaves,
-- where this pattern of its text was refused, or none
pub record TellsAfter (old new : DeskValue) (binds : List Bind) (line : Line) (refusal : Option ℕ) (history : History) (text : List ℕ) : Type 0 where
  pub told : text ≡ effect_text (opening_of old.plan) history (effect_with (opening_of old.plan) binds line.who refusal history line.deed)
  pub stands : Stands new (after_effect (effect_with (opening_of old.plan) binds line.who refusal history line.deed) history)

-- so it is after each such history
abbrev pub TellsLine : DeskValue → DeskValue → List Bind → Line → Option ℕ → List ℕ → Type 0
TellsLine old new binds line refusal text = (history : History) → Stands old history → TellsAfter old new binds line refusal history text

abbrev pub Plays : DeskValue → DeskValue → List Bind → Line → Played → Type 0
Plays old new binds line p = TellsLine old new binds line p.refused p.text

-- the text of the line after each history for which the desk stood was refused so
abbrev pub RefusesIn : {E : Type 0} → DeskValue → List Bind → Line → Result Played E → Log → Log → Type 0
RefusesIn desk binds line r old new = (history : History) → Stands desk history → Refuses (text_run (opening_of desk.plan) binds history line.deed) r old new

-- the pattern that the verdict says was refused
abbrev pub pattern_in : Verdict → Option ℕ
pattern_in (PatternRefused n) = Some n
pattern_in other = None
