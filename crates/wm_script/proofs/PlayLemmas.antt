-- The lines of a script can be played.
use Rattle.std.proofs.Common.{List, [], ◌∷◌, Some, arith}
use Rattle.std.specs.List.{AllByRecursion}
use Rattle.wm_binds.specs.declared.config.Bind.{Bind}
use Rattle.wm_history.specs.declared.step.Step.{Step}
use Rattle.wm_history.specs.declared.step.Step.TheVariants.{Map}
use Rattle.wm_lines.specs.Lines as lines
use Rattle.wm_script.specs.Lines.{IsFitDeed}
use Rattle.wm_script.specs.Playing.{IsFitAnew, IsPlayable, IsShort}
use Rattle.wm_script.specs.Script.{IsFitBind}
use Rattle.wm_script.specs.declared.line.Deed.{Deed}
use Rattle.wm_script.specs.declared.line.Deed.TheVariants as deed

anew : (s : Step) → lines.IsFitLine s → IsFitAnew s
anew (Map props buffer (Some text)) fit = absurd fit
anew other fit = fit

-- the lines of a script can be played
pub playable : (d : Deed) → IsFitDeed d → IsPlayable d
playable (deed.Run text) fit = omega (arith, fit)
playable (deed.Do s) fit = anew s fit
playable other fit = tt

-- so can its bindings
pub short_binds : (binds : List Bind) → AllByRecursion IsFitBind binds → AllByRecursion IsShort binds
short_binds [] fit = tt
short_binds (b ∷ binds) fit = (omega (arith, fit.0), short_binds binds fit.1)
