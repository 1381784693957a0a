-- The steps of lines are as a desk takes them.
use Rattle.std.proofs.Common.{None, Some}
use Rattle.wm_history.specs.Sizes.{IsFitStep}
use Rattle.wm_history.specs.declared.step.Step.{Step}
use Rattle.wm_history.specs.declared.step.Step.TheVariants.{Map}
use Rattle.wm_lines.specs.Lines.{IsFitLine}

pub fit_step : (s : Step) → IsFitLine s → IsFitStep s
fit_step (Map props buffer None) fit = fit
fit_step (Map props buffer (Some text)) fit = absurd fit
fit_step other fit = fit
