-- The outputs of a sound plan are within the limits of a tree.
use Rattle.std.proofs.Common.{◌≡◌, List, [], ◌∷◌, subst, sym}
use Rattle.wm_base.specs.declared.plan.OutputPlan.{OutputPlan}
use Rattle.wm_layouts.specs.Plan.{FitOutputs}
use Rattle.wm_layouts.proofs.FitLemmas.{output_rect}
use Rattle.wm_tree.specs.Sound.{FitPlans}

fit_outputs : (outputs : List OutputPlan) → FitOutputs outputs → FitPlans outputs
fit_outputs [] h = tt
fit_outputs (o ∷ os) h = (output_rect o.rect h.0.0, fit_outputs os h.1)

pub fit_plans : (outputs given : List OutputPlan) → given ≡ outputs → FitOutputs outputs → FitPlans given
fit_plans outputs given same h = subst FitPlans (sym same) (fit_outputs outputs h)
