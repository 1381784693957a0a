-- The opening of the standard plan, and the steps that run texts.
use Rattle.std.specs.Prelude.{ℕ, List, [], ◌∷◌, length, Option, None, Some, codes}
use Rattle.wm_base.specs.declared.plan.Border.TheVariants.{Bare}
use Rattle.wm_history.specs.History.{Entry, History, Start}
use Rattle.wm_layouts.specs.Plan.{bare_env, default_outputs}
use Rattle.wm_script.specs.Out.{run_with}
use Rattle.wm_script.specs.Refusals.{refusal_at}
use Rattle.wm_script.specs.declared.refused.Refused.{Refused}
use Rattle.wm_tree.specs.TreeValue.{opening}

-- the opening of the standard plan
abbrev pub start : Start
start = record { opened = opening default_outputs Bare 0 0; env = bare_env; mode = codes "default"; config = []; windows = [] }

-- the step of a caller that runs a text after a history, given which patterns were refused
abbrev pub run_entry : ℕ → List Refused → History → List ℕ → Entry
run_entry who refused history text = run_with who (refusal_at (length history) refused) text

abbrev pub after_entry : Option Entry → History → History
after_entry None history = history
after_entry (Some entry) history = entry ∷ history
