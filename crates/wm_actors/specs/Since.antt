-- What a caller's calls made of its pass.
use Rattle.std.specs.Prelude.{◌≡◌, List, ◌++◌, Some}
use Rattle.wm_history.specs.History.{History, Start, opening_of}
use Rattle.wm_core.specs.Passes.{Begins, Pass}
use Rattle.wm_core.specs.declared.asked.Asked.{Asked}
use Rattle.wm_layouts.specs.declared.plan.Plan.{Plan}
use Rattle.wm_turn.specs.declared.view.Mark.{Mark}

-- Since the first pass these marks were made, the newest first, and more may have been seen.
pub record Carried (first now : Pass) (marks : List (Mark Asked)) : Type 0 where
  pub pass : now ≡ record first { seen = now.seen; mine = marks ++ first.mine }
  pub begins : Begins first.seen now.seen

-- This holds of what the pass has seen, and of all that is seen later.
abbrev pub Lasts : Pass → (Start → History → Type 0) → Type 0
Lasts pass holds = (plan : Plan) (later : History) → pass.opening ≡ Some plan → Begins pass.seen later → holds (opening_of plan) later

-- Since the first pass these marks were made, and this holds of what was seen, and of all that is seen later.
pub record Since (first now : Pass) (marks : List (Mark Asked)) (holds : Start → History → Type 0) : Type 0 where
  pub carried : Carried first now marks
  pub lasts : Lasts now holds
