use Rattle.std.proofs.Common.{◌∷◌, subst, sym}
use Rattle.std.proofs.lemmas.Result.{on_ok_weaker}
use Rattle.wm_core.specs.DeskValue.{Stands}
use Rattle.wm_core.specs.Entries.{history_of}
use Rattle.wm_core.proofs.StepLemmas.{goes_on}
use Rattle.wm_book.specs.Counting.{says_form}
use Rattle.wm_book.proofs.kept.DeskKept.step.Goals as goal

-- the form of the step says the same
pub returns-clause-stands : goal.returns-clause-stands
returns-clause-stands c = λ entries s.
    on_ok_weaker c.step.result
    (λ goes. subst (λ act. Stands c.step.new.self (record { who = c.args.who; act = act } ∷ history_of entries)) (sym (says_form c.args.step.now))
    (goes_on _ _ _ goes c.step.ensures.plan (history_of entries) s))
    c.step.ensures.stands
