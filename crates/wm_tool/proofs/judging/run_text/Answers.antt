use Rattle.std.proofs.Common.{◌≡◌, ◌∙◌, ◌∷◌, [], ◌++◌, Some, subst}
use Rattle.std.specs.Prelude.{IfOk, OnOk}
use Rattle.std.proofs.lemmas.List.{append-nil}
use Rattle.wm_core.specs.DeskValue.{Stands}
use Rattle.wm_history.specs.History.{answer, opening_of}
use Rattle.wm_core.proofs.StepLemmas.{goes_on}
use Rattle.wm_tool.specs.Running.{fresh}
use Rattle.wm_tool.proofs.RefusalLemmas.{keeps_noted, notes_verdict}
use Rattle.wm_tool.proofs.RunLemmas.{if_ok_weaker, ok_weaker, run_entry_is}
use Rattle.wm_tool.proofs.judging.run_text.Goals as goal

pub returns-in_err-text-clause-notes : goal.returns-in_err-text-clause-notes
returns-in_err-text-clause-notes g c =
    keeps_noted c.args.desk.now.steps (Some c.args.text.now ∷ []) c.args.refused.now.items c.judge.new.refused.items (g.B.Build.log c.args.build.now) (g.B.Build.log c.judge.new.build)
    (c.in_err-text.ensures.grown ∙ append-nil c.args.refused.now.items) c.in_err-text.ensures.grew

pub returns-clause-answer : goal.returns-clause-answer
returns-clause-answer g c = λ none history s.
    let p = c.in_ok-text.text in
    let grown = subst (λ n. c.judge.new.refused.items ≡ c.args.refused.now.items ++ fresh n p.verdict) c.steps.ensures c.in_ok-text.ensures.grown in
    subst (λ e. IfOk c.step-answer.result (λ a. a ≡ answer (opening_of c.args.desk.now.plan) history e))
    (run_entry_is c.args.who c.args.desk.now.steps history c.args.refused.now.items c.judge.new.refused.items c.args.text.now p none s.counted c.in_ok-text.ensures.text c.in_ok-text.ensures.verdict grown)
    (if_ok_weaker c.step-answer.result c.step-answer.ensures.answer (λ a said. said (opening_of c.args.desk.now.plan) history s))

pub returns-clause-stands : goal.returns-clause-stands
returns-clause-stands g c = λ none history s.
    let p = c.in_ok-text.text in
    let grown = subst (λ n. c.judge.new.refused.items ≡ c.args.refused.now.items ++ fresh n p.verdict) c.steps.ensures c.in_ok-text.ensures.grown in
    subst (λ e. OnOk c.step-answer.result (Stands c.step-answer.new.self (e ∷ history)))
    (run_entry_is c.args.who c.args.desk.now.steps history c.args.refused.now.items c.judge.new.refused.items c.args.text.now p none s.counted c.in_ok-text.ensures.text c.in_ok-text.ensures.verdict grown)
    (ok_weaker c.step-answer.result c.step-answer.ensures.stands (λ goes. goes_on c.args.desk.now c.step-answer.new.self _ goes c.step-answer.ensures.plan history s))

pub returns-clause-notes : goal.returns-clause-notes
returns-clause-notes g c =
    let p = c.in_ok-text.text in
    let grown = subst (λ n. c.judge.new.refused.items ≡ c.args.refused.now.items ++ fresh n p.verdict) c.steps.ensures c.in_ok-text.ensures.grown in
    notes_verdict c.args.desk.now.steps c.args.text.now p.verdict c.args.refused.now.items c.judge.new.refused.items (g.B.Build.log c.args.build.now) (g.B.Build.log c.judge.new.build)
    c.in_ok-text.ensures.verdict grown c.in_ok-text.ensures.grew
