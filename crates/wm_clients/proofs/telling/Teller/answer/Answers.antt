use Rattle.std.proofs.Common.{◌+◌, ◌∙◌, inr, refl, suc, sym, true}
use Rattle.wm_cut.specs.Lines.{behind_line}
use Rattle.wm_clients.specs.Endings.{end_of_refusal}
use Rattle.wm_clients.specs.Served.{stage}
use Rattle.wm_clients.specs.Serving.{free_spot}
use Rattle.wm_history.specs.Act.{act_of}
use Rattle.wm_clients.proofs.EndLemmas.{counted_as, ends_as, ends_unread, not_answered, not_taken_by}
use Rattle.wm_clients.proofs.GoingLemmas.{going_answered}
use Rattle.wm_clients.proofs.telling.Teller.answer.Goals as goal

pub returns-in_err-step-clause-answers : goal.returns-in_err-step-clause-answers
returns-in_err-step-clause-answers g c = λ first received pending stops next h.
    let old = stage (g.D.Door.carried c.args.pass.now) (g.L.Link.told c.args.link.now) (g.L.Link.faults c.args.link.now) in
    ends_as first old _ c.from_residual.result c.in_err-step.field-0.0
    (ends_unread first old c.args.self.now.sent c.args.self.now.lines received pending c.args.line.now stops c.in_err-step.field-0.0 h next c.in_err-step.ensures)
    c.from_residual.ensures.1

pub returns-in_err-answer-clause-answers : goal.returns-in_err-answer-clause-answers
returns-in_err-answer-clause-answers g c = λ first received pending stops next h.
    let old = stage (g.D.Door.carried c.args.pass.now) (g.L.Link.told c.args.link.now) (g.L.Link.faults c.args.link.now) in
    let pass = g.D.Door.carried c.take_step-taken.new.pass in
    let spot = free_spot c.args.self.now.sent c.args.self.now.lines received pending (suc stops) stops in
    ends_as first (stage pass old.link old.faults) _ c.from_residual-in_err-answer.result (end_of_refusal c.in_err-answer.field-0.0)
    (not_taken_by true first old spot pass (act_of c.in_ok-step.step) c.in_err-answer.field-0.0 h (inr refl) c.in_err-answer.ensures.acts)
    c.from_residual-in_err-answer.ensures.1

pub returns-in_err-told-clause-answers : goal.returns-in_err-told-clause-answers
returns-in_err-told-clause-answers g c = λ first received pending stops next h.
    let old = stage (g.D.Door.carried c.args.pass.now) (g.L.Link.told c.args.link.now) (g.L.Link.faults c.args.link.now) in
    let pass = g.D.Door.carried c.take_step-taken.new.pass in
    let link = g.L.Link.told c.send_answer-told.new.link in
    let faults = g.L.Link.faults c.send_answer-told.new.link in
    let spot = free_spot c.args.self.now.sent c.args.self.now.lines received pending (suc stops) stops in
    ends_as first (stage pass link faults) _ c.from_residual-in_err-told.result c.in_err-told.field-0.0
    (not_answered first old spot pass link faults c.args.line.now (act_of c.in_ok-step.step) c.in_ok-answer.answer c.in_err-told.field-0.0 h refl refl next c.in_ok-step.ensures.0 (inr refl) c.in_ok-answer.ensures.acts c.in_err-told.ensures.sends)
    c.from_residual-in_err-told.ensures.1

pub returns-clause-answers : goal.returns-clause-answers
returns-clause-answers g c = λ first received pending stops next h.
    let old = stage (g.D.Door.carried c.args.pass.now) (g.L.Link.told c.args.link.now) (g.L.Link.faults c.args.link.now) in
    let pass = g.D.Door.carried c.take_step-taken.new.pass in
    let link = g.L.Link.told c.send_answer-told.new.link in
    let faults = g.L.Link.faults c.send_answer-told.new.link in
    let new = stage (g.D.Door.carried c.read_wants.new.pass) (g.L.Link.told c.read_wants.new.link) (g.L.Link.faults c.read_wants.new.link) in
    let spot = free_spot c.args.self.now.sent c.args.self.now.lines received pending (suc stops) stops in
    let behind = record spot { due = true; count = spot.count + 1; pending = behind_line pending } in
    let lines = c.read_wants.ensures.lines ∙ c.in_ok-told.ensures.lines in
    counted_as first new c.read_wants.result c.read_wants.new.self.sent received (behind_line pending) stops _ _ (sym lines)
    (c.read_wants.ensures.reads first behind (sym c.in_ok-told.ensures.sent) refl (inr refl)
    (going_answered true first old spot pass link faults c.args.line.now (act_of c.in_ok-step.step) c.in_ok-answer.answer h refl refl next c.in_ok-step.ensures.0 c.in_ok-answer.ensures.acts c.in_ok-told.ensures.sends.0 c.in_ok-told.ensures.sends.1))
