use Rattle.std.proofs.Common.{◌∷◌, ap, refl, subst, sym, true}
use Rattle.wm_session.specs.Called.{Gave}
use Rattle.wm_session.specs.Endings.{end_of_refusal}
use Rattle.wm_session.specs.Served.{stage}
use Rattle.wm_session.specs.Serving.{free_spot}
use Rattle.wm_session.specs.declared.ending.SessionEnd.TheVariants as end
use Rattle.wm_talk.specs.Talking.{above_of, after_reply}
use Rattle.wm_session.proofs.GoingLemmas.{ends_as, going_answered, going_part, not_called, not_replied, served_no_memory}
use Rattle.wm_session.proofs.telling.Teller.answer.Goals as goal

pub returns-in_err-call-clause-answers : goal.returns-in_err-call-clause-answers
returns-in_err-call-clause-answers g c = λ first received ahead turns stops asks h.
    let old = stage (g.D.Door.carried c.args.pass.now) (g.L.Link.told c.args.link.now) (g.L.Link.faults c.args.link.now) (g.B.Build.log c.args.build.now) in
    let spot = free_spot c.args.self.now.talk received (c.args.message.now ∷ ahead) turns stops in
    ends_as first old _ c.from_residual.result end.NoMemory (served_no_memory first old spot (going_part first old spot h) asks) c.from_residual.ensures.1

pub returns-in_err-got-clause-answers : goal.returns-in_err-got-clause-answers
returns-in_err-got-clause-answers g c = λ first received ahead turns stops asks h.
    let old = stage (g.D.Door.carried c.args.pass.now) (g.L.Link.told c.args.link.now) (g.L.Link.faults c.args.link.now) (g.B.Build.log c.args.build.now) in
    let new = stage (g.D.Door.carried c.make_call.new.pass) (g.L.Link.told c.args.link.now) (g.L.Link.faults c.args.link.now) (g.B.Build.log c.make_call.new.build) in
    let spot = free_spot c.args.self.now.talk received (c.args.message.now ∷ ahead) turns stops in
    ends_as first new _ c.from_residual-in_err-got.result (end_of_refusal c.in_err-got.field-0.0)
    (not_called first old spot (g.D.Door.carried c.make_call.new.pass) (g.B.Build.log c.make_call.new.build) c.in_ok-call.call c.in_err-got.field-0.0 h asks c.in_err-got.ensures.called)
    c.from_residual-in_err-got.ensures.1

pub returns-in_err-sent-clause-answers : goal.returns-in_err-sent-clause-answers
returns-in_err-sent-clause-answers g c = λ first received ahead turns stops asks h.
    let m = c.args.message.now in
    let old = stage (g.D.Door.carried c.args.pass.now) (g.L.Link.told c.args.link.now) (g.L.Link.faults c.args.link.now) (g.B.Build.log c.args.build.now) in
    let pass = g.D.Door.carried c.make_call.new.pass in
    let log = g.B.Build.log c.make_call.new.build in
    let new = stage pass (g.L.Link.told c.reply-sent.new.link) (g.L.Link.faults c.reply-sent.new.link) log in
    let spot = free_spot c.args.self.now.talk received (m ∷ ahead) turns stops in
    let called = c.in_ok-got.ensures.called in
    ends_as first new _ c.from_residual-in_err-sent.result c.in_err-sent.field-0.0
    (not_replied first old spot pass (g.L.Link.told c.reply-sent.new.link) (g.L.Link.faults c.reply-sent.new.link) log m ahead c.in_ok-got.got called.0 c.in_err-sent.field-0.0 h refl refl refl refl asks
    (subst (λ call. Gave old.pass pass call c.in_ok-got.got called.0) c.in_ok-call.ensures called.1) called.2 c.in_err-sent.ensures)
    c.from_residual-in_err-sent.ensures.1

pub returns-clause-answers : goal.returns-clause-answers
returns-clause-answers g c = λ first received ahead turns stops asks h.
    let m = c.args.message.now in
    let old = stage (g.D.Door.carried c.args.pass.now) (g.L.Link.told c.args.link.now) (g.L.Link.faults c.args.link.now) (g.B.Build.log c.args.build.now) in
    let pass = g.D.Door.carried c.make_call.new.pass in
    let log = g.B.Build.log c.make_call.new.build in
    let spot = free_spot c.args.self.now.talk received (m ∷ ahead) turns stops in
    let called = c.in_ok-got.ensures.called in
    let sent = c.in_ok-sent.ensures in
    let after = after_reply m c.in_ok-got.got c.args.self.now.talk in
    c.read_events.ensures.reads first log (record spot { talk = after; due = above_of after; ahead = ahead }) (sym sent.0) (ap above_of (sym sent.0)) refl asks
    (going_answered true first old spot pass (g.L.Link.told c.reply-sent.new.link) (g.L.Link.faults c.reply-sent.new.link) log m ahead c.in_ok-got.got called.0 h refl refl refl refl
    (subst (λ call. Gave old.pass pass call c.in_ok-got.got called.0) c.in_ok-call.ensures called.1) called.2 sent.1.0 sent.1.1)
