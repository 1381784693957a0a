use Rattle.std.proofs.Common.{◌≡◌, ◌∙◌, ◌*◌, ◌+◌, IfSome, List, ap, arith, inr, length, subst, sym}
use denote.Param.Send.{sendable}
use Rattle.wm_actors.specs.Pictured.{screen}
use Rattle.wm_book.proofs.DeskCrossing.{recorded_send}
use Rattle.wm_book.specs.Recorded.{IsRecord}
use Rattle.wm_crew.specs.Running.{outside}
use Rattle.wm_serve.proofs.DeskLemmas.{given_so, ran_as}
use Rattle.wm_serve.proofs.RehearsalLemmas.{length_doors, rehearsed}
use Rattle.wm_serve.specs.Once.{OnceState, once_told}
use Rattle.wm_serve.specs.Rehearsed.{faults_of, told_of}
use Rattle.wm_serve.specs.Running.{RanDesk}
use Rattle.wm_history.specs.declared.step.Step.{Step}
use Rattle.wm_turn.specs.declared.view.Entry.{Entry}
use Rattle.wm_serve.proofs.rehearsing.rehearse.Goals as goal

pub run_desk-requires-send-V : goal.run_desk-requires-send-V
run_desk-requires-send-V g c κs within = search (recorded_send, sendable)

pub run_desk-requires-clause-doors : goal.run_desk-requires-clause-doors
run_desk-requires-clause-doors g c κs within =
    let long : length c.in-Ok.doors.items ≡ 2 * c.args.n = ap (λ (ds : List OnceState). length ds) c.in-Ok.ensures ∙ length_doors c.args.n in
    omega (arith, long, c.requires.few)

pub run_desk-requires-clause-builds : goal.run_desk-requires-clause-builds
run_desk-requires-clause-builds g c κs within =
    let long : length c.in-Ok.doors.items ≡ 2 * c.args.n = ap (λ (ds : List OnceState). length ds) c.in-Ok.ensures ∙ length_doors c.args.n in
    c.requires.builds ∙ sym long

pub returns-in-Ok-run_desk-clause-ran : goal.returns-in-Ok-run_desk-clause-ran
returns-in-Ok-run_desk-clause-ran g c =
    let stood : List (Entry Step) → Type 0 = λ entries. IfSome c.given_where_done.result (λ d. IsRecord d entries) in
    let ran = ran_as _ _ _ _ g.B.Build.log _ _ _ _ _ _ _ _ _ stood c.in-Ok-start.ensures.plan
    (λ history stands. given_so c.given_where_done.result c.in-Ok-run_desk.desk (λ d. IsRecord d history) c.given_where_done.ensures.same stands) c.in-Ok-run_desk.ensures.ran in
    inr (rehearsed g.B.Build.log c.args.plan c.args.n c.args.hold_ms c.run_desk.new.doors.items c.args.builds.now c.run_desk.new.builds
    (screen (g.S.Sink.taken c.args.frames.now) (g.S.Sink.faults c.args.frames.now)) (screen (g.S.Sink.taken c.run_desk.new.frames) (g.S.Sink.faults c.run_desk.new.frames))
    (g.C.Clock.told c.args.clock.now) (g.C.Clock.told c.run_desk.new.clock) c.given_where_done.result c.in-Ok-run_desk.status c.requires.builds
    (subst (λ (ds : List OnceState). RanDesk told_of faults_of once_told (λ _. 0) g.B.Build.log c.args.plan c.args.n c.args.hold_ms (length ds + 2)
    (outside ds c.args.builds.now (g.S.Sink.taken c.args.frames.now) (g.S.Sink.faults c.args.frames.now) (g.C.Clock.told c.args.clock.now))
    (outside c.run_desk.new.doors.items c.run_desk.new.builds (g.S.Sink.taken c.run_desk.new.frames) (g.S.Sink.faults c.run_desk.new.frames) (g.C.Clock.told c.run_desk.new.clock))
    c.in-Ok-run_desk.status stood) c.in-Ok.ensures ran))
