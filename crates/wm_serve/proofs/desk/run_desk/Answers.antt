use Rattle.std.proofs.Common.{◌≡◌, ◌+◌, length, List, [], ap, arith, ◌∙◌, subst, sym}
use Rattle.std.specs.List.{All}
use Rattle.wm_book.specs.Carried.{carried}
use Rattle.wm_crew.specs.Duties.{IsReady}
use Rattle.wm_serve.proofs.DeskLemmas.{Seat, all_parts, length_new, may_close, ran_desk, ready_new}
use Rattle.wm_serve.specs.Running.{IsSeatOf}
use Rattle.wm_turn.specs.Pass.{IsLegal, longest}
use Rattle.wm_serve.proofs.desk.run_desk.Goals as goal

pub run_actors-passes-requires-clause-passes : goal.run_actors-passes-requires-clause-passes
run_actors-passes-requires-clause-passes g c κs within =
    let long : length c.in-Ok.started.1.items ≡ c.len.result + 2 =
    ap (λ (xs : List Seat). length xs) c.in-Ok.ensures.seats ∙ length_new c.in-Ok.started.0.door (g.V.Stands.opening c.args.value) 0 (c.len.result + 2) in
    omega (arith, long, c.len.ensures, c.args.doors.now.ok)

pub run_actors-passes-requires-clause-ready : goal.run_actors-passes-requires-clause-ready
run_actors-passes-requires-clause-ready g c κs within =
    subst (λ (xs : List Seat). All (IsReady (IsSeatOf c.in-Ok.started.0.door) carried) xs) (sym c.in-Ok.ensures.seats)
    (ready_new c.in-Ok.started.0.door (g.V.Stands.opening c.args.value) 0 (c.len.result + 2)
    (subst (λ (xs : List Seat). All (λ (seat : Seat). IsLegal seat) xs) c.in-Ok.ensures.seats c.in-Ok.ensures.legal))

pub close-value-requires-clause-seats : goal.close-value-requires-clause-seats
close-value-requires-clause-seats g c =
    may_close g.L.Link.told g.L.Link.faults g.A.Listen.told g.A.Listen.faults g.B.Build.log c.in-Ok.started.0.door (g.V.Stands.opening c.args.value) c.args.ipc c.args.hold_ms (c.len.result + 2)
    c.in-Ok.started.1.items c.run_actors-passes.result.passes.items _ _ c.run_actors-passes.result.status c.in-Ok.ensures.seats (omega (arith, c.len.ensures, c.args.doors.now.ok)) c.requires.builds c.run_actors-passes.ensures

pub close-value-requires-clause-parts : goal.close-value-requires-clause-parts
close-value-requires-clause-parts g c =
    all_parts g.L.Link.told g.L.Link.faults g.A.Listen.told g.A.Listen.faults g.B.Build.log c.in-Ok.started.0.door (g.V.Stands.opening c.args.value) c.args.ipc c.args.hold_ms (c.len.result + 2)
    c.in-Ok.started.1.items c.run_actors-passes.result.passes.items _ _ c.run_actors-passes.result.status c.in-Ok.ensures.seats (omega (arith, c.len.ensures, c.args.doors.now.ok)) c.requires.builds c.run_actors-passes.ensures
    c.in-Ok.started.0.seats c.in-Ok.ensures.gate.0

pub returns-clause-ran : goal.returns-clause-ran
returns-clause-ran g c =
    ran_desk g.L.Link.told g.L.Link.faults g.A.Listen.told g.A.Listen.faults g.B.Build.log c.in-Ok.started.0.door (g.V.Stands.opening c.args.value) c.args.ipc c.args.hold_ms (c.len.result + 2)
    c.in-Ok.started.1.items c.run_actors-passes.result.passes.items _ _ c.run_actors-passes.result.status c.in-Ok.ensures.seats (omega (arith, c.len.ensures, c.args.doors.now.ok)) c.requires.builds c.run_actors-passes.ensures
    c.in-Ok.started.0.seats c.in-Ok.ensures.gate.0 (longest [] c.run_actors-passes.result.passes.items) (g.V.Stands.stands c.close-value.result.0)
    c.close-value.ensures.stands c.close-value.ensures.known c.close-value.ensures.numbers
