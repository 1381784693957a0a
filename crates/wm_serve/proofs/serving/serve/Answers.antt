use Rattle.std.proofs.Common.{◌≡◌, ◌∙◌, ℕ, Option, None, Some, ap, sym, ⊎_elim}
use Rattle.std.specs.Prelude.{unwrap_or}
use Rattle.wm_actors.specs.Pictured.{screen}
use Rattle.wm_crew.specs.Running.{outside}
use Rattle.wm_options.specs.declared.words.Options.{Options}
use Rattle.wm_serve.specs.Rehearsals as rehearsals
use Rattle.wm_serve.specs.Serving.{Has_run, Not_started}
use Rattle.wm_serve.proofs.serving.serve.Goals as goal

abbrev hold_of : Option Options → ℕ
hold_of None = 0
hold_of (Some options) = options.hold_ms

abbrev callers_of : Option Options → ℕ
callers_of None = 0
callers_of (Some options) = unwrap_or options.rehearse 0

-- the doors are served with the plan that was read, or there was no memory to begin
pub returns-in-None-clause-served : goal.returns-in-None-clause-served
returns-in-None-clause-served g c = λ hold asked.
    let taken = g.S.Sink.taken in
    let faults = g.S.Sink.faults in
    let told = g.C.Clock.told in
    let new = c.serve_doors.new in
    let same : hold ≡ c.in-Ok-Some.options.hold_ms = ap hold_of (sym asked ∙ (sym c.in-Ok-Some.ensures.asked ∙ c.in-Ok-Some.field-0-is)) in
    rw same
    (⊎_elim
    (λ none. Not_started c.in-Ok.plan c.in-Ok.ensures.plan none.0
    (ap (λ doors. outside doors.items new.builds (taken new.frames) (faults new.frames) (told new.clock)) none.1
    ∙ (ap (λ builds. outside c.args.doors.now.items builds (taken new.frames) (faults new.frames) (told new.clock)) none.2
    ∙ (ap (λ frames. outside c.args.doors.now.items c.args.builds.now (taken frames) (faults frames) (told new.clock)) none.3
    ∙ ap (λ clock. outside c.args.doors.now.items c.args.builds.now (taken c.args.frames.now) (faults c.args.frames.now) (told clock)) none.4))))
    (λ ran. Has_run c.in-Ok.plan c.in-Ok.ensures.plan ran)
    c.serve_doors.ensures)

-- and so is a rehearsal
pub returns-in-Some-clause-rehearsed : goal.returns-in-Some-clause-rehearsed
returns-in-Some-clause-rehearsed g c = λ hold n asked.
    let taken = g.S.Sink.taken in
    let faults = g.S.Sink.faults in
    let told = g.C.Clock.told in
    let found = sym asked ∙ (sym c.in-Ok-Some.ensures.asked ∙ c.in-Ok-Some.field-0-is) in
    let same_hold : hold ≡ c.in-Ok-Some.options.hold_ms = ap hold_of found in
    let same : n ≡ c.in-Some.n = ap callers_of found ∙ ap (λ o. unwrap_or o 0) c.in-Some.is in
    rw (same_hold, same)
    (⊎_elim
    (λ none. rehearsals.Not_started c.in-Ok.plan c.in-Ok.ensures.plan none.0
    (none.1, ap (λ frames. screen (taken frames) (faults frames)) none.2, ap told none.3))
    (λ ran. rehearsals.Has_run c.in-Ok.plan c.in-Ok.ensures.plan ran)
    c.rehearse_whole.ensures.ran)
