use Rattle.std.proofs.Common.{◌++◌, Err, Ok, ap, refl, subst, sym, ◌∙◌}
use Rattle.wm_kept.specs.Log.{Log, kept_of}
use Rattle.wm_core.specs.DeskValue.{DeskValue, in_mode}
use Rattle.wm_history.specs.Effect.{changing, mode_after}
use Rattle.wm_history.specs.Events.{IsToldOn, later_events}
use Rattle.wm_core.specs.Steps.{Takes}
use Rattle.wm_core.proofs.StandsLemmas.{answered, there_by}
use Rattle.wm_core.proofs.StepLemmas.{answered_after, none_answered}
use Rattle.wm_core.proofs.desk.Desk.take_with.Goals as goal

pub returns-in-Ok : goal.returns-in-Ok
returns-in-Ok c = λ entry event later is.
    let d = c.args.self.now in
    let said = c.args.answer in
    let set = c.args.applied.now.mode in
    let told = later_events d.mode d.stopped set c.args.applied.now.exit event in
    let here = is ∙ ap (λ ids. changing said d.tree c.args.tree c.args.opened set c.args.applied.now.exit ids event) (sym c.items.ensures) in
    let i = c.self.inside in
    let b : DeskValue = record { plan = i.plan; steps = i.steps; tree = i.tree; txn = i.txn; mode = i.mode; stopped = i.stopped; events = i.events; kills = i.kills.entries } in
    let log : Log = c.push_all.new.self in
    let logged : IsToldOn i.events told log = λ all was. c.push_all.ensures.history all was ∙ ap (λ bodies. kept_of (all ++ bodies)) later in
    let told_on : IsToldOn c.commit.new.self.events told log = subst (λ (x : DeskValue). IsToldOn x.events told log) c.self.view_is logged in
    let made : Takes d (in_mode set log c.commit.new.self) (Ok said) entry =
    answered_after d c.commit.new.self set told log said entry (there_by d entry _ is) (λ start history s. answered d start history s entry _ is) told_on (c.in-Ok.ensures.commits entry said set event here) in
    let in_it : Takes d (in_mode set log b) (Ok said) entry = subst (λ x. Takes d (in_mode set log x) (Ok said) entry) (sym c.self.view_is) made in
    subst (λ m. Takes d (record b { mode = m; events = log }) (Ok said) entry) (sym (c.set_mode.ensures ∙ ap (λ s. mode_after s i.mode) c.take.ensures.value)) in_it

pub returns-in-Err : goal.returns-in-Err
returns-in-Err c = λ entry event later is.
    let d = c.args.self.now in
    let said = c.args.answer in
    let set = c.args.applied.now.mode in
    let here = is ∙ ap (λ ids. changing said d.tree c.args.tree c.args.opened set c.args.applied.now.exit ids event) (sym c.items.ensures) in
    none_answered d c.commit.new.self set _ entry (Err c.in-Err.error) c.in-Err.error c.in-Err.error refl (c.in-Err.ensures.commits entry said set event here)
