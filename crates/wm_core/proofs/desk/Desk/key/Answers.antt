use Rattle.std.proofs.Common.{◌≡◌, ◌∙◌, None, Some, ap, sym, map}
use Rattle.wm_history.specs.Act.{Key, choice_of}
use Rattle.wm_core.specs.DeskValue.{DeskValue}
use Rattle.wm_history.specs.Effect.{key_effect, run_effect}
use Rattle.wm_history.specs.History.{Entry}
use Rattle.wm_history.specs.Keys.{bound, chosen}
use Rattle.wm_core.proofs.StepLemmas.{taken}
use Rattle.wm_core.proofs.desk.Desk.key.Goals as goal

-- no choice is for the mode
pub returns-in_default : goal.returns-in_default
returns-in_default c =
    let d = c.args.self.now in
    let chord = c.args.chord.now in
    let choices = map choice_of c.args.choices.now in
    let entry : Entry = record { who = c.args.who; act = Key chord choices } in
    let mode : c.as_str.result.now ≡ d.mode = c.as_str.ensures.value ∙ ap (λ (d : DeskValue). d.mode) c.self.view_is in
    let none : chosen d.mode choices ≡ None = ap (λ m. chosen m choices) (sym mode) ∙ c.in_default.ensures.choice in
    taken _ _ _ _ (c.stay.ensures entry (ap (λ o. key_effect d.plan.env chord o d.tree) none))

-- the first choice for the mode runs, and that it was bound is told
pub returns : goal.returns
returns c =
    let d = c.args.self.now in
    let chord = c.args.chord.now in
    let choices = map choice_of c.args.choices.now in
    let choice = c.in-Some.choice.now in
    let entry : Entry = record { who = c.args.who; act = Key chord choices } in
    let mode : c.as_str.result.now ≡ d.mode = c.as_str.ensures.value ∙ ap (λ (d : DeskValue). d.mode) c.self.view_is in
    let some : chosen d.mode choices ≡ Some (choice_of choice) = ap (λ m. chosen m choices) (sym mode) ∙ c.in-Some.ensures.choice in
    let event : c.in_ok-event.event ≡ bound chord choice.prepared.text = c.in_ok-event.ensures in
    c.run_text.ensures entry
    (ap (λ o. key_effect d.plan.env chord o d.tree) some ∙ ap (λ e. run_effect d.plan.env choice.prepared.verdict (Some e) d.tree) (sym event))
