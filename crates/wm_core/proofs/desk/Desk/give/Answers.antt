use Rattle.std.proofs.Common.{◌≡◌, true, false, refl, sym, ◌∙◌}
use Rattle.wm_txn.specs.History as commits
use Rattle.wm_history.specs.Act.{Give}
use Rattle.wm_core.specs.DeskValue.{DeskValue, StandsFrom}
use Rattle.wm_history.specs.Effect.{has_no_pixels, telling}
use Rattle.wm_history.specs.History.{Entry, done_by}
use Rattle.wm_history.specs.Windows.{is_window}
use Rattle.wm_history.specs.declared.step.Answer.TheVariants.{Done}
use Rattle.wm_core.proofs.StandsLemmas.{answered, place, stands_told, there_by}
use Rattle.wm_core.proofs.desk.Desk.give.Goals as goal

-- no window of the caller, so nothing changes
pub returns-then-not-is_window : goal.returns-then-not-is_window
returns-then-not-is_window c =
    let not_its : is_window c.args.self.now.tree c.args.who c.args.con ≡ false = sym c.is_window.ensures.value ∙ c.if-not-is_window.true in
    c.stay.ensures (record { who = c.args.who; act = Give c.args.con c.args.buffer }) (rw not_its refl)

-- a buffer without pixels, so nothing changes
pub returns-then-has_no_pixels : goal.returns-then-has_no_pixels
returns-then-has_no_pixels c =
    let its : is_window c.args.self.now.tree c.args.who c.args.con ≡ true = sym c.is_window.ensures.value ∙ c.if-not-is_window.false in
    let empty : has_no_pixels c.args.buffer.size ≡ true = sym c.has_no_pixels.ensures ∙ c.if-has_no_pixels.true in
    c.stay-then-has_no_pixels.ensures (record { who = c.args.who; act = Give c.args.con c.args.buffer }) (rw (its, empty) refl)

-- the transactions are told the buffer
pub returns : goal.returns
returns c =
    let i = c.self.inside in
    let d : DeskValue = record { plan = i.plan; steps = i.steps; tree = i.tree; txn = i.txn; mode = i.mode; stopped = i.stopped; events = i.events; kills = i.kills.entries } in
    let entry : Entry = record { who = c.args.who; act = Give c.args.con c.args.buffer } in
    let told = commits.Gave c.args.con c.args.buffer in
    let its : is_window d.tree c.args.who c.args.con ≡ true = rw (← c.self.view_is) at (sym c.is_window.ensures.value ∙ c.if-not-is_window.false) in
    let pixels : has_no_pixels c.args.buffer.size ≡ false = sym c.has_no_pixels.ensures ∙ c.if-has_no_pixels.false in
    let here : done_by d.plan.env d.mode d.tree entry ≡ telling told (λ judge. Done) d.tree = rw (its, pixels) refl in
    record {
      there = rw (← c.self.view_is) (there_by d entry (telling told (λ judge. Done) d.tree) here);
      answer = λ start history s. answered d start history (rw (← c.self.view_is) at s) entry (telling told (λ judge. Done) d.tree) here;
      stands = λ start history s.
          let stood : StandsFrom start d history = rw (← c.self.view_is) at s in
          stands_told d start history stood entry told (λ judge. Done) c.buffer.new.self here (λ v b. refl) (λ v. refl) (c.buffer.ensures.stands _ _ (place d start history stood) stood.commits);
      plan = rw (← c.self.view_is) refl;
      count = rw (← c.self.view_is) refl;
    }
