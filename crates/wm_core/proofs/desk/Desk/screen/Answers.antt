use Rattle.std.proofs.Common.{ap, subst, sym, ◌∙◌}
use Rattle.wm_paint.specs.CanvasValue.{IsArea}
use Rattle.wm_core.specs.DeskValue.{DeskValue, StandsFrom}
use Rattle.wm_history.specs.History.{entries, first}
use Rattle.wm_history.specs.Screen.{first_back}
use Rattle.wm_core.proofs.ScreenLemmas.{screen_area, screen_is}
use Rattle.wm_core.proofs.desk.Desk.screen.Goals as goal

-- the first ground of what is shown is that of the first output
pub returns-clause-rect : goal.returns-clause-rect
returns-clause-rect c = λ start history s.
    let i = c.self.inside in
    let d : DeskValue = record { plan = i.plan; steps = i.steps; tree = i.tree; txn = i.txn; mode = i.mode; stopped = i.stopped; events = i.events; kills = i.kills.entries } in
    let stood : StandsFrom start d history = rw (← c.self.view_is) at s in
    let shown = c.items.ensures ∙ c.current.ensures.history (first start) (entries start history) stood.commits in
    c.first_back.ensures ∙ (ap first_back shown ∙ screen_is start history stood.in_step)

-- and that is within the limits of an area
pub returns-clause-area : goal.returns-clause-area
returns-clause-area c = λ start history s. subst IsArea (sym (returns-clause-rect c start history s)) (screen_area start history s.in_step)
