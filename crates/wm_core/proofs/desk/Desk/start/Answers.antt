use Rattle.std.proofs.Common.{arith, ap}
use Rattle.wm_kept.specs.Log.{Log}
use Rattle.wm_history.proofs.OwnerLemmas.{no_owners}
use Rattle.wm_core.proofs.StandsLemmas.{opens_no_window, stands_start}
use Rattle.wm_core.proofs.desk.Desk.start.Goals as goal

pub invariant_of-result : goal.invariant_of-result
invariant_of-result c =
    let owners = no_owners c.in-Ok.opened.tree c.new-in-Ok.result (opens_no_window c.args.plan c.in-Ok.opened.tree c.in-Ok.ensures.tree c.in-Ok.ensures.sound) c.new-in-Ok.ensures.empty in
    ((((omega (arith, c.in-Ok.ensures.prefix), omega (arith, ap (λ (k : Log). k.last) c.in-Ok.ensures.events)), c.window_count-windows.ensures.value), owners), c.in-Ok.ensures.sound)

pub returns-in-Ok-clause-stands : goal.returns-in-Ok-clause-stands
returns-in-Ok-clause-stands c = stands_start c.args.plan c.in-Ok.opened.tree c.in-Ok.opened.txn c.in-Ok.opened.mode c.in-Ok.opened.events c.new.result.entries c.in-Ok.ensures.mode c.in-Ok.ensures.events c.in-Ok.ensures.tree c.in-Ok.ensures.sound c.new.ensures.empty c.in-Ok.ensures.stands
