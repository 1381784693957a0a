use Rattle.std.proofs.Common.{rules, ◌≡◌, ◌+◌, Some, ap, sym, subst, ◌∙◌}
use Rattle.wm_txn.specs.Queue.{AreFewer}
use Rattle.wm_txn.specs.Windows.{acked_with, find, put}
use Rattle.wm_txn.proofs.QueueLemmas.{fewer_put, queued_fewer}
use Rattle.wm_txn.proofs.txn.Txn.take_ack.Goals as goal

-- whom the waiting transaction awaits is as it was
pub invariant_of-self : goal.invariant_of-self
invariant_of-self c =
    let i = c.self.inside in
    let w = c.in-Some.held in
    let at : find c.args.view i.windows ≡ Some w = search rules in
    let made = c.set.ensures.value ∙ ap (λ z. put c.args.view z i.windows) c.acked_with.ensures in
    let fewer = subst (AreFewer (i.number + 1) i.windows) (sym made) (fewer_put (i.number + 1) c.args.view w (acked_with c.args.serial w) i.windows at (λ h. h)) in
    (c.self.invariant.0, c.self.invariant.1, c.self.invariant.2, queued_fewer _ i.windows c.set.new.self i.waiting _ fewer c.self.invariant.3)
