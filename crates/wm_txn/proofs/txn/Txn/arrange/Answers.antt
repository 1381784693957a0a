use Rattle.std.proofs.Common.{◌+◌, Global, Option, sym, subst}
use Rattle.std.specs.Option.{option_map}
use Rattle.std.specs.declared.collections.VecDeque.{VecDeque}
use Rattle.wm_base.specs.declared.ids.ConId.{ConId}
use Rattle.wm_txn.specs.Queue.{AreFewer, IsQueued}
use Rattle.wm_txn.proofs.QueueLemmas.{fewer_closed, queued_fewer}
use Rattle.wm_txn.proofs.txn.Txn.arrange.Goals as goal

-- whom the waiting transaction awaits is as it was, but for those that close
pub invariant_of-self : goal.invariant_of-self
invariant_of-self c =
    let i = c.self.inside in
    let n = i.number + 1 in
    let Queued : Option (VecDeque ConId Global) → Type 0 = λ q. IsQueued n i.windows i.waiting (option_map (λ (q : VecDeque ConId Global). q.items) q) in
    let fewer = subst (AreFewer n i.windows) (sym c.close_all-closed.ensures.windows) (fewer_closed n c.args.gone.now i.windows) in
    let queued = queued_fewer n i.windows c.close_all-closed.new.windows i.waiting _ fewer (subst Queued (sym c.take.ensures.value) c.self.invariant.3) in
    (c.self.invariant.0, c.self.invariant.1, c.self.invariant.2, c.trimmed.ensures i.waiting queued)
