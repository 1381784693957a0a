use Rattle.std.proofs.Common.{◌+◌, Some, ap, sym, subst, ◌∙◌}
use Rattle.std.specs.BTreeMap.{insert_entry}
use Rattle.std.specs.Ordering.{nat_cmp}
use Rattle.wm_txn.specs.Queue.{AreFewer}
use Rattle.wm_txn.proofs.QueueLemmas.{fewer_opened, queued_fewer}
use Rattle.wm_txn.proofs.txn.Txn.open.Goals as goal

-- whom the waiting transaction awaits is as it was
pub invariant_of-self : goal.invariant_of-self
invariant_of-self c =
    let i = c.self.inside in
    let made = c.in_ok-insert.ensures.ok ∙ ap (insert_entry nat_cmp i.windows c.in-Some.con.0) c.mapped.ensures in
    let fewer = subst (AreFewer (i.number + 1) i.windows) (sym made) (fewer_opened i.number (Some (c.in-Some.con, c.in-Some.buffer)) i.windows) in
    (c.self.invariant.0, c.self.invariant.1, c.self.invariant.2, queued_fewer _ i.windows c.insert.new.self i.waiting _ fewer c.self.invariant.3)
