use Rattle.std.proofs.Common.{rules, ◌≡◌, ◌+◌, Some, true, sym, subst, ◌∙◌}
use Rattle.wm_txn.specs.Queue.{AreFewer}
use Rattle.wm_txn.specs.Windows.{find, is_unanswered, put}
use Rattle.wm_txn.proofs.QueueLemmas.{fewer_put, queued_fewer}
use Rattle.wm_txn.proofs.txn.Txn.hold.Goals as goal

-- whom the waiting transaction awaits is as it was, but for the window that answers
pub invariant_of-self : goal.invariant_of-self
invariant_of-self c =
    let i = c.self.inside in
    let n = i.number + 1 in
    let after = c.buffered_with-after.result in
    let at : find c.args.view i.windows ≡ Some c.args.before.now = search rules in
    let made : c.set.new.self ≡ put c.args.view after i.windows = c.set.ensures.value in
    let was : (c.is_unanswered-awaits.result ≡ true → c.is_unanswered-awaited.result ≡ true) → is_unanswered n after ≡ true → is_unanswered n c.args.before.now ≡ true =
    λ known h. sym c.is_unanswered-awaited.ensures ∙ known (c.is_unanswered-awaits.ensures ∙ h) in
    let fewer : (c.is_unanswered-awaits.result ≡ true → c.is_unanswered-awaited.result ≡ true) → AreFewer n i.windows c.set.new.self =
    λ known. subst (AreFewer n i.windows) (sym made) (fewer_put n c.args.view c.args.before.now after i.windows at (was known)) in (
      c.self.invariant.0,
      c.self.invariant.1,
      c.self.invariant.2,
      c.heard.ensures i.waiting (λ known. queued_fewer n i.windows c.set.new.self i.waiting _ (fewer known) c.self.invariant.3),
    )
