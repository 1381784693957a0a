use Rattle.std.proofs.Common.{◌≡◌, ℕ, rules, sym, subst}
use Rattle.std.proofs.lemmas.List.Sorted.{IsNonDecreasingBy-from_sort, answers_always}
use Rattle.std.specs.List.Sorted.{IsNonDecreasingBy, IsPermutation}
use Rattle.wm_base.specs.declared.ids.ConId.{ConId}
use Rattle.wm_txn.specs.Queue.{IsQueue, lefts}
use Rattle.wm_txn.proofs.QueueLemmas.{queue_made}
use Rattle.wm_txn.proofs.queue.queue.Goals as goal

-- the windows that are left, sorted by their ids
pub returns : goal.returns
returns c =
    let n = c.args.number in
    let key : ConId → ℕ = λ (z : ConId). z.0 in
    let sorted = c.sort_unstable_by_key.new.self.items in
    let listed : c.gather.new.ids.items ≡ lefts n c.args.windows.now c.args.parts.now = search rules in
    let moved : IsPermutation (lefts n c.args.windows.now c.args.parts.now) sorted = subst (λ z. IsPermutation z sorted) listed c.sort_unstable_by_key.ensures.permutation in
    let rises : IsNonDecreasingBy key sorted = IsNonDecreasingBy-from_sort key _ (c.sort_unstable_by_key.ensures.sorted key (answers_always _ _ _ (λ f a r g h. search rules))) in
    subst (IsQueue n c.args.windows.now c.args.parts.now) (sym c.from_vec.ensures.items) (queue_made n c.args.windows.now c.args.parts.now sorted moved rises)
