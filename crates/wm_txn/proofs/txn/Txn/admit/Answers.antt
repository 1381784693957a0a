use Rattle.std.proofs.Common.{◌≡◌, ◌+◌, ◌∷◌, ◌∙◌, ap, subst, sym}
use Rattle.wm_txn.specs.Accepted.{accepted}
use Rattle.wm_txn.specs.History.{Arranged}
use Rattle.wm_txn.specs.Machine.{TxnValue, arranged, opened, settled}
use Rattle.wm_txn.specs.Windows.{AreSorted}
use Rattle.wm_txn.proofs.EntryLemmas.{stands_arranged}
use Rattle.wm_txn.proofs.StandingLemmas.{fit_windows}
use Rattle.wm_txn.proofs.OpeningLemmas.{accepted_length}
use Rattle.wm_txn.proofs.txn.Txn.admit.Goals as goal

pub returns-clause-stands : goal.returns-clause-stands
returns-clause-stands c = λ o history at s fit.
    let fits = fit_windows o history c.args.self.now c.args.newest.parts c.args.fresh c.args.gone.now s fit in
    let d = c.args.self.now in
    let made : c.open.new.self ≡ opened c.args.fresh d = c.in_ok-open.ensures.ok in
    let sorted_windows = c.in_ok-open.ensures.sorted s.keeps.sorted in
    let Sorted_in : TxnValue → Type 0 = λ z. AreSorted z.windows in
    let sorted = subst Sorted_in made sorted_windows in
    let left : c.settle.new.self ≡ settled (c.args.place + 1) (arranged c.args.newest c.args.gone.now (opened c.args.fresh d)) =
    c.settle.ensures.value ∙ ap (settled (c.args.place + 1)) (c.arrange.ensures.value ∙ ap (arranged c.args.newest c.args.gone.now) made) in
    rw c.discard.ensures (c.sweep.ensures.stands o (Arranged c.args.newest.parts c.args.fresh c.args.gone.now ∷ history)
    (rw left (stands_arranged o (accepted o history) d s c.args.newest c.args.fresh c.args.gone.now (c.args.place + 1) (ap (λ n. n + 1) (sym at ∙ sym (accepted_length o history))) fits.0 fits.1 sorted)))
