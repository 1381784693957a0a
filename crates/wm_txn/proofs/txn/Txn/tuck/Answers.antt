use Rattle.std.proofs.Common.{rules, ◌≡◌, Some, ◌≤◌, false, sym, subst}
use Rattle.std.specs.BTreeMap.{insert_entry}
use Rattle.std.specs.Ordering.{nat_cmp}
use Rattle.wm_txn.specs.Accepted.{accepted}
use Rattle.wm_txn.specs.Stands.{Stands}
use Rattle.wm_txn.specs.Machine.{TxnValue}
use Rattle.wm_txn.specs.Windows.{AreSorted, Buffers, Windows, find}
use Rattle.wm_txn.proofs.GoneLemmas.{stands_tucked, without_window}
use Rattle.wm_txn.proofs.txn.Txn.tuck.Goals as goal

-- the window is closed and its newest buffer is done, so it may go
pub returns-clause-stands : goal.returns-clause-stands
returns-clause-stands c = λ o history s.
    let i = c.self.inside in
    let d : TxnValue = record { windows = i.windows; gone = i.gone.entries; number = i.number; prefix = i.prefix; current = i.current; waiting = i.waiting; newest = i.newest; left = i.left } in
    let stood : Stands o history d = rw (← c.self.view_is) at s in
    let w = c.in-Some.held.now in
    let at : find c.args.con d.windows ≡ Some w = search rules in
    let closed : w.live ≡ false = search rules in
    let done : w.buffer_serial ≤ d.number = search rules in
    let windows : c.remove.new.self ≡ without_window c.args.con d.windows = search rules in
    let left : c.insert.new.self.entries ≡ insert_entry nat_cmp d.gone c.args.con.0 w.buffer = search rules in
    let sorted : AreSorted (without_window c.args.con d.windows) = subst AreSorted windows c.remove.ensures.ordered in
    let Stood : Windows → Buffers → Type 0 = λ x y. Stands o history (record d { windows = x; gone = y }) in
    subst (λ y. Stood c.remove.new.self y) (sym left) (subst (λ x. Stood x (insert_entry nat_cmp d.gone c.args.con.0 w.buffer)) (sym windows) (stands_tucked o (accepted o history) d c.args.con w at closed done sorted stood))
