use Rattle.std.proofs.Common.{refl, ap, subst, sym, ◌∙◌}
use Rattle.wm_txn.proofs.ReadingLemmas.{current_is, shown_is}
use Rattle.wm_txn.specs.Accepted.{accepted}
use Rattle.wm_txn.specs.Machine.{shown_of}
use Rattle.wm_txn.specs.Stands as transactions
use Rattle.wm_core.specs.DeskValue.{DeskValue}
use Rattle.wm_history.specs.Frame.{quads}
use Rattle.wm_history.specs.History.{entries, first}
use Rattle.wm_core.proofs.StandsLemmas.{quads_same}
use Rattle.wm_core.proofs.desk.Desk.frame.Goals as goal

-- what the transactions tell is what the history says
pub returns : goal.returns
returns c = λ start history s.
    let o = first start in
    let h = entries start history in
    let stood : transactions.Stands o h c.self.inside.txn = subst (transactions.Stands o h) (sym (ap (λ (d : DeskValue). d.txn) c.self.view_is)) s.commits in
    let shown = quads_same (λ v. shown_of v c.self.inside.txn) _ c.self.inside.txn.current.parts (shown_is o (accepted o h) c.self.inside.txn stood) in
    let made = c.of.ensures ∙ (c.in_ok-quads.ensures ∙ (shown ∙ ap (quads _) (current_is o (accepted o h) c.self.inside.txn stood))) in
    rw (c.done.ensures.history o h stood, c.prefix.ensures.history o h stood, made) refl
