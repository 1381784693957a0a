use Rattle.std.proofs.Common.{◌≡◌, ◌≤◌, length, ap, ap₂, subst, sym, ◌∙◌}
use Rattle.wm_arrange.specs.Arranged.{arranged}
use Rattle.wm_changes.specs.Changes.{changes}
use Rattle.wm_changes.proofs.FewLemmas.{few}
use Rattle.wm_txn.specs.Stands as transactions
use Rattle.wm_core.specs.DeskValue.{DeskValue}
use Rattle.wm_history.specs.History.{entries, first}
use Rattle.wm_history.proofs.BeginningLemmas.{arrangement_is}
use Rattle.wm_core.proofs.desk.Desk.rearrange.Goals as goal

-- the newest arrangement is that of the tree
pub returns-in-Ok-clause-events : goal.returns-in-Ok-clause-events
returns-in-Ok-clause-events c = λ start history s.
    let t = c.args.self.now.tree in
    let stood = subst (λ (d : DeskValue). transactions.Stands (first start) (entries start history) d.txn) (sym c.self.view_is) s.commits in
    let parts : c.newest.result.now.parts ≡ arranged t = c.newest.ensures.history (first start) (entries start history) stood ∙ (arrangement_is start history ∙ ap arranged (sym s.tree_is)) in
    c.in-Ok.ensures
    ∙ (ap₂ (λ u p. changes u p c.args.tree.now c.in_ok-newest.newest.parts) (ap (λ (d : DeskValue). d.tree) c.self.view_is) parts
    ∙ ap (λ p. changes t (arranged t) c.args.tree.now p) c.in_ok-newest.ensures.parts)

pub returns-in-Ok-clause-few : goal.returns-in-Ok-clause-few
returns-in-Ok-clause-few c = subst (λ told. length told ≤ 29443) (sym c.in-Ok.ensures) (few c.self.inside.tree c.newest.result.now.parts c.args.tree.now c.in_ok-newest.newest.parts c.self.invariant.1 c.requires)
