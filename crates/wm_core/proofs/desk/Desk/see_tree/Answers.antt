use Rattle.std.proofs.Common.{◌≡◌, ap, ap₂, subst, sym, ◌∙◌}
use Rattle.wm_arrange.specs.Arranged.{arranged}
use Rattle.wm_txn.specs.Stands as transactions
use Rattle.wm_views.specs.Nodes.{tree_view}
use Rattle.wm_core.specs.DeskValue.{DeskValue}
use Rattle.wm_history.specs.History.{entries, first}
use Rattle.wm_history.specs.declared.look.View.TheVariants as views
use Rattle.wm_history.proofs.BeginningLemmas.{arrangement_is}
use Rattle.wm_core.proofs.desk.Desk.see_tree.Goals as goal

-- the newest arrangement is that of the tree
pub returns : goal.returns
returns c = λ start history s.
    let stood = subst (λ (d : DeskValue). transactions.Stands (first start) (entries start history) d.txn) (sym c.self.view_is) s.commits in
    let parts : c.newest.result.now.parts ≡ arranged c.args.self.now.tree = c.newest.ensures.history (first start) (entries start history) stood ∙ (arrangement_is start history ∙ ap arranged (sym s.tree_is)) in
    ap (λ v. views.Tree v) (c.in_ok-tree_view.ensures ∙ ap₂ tree_view (ap (λ (d : DeskValue). d.tree) c.self.view_is) parts)
