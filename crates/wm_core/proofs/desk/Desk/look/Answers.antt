use Rattle.std.proofs.Common.{◌≡◌, subst}
use Rattle.std.specs.Prelude.{IfOk}
use Rattle.wm_arrange.specs.Arranged.{arranged}
use Rattle.wm_tree.specs.TreeValue.{TreeValue}
use Rattle.wm_views.specs.Nodes.{tree_view}
use Rattle.wm_views.specs.Workspaces.{workspaces_view}
use Rattle.wm_history.specs.declared.look.View.TheVariants as views
use Rattle.wm_core.proofs.desk.Desk.look.Goals as goal

pub returns-in-Tree : goal.returns-in-Tree
returns-in-Tree c = λ start history s.
    let Seen : TreeValue → Type 0 = λ t. IfOk c.see_tree.result (λ view. view ≡ views.Tree (tree_view t (arranged t))) in
    rw c.in-Tree.is (subst Seen s.tree_is (c.see_tree.ensures start history s))

pub returns-in-Workspaces : goal.returns-in-Workspaces
returns-in-Workspaces c = λ start history s.
    let Seen : TreeValue → Type 0 = λ t. IfOk c.see_workspaces.result (λ view. view ≡ views.Workspaces (workspaces_view t (arranged t))) in
    rw c.in-Workspaces.is (subst Seen s.tree_is (c.see_workspaces.ensures start history s))
