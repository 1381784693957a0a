use Rattle.std.proofs.Common.{◌≡◌, ap, ◌∙◌, arith}
use Rattle.wm_history.specs.Windows.{window_part}
use Rattle.wm_history.proofs.OpenLemmas.{window_con}
use Rattle.wm_forest.specs.Counts.{count}
use Rattle.wm_history.proofs.counting.window_count.Goals as goal

-- there are at most 4,096 containers
pub count-requires : goal.count-requires
count-requires c = rw c.nodes.ensures (omega (arith, window_con c.args.tree.now.nodes, c.requires.few))

pub returns-clause-small : goal.returns-clause-small
returns-clause-small c =
    let counted : c.count.result ≡ count window_part c.args.tree.now.nodes = c.count.ensures ∙ ap (count window_part) c.nodes.ensures in
    omega (arith, counted, window_con c.args.tree.now.nodes, c.requires.few)
