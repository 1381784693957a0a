use Rattle.std.proofs.Common.{arith}
use Rattle.wm_history.proofs.OpenLemmas.{window_con}
use Rattle.wm_core.proofs.desk.Desk.change_to.Goals as goal

-- a tree has at most 4,096 windows
pub closed-requires-clause-few : goal.closed-requires-clause-few
closed-requires-clause-few c = omega (arith, c.self.invariant.0.0.1, window_con c.self.inside.tree.nodes, c.self.invariant.1.few)
