use Rattle.wm_tree.proofs.GivingLemmas.{beside_full, beside_room}
use Rattle.wm_tree.proofs.tree.Tree.is_full_beside.Goals as goal

pub returns-then-stays_full : goal.returns-then-stays_full
returns-then-stays_full c = beside_full c.args.con c.args.n.now c.args.self.now c.stays_full.result c.stays_full.ensures c.if-stays_full.true

pub returns-else-stays_full : goal.returns-else-stays_full
returns-else-stays_full c =
    beside_room c.args.con c.args.n.now c.args.self.now c.args.own.now c.stays_full.result c.requires.own c.stays_full.ensures c.if-stays_full.false
