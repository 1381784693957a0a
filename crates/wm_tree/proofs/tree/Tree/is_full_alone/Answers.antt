use Rattle.std.proofs.Common.{sym, ◌∙◌}
use Rattle.wm_tree.proofs.GivingLemmas.{alone_first, alone_room}
use Rattle.wm_tree.proofs.tree.Tree.is_full_alone.Goals as goal

pub returns-then-is_empty : goal.returns-then-is_empty
returns-then-is_empty c =
    alone_first c.args.con c.args.n.now c.args.self.now c.args.own.now c.stays_full.result c.requires.own (sym c.is_empty.ensures ∙ c.if-is_empty.true) c.stays_full.ensures

pub returns-else-is_empty : goal.returns-else-is_empty
returns-else-is_empty c =
    alone_room c.args.con c.args.n.now c.args.self.now c.args.own.now c.requires.sound c.requires.there c.requires.other c.requires.own (sym c.is_empty.ensures ∙ c.if-is_empty.false)
