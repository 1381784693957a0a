use Rattle.wm_arrange.proofs.SameLemmas.{parts-decide}
use Rattle.wm_arrange.proofs.parts.Arrangement.same.Goals as goal

pub returns-clause-equal : goal.returns-clause-equal
returns-clause-equal c = rw (c.same_parts.ensures, c.items.ensures, c.items-2.ensures) (parts-decide c.args.self.now.parts c.args.other.now.parts)
