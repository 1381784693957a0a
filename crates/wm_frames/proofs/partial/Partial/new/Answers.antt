use Rattle.wm_frames.proofs.PartialLemmas.{empty_partial}
use Rattle.wm_frames.proofs.partial.Partial.new.Goals as goal

pub returns-clause-partial : goal.returns-clause-partial
returns-clause-partial c = empty_partial c.new.result c.new-2.result.items c.new.ensures c.new-2.ensures.items
