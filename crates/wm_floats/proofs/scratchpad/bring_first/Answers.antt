use Rattle.std.proofs.Common.{◌∙◌, sym}
use Rattle.wm_floats.proofs.FloatLemmas.{first_is}
use Rattle.wm_floats.proofs.scratchpad.bring_first.Goals as goal

pub bring-requires-clause-con : goal.bring-requires-clause-con
bring-requires-clause-con c = first_is c.args.t.now c.in-Some.con c.requires (sym c.scratchpad.ensures ∙ c.in-Some.is)
