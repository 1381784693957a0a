use Rattle.std.proofs.Common.{◌∙◌, ap, sym}
use Rattle.std.specs.Option.{option_copied}
use Rattle.wm_shared.proofs.KeyLemmas.{keys_step}
use Rattle.wm_shared.proofs.outputs.nearest.Goals as goal

pub loop-part-preserved : goal.loop-part-preserved
loop-part-preserved c = keys_step c.args.d c.args.a c.loop-part.row c.rest-row.result c.in-Some.part.now c.loop-part.best c.key_beyond.result c.lesser-best.result _ (sym c.part.ensures ∙ ap option_copied c.in-Some.is) c.rest-row.ensures c.key_beyond.ensures c.lesser-best.ensures c.loop-part.invariant
