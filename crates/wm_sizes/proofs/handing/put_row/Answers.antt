use Rattle.std.proofs.Common.{refl, arith}
use Rattle.wm_sizes.proofs.HandLemmas.{siblings_length}
use Rattle.wm_sizes.proofs.handing.put_row.Goals as goal

pub loop-part-init : goal.loop-part-init
loop-part-init c = record {
  few = omega (arith, siblings_length c.args.row, c.requires.few);
  turns = omega (arith, siblings_length c.args.row, c.requires.few);
  fit = c.requires.fit;
  done = refl;
}
