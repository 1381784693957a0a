use Rattle.std.proofs.Common.{length, sym, ◌∙◌, ap, arith}
use Rattle.wm_frames.specs.Front.{front_of}
use Rattle.wm_frames.proofs.ReadingLemmas.{tail-not_whole, tail-length}
use Rattle.wm_frames.proofs.partial.Partial.end.Goals as goal

pub begin-requires : goal.begin-requires
begin-requires c = λ n e. tail-not_whole c.split_at.result.1.now n (ap front_of (sym c.in_ok-fresh.ensures.tail) ∙ e)

pub overflow_sub-size : goal.overflow_sub-size
overflow_sub-size c = omega (arith, tail-length c.split_at.result.1.now, ap length c.in_ok-fresh.ensures.tail)
