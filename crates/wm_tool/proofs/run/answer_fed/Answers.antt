use Rattle.std.proofs.Common.{ap, arith, length, subst, sym}
use Rattle.std.specs.List.{AllByRecursion}
use Rattle.wm_frames.specs.Frame.{IsShort}
use Rattle.wm_frames.proofs.FrameLemmas.{reading_splits}
use Rattle.wm_tool.proofs.FramesLemmas.{few_messages}
use Rattle.wm_tool.proofs.run.answer_fed.Goals as goal

pub answer_all-requires : goal.answer_all-requires
answer_all-requires g c = record { few = omega (arith, c.requires.within, few_messages c.args.bytes.now, ap length c.in_ok-end.ensures.queue); short = subst (AllByRecursion IsShort) (sym c.in_ok-end.ensures.queue) (reading_splits c.args.bytes.now (λ i. omega (arith, c.type_inv.bytes i))).short; none = c.new-refused.ensures.items }
