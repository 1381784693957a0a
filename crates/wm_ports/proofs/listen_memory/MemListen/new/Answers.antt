use Rattle.std.proofs.Common.{length, ap, sym, ◌∙◌, arith}
use Rattle.wm_ports.specs.ListenMemory.{waiting_after}
use Rattle.wm_ports.proofs.listen_memory.MemListen.new.Goals as goal

pub invariant_of-result : goal.invariant_of-result
unfolding waiting_after
invariant_of-result c = (
  record {
    within = omega arith;
    is = λ _. c.into_iter.ensures.rest ∙ sym c.as_slice.ensures.value ∙ sym c.in_ok-kept.ensures;
  },
  omega (arith, c.in_ok-returned.ensures.len, c.in_ok-returned.ensures.exact, c.into_iter.ensures.len, c.len.ensures),
  c.into_iter.ensures.len ∙ c.args.links.ok.0 ∙ ap length (sym c.into_iter.ensures.rest),
)
