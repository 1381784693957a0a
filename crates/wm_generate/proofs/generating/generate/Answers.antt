use Rattle.std.proofs.Common.{◌∙◌, arith}
use Rattle.wm_generate.proofs.GenerateLemmas.{arrives, takes_one}
use Rattle.wm_generate.proofs.generating.generate.Goals as goal

pub loop-left-preserved : goal.loop-left-preserved
loop-left-preserved c =
    let kept = c.loop-left.invariant in
    record {
      few = omega (arith, kept.few, c.in_ok-take.ensures.count, c.loop-left-test.true);
      plan = c.take.ensures.plan ∙ kept.plan;
      leads = takes_one _ _ _ _ c.loop-left.left c.loop-left.number c.next-number.result c.loop-left-test.true c.next-number.ensures kept.leads c.in_ok-take.ensures.stands;
    }

pub returns-clause-stands : goal.returns-clause-stands
returns-clause-stands c = λ start history stands.
    arrives _ _ _ c.loop-left.left c.loop-left.number (omega (arith, c.loop-left-test.false)) c.loop-left.invariant.leads start history stands

pub returns-clause-state : goal.returns-clause-state
returns-clause-state c = λ start history stands.
    c.state.ensures start _ (arrives _ _ _ c.loop-left.left c.loop-left.number (omega (arith, c.loop-left-test.false)) c.loop-left.invariant.leads start history stands)
