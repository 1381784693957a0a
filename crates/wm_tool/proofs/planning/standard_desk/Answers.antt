use Rattle.std.proofs.Common.{subst, sym}
use Rattle.wm_tool.specs.Planning.{IsPlain}
use Rattle.wm_tool.proofs.RunLemmas.{if_ok_weaker}
use Rattle.wm_tool.proofs.planning.standard_desk.Goals as goal

pub returns-clause-plan : goal.returns-clause-plan
returns-clause-plan c = if_ok_weaker c.start.result c.start.ensures.plan (λ desk same. subst IsPlain (sym same) (record { standard = c.in_ok-plan.ensures.standard; config = c.in_ok-plan.ensures.config }))
