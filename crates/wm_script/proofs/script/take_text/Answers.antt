use Rattle.std.proofs.Common.{subst}
use Rattle.std.specs.Prelude.{IfSome}
use Rattle.wm_script.specs.Lines.{IsFitSaid}
use Rattle.wm_script.proofs.ReadingLemmas.{taken_few}
use Rattle.wm_script.proofs.script.take_text.Goals as goal

pub returns-in-Some-clause-few : goal.returns-in-Some-clause-few
returns-in-Some-clause-few c =
    taken_few c.args.reading.now c.take.new.self c.in-Some.said c.take.result (subst (λ o. IfSome o IsFitSaid) c.in-Some.is c.in_ok-said.ensures.fit) c.take.ensures
