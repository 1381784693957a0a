use Rattle.std.proofs.Common.{ap, arith}
use Rattle.std.proofs.lemmas.Int.{ints}
use Rattle.wm_base.proofs.Spans.{common-first_later, common-second_later}
use Rattle.wm_base.proofs.geometry.common.Goals as goal
use Rattle.wm_base.proofs.geometry.common.Goals.{then-start-other, else-start-other}

pub returns-then-count-gt0-clause-common : goal.returns-then-count-gt0-clause-common
returns-then-count-gt0-clause-common c =
    elim c.if-start-other.branch [
      | then-start-other w ↦
          let at = ap (λ p. p.0) w.first-is in
          let is = ap (λ p. p.1) w.first-is in
          common-second_later _ _ _ _ c.abs_diff-gap.result _ _ (omega (arith, ints)) (omega (arith, ints)) (omega (arith, ints)) c.if-count-gt0.true
      | else-start-other w ↦
          let at = ap (λ p. p.0) w.first-is in
          let is = ap (λ p. p.1) w.first-is in
          common-first_later _ _ _ _ c.abs_diff-gap.result _ _ (omega (arith, ints)) (omega (arith, ints)) (omega (arith, ints)) c.if-count-gt0.true
    ]
