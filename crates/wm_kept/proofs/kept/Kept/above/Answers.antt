use Rattle.std.proofs.Common.{◌≡◌, ◌≤◌, ◌-◌, length, drop, min, ap, sym, ◌∙◌, arith}
use Rattle.wm_kept.specs.Above.{told_above}
use Rattle.wm_kept.specs.Log.{Log}
use Rattle.wm_kept.specs.declared.above.Above.TheVariants.{Events}
use Rattle.wm_kept.proofs.LogLemmas.{follows, since}
use Rattle.wm_kept.proofs.kept.Kept.above.Goals as goal

-- those from the place on that is as far from the oldest as the number
pub returns-clause-value : goal.returns-clause-value
returns-clause-value c =
    let i = c.self.inside in
    let from : i.last - length i.events.items ≤ c.args.above = omega arith in
    let start : c.min-start.result ≡ min (c.args.above - (i.last - length i.events.items)) (length i.events.items) =
    c.min-start.ensures ∙ ap (λ n. min (c.args.above - (i.last - n)) n) c.len-kept.ensures.len in
    let shown = c.in_ok-events.ensures ∙ (ap (drop c.min-start.result) c.as_slices.ensures ∙ ap (λ k. drop k i.events.items) start) in
    ap Events shown ∙ (sym (follows c.args.above i.last i.events.items c.self.invariant.1 from) ∙ ap (λ (k : Log). told_above c.args.above k.events) c.self.view_is)

pub returns-clause-history : goal.returns-clause-history
returns-clause-history c all e = returns-clause-value c ∙ (ap (λ (k : Log). told_above c.args.above k.events) e ∙ since c.args.above all)
