use Rattle.std.proofs.Common.{◌≡◌, ◌+◌, ◌≤◌, ◌^◌}
use Rattle.wm_generate.specs.Numbers.{numbers}
use Rattle.wm_generate.proofs.GenerateLemmas.{Leads}
use Rattle.wm_generate.proofs.generating.generate.Given as goal

-- the steps that are left lead to what all numbers make
abbrev pub invariant-loop-left : goal.invariant-loop-left
invariant-loop-left l = record {
  few : l.desk.steps + l.left ≤ 2 ^ 48;
  plan : l.desk.plan ≡ l.initial.desk.plan;
  leads : Leads l.initial.desk (numbers l.count l.seed) l.desk (numbers l.left l.number);
}

abbrev pub decreases-loop-left : goal.decreases-loop-left
decreases-loop-left l = l.left
