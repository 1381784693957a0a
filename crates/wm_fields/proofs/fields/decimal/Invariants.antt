use Rattle.std.proofs.Common.{◌≡◌, ◌≤◌, length}
use Rattle.wm_fields.specs.Fields.{decimal_value}
use Rattle.wm_fields.proofs.fields.decimal.Given as goal

-- the value so far, with the digits that are left, is that of all
abbrev pub invariant-loop-rest : goal.invariant-loop-rest
invariant-loop-rest l = record {
  value : decimal_value l.value l.rest ≡ decimal_value 0 l.digits;
  small : l.value ≤ l.most;
  within : l.most ≡ l.fn.most;
}

abbrev pub decreases-loop-rest : goal.decreases-loop-rest
decreases-loop-rest l = length l.rest
