use Rattle.std.proofs.Common.{◌≡◌, ◌||◌, ◌≤◌, true}
use Rattle.wm_base.specs.declared.ids.ConId.{ConId}
use Rattle.wm_forest.specs.Forest.{node_count}
use Rattle.wm_forest.specs.Look.{has}
use Rattle.wm_forest.specs.Sieve.{is_taken}
use Rattle.wm_forest.proofs.sieve.Sieve.+take_in.Given as goal

abbrev pub decreases-take_in : goal.decreases-take_in
decreases-take_in l = node_count l.row.now

-- an id of the row is in what is left of it, or its place is taken
abbrev pub invariant-loop-row : goal.invariant-loop-row
invariant-loop-row l = record {
  left : node_count l.row ≤ node_count l.fn.row;
  taken : (c : ConId) → has c l.fn.row || is_taken c l.fn.self ≡ true → has c l.row || is_taken c l.self ≡ true;
}
