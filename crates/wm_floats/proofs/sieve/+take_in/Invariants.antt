use Rattle.std.proofs.Common.{◌≡◌, ◌||◌, ◌≤◌, true}
use Rattle.wm_base.specs.declared.ids.ConId.{ConId}
use Rattle.wm_floats.specs.Sieve.{wants}
use Rattle.wm_forest.specs.Sieve.{is_taken}
use Rattle.wm_forest.specs.Forest.{node_count}
use Rattle.wm_floats.proofs.sieve.+take_in.Given as goal

abbrev pub decreases-take_in : goal.decreases-take_in
decreases-take_in l = node_count l.row

-- a container that the row has is in what is left of it, or its place is taken
abbrev pub invariant-loop-part : goal.invariant-loop-part
invariant-loop-part l = record {
  left : node_count l.row ≤ node_count l.fn.row;
  taken : (c : ConId) → wants l.wanted.kind l.wanted.space c l.space l.tiled l.fn.row || is_taken c l.fn.sieve ≡ true → wants l.wanted.kind l.wanted.space c l.space l.tiled l.row || is_taken c l.sieve ≡ true;
}

abbrev pub decreases-loop-part : goal.decreases-loop-part
decreases-loop-part l = node_count l.row
