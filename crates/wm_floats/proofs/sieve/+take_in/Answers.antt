use Rattle.std.proofs.Common.{◌≡◌, ◌≤◌, Some, arith, rules}
use Rattle.std.proofs.lemmas.Grind.{common_steps}
use Rattle.wm_floats.proofs.SieveLemmas.{left_behind}
use Rattle.wm_forest.specs.Forest.{node_count}
use Rattle.wm_forest.specs.Look.{first_part}
use Rattle.wm_floats.proofs.sieve.+take_in.Goals as goal

pub loop-part-preserved : goal.loop-part-preserved
loop-part-preserved t c =
    let is : first_part c.loop-part.row ≡ Some c.in-Some.part.now = first_of (search rules, grind (arith, common_steps)) in
    let less : node_count c.rest-row.result ≤ node_count c.args.row = first_of (search rules, grind (arith, common_steps)) in
    record {
      left = less;
      taken = λ d h.
          left_behind c.args.wanted.kind c.args.wanted.space d c.args.space c.space_at-within.result c.args.tiled c.loop-part.row c.in-Some.part.now c.kids.result c.floats.result c.rest-row.result
          c.loop-part.sieve c.take.new.sieve c.take_in.new.sieve c.take_in-in-Some.new.sieve
          (record { first = is; inside = c.space_at-within.ensures; tiled = c.kids.ensures; loose = c.floats.ensures; behind = c.rest-row.ensures })
          c.take.ensures c.take_in.ensures c.take_in-in-Some.ensures (c.loop-part.invariant.taken d h);
    }
