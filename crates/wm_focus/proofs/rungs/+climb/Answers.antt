use Rattle.std.proofs.Common.{◌≡◌, false, None, Some, ap, sym, ◌∙◌, arith, rules}
use Rattle.std.proofs.lemmas.Grind.{common_steps}
use Rattle.wm_focus.proofs.ClimbLemmas.{climb_floats, climb_kids, climb_rest}
use Rattle.wm_focus.proofs.RungLemmas.{falls}
use Rattle.wm_focus.specs.Rungs.{rung}
use Rattle.wm_focus.specs.Walks.{climbed, further}
use Rattle.wm_forest.specs.Forest.{node_count}
use Rattle.wm_forest.specs.Look.{first_floats, first_kids, first_part, same}
use Rattle.wm_focus.proofs.rungs.+climb.Goals as goal

pub returns-in-Some-climb : goal.returns-in-Some-climb
returns-in-Some-climb t c =
    let first : first_part c.loop-part.row ≡ Some c.in-Some.part.now = first_of (search rules, grind (arith, common_steps)) in
    let other : same c.in-Some.part.now.id c.args.con ≡ false = first_of (search rules, grind (arith, common_steps)) in
    let below : climbed c.args.d c.args.con (first_kids c.loop-part.row) ≡ Some c.in-Some-climb.below = first_of (search rules, grind (arith, common_steps)) in
    let whole : climbed c.args.d c.args.con c.args.row ≡ Some (record { child = c.in-Some.part.now.id; ways = further c.in-Some-climb.below.ways c.args.d (rung c.in-Some.part.now.kind (first_kids c.loop-part.row) c.in-Some-climb.below.child) }) =
    sym c.loop-part.invariant.found ∙ climb_kids c.args.d c.args.con c.loop-part.row c.in-Some.part.now c.in-Some-climb.below first other below in
    first_of (search rules, grind (arith, common_steps))

pub returns-in-Some-climb-2 : goal.returns-in-Some-climb-2
returns-in-Some-climb-2 t c =
    let first : first_part c.loop-part.row ≡ Some c.in-Some.part.now = first_of (search rules, grind (arith, common_steps)) in
    let other : same c.in-Some.part.now.id c.args.con ≡ false = first_of (search rules, grind (arith, common_steps)) in
    let kids : climbed c.args.d c.args.con (first_kids c.loop-part.row) ≡ None = first_of (search rules, grind (arith, common_steps)) in
    let floats : climbed c.args.d c.args.con (first_floats c.loop-part.row) ≡ Some c.in-Some-climb-2.below = first_of (search rules, grind (arith, common_steps)) in
    sym (climb_floats c.args.d c.args.con c.loop-part.row c.in-Some.part.now c.in-Some-climb-2.below first other kids floats) ∙ c.loop-part.invariant.found

pub loop-part-preserved : goal.loop-part-preserved
loop-part-preserved t c =
    let first : first_part c.loop-part.row ≡ Some c.in-Some.part.now = first_of (search rules, grind (arith, common_steps)) in
    let other : same c.in-Some.part.now.id c.args.con ≡ false = first_of (search rules, grind (arith, common_steps)) in
    let kids : climbed c.args.d c.args.con (first_kids c.loop-part.row) ≡ None = first_of (search rules, grind (arith, common_steps)) in
    let floats : climbed c.args.d c.args.con (first_floats c.loop-part.row) ≡ None = first_of (search rules, grind (arith, common_steps)) in
    record {
      left = omega (arith, (falls c.loop-part.row c.in-Some.part.now first).rest, c.loop-part.invariant.left, ap node_count c.rest-row.ensures);
      found =
          ap (climbed c.args.d c.args.con) c.rest-row.ensures
          ∙ sym (climb_rest c.args.d c.args.con c.loop-part.row c.in-Some.part.now first other kids floats)
          ∙ c.loop-part.invariant.found;
    }
