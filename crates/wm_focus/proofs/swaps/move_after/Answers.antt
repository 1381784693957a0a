use Rattle.std.proofs.Common.{◌≡◌, true, false, arith, rules}
use Rattle.std.proofs.lemmas.Grind.{common_steps}
use Rattle.wm_focus.proofs.SwapLemmas.{move_cause, space_if}
use Rattle.wm_forest.specs.Look.{has, only}
use Rattle.wm_tree.specs.TreeValue.{is_tiled_con, workspace_of}
use Rattle.wm_focus.proofs.swaps.move_after.Goals as goal

pub send_beside-requires-clause-space : goal.send_beside-requires-clause-space
send_beside-requires-clause-space c =
    let own : workspace_of c.args.t.now c.args.other ≡ c.match-standing-2.space = first_of (search rules, grind (arith, common_steps)) in
    space_if c.args.other c.match-standing-2.space c.args.t.now c.requires.sound own

pub returns-in-Err : goal.returns-in-Err
returns-in-Err c = record {
  tree = search rules;
  fine = search rules;
  err = search rules;
  cause =
      let apart : has c.args.other (only c.args.con c.args.t.now.nodes) ≡ false = first_of (search rules, grind (arith, common_steps)) in
      let own : is_tiled_con c.args.t.now c.args.con ≡ true = first_of (search rules, grind (arith, common_steps)) in
      let others : is_tiled_con c.args.t.now c.args.other ≡ true = first_of (search rules, grind (arith, common_steps)) in
      rw c.refused.ensures (move_cause c.args.t.now c.args.con c.args.other c.in-Err.error apart others own c.in-Err.ensures.cause);
  sound = search rules;
}
