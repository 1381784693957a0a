use Rattle.std.proofs.Common.{arith}
use Rattle.wm_saved.specs.Limits.{is_crowded_own}
use Rattle.wm_saved.proofs.NodeLemmas.{any_left}
use Rattle.wm_saved.proofs.marks.+crowd.Goals as goal

pub is_crowded-returns-then-branch : goal.is_crowded-returns-then-branch
is_crowded-returns-then-branch t c =
    let left = any_left is_crowded_own c.args.nodes.now c.loop-node.node-index c.node-item.result c.loop-node-test.true c.node-item.is in
    let all = c.loop-node.invariant in
    let here = c.in_ok-are_many.ensures in
    grind arith

pub is_crowded-returns-then-branch-2 : goal.is_crowded-returns-then-branch-2
is_crowded-returns-then-branch-2 t c =
    let left = any_left is_crowded_own c.args.nodes.now c.loop-node.node-index c.node-item.result c.loop-node-test.true c.node-item.is in
    let all = c.loop-node.invariant in
    let here = c.in_ok-are_many.ensures in
    let deeper = c.in_ok-is_kind_crowded.ensures in
    grind arith

pub is_crowded-loop-node-preserved : goal.is_crowded-loop-node-preserved
is_crowded-loop-node-preserved t c =
    let left = any_left is_crowded_own c.args.nodes.now c.loop-node.node-index c.node-item.result c.loop-node-test.true c.node-item.is in
    let all = c.loop-node.invariant in
    let here = c.in_ok-are_many.ensures in
    let deeper = c.in_ok-is_kind_crowded.ensures in
    grind arith
