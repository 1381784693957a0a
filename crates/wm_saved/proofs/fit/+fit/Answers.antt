use Rattle.std.proofs.Common.{arith}
use Rattle.wm_saved.specs.Limits.{is_fit_own}
use Rattle.wm_saved.proofs.NodeLemmas.{all_left}
use Rattle.wm_saved.proofs.fit.+fit.Goals as goal

pub are_fit-returns-then-not-is_fit_with : goal.are_fit-returns-then-not-is_fit_with
are_fit-returns-then-not-is_fit_with t c =
    let left = all_left is_fit_own c.args.nodes.now c.loop-node.node-index c.node-item.result c.loop-node-test.true c.node-item.is in
    let all = c.loop-node.invariant in
    let here = c.is_fit_with.ensures in
    grind arith

pub are_fit-returns-then-not-is_fit_kind : goal.are_fit-returns-then-not-is_fit_kind
are_fit-returns-then-not-is_fit_kind t c =
    let left = all_left is_fit_own c.args.nodes.now c.loop-node.node-index c.node-item.result c.loop-node-test.true c.node-item.is in
    let all = c.loop-node.invariant in
    let here = c.is_fit_with.ensures in
    let deeper = c.is_fit_kind.ensures in
    grind arith

pub are_fit-loop-node-preserved : goal.are_fit-loop-node-preserved
are_fit-loop-node-preserved t c =
    let left = all_left is_fit_own c.args.nodes.now c.loop-node.node-index c.node-item.result c.loop-node-test.true c.node-item.is in
    let all = c.loop-node.invariant in
    let here = c.is_fit_with.ensures in
    let deeper = c.is_fit_kind.ensures in
    grind arith
