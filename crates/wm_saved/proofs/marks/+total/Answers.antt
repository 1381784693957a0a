use Rattle.std.proofs.Common.{◌+◌, arith, drop}
use Rattle.wm_saved.specs.Containers.{kids}
use Rattle.wm_saved.specs.Limits.{all_marks, with_marks}
use Rattle.wm_saved.proofs.MarkLemmas.{total_left, with_marks-grows}
use Rattle.wm_saved.proofs.marks.+total.Goals as goal

pub add_all-returns-then-branch-clause-over : goal.add_all-returns-then-branch-clause-over
add_all-returns-then-branch-clause-over t c =
    let n = c.node-item.result in
    let held = c.loop-node.held.items in
    let rest = all_marks (drop (c.loop-node.node-index + 1) c.args.nodes.now) in
    let left = total_left held c.args.nodes.now c.loop-node.node-index n c.loop-node-test.true c.node-item.is in
    let all = c.loop-node.invariant in
    let over = c.in_ok-add_marks.ensures.over in
    let grows = with_marks-grows (with_marks held n.marks) (all_marks (kids n)) in
    let more = with_marks-grows (with_marks (with_marks held n.marks) (all_marks (kids n))) rest in
    grind arith

pub add_all-returns-then-branch-2-clause-over : goal.add_all-returns-then-branch-2-clause-over
add_all-returns-then-branch-2-clause-over t c =
    let n = c.node-item.result in
    let held = c.loop-node.held.items in
    let rest = all_marks (drop (c.loop-node.node-index + 1) c.args.nodes.now) in
    let left = total_left held c.args.nodes.now c.loop-node.node-index n c.loop-node-test.true c.node-item.is in
    let all = c.loop-node.invariant in
    let added = c.in_ok-add_marks.ensures.added c.if-branch.false in
    let over = c.in_ok-add_below.ensures.over in
    let more = with_marks-grows (with_marks (with_marks held n.marks) (all_marks (kids n))) rest in
    grind arith

pub add_all-loop-node-preserved : goal.add_all-loop-node-preserved
add_all-loop-node-preserved t c =
    let n = c.node-item.result in
    let held = c.loop-node.held.items in
    let left = total_left held c.args.nodes.now c.loop-node.node-index n c.loop-node-test.true c.node-item.is in
    let all = c.loop-node.invariant in
    let added = c.in_ok-add_marks.ensures.added c.if-branch.false in
    let deeper = c.in_ok-add_below.ensures.added c.if-branch-2.false in
    grind arith
