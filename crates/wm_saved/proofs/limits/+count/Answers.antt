use Rattle.std.proofs.Common.{length, arith, sym, subst}
use Rattle.std.specs.Prelude.{◌<◌, IfNone}
use Rattle.wm_saved.specs.Containers.{containers}
use Rattle.wm_saved.proofs.NodeLemmas.{count_left}
use Rattle.wm_saved.proofs.limits.+count.Goals as goal

pub room_behind-loop-node-preserved : goal.room_behind-loop-node-preserved
room_behind-loop-node-preserved t c =
    let left = count_left c.args.nodes.now c.loop-node.node-index c.node-item.result (omega arith) c.node-item.is in
    let given = c.in_ok-left.ensures.some in
    omega arith

pub room_behind-returns-in_err-checked_sub-clause-none : goal.room_behind-returns-in_err-checked_sub-clause-none
room_behind-returns-in_err-checked_sub-clause-none t c =
    let left = count_left c.args.nodes.now c.loop-node.node-index c.node-item.result (omega arith) c.node-item.is in
    subst (λ r. IfNone r (c.args.room < length (containers c.args.nodes.now))) (sym c.from_residual.ensures) (omega arith)

pub room_behind-returns-in_err-left-clause-none : goal.room_behind-returns-in_err-left-clause-none
room_behind-returns-in_err-left-clause-none t c =
    let left = count_left c.args.nodes.now c.loop-node.node-index c.node-item.result (omega arith) c.node-item.is in
    let given = c.in_err-left.ensures.none in
    subst (λ r. IfNone r (c.args.room < length (containers c.args.nodes.now))) (sym c.from_residual-in_err-left.ensures) (omega arith)
