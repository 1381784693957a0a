use Rattle.std.proofs.Common.{arith}
use Rattle.wm_saved.proofs.NodeLemmas.{levels_left}
use Rattle.wm_saved.proofs.limits.+depth.Goals as goal
use Rattle.wm_saved.proofs.limits.+depth.Goals.{fits_levels-then-room-eq0-via-then-room-eq0, fits_levels-then-room-eq0-via-else-room-eq0+then-not-fits_below}

pub fits_levels-returns-then-room-eq0 : goal.fits_levels-returns-then-room-eq0
fits_levels-returns-then-room-eq0 t c =
    let left = levels_left c.args.nodes.now c.loop-node.node-index c.node-item.result c.loop-node-test.true c.node-item.is in
    elim c.then-room-eq0.branch [ fits_levels-then-room-eq0-via-then-room-eq0 w ↦ grind arith | fits_levels-then-room-eq0-via-else-room-eq0+then-not-fits_below w ↦ grind arith ]

pub fits_levels-loop-node-preserved : goal.fits_levels-loop-node-preserved
fits_levels-loop-node-preserved t c =
    let left = levels_left c.args.nodes.now c.loop-node.node-index c.node-item.result c.loop-node-test.true c.node-item.is in
    let given = c.if-not-fits_below.ensures in
    grind arith
