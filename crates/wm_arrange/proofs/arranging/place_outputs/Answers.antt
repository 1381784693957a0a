use Rattle.wm_arrange.proofs.ChoiceLemmas.{outputs_rest}
use Rattle.wm_arrange.proofs.TreeLemmas.{outputs_behind, outputs_on}
use Rattle.wm_arrange.proofs.arranging.place_outputs.Goals as goal

pub loop-parts-preserved : goal.loop-parts-preserved
loop-parts-preserved c =
    let kept = c.loop-parts.invariant in
    record {
      placed = outputs_on c.args.scene.now.tree.now c.args.scene.now.focused c.loop-parts.left c.rest-left.result _ _ _ c.in_ok-place_output.ensures c.rest-left.ensures kept.placed;
      sound = rw c.rest-left.ensures (outputs_behind c.loop-parts.left kept.sound);
      known = rw c.rest-left.ensures (outputs_rest c.args.scene.now.tree.now.recency _ c.loop-parts.left kept.known);
    }
