use Rattle.std.proofs.Common.{refl}
use Rattle.wm_history.proofs.GoneLemmas.{one_out}
use Rattle.wm_history.proofs.windows.detach_all.Goals as goal

pub loop-rest-preserved : goal.loop-rest-preserved
loop-rest-preserved c =
    let kept = c.loop-rest.invariant in
    let each = one_out _ _ _ c.loop-rest.rest.now c.loop-rest.tree c.detach.new.self c.detach.ensures.tree c.in-len1-up.len_at_least refl kept.left kept.containers kept.sound in
    record {
      left = each.0;
      containers = each.1;
      sound = c.detach.ensures.sound each.2 kept.sound;
    }
