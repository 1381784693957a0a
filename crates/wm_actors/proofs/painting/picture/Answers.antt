use Rattle.std.proofs.Common.{inr}
use Rattle.wm_paint.specs.FrameText.{frame_text}
use Rattle.wm_actors.specs.Pictured.{Unread}
use Rattle.wm_actors.proofs.PaintLemmas.{on_err, reads_frame}
use Rattle.wm_actors.proofs.painting.picture.Goals as goal

pub returns-clause-unread : goal.returns-clause-unread
returns-clause-unread g c =
    let old = g.D.Door.carried c.args.pass.now in
    let new = g.D.Door.carried c.paint.new.pass in
    on_err c.frame_text-text.result (Unread old new) (inr (frame_text c.in_ok-frame.frame, reads_frame old new c.in_ok-frame.frame c.in_ok-frame.ensures.looks))
