use Rattle.std.proofs.Common.{List, subst, sym, ℕ}
use Rattle.wm_actors.specs.Pictured.{Painting, screen}
use Rattle.wm_actors.proofs.PaintLemmas.{painting_first}
use Rattle.wm_actors.proofs.painting.painter_loop.Goals as goal

pub loop-init : goal.loop-init
loop-init g c =
    let first = g.D.Door.carried c.args.pass.now in
    let at = screen (g.S.Sink.taken c.args.frames.now) (g.S.Sink.faults c.args.frames.now) in
    record {
      door = c.requires.ready.0;
      turn = c.requires.ready.1;
      goes = subst (λ (last : List ℕ). Painting first first at at last) (sym c.new-last.ensures.bytes) (painting_first first at);
    }
