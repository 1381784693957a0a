use Rattle.std.proofs.Common.{◌≡◌, ◌∙◌, ap, arith, min, rules}
use Rattle.std.proofs.lemmas.Int.{to_z-of_z}
use mir.Syntax.{w32}
use mir.Val.{SFits}
use Rattle.wm_base.specs.declared.ids.Ink.{Ink}
use Rattle.wm_paint.specs.CanvasValue.{x_at, y_at}
use Rattle.wm_paint.specs.Picture.{after_fill}
use Rattle.wm_paint.proofs.PictureLemmas.{clipped, window_clipped, window_whole}
use Rattle.wm_paint.proofs.paint.paint_window.Goals as goal

pub returns-then-size-content-2 : goal.returns-then-size-content-2
returns-then-size-content-2 c = λ k lt.
    c.paint_rect.ensures k lt ∙ window_whole c.args.content c.args.buffer (x_at c.args.area k) (y_at c.args.area k) _ (omega arith) (omega arith)

pub returns : goal.returns
returns c = λ k lt.
    let x : SFits w32 c.args.content.x = search rules in
    let y : SFits w32 c.args.content.y = search rules in
    let w : c.min.result ≡ min c.args.content.w c.args.buffer.size.w = grind (arith, c.min.ensures) in
    let h : c.min-2.result ≡ min c.args.content.h c.args.buffer.size.h = grind (arith, c.min-2.ensures) in
    let last = rw (w, h) at (simp to_z-of_z at c.paint_rect-3.ensures k lt) in
    last
    ∙ (ap (λ (i : Ink). after_fill (clipped c.args.content c.args.buffer.size) c.args.buffer.ink (x_at c.args.area k) (y_at c.args.area k) i) (c.paint_rect-2.ensures k lt)
    ∙ window_clipped c.args.content c.args.buffer (x_at c.args.area k) (y_at c.args.area k) _)
