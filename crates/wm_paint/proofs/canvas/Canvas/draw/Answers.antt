use Rattle.std.proofs.Common.{◌≡◌, ◌∙◌, List, length, arith, ap}
use Rattle.std.specs.Vec.{with_items}
use Rattle.std.proofs.lemmas.List.{with_items_is}
use Rattle.wm_paint.specs.declared.frame.Quad.{Quad}
use Rattle.wm_paint.specs.CanvasValue.{CanvasValue, count, drawn_inks, pixel}
use Rattle.wm_paint.proofs.PictureLemmas.{canvas_of, drawn_from, picture_pixel}
use Rattle.wm_paint.proofs.canvas.Canvas.draw.Goals as goal

pub returns-clause-drawn : goal.returns-clause-drawn
returns-clause-drawn c =
    let size : length c.as_mut_slice-inks.result.now ≡ count c.self.inside.area = ap length c.as_mut_slice-inks.ensures.value ∙ c.self.invariant.1 in
    let same : length c.paint_quads.new.inks ≡ count c.self.inside.area = omega (arith, size) in
    let inks : c.paint_quads.new.inks ≡ drawn_inks c.self.inside.area c.items.result.now = drawn_from c.self.inside.area c.items.result.now (length c.as_mut_slice-inks.result.now) c.fill.new.self c.paint_quads.new.inks size (c.fill.ensures.after (λ y e. e)) same c.paint_quads.ensures in
    let items : (with_items c.self.inside.inks c.paint_quads.new.inks).items ≡ c.paint_quads.new.inks = with_items_is c.self.inside.inks c.paint_quads.new.inks (omega (arith, size, same)) in
    rw (← c.self.view_is) (canvas_of c.self.inside.area c.args.frame.now.quads _ (items ∙ (inks ∙ ap (λ (q : List Quad). drawn_inks c.self.inside.area q) c.items.ensures)))

pub returns-clause-pixels : goal.returns-clause-pixels
returns-clause-pixels c = λ x y. ap (λ (v : CanvasValue). pixel v x y) (returns-clause-drawn c) ∙ picture_pixel c.args.self.now.area c.args.frame.now.quads x y
