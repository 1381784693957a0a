use Rattle.std.proofs.Common.{◌∙◌, ◌%◌, ◌/◌, ◌<◌, arith, rules}
use Rattle.std.proofs.lemmas.Int.{to_z-of_z}
use Rattle.std.proofs.lemmas.Nat.{div_below, mod_below}
use mir.Syntax.{w32}
use mir.Val.{SFits}
use Rattle.wm_paint.proofs.PictureLemmas.{same_fill}
use Rattle.wm_paint.proofs.paint.paint_rect.Goals as goal

pub returns : goal.returns
returns c = λ k lt.
    let x : SFits w32 c.args.rect.x = search rules in
    let y : SFits w32 c.args.rect.y = search rules in
    let left : SFits w32 c.args.area.x = search rules in
    let top : SFits w32 c.args.area.y = search rules in
    let column : k % c.args.area.w < c.args.area.w = mod_below k c.args.area.w (omega arith) in
    let row : k / c.args.area.w < c.args.area.h = div_below k c.args.area.w c.args.area.h (omega arith) (omega arith) in
    let across = simp to_z-of_z at c.common-across.ensures.each (k % c.args.area.w) column in
    let down = simp to_z-of_z at c.common-down.ensures.each (k / c.args.area.w) row in
    c.fill_rows.ensures k (omega arith) ∙ same_fill _ _ _ _ c.args.ink _ across down
