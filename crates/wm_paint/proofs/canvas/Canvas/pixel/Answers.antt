use Rattle.std.proofs.Common.{◌∙◌, ap, sym, arith}
use Rattle.std.specs.Prelude.{Some}
use Rattle.std.proofs.Common.{rules}
use Rattle.std.proofs.lemmas.List.{get_or_default}
use Rattle.std.proofs.lemmas.Int.{to_z-of_z}
use mir.Syntax.{w32}
use mir.Val.{SFits}
use Rattle.wm_paint.specs.CanvasValue.{CanvasValue}
use Rattle.wm_paint.specs.Picture.{black}
use Rattle.wm_paint.proofs.PixelLemmas.{off_row, on, pixels_fit, place}
use Rattle.wm_paint.proofs.canvas.Canvas.pixel.Goals as goal

pub returns-in_err-row : goal.returns-in_err-row
returns-in_err-row c =
    let v : CanvasValue = record { area = c.self.inside.area; inks = c.self.inside.inks.items } in
    let fits_y : SFits w32 c.args.y = c.ranges.y in
    let fits_top : SFits w32 c.self.inside.area.y = search rules in
    let outside = simp to_z-of_z at c.in_err-row.ensures.outside in
    let off = off_row v c.args.x c.args.y outside in
    rw (← c.self.view_is) (c.from_residual-in_err-row.ensures ∙ sym off)

pub overflow_mul-row : goal.overflow_mul-row
overflow_mul-row c =
    let p = place c.in_ok-row.row c.self.inside.area.w c.in_ok-column.column c.self.inside.area.h _ c.in_ok-row.ensures.within c.in_ok-column.ensures.within (pixels_fit c.self.inside.area c.self.invariant.0) c.self.invariant.1 in
    omega (arith, p.line)

pub overflow_add-row : goal.overflow_add-row
overflow_add-row c =
    let p = place c.in_ok-row.row c.self.inside.area.w c.in_ok-column.column c.self.inside.area.h _ c.in_ok-row.ensures.within c.in_ok-column.ensures.within (pixels_fit c.self.inside.area c.self.invariant.0) c.self.invariant.1 in
    omega (arith, p.small)

pub index-requires : goal.index-requires
index-requires c =
    let p = place c.in_ok-row.row c.self.inside.area.w c.in_ok-column.column c.self.inside.area.h _ c.in_ok-row.ensures.within c.in_ok-column.ensures.within (pixels_fit c.self.inside.area c.self.invariant.0) c.self.invariant.1 in
    omega (arith, p.is_there)

pub returns : goal.returns
returns c =
    let v : CanvasValue = record { area = c.self.inside.area; inks = c.self.inside.inks.items } in
    let p = place c.in_ok-row.row c.self.inside.area.w c.in_ok-column.column c.self.inside.area.h _ c.in_ok-row.ensures.within c.in_ok-column.ensures.within (pixels_fit c.self.inside.area c.self.invariant.0) c.self.invariant.1 in
    let read = c.index.ensures ∙ get_or_default v.inks _ _ black p.is_there in
    let fits_x : SFits w32 c.args.x = c.ranges.x in
    let fits_y : SFits w32 c.args.y = c.ranges.y in
    let fits_left : SFits w32 c.self.inside.area.x = search rules in
    let fits_top : SFits w32 c.self.inside.area.y = search rules in
    let across = simp to_z-of_z at c.in_ok-column.ensures.inside in
    let down = simp to_z-of_z at c.in_ok-row.ensures.inside in
    rw (← c.self.view_is) (ap Some read ∙ sym (on v c.args.x c.args.y c.in_ok-column.column c.in_ok-row.row across.0 down.0 across.1 down.1))
