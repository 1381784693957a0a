use Rattle.std.proofs.Common.{◌≡◌, ◌∙◌, ◌+◌, ◌-◌, ◌*◌, ◌≤◌, ℕ, ap, length, take, drop, arith, replicate}
use Rattle.std.proofs.lemmas.List.{length-take, length-drop}
use Rattle.std.proofs.lemmas.Nat.{row_fits}
use Rattle.wm_paint.proofs.RowLemmas.{row_step}
use Rattle.wm_paint.proofs.paint.fill_rows.Goals as goal

pub loop-row-preserved : goal.loop-row-preserved
loop-row-preserved c = λ k lt.
    let line : ℕ = c.loop-row.row * c.args.width in
    let n : ℕ = (line + c.args.across.1) - (line + c.args.across.0) in
    let fewer : line + c.args.width ≤ c.args.down.1 * c.args.width = row_fits c.loop-row.row c.args.width c.args.down.1 c.args.width c.loop-row-test.true (omega arith) in
    let fits : line + c.args.across.1 ≤ length c.loop-row.inks = omega arith in
    let size : length (take n (drop (line + c.args.across.0) c.loop-row.inks)) ≡ n = omega (arith, length-take n (drop (line + c.args.across.0) c.loop-row.inks), length-drop (line + c.args.across.0) c.loop-row.inks) in
    let filled : c.fill.new.self ≡ replicate n c.args.ink = c.fill.ensures.after (λ y e. e) ∙ ap (λ (m : ℕ). replicate m c.args.ink) size in
    rw filled (row_step c.args.width c.args.across.0 c.args.across.1 c.args.down.0 c.loop-row.row n k c.args.ink c.args.inks.now c.loop-row.inks (omega arith) (omega arith) (omega arith) (omega arith) fits (omega arith) (c.loop-row.invariant k lt))
