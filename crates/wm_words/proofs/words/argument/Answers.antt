use Rattle.std.proofs.Common.{◌≡◌, ◌≤◌, length, arith, ap}
use Rattle.wm_words.proofs.Pieces.{argument-no_text, argument-fits}
use Rattle.wm_words.proofs.words.argument.Goals as goal

pub returns-in_default : goal.returns-in_default
returns-in_default c = let h = argument-no_text _ c.in_default.ensures.cases.0 in cc h

pub returns-in-Ok-new : goal.returns-in-Ok-new
returns-in-Ok-new c =
    let same : length c.in-Ok.text.now ≡ length c.args.bytes.now = ap length (cc c.in-Ok.ensures.cases.0) in
    let short : length c.args.bytes.now ≤ 1024 = omega (arith, c.in-Ok-new.ensures.short) in
    let h = argument-fits _ c.in-Ok.ensures.cases.1 short in
    cc (h, c.in-Ok-new.ensures.ok, c.in-Ok.ensures.cases.0)
