use Rattle.std.proofs.Common.{◌≡◌, ◌≤◌, ◌<◌, ◌+◌, ap, length, arith, rules}
use Rattle.std.proofs.lemmas.Fmt.{length-decimal-le_succ}
use Rattle.std.proofs.lemmas.Grind.{common_steps}
use Rattle.std.specs.Fmt.{decimal}
use Rattle.wm_spaces.proofs.coming.number_text.Goals as goal

-- a number of at most 1,000 is short
pub unreachable-requires : goal.unreachable-requires
unreachable-requires c =
    let h : length (decimal c.args.k) ≤ c.args.k + 1 = length-decimal-le_succ c.args.k (omega (arith, c.requires)) in
    let e : c.as_str.result.now ≡ decimal c.args.k = first_of (search rules, grind (arith, common_steps)) in
    let l : length c.as_str.result.now ≡ length (decimal c.args.k) = ap (λ z. length z) e in
    let far : 1024 < length c.as_str.result.now = c.in-Err-TooLong.ensures.only_too_long (λ m. cc) in
    omega (arith, h, l, far, c.requires)
