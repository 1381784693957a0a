use Rattle.std.proofs.Common.{◌≡◌, ◌<◌, ℕ, true, sym, subst, arith, rules}
use Rattle.std.proofs.lemmas.Grind.{common_steps}
use Rattle.std.specs.Fmt.{decimal}
use Rattle.std.specs.Prelude.{IfOk, is_some}
use Rattle.wm_spaces.proofs.ComingLemmas.{free_step}
use Rattle.wm_spaces.specs.Names.{space_named}
use Rattle.wm_spaces.proofs.coming.+free_from.Goals as goal

pub returns : goal.returns
returns t c =
    let some : 0 < c.args.most = omega (arith, c.if-most-eq0.false) in
    let taken : is_some (space_named (decimal c.args.k) c.args.t.now) ≡ true = first_of (search rules, grind (arith, common_steps)) in
    let Text : ℕ → Type 0 = λ n. IfOk c.free_from.result (λ text. text ≡ decimal n) in
    subst Text (sym (free_step c.args.most c.args.k c.args.t.now some taken)) c.free_from.ensures
