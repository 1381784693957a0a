use Rattle.std.proofs.Common.{◌≡◌, Some, arith, rules}
use Rattle.std.proofs.lemmas.Grind.{common_steps}
use Rattle.wm_floats.proofs.FloatLemmas.{float_first}
use Rattle.wm_floats.specs.Windows.{window_refusal}
use Rattle.wm_shared.proofs.ShowLemmas.{workspace_is}
use Rattle.wm_floats.proofs.floating.set_floating.Goals as goal

pub returns-in_err-space-clause-does : goal.returns-in_err-space-clause-does
returns-in_err-space-clause-does c =
    let why : window_refusal c.args.con c.args.t.now ≡ Some c.in_err-space.field-0.0 = first_of (search rules, grind (arith, common_steps)) in
    let first = float_first c.args.con c.args.on c.args.t.now c.in_err-space.field-0.0 why in
    first_of (search rules, grind (arith, common_steps))

pub float_on-requires-clause-space : goal.float_on-requires-clause-space
float_on-requires-clause-space c = workspace_is c.args.con _ c.args.t.now c.requires.sound (first_of (search rules, grind (arith, common_steps)))
