use Rattle.std.proofs.Common.{◌≡◌, true, arith, rules}
use Rattle.std.proofs.lemmas.Grind.{common_steps}
use Rattle.wm_floats.proofs.FloatLemmas.{hidden_is}
use Rattle.wm_shared.specs.Subject.{is_hidden}
use Rattle.wm_floats.proofs.scratchpad.show_this.Goals as goal

pub bring-requires-clause-con : goal.bring-requires-clause-con
bring-requires-clause-con c =
    let hidden : is_hidden c.args.t.now c.args.con ≡ true = first_of (search rules, grind (arith, common_steps)) in
    hidden_is c.args.con c.args.t.now c.requires hidden
