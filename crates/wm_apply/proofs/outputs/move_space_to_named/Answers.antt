use Rattle.std.proofs.Common.{arith, rules}
use Rattle.std.proofs.lemmas.Grind.{common_steps}
use Rattle.wm_shared.proofs.ShowLemmas.{workspace_is}
use Rattle.wm_apply.proofs.outputs.move_space_to_named.Goals as goal

pub move_workspace-requires-clause-space : goal.move_workspace-requires-clause-space
move_workspace-requires-clause-space c =
    workspace_is c.args.con _ c.args.t.now c.requires.sound (first_of (search rules, grind (arith, common_steps)))
