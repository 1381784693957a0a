use Rattle.std.proofs.Common.{◌≡◌, true, false, arith, rules}
use Rattle.std.proofs.lemmas.Grind.{common_steps}
use Rattle.wm_spaces.proofs.MoveLemmas.{has_space, moved_by}
use Rattle.wm_tree.proofs.SpaceLemmas.{has_output}
use Rattle.wm_spaces.proofs.moving.bring.Goals as goal

pub show_there-requires-clause-space : goal.show_there-requires-clause-space
show_there-requires-clause-space c =
    moved_by c.args.w c.args.output c.args.t.now c.move_workspace.new.self (first_of (search rules, grind (arith, common_steps))) c.requires.sound c.requires.space c.requires.output c.requires.hidden

-- the workspace and the output are there
pub unreachable-requires : goal.unreachable-requires
unreachable-requires c =
    let bad : false ≡ true = c.in-Err.ensures.there (has_space c.args.w c.args.t.now c.requires.space) (has_output c.args.output c.args.t.now.nodes c.requires.output) in cc
