use Rattle.std.proofs.Common.{◌∙◌, ap, sym}
use Rattle.std.specs.Option.{option_copied}
use Rattle.wm_arrange.specs.Maps.{value_at}
use Rattle.wm_arrange.proofs.ChoiceLemmas.{output_first}
use Rattle.wm_arrange.proofs.TreeLemmas.{output_spaces}
use Rattle.wm_arrange.proofs.arranging.place_output.Goals as goal

pub place_space-requires-clause-sound : goal.place_space-requires-clause-sound
place_space-requires-clause-sound c = rw (c.row_from-space.ensures, c.kids.ensures) (output_spaces _ _ c.requires.sound)

pub place_space-requires-clause-known : goal.place_space-requires-clause-known
place_space-requires-clause-known c =
    rw (c.row_from-space.ensures, c.kids.ensures)
    (output_first c.args.scene.now.tree.now.recency (value_at c.args.scene.now.chosen.now) c.args.row.now c.in-Some.part.now c.in-Output.output (sym c.part.ensures ∙ ap option_copied c.in-Some.is) c.in-Output.is c.requires.known)
