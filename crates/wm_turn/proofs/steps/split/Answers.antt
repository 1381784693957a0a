use Rattle.std.proofs.Common.{arith}
use Rattle.wm_turn.proofs.Splitting.{splits_allowed}
use Rattle.wm_turn.proofs.steps.split.Goals as goal

pub split_seat-requires : goal.split_seat-requires
split_seat-requires g c =
    let place = c.args.place.now in
    let common = c.args.common.now in (
      c.requires.at.0,
      omega (arith, c.requires.at.1),
      splits_allowed g.V.Stands.opening g.V.Stands.stands common.key.0 (g.V.Stands.opening common.key.1.value) place.id place.me.0
          c.requires.spare.0 c.requires.spare.1,
    )
