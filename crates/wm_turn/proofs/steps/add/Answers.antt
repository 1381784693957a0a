use Rattle.std.proofs.Common.{arith}
use Rattle.wm_turn.proofs.Logging.{logs_allowed}
use Rattle.wm_turn.proofs.steps.add.Goals as goal

pub fetch_add-requires : goal.fetch_add-requires
fetch_add-requires g c =
    let place = c.args.place.now in
    let common = c.args.common.now in (
      c.requires.at.0,
      omega (arith, c.requires.at.1),
      logs_allowed g.V.Stands.opening g.V.Stands.stands common.key.0 (g.V.Stands.opening common.key.1.value) common.table_id.slots place.id place.me
          c.requires.noted.0 g.N.Says.said (g.V.Stands.form c.args.step.now) c.requires.said c.requires.noted.1 c.requires.live.0 c.requires.live.1,
    )
