use Rattle.std.proofs.Common.{arith, ◌<◌, ap, subst, sym, ◌∙◌}
use Rattle.wm_turn.proofs.Turning.{draws_allowed, watches_allowed}
use Rattle.wm_turn.proofs.steps.wait_for_turn.Goals as goal

pub fetch_add-number-requires : goal.fetch_add-number-requires
fetch_add-number-requires g c =
    let place = c.args.place.now in
    let common = c.args.common.now in (
      c.requires.at.0,
      omega (arith, c.requires.at.1),
      draws_allowed g.V.Stands.opening g.V.Stands.stands common.key.0 (g.V.Stands.opening common.key.1.value) common.table_id.slots place.id place.me
          c.requires.idle.0 c.requires.idle.1,
    )

pub load-requires : goal.load-requires
load-requires g c =
    let place = c.loop.place in
    let common = c.args.common.now in
    let waits = c.loop.invariant.1 in (
      c.loop.invariant.0.0 ∙ c.requires.at.0,
      omega (arith, c.requires.at.1),
      watches_allowed g.V.Stands.opening g.V.Stands.stands common.key.0 (g.V.Stands.opening common.key.1.value) common.table_id.slots place.id place.me
          waits.0 (ap (λ me. me.0.stage) waits.2) (subst (λ me. 0 < me.0.parts) (sym waits.2) c.requires.idle.1),
    )
