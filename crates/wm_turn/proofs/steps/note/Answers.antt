use Rattle.std.proofs.Common.{arith, ap, ◌∙◌, sym, ◌∷◌, Some}
use Rattle.atomic_table.specs.Table.{rest}
use Rattle.wm_turn.proofs.Noting.{notes_allowed}
use Rattle.wm_turn.proofs.steps.note.Goals as goal

pub load-count-requires : goal.load-count-requires
load-count-requires g c =
    let place = c.args.place.now in
    let common = c.args.common.now in (
      c.requires.at.0,
      omega (arith, c.requires.at.1),
      notes_allowed g.V.Stands.opening g.V.Stands.stands common.key.0 (g.V.Stands.opening common.key.1.value) common.table_id.slots place.id place.me
          c.requires.turn.0 c.requires.turn.1 c.requires.live.0,
    )

pub exchange-requires : goal.exchange-requires
exchange-requires g c =
    let told = c.load-count.ensures.2 in (
      c.load-count.ensures.0 ∙ c.requires.at.0,
      (Some told.0, told.2 ∙ ap (λ slots. (0, Some told.0) ∷ slots) (sym (ap rest told.2))),
    )
