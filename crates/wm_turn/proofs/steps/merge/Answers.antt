use Rattle.std.proofs.Common.{arith, ◌∙◌, sym, subst}
use Rattle.std.specs.List.{All}
use Rattle.wm_turn.proofs.Joining.{joins_allowed, agrees_allowed}
use Rattle.wm_turn.specs.History.{Begins}
use Rattle.wm_turn.proofs.steps.merge.Goals as goal

pub join_seat-requires : goal.join_seat-requires
join_seat-requires g c =
    let place = c.args.place.now in
    let other = c.args.other in
    let common = c.args.common.now in (
      c.requires.at.0,
      c.requires.other,
      c.requires.idle.2,
      omega (arith, c.requires.at.1),
      joins_allowed g.V.Stands.opening g.V.Stands.stands common.key.0 (g.V.Stands.opening common.key.1.value) place.id other.id place.me.0 other.me.0
          (c.requires.idle.0, c.requires.idle.1) c.requires.live c.requires.spare,
    )

pub load-requires : goal.load-requires
load-requires g c =
    let place = c.join_seat.new.seat in
    let common = c.args.common.now in (
      c.join_seat.ensures.0 ∙ c.requires.at.0,
      omega (arith, c.requires.at.1),
      agrees_allowed g.V.Stands.opening g.V.Stands.stands common.key.0 (g.V.Stands.opening common.key.1.value) common.table_id.slots place.id place.me,
    )

pub returns-clause-begins : goal.returns-clause-begins
returns-clause-begins g c =
    let told = c.load.ensures.2 in
    subst (λ me. All (λ old. Begins old me.0.seen) me.0.old_seen) (sym told.0) told.1
