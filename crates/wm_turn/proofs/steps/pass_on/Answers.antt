use Rattle.std.proofs.Common.{◌≡◌, ◌<◌, arith, ap, ◌∙◌, subst, sym, ◌∷◌, Some}
use Rattle.atomic_table.specs.Table.{rest}
use Rattle.wm_turn.proofs.Logging.{passes_allowed}
use Rattle.wm_turn.proofs.steps.pass_on.Goals as goal

pub fetch_add-requires : goal.fetch_add-requires
fetch_add-requires g c =
    let place = c.exchange-empty.new.seat in
    let common = c.args.common.now in
    let put = c.exchange-empty.ensures.3 in
    let same : place.me.0 ≡ c.args.place.now.me.0 = ap (λ me. me.0) put in (
      c.exchange-empty.ensures.0 ∙ c.requires.at.0,
      omega (arith, c.requires.at.1),
      passes_allowed g.V.Stands.opening g.V.Stands.stands common.key.0 (g.V.Stands.opening common.key.1.value) common.table_id.slots place.id place.me
          c.requires.noted.0 g.N.Says.said c.args.value
          (ap (λ v. v.stage) same ∙ c.requires.noted.1)
          (subst (λ v. 0 < v.parts) (sym same) c.requires.live.0)
          (ap (λ me. me.1) put ∙ ap (λ slots. (0, Some c.args.value) ∷ rest slots) c.requires.live.1)
          (ap (λ v. v.opening) same ∙ c.requires.value.0)
          (subst (λ v. g.V.Stands.stands c.args.value v.seen) (sym same) c.requires.value.1),
    )
