use Rattle.std.proofs.Common.{◌≡◌, ap, sym, ◌∙◌, None}
use Rattle.std.proofs.lemmas.Result.{on_ok_weaker}
use Rattle.std.specs.Option.{option_copied}
use Rattle.wm_arrange.specs.Maps.{value_at}
use Rattle.wm_arrange.proofs.MapLemmas.{or_new}
use Rattle.wm_apply.proofs.finding.add_row.Goals as goal

pub returns-in-None : goal.returns-in-None
returns-in-None c = λ v.
    let none : value_at c.args.rows.now c.args.id ≡ None = sym c.get.ensures ∙ ap option_copied c.in-None.is in
    on_ok_weaker c.put_row.result (λ put. put ∙ or_new c.args.id v c.args.row c.args.rows.now none) (c.put_row.ensures v)
