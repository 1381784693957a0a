use Rattle.std.proofs.Common.{ap, ◌∙◌}
use Rattle.wm_arrange.specs.Maps.{value_at}
use Rattle.wm_arrange.proofs.MapLemmas.{find_insert}
use Rattle.wm_apply.proofs.finding.put_row.Goals as goal

pub returns : goal.returns
returns c = λ v. ap (λ m. value_at m v) c.in_ok-insert.ensures.ok ∙ find_insert c.args.id v c.args.row c.args.rows.now
