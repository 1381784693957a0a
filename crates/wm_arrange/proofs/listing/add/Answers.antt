use Rattle.std.proofs.Common.{ap, ◌∙◌}
use Rattle.wm_arrange.specs.Maps.{holds}
use Rattle.wm_arrange.proofs.MapLemmas.{holds_insert}
use Rattle.wm_arrange.proofs.listing.add.Goals as goal

pub returns : goal.returns
returns c = λ v. ap (λ m. holds m v) c.in_ok-insert.ensures.ok ∙ holds_insert c.args.id v _ c.args.map.now
