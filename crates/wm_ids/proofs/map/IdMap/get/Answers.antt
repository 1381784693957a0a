use Rattle.std.proofs.Common.{ap, sym, ◌∙◌, arith}
use Rattle.std.specs.BTreeMap.{is_at}
use Rattle.std.specs.Map.{lookup}
use Rattle.std.specs.Ordering.{nat_cmp}
use Rattle.wm_ids.proofs.MapLemmas.{below, looked_up}
use Rattle.wm_ids.proofs.map.IdMap.get.Goals as goal

pub returns : goal.returns
returns g c =
    c.get.ensures.value ∙ (sym (looked_up c.self.inside.values c.args.id (below c.args.id (omega (arith, c.ranges.id.fits)))) ∙ ap (lookup (is_at (nat_cmp c.args.id))) c.self.view_is)
