use Rattle.std.proofs.Common.{ap, ◌∙◌, arith}
use Rattle.std.specs.BTreeMap.{insert_entry}
use Rattle.std.specs.Ordering.{nat_cmp}
use Rattle.wm_ids.proofs.MapLemmas.{below, inserted, ordered}
use Rattle.wm_ids.proofs.map.IdMap.insert.Goals as goal

pub returns-clause-ok : goal.returns-clause-ok
returns-clause-ok g c =
    inserted c.self.inside.values c.insert.new.self c.args.id c.args.value (below c.args.id (omega (arith, c.ranges.id.fits))) c.in_ok-insert.ensures.updates ∙ ap (λ es. insert_entry nat_cmp es c.args.id c.args.value) c.self.view_is

pub returns-clause-ordered : goal.returns-clause-ordered
returns-clause-ordered g c = ordered c.insert.new.self

pub returns-in_err-insert-clause-ordered : goal.returns-in_err-insert-clause-ordered
returns-in_err-insert-clause-ordered g c = ordered c.insert.new.self
