use Rattle.std.proofs.Common.{None, cond, ap, ◌∙◌, arith}
use Rattle.std.specs.BTreeMap.{is_at}
use Rattle.std.specs.Map.{lookup, remove_entry}
use Rattle.std.specs.Ordering.{nat_cmp}
use Rattle.wm_ids.specs.IdMap.{entries}
use Rattle.wm_ids.proofs.EntryLemmas.{found_without}
use Rattle.wm_ids.proofs.MapLemmas.{below, ordered, removed}
use Rattle.wm_ids.proofs.map.IdMap.remove.Goals as goal

pub returns-clause-value : goal.returns-clause-value
returns-clause-value g c =
    removed c.self.inside.values c.remove.new.self c.args.id (below c.args.id (omega (arith, c.ranges.id.fits))) c.remove.ensures.updates ∙ ap (remove_entry (is_at (nat_cmp c.args.id))) c.self.view_is

pub returns-clause-found : goal.returns-clause-found
returns-clause-found g c = λ q.
    ap (lookup (is_at (nat_cmp q))) (removed c.self.inside.values c.remove.new.self c.args.id (below c.args.id (omega (arith, c.ranges.id.fits))) c.remove.ensures.updates)
    ∙ (found_without c.args.id q (entries c.self.inside.values) (ordered c.self.inside.values)
    ∙ ap (λ es. cond (is_at (nat_cmp c.args.id) q) None (lookup (is_at (nat_cmp q)) es)) c.self.view_is)

pub returns-clause-ordered : goal.returns-clause-ordered
returns-clause-ordered g c = ordered c.remove.new.self
