use Rattle.std.proofs.Common.{◌≡◌, None, Some, nat_eq, refl, ap, subst, sym, ◌∙◌, arith, rules}
use Rattle.std.proofs.lemmas.Grind.{common_steps}
use Rattle.std.specs.BTreeMap.{is_at}
use Rattle.std.specs.HashMap.{get}
use Rattle.std.specs.Map.{set_value}
use Rattle.std.specs.Option.{IsSome, option_copied_mut}
use Rattle.std.specs.Ordering.{nat_cmp}
use Rattle.wm_ids.specs.IdMap.{entries}
use Rattle.wm_ids.proofs.MapLemmas.{below, ordered, set_absent, set_there}
use Rattle.wm_ids.proofs.map.IdMap.set.Goals as goal

-- without a value it stays so
pub returns-in_default-clause-value : goal.returns-in_default-clause-value
returns-in_default-clause-value g c =
    let none : get nat_eq c.self.inside.values c.args.id ≡ None = first_of (search rules, grind (arith, common_steps)) in
    ap entries c.get_mut.follows.holds-at-none
    ∙ (set_absent c.self.inside.values c.args.id c.args.value (below c.args.id (omega (arith, c.ranges.id.fits))) none ∙ ap (λ es. set_value (is_at (nat_cmp c.args.id)) es c.args.value) c.self.view_is)

pub returns-in_default-clause-ordered : goal.returns-in_default-clause-ordered
returns-in_default-clause-ordered g c = ordered c.get_mut.follows.lender-at-none

pub returns-clause-value : goal.returns-clause-value
returns-clause-value g c =
    let had : get nat_eq c.self.inside.values c.args.id ≡ Some c.in-Some.held.now = sym c.get_mut.ensures.value ∙ ap option_copied_mut c.in-Some.is in
    let written = c.get_mut.follows.holds c.replace.new.dest in
    set_there c.self.inside.values (c.get_mut.follows.lender c.replace.new.dest) c.args.id c.in-Some.held.now c.replace.new.dest had (written.3 (subst IsSome (sym had) refl))
    ∙ (ap (set_value (is_at (nat_cmp c.args.id)) (entries c.self.inside.values)) c.replace.ensures.after ∙ ap (λ es. set_value (is_at (nat_cmp c.args.id)) es c.args.value) c.self.view_is)

pub returns-clause-ordered : goal.returns-clause-ordered
returns-clause-ordered g c = ordered (c.get_mut.follows.lender c.replace.new.dest)
