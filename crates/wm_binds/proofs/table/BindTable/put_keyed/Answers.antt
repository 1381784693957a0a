use Rattle.std.proofs.Common.{arith, slice_set, [], ◌∷◌, ◌++◌, ◌∙◌, subst, sym, ap}
use Rattle.wm_binds.specs.Binds.{with_bind}
use Rattle.wm_binds.specs.Table.{AreKeys}
use Rattle.wm_binds.proofs.TableLemmas.{keyed_new, keys_again, put_again, put_new}
use Rattle.wm_binds.proofs.table.BindTable.put_keyed.Goals as goal

pub index_mut-requires : goal.index_mut-requires
index_mut-requires c =
    let put = put_again c.args.key c.args.bind c.self.inside.keys.keys c.self.inside.binds.items c.reserve.new.self.items c.in-Ok-default-false.place c.in-Ok-default-false.field-0-1 c.requires c.self.invariant c.reserve.ensures.items
    c.in-Ok-default-false.ensures.added c.in-Ok-default-false.field-0-1-test c.in-Ok-default-false.ensures.index in
    grind (arith, put.within)

pub invariant_of-self-in-Ok-default-false : goal.invariant_of-self-in-Ok-default-false
invariant_of-self-in-Ok-default-false c =
    let put = put_again c.args.key c.args.bind c.self.inside.keys.keys c.self.inside.binds.items c.reserve.new.self.items c.in-Ok-default-false.place c.in-Ok-default-false.field-0-1 c.requires c.self.invariant c.reserve.ensures.items
    c.in-Ok-default-false.ensures.added c.in-Ok-default-false.field-0-1-test c.in-Ok-default-false.ensures.index in
    subst (λ ks. AreKeys ks (slice_set c.reserve.new.self.items c.in-Ok-default-false.place c.args.bind)) (sym (c.in-Ok-default-false.ensures.keys ∙ keys_again c.args.key c.self.inside.keys.keys c.in-Ok-default-false.field-0-1 c.in-Ok-default-false.ensures.added c.in-Ok-default-false.field-0-1-test)) put.keyed

pub returns-in-Ok-default-true : goal.returns-in-Ok-default-true
returns-in-Ok-default-true c =
    c.push_reserved.ensures.items
    ∙ put_new c.args.key c.args.bind c.self.inside.keys.keys c.self.inside.binds.items c.reserve.new.self.items c.in-Ok-default-true.field-0-1 c.requires c.self.invariant c.reserve.ensures.items
    c.in-Ok-default-true.ensures.added c.in-Ok-default-true.field-0-1-test
    ∙ ap (with_bind c.args.bind) c.self.view_is

pub returns-in-Ok-default-false : goal.returns-in-Ok-default-false
returns-in-Ok-default-false c =
    (put_again c.args.key c.args.bind c.self.inside.keys.keys c.self.inside.binds.items c.reserve.new.self.items c.in-Ok-default-false.place c.in-Ok-default-false.field-0-1 c.requires c.self.invariant c.reserve.ensures.items
    c.in-Ok-default-false.ensures.added c.in-Ok-default-false.field-0-1-test c.in-Ok-default-false.ensures.index).set
    ∙ ap (with_bind c.args.bind) (c.reserve.ensures.items ∙ c.self.view_is)

pub invariant_of-self-in-Ok-default-true : goal.invariant_of-self-in-Ok-default-true
invariant_of-self-in-Ok-default-true c =
    subst (AreKeys c.insert_full.new.self.keys) (sym c.push_reserved.ensures.items)
    (subst (λ ks. AreKeys ks (c.reserve.new.self.items ++ c.args.bind ∷ [])) (sym c.in-Ok-default-true.ensures.keys)
    (keyed_new c.args.key c.args.bind c.self.inside.keys.keys c.self.inside.binds.items c.reserve.new.self.items c.in-Ok-default-true.field-0-1 c.requires c.self.invariant c.reserve.ensures.items
    c.in-Ok-default-true.ensures.added c.in-Ok-default-true.field-0-1-test))
