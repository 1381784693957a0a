use Rattle.std.proofs.Common.{[], ◌∷◌, ◌++◌, ◌∙◌, ap, sym}
use Rattle.wm_binds.specs.Blocks.{with_name}
use Rattle.wm_binds.proofs.TableLemmas.{name_again, name_new}
use Rattle.wm_binds.proofs.modes.ModeTable.put_keyed.Goals as goal

pub returns-in-Ok-true : goal.returns-in-Ok-true
returns-in-Ok-true c =
    c.push_reserved.ensures.items
    ∙ ap (λ ns. ns ++ c.args.name ∷ []) c.reserve.ensures.items
    ∙ sym (name_new c.args.key c.args.name c.self.inside.keys.keys c.self.inside.names.items c.in-Ok-true.field-0 c.requires c.self.invariant c.in-Ok-true.ensures.added c.in-Ok-true.field-0-test)
    ∙ ap (with_name c.args.name) c.self.view_is

pub returns-in-Ok-false : goal.returns-in-Ok-false
returns-in-Ok-false c =
    c.reserve.ensures.items
    ∙ sym (name_again c.args.key c.args.name c.self.inside.keys.keys c.self.inside.names.items c.in-Ok-false.field-0 c.requires c.self.invariant c.in-Ok-false.ensures.added c.in-Ok-false.field-0-test)
    ∙ ap (with_name c.args.name) c.self.view_is
