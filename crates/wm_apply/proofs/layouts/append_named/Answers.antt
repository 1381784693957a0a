use Rattle.std.proofs.Common.{rules, ◌≡◌, ◌∙◌, ap₂, sym, Some}
use Rattle.wm_apply.specs.Layouts.{layout_named}
use Rattle.wm_apply.proofs.AppendLemmas.{append_cause, shown_there}
use Rattle.wm_apply.proofs.layouts.append_named.Goals as goal

pub append-requires-clause-space : goal.append-requires-clause-space
append-requires-clause-space c = shown_there c.args.t.now c.shown-workspace.result c.requires c.shown-workspace.ensures

pub returns-in-Err : goal.returns-in-Err
returns-in-Err c =
    let named : layout_named c.args.name.now c.args.env.now.layouts ≡ Some c.in-Some.layout.now = ap₂ layout_named (sym c.as_str.ensures.value) (sym c.items.ensures) ∙ c.in-Some.ensures.value in
    record {
      tree = search rules;
      fine = search rules;
      err = search rules;
      cause = rw c.refused.ensures (append_cause c.args.t.now c.shown-workspace.result c.in-Some.layout.now _ c.in-Err.error c.requires c.shown-workspace.ensures named c.in-Err.ensures.cause);
      sound = search rules;
    }
