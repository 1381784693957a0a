use Rattle.std.proofs.Common.{rules, ◌≡◌, true, ◌∙◌, ap}
use Rattle.wm_forest.specs.declared.change.TakeOut.{TakeOut}
use Rattle.wm_forest.specs.Look.{has}
use Rattle.wm_forest.proofs.PassLemmas.{out_taken}
use Rattle.wm_forest.proofs.row.Row.take_out.Goals as goal

pub returns-clause-taken : goal.returns-clause-taken
returns-clause-taken c =
    let there : has c.args.id c.args.self.now ≡ true = search rules in
    (there, ap (λ (x : TakeOut). x.0) c.alter.ensures.left ∙ out_taken _ c.args.id c.args.self.now there)
