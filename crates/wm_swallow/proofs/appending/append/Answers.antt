use Rattle.std.proofs.Common.{◌≡◌, true, ◌∙◌, ap}
use Rattle.wm_saved.specs.Limits.{are_fit}
use Rattle.wm_swallow.proofs.FitLemmas.{fit_marks}
use Rattle.wm_swallow.proofs.WholeLemmas.{whole}
use Rattle.wm_swallow.proofs.appending.append.Goals as goal

pub with_all-requires-clause-free : goal.with_all-requires-clause-free
with_all-requires-clause-free c =
    let fit : are_fit c.items-trees.result.now ≡ true = ap are_fit c.items-trees.ensures ∙ c.requires.fit in
    whole c.args.workspace c.items-trees.result.now c.args.tree.now c.requires.sound c.in_ok-check.ensures.fine.0 c.requires.space (fit_marks c.items-trees.result.now fit) c.in_ok-check.ensures.fine.1
