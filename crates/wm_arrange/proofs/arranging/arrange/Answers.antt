use Rattle.std.proofs.Common.{◌∙◌, refl, subst, sym}
use Rattle.wm_arrange.specs.CoverTree.{LeavesCover, tiled_at}
use Rattle.wm_arrange.proofs.CoverTreeLemmas.{covers_in_tree}
use Rattle.wm_forest.specs.Look.{first_kids}
use Rattle.wm_arrange.proofs.arranging.arrange.Goals as goal

pub returns-clause-parts : goal.returns-clause-parts
returns-clause-parts c = c.of.ensures ∙ rw (c.in_ok-place_outputs.ensures, c.new-parts.ensures.items, c.kids.ensures, c.nodes.ensures, c.focused.ensures.value) refl

pub returns-clause-covers : goal.returns-clause-covers
returns-clause-covers c con gap splits =
    subst (LeavesCover (tiled_at con (first_kids c.args.tree.now.nodes)) con) (sym (returns-clause-parts c)) (covers_in_tree c.args.tree.now con c.requires gap splits)
