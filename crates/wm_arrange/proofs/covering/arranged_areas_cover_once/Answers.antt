use Rattle.wm_arrange.proofs.CoverTreeLemmas.{covers_in_tree}
use Rattle.wm_arrange.proofs.ToldTreeLemmas.{areas_are_told}
use Rattle.wm_arrange.proofs.covering.arranged_areas_cover_once.Goals as goal

pub returns-clause-once : goal.returns-clause-once
returns-clause-once c = covers_in_tree

pub returns-clause-told : goal.returns-clause-told
returns-clause-told c = areas_are_told
