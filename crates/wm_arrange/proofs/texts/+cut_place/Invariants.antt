use Rattle.wm_arrange.proofs.texts.+cut_place.Given as goal

abbrev pub decreases-cut_place : goal.decreases-cut_place
decreases-cut_place l = l.at
