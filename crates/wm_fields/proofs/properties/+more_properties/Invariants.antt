use Rattle.wm_fields.proofs.properties.+more_properties.Given as goal

abbrev pub decreases-more_properties : goal.decreases-more_properties
decreases-more_properties l = l.most
