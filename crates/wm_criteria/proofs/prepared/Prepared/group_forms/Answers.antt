use Rattle.wm_criteria.proofs.FormLemmas.{built_verdict, none_built}
use Rattle.wm_criteria.proofs.prepared.Prepared.group_forms.Goals as goal

pub returns-in-Some : goal.returns-in-Some
returns-in-Some c =
    rw (c.forms_at.ensures, c.items.ensures) (built_verdict c.args.self.now.verdict c.in-Some.forms c.args.group (c.args.self.now.fitting c.in-Some.forms c.in-Some.is))

pub returns-in-None : goal.returns-in-None
returns-in-None c = none_built c.args.self.now.verdict c.args.self.now.forms c.args.group c.in-None.is c.requires
