-- Going round all layouts, by the lemma of that name.
use Rattle.law_layouts.proofs.VisitLaws.{all_visits_all}
use Rattle.law_layouts.proofs.layouts.toggling_all_visits_all_layouts.Goals as goal

pub returns : goal.returns
returns c = all_visits_all
