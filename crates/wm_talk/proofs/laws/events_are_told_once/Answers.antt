use Rattle.wm_talk.proofs.RiseLemmas.{told_once}
use Rattle.wm_talk.proofs.laws.events_are_told_once.Goals as goal

pub returns : goal.returns
returns c = told_once
