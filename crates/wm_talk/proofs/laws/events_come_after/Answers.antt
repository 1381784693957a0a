use Rattle.std.proofs.lemmas.List.Elements.{filter_passes}
use Rattle.wm_talk.specs.Marks.{events_in}
use Rattle.wm_talk.specs.Told.{is_due}
use Rattle.wm_talk.proofs.LawLemmas.{told_is}
use Rattle.wm_talk.proofs.laws.events_come_after.Goals as goal

pub returns-clause-messages : goal.returns-clause-messages
returns-clause-messages c = told_is

pub returns-clause-after : goal.returns-clause-after
returns-clause-after c = λ t v. filter_passes (is_due t.since) (events_in v)
