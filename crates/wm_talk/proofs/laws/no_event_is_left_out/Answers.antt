use Rattle.wm_talk.proofs.TwiceLemmas.{after_twice, told_twice}
use Rattle.wm_talk.proofs.laws.no_event_is_left_out.Goals as goal

pub returns-clause-told : goal.returns-clause-told
returns-clause-told c = told_twice

pub returns-clause-after : goal.returns-clause-after
returns-clause-after c = after_twice
