use Rattle.wm_talk.proofs.DeskLemmas.{readings_end, readings_rise}
use Rattle.wm_talk.proofs.laws.readings_go_to_the_last.Goals as goal

pub returns-clause-rise : goal.returns-clause-rise
returns-clause-rise c = readings_rise

pub returns-clause-last : goal.returns-clause-last
returns-clause-last c = readings_end
