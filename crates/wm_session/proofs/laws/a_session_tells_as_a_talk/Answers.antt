use Rattle.wm_session.proofs.TalkLemmas.{session_talk, session_told}
use Rattle.wm_session.proofs.laws.a_session_tells_as_a_talk.Goals as goal

pub returns-clause-told : goal.returns-clause-told
returns-clause-told c = session_told

pub returns-clause-talk : goal.returns-clause-talk
returns-clause-talk c = session_talk
