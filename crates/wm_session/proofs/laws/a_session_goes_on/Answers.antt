use Rattle.wm_session.proofs.TalkLemmas.{goes_on_with}
use Rattle.wm_session.proofs.laws.a_session_goes_on.Goals as goal

pub returns : goal.returns
returns c = goes_on_with
