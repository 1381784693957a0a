-- The law of settling, by the lemma that proves it.
use Rattle.law_workspaces.proofs.SettledShows.{settles_beside}
use Rattle.law_workspaces.proofs.settling.settling_keeps_what_is_shown.Goals as goal

pub returns : goal.returns
returns c = settles_beside
