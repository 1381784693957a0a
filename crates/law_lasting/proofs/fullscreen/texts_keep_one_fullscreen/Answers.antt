-- By the lemma of that name.
use Rattle.law_lasting.proofs.SingleLasts.{texts_keep}
use Rattle.law_lasting.proofs.fullscreen.texts_keep_one_fullscreen.Goals as goal

pub returns : goal.returns
returns c = texts_keep
