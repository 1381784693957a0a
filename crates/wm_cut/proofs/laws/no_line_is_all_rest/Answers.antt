use Rattle.wm_cut.proofs.CutLemmas.{no_line}
use Rattle.wm_cut.proofs.laws.no_line_is_all_rest.Goals as goal

pub returns : goal.returns
returns c = no_line
