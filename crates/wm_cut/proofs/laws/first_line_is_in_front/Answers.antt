use Rattle.std.proofs.Common.{[]}
use Rattle.wm_cut.proofs.CutLemmas.{fronts}
use Rattle.wm_cut.proofs.laws.first_line_is_in_front.Goals as goal

pub returns : goal.returns
returns c = λ bytes line first. (fronts bytes line [] first).whole
