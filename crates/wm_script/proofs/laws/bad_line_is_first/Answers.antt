use Rattle.wm_fields.specs.Split.{lines_of}
use Rattle.wm_script.proofs.ReadingLemmas.{first_bad}
use Rattle.wm_script.proofs.laws.bad_line_is_first.Goals as goal

pub returns : goal.returns
returns c = λ bytes line e. first_bad (lines_of bytes) line e
