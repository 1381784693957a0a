use Rattle.wm_fields.specs.Split.{lines_of}
use Rattle.wm_script.proofs.ReadingLemmas.{says}
use Rattle.wm_script.proofs.laws.script_is_its_lines.Goals as goal

pub returns : goal.returns
returns c = λ bytes s e. says (lines_of bytes) s e
