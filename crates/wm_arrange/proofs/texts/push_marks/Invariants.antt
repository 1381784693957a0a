use Rattle.std.proofs.Common.{◌≡◌, ◌++◌, length, string_bytes}
use Rattle.wm_arrange.specs.TitleText.{marks_text}
use Rattle.wm_arrange.proofs.texts.push_marks.Given as goal

-- the text so far and that of the rest make the whole
abbrev pub invariant-loop-rest : goal.invariant-loop-rest
invariant-loop-rest l = string_bytes l.text ++ marks_text l.rest ≡ string_bytes l.initial.text ++ marks_text l.marks

abbrev pub decreases-loop-rest : goal.decreases-loop-rest
decreases-loop-rest l = length l.rest
