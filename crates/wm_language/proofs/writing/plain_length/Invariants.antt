use Rattle.std.proofs.Common.{◌≡◌, ℕ, ◌<◌, false, get_or}
use Rattle.wm_language.specs.Spelling.{is_special}
use Rattle.wm_language.proofs.writing.plain_length.Given as goal

abbrev pub invariant-loop-i : goal.invariant-loop-i
invariant-loop-i l = (k : ℕ) → k < l.i → is_special (get_or l.text k 0) ≡ false
