use Rattle.std.proofs.Common.{◌≡◌, map, take}
use Rattle.wm_core.specs.Entries.{bare_choice}
use Rattle.wm_book.proofs.entry.choices_copy.Given as goal

-- the copies so far are those of the first choices
abbrev pub invariant-loop-choice : goal.invariant-loop-choice
invariant-loop-choice l = l.copy.items ≡ map bare_choice (take l.choice-index l.choices)
