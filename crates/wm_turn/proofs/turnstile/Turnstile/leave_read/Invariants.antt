use Rattle.std.proofs.Common.{Some}
use Rattle.wm_turn.proofs.turnstile.Turnstile.leave_read.Given as goal

-- the question is what is said
abbrev pub ghosts-pass_on_read : goal.ghosts-pass_on_read
ghosts-pass_on_read g a = record { said = Some a.question.now }
