use Rattle.std.proofs.Common.{Some}
use Rattle.wm_turn.proofs.turnstile.Turnstile.log.Given as goal

-- the step is what is said
abbrev pub ghosts-add : goal.ghosts-add
ghosts-add g a = record { said = Some (g.V.Stands.form a.step.now) }
