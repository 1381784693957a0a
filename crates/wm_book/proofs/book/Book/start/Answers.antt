use Rattle.std.proofs.Common.{subst, sym}
use Rattle.std.specs.List.{All}
use Rattle.wm_core.specs.declared.asked.Asked.{Asked}
use Rattle.wm_history.specs.declared.step.Step.{Step}
use Rattle.wm_turn.specs.Pass.{IsLegal}
use Rattle.wm_book.proofs.SeatLemmas.{new_legal}
use Rattle.wm_book.proofs.book.Book.start.Goals as goal

-- seats that were just handed out are legal
pub returns-clause-legal : goal.returns-clause-legal
returns-clause-legal g c = subst (All (IsLegal {S = Step} {Q = Asked})) (sym c.in_ok-turnstile.ensures.seats) (new_legal c.in_ok-turnstile.turnstile (g.V.Stands.opening c.args.value) 0 c.args.seats)
