use Rattle.std.proofs.Common.{subst}
use Rattle.std.specs.List.{All}
use Rattle.wm_turn.specs.Pass.{IsKnown}
use Rattle.wm_turn.proofs.turnstile.Turnstile.close.Goals as goal

pub returns-clause-known : goal.returns-clause-known
returns-clause-known g c =
    subst (λ history. All (IsKnown history) c.args.seats.items) c.gather-place.ensures.seen (c.gather-place.ensures.known c.end.ensures.calls)
