-- What a caller carries by a seat.
use Rattle.std.specs.Prelude.{◌≡◌, false}
use Rattle.wm_core.proofs.EntryLemmas.{history_legal}
use Rattle.wm_core.specs.Entries.{history_of}
use Rattle.wm_core.specs.Passes as passes
use Rattle.wm_core.specs.declared.asked.Asked.{Asked}
use Rattle.wm_history.specs.declared.step.Step.{Step}
use Rattle.wm_layouts.specs.declared.plan.Plan.{Plan}
use Rattle.wm_turn.specs.Pass.{Gate, IsLegal, Pass}

abbrev pub carried : Pass Plan Step Asked → passes.Pass
carried seat = record { caller = seat.caller; parts = seat.parts; opening = seat.opening; turn = seat.turn; seen = history_of seat.seen; mine = seat.mine }

-- marks that are legal for a seat are so for what its caller carries
pub carried_legal : (seat : Pass Plan Step Asked) → IsLegal seat → passes.IsLegal (carried seat)
carried_legal seat legal = history_legal seat.caller seat.seen seat.mine legal

-- the seat is one of this book's, and its caller is not within a call
pub record IsReady (book : Gate Plan) (seat : Pass Plan Step Asked) : Type 0 where
  pub door : seat.door ≡ book.door
  pub legal : IsLegal seat
  pub no_turn : seat.turn ≡ false

-- it is so again, and is as many of the seats as before
pub record IsBack (book : Gate Plan) (old new : Pass Plan Step Asked) : Type 0 where
  pub ready : IsReady book new
  pub parts : new.parts ≡ old.parts
