use Rattle.wm_history.specs.declared.step.Step.TheVariants.{Client}
use Rattle.wm_book.proofs.SeatLemmas.{most_steps, room, saw, took}
use Rattle.wm_book.proofs.book.BookDoor.act_client.Goals as goal

pub returns-then-steps-ge-MOST-clause-acts : goal.returns-then-steps-ge-MOST-clause-acts
returns-then-steps-ge-MOST-clause-acts g c = (
  saw c.args.seat.now c.enter-value.new.seat c.requires.ready.1 c.enter-value.ensures.seat c.enter-value.ensures.seen c.leave.new.seat c.leave.ensures.seat,
  rw c.leave.ensures.seat (most_steps _ _ c.count-steps.ensures.count c.count-steps.ensures.few c.if-steps-ge-MOST.true),
)

pub returns-clause-acts : goal.returns-clause-acts
returns-clause-acts g c =
    took c.args.seat.now c.enter-value.new.seat c.requires.ready.1 c.enter-value.ensures.seat c.enter-value.ensures.seen c.log.new.seat c.leave-2.new.seat (Client c.args.step.now) _ c.answer_client-answer.result _ _ (g.met.V.Kept.says (Client c.args.step.now)) c.enter-value.ensures.own
    (room _ _ c.count-steps.ensures.count c.if-steps-ge-MOST.false) c.log.ensures.seat c.leave-2.ensures.seat
    c.enter-value.ensures.opening c.caller.ensures.caller (c.answer_client-answer.ensures.answer _ c.enter-value.ensures.stands)
