use Rattle.std.proofs.Common.{None, Some, [], ap, arith, length, refl, sym, subst}
use Rattle.wm_tool.specs.Planning.{IsPlain}
use Rattle.std.specs.List.{AllByRecursion}
use Rattle.wm_frames.specs.Frame.{IsShort}
use Rattle.wm_history.specs.History.{opening_of}
use Rattle.wm_ports.specs.Told.{TakesAll, TakesPart}
use Rattle.wm_talk.specs.Calls.{call_of}
use Rattle.wm_tool.specs.Ipc.{after_message, message_texts, replies_from, said, where_on}
use Rattle.wm_tool.specs.Running.{Leads, Plays}
use Rattle.wm_tool.proofs.MessageLemmas.{one_call, plays_message, stops_message}
use Rattle.wm_tool.proofs.RunLemmas.{fails, finishes, on_err, writes, writes_all}
use Rattle.wm_tool.proofs.ipc.answer_queue.Goals as goal

pub returns-in_err-goes_on-clause-part : goal.returns-in_err-goes_on-clause-part
returns-in_err-goes_on-clause-part g c = λ old whole texts first p.
    let now = g.W.Sink.taken c.loop-message.sink in
    let desk = c.loop-message.desk in
    on_err c.from_residual.result
    (stops_message old now desk c.loop-message.refused.items c.answer_message-answered.new.refused.items [] whole texts first (g.B.Build.log c.loop-message.build) (g.B.Build.log c.answer_message-answered.new.build) c.loop-message.talk c.in-Some.message c.loop-message.decoder.queue c.next.new.self.queue c.in-Some.ensures.queue (c.loop-message.invariant.plays old whole texts first p) c.answer_message-answered.ensures.notes)

pub returns-in_err-write_all-clause-part : goal.returns-in_err-write_all-clause-part
returns-in_err-write_all-clause-part g c = λ old whole texts first p.
    let now = g.W.Sink.taken c.loop-message.sink in
    let desk = c.loop-message.desk in
    on_err c.from_residual-in_err-write_all.result
    (fails old now (g.W.Sink.taken c.write_all.new.sink) c.answer_message-answered.new.desk c.answer_message-answered.new.refused.items c.answer_message-answered.new.piece.items (replies_from (where_on c.in_ok-goes_on.goes_on c.answer_message-answered.new.talk) c.next.new.self.queue) whole (λ rs h. message_texts c.next.new.self.queue) texts first (g.B.Build.log c.answer_message-answered.new.build)
    (plays_message old now desk c.loop-message.refused.items c.answer_message-answered.new.refused.items [] whole texts first (g.B.Build.log c.loop-message.build) (g.B.Build.log c.answer_message-answered.new.build)
    c.loop-message.talk c.in-Some.message c.loop-message.decoder.queue c.next.new.self.queue c.in-Some.ensures.queue (c.loop-message.invariant.plays old whole texts first p) c.answer_message-answered.ensures.notes
    c.answer_message-answered.new.desk (where_on c.in_ok-goes_on.goes_on c.answer_message-answered.new.talk) c.answer_message-answered.new.piece.items c.loop-message.invariant.plan
    (λ none. subst (λ before. Leads desk c.answer_message-answered.new.desk (after_message c.in-Some.message c.answer_message-answered.new.refused.items) (said (opening_of desk.plan) c.in-Some.message c.loop-message.talk c.answer_message-answered.new.refused.items) before c.answer_message-answered.new.piece.items) c.loop-message.invariant.empty (c.in_ok-goes_on.ensures.ok none))
    c.in_ok-goes_on.ensures.talk
    c.in_ok-goes_on.ensures.steps)
    (subst (TakesPart now (g.W.Sink.taken c.write_all.new.sink)) c.deref.ensures.value c.in_err-write_all.ensures.part))

pub returns-then-not-goes_on-clause-ok : goal.returns-then-not-goes_on-clause-ok
returns-then-not-goes_on-clause-ok g c = λ old whole texts first p.
    let now = g.W.Sink.taken c.loop-message.sink in
    let desk = c.loop-message.desk in
    let new = g.W.Sink.taken c.write_all.new.sink in
    finishes old new c.answer_message-answered.new.desk c.answer_message-answered.new.refused.items (replies_from None c.next.new.self.queue) whole (λ rs h. message_texts c.next.new.self.queue) texts first (g.B.Build.log c.answer_message-answered.new.build) (λ rs history. refl)
    (writes old now new c.answer_message-answered.new.desk c.answer_message-answered.new.refused.items c.answer_message-answered.new.piece.items (replies_from None c.next.new.self.queue) whole (λ rs h. message_texts c.next.new.self.queue) texts first (g.B.Build.log c.answer_message-answered.new.build)
    (subst (λ w. Plays old now c.answer_message-answered.new.desk c.answer_message-answered.new.refused.items c.answer_message-answered.new.piece.items (replies_from w c.next.new.self.queue) whole (λ rs h. message_texts c.next.new.self.queue) texts first (g.B.Build.log c.answer_message-answered.new.build)) (ap (λ on. where_on on c.answer_message-answered.new.talk) c.if-not-goes_on.true)
    (plays_message old now desk c.loop-message.refused.items c.answer_message-answered.new.refused.items [] whole texts first (g.B.Build.log c.loop-message.build) (g.B.Build.log c.answer_message-answered.new.build)
    c.loop-message.talk c.in-Some.message c.loop-message.decoder.queue c.next.new.self.queue c.in-Some.ensures.queue (c.loop-message.invariant.plays old whole texts first p) c.answer_message-answered.ensures.notes
    c.answer_message-answered.new.desk (where_on c.in_ok-goes_on.goes_on c.answer_message-answered.new.talk) c.answer_message-answered.new.piece.items c.loop-message.invariant.plan
    (λ none. subst (λ before. Leads desk c.answer_message-answered.new.desk (after_message c.in-Some.message c.answer_message-answered.new.refused.items) (said (opening_of desk.plan) c.in-Some.message c.loop-message.talk c.answer_message-answered.new.refused.items) before c.answer_message-answered.new.piece.items) c.loop-message.invariant.empty (c.in_ok-goes_on.ensures.ok none))
    c.in_ok-goes_on.ensures.talk
    c.in_ok-goes_on.ensures.steps))
    [] (writes_all now (g.W.Sink.taken c.write_all.new.sink) c.answer_message-answered.new.piece.items [] (subst (TakesAll now (g.W.Sink.taken c.write_all.new.sink)) c.deref.ensures.value c.in_ok-write_all.ensures.ok) refl))

pub loop-message-preserved : goal.loop-message-preserved
loop-message-preserved g c =
    let now = g.W.Sink.taken c.loop-message.sink in
    let desk = c.loop-message.desk in
    let kept = c.loop-message.invariant in
    record {
      few = omega (arith, kept.few, c.in_ok-goes_on.ensures.steps, one_call (call_of c.in-Some.message), ap length c.in-Some.ensures.queue);
      plan = subst IsPlain (sym c.in_ok-goes_on.ensures.plan) kept.plan;
      short = (subst (AllByRecursion IsShort) c.in-Some.ensures.queue kept.short).1;
      empty = c.clear.ensures.items;
      plays = λ old whole texts first p.
          writes old now (g.W.Sink.taken c.write_all.new.sink) c.answer_message-answered.new.desk c.answer_message-answered.new.refused.items c.answer_message-answered.new.piece.items (replies_from (Some c.answer_message-answered.new.talk) c.next.new.self.queue) whole (λ rs h. message_texts c.next.new.self.queue) texts first (g.B.Build.log c.answer_message-answered.new.build)
          (subst (λ w. Plays old now c.answer_message-answered.new.desk c.answer_message-answered.new.refused.items c.answer_message-answered.new.piece.items (replies_from w c.next.new.self.queue) whole (λ rs h. message_texts c.next.new.self.queue) texts first (g.B.Build.log c.answer_message-answered.new.build)) (ap (λ on. where_on on c.answer_message-answered.new.talk) c.if-not-goes_on.false)
          (plays_message old now desk c.loop-message.refused.items c.answer_message-answered.new.refused.items [] whole texts first (g.B.Build.log c.loop-message.build) (g.B.Build.log c.answer_message-answered.new.build)
          c.loop-message.talk c.in-Some.message c.loop-message.decoder.queue c.next.new.self.queue c.in-Some.ensures.queue (c.loop-message.invariant.plays old whole texts first p) c.answer_message-answered.ensures.notes
          c.answer_message-answered.new.desk (where_on c.in_ok-goes_on.goes_on c.answer_message-answered.new.talk) c.answer_message-answered.new.piece.items c.loop-message.invariant.plan
          (λ none. subst (λ before. Leads desk c.answer_message-answered.new.desk (after_message c.in-Some.message c.answer_message-answered.new.refused.items) (said (opening_of desk.plan) c.in-Some.message c.loop-message.talk c.answer_message-answered.new.refused.items) before c.answer_message-answered.new.piece.items) c.loop-message.invariant.empty (c.in_ok-goes_on.ensures.ok none))
          c.in_ok-goes_on.ensures.talk
          c.in_ok-goes_on.ensures.steps))
          [] (writes_all now (g.W.Sink.taken c.write_all.new.sink) c.answer_message-answered.new.piece.items [] (subst (TakesAll now (g.W.Sink.taken c.write_all.new.sink)) c.deref.ensures.value c.in_ok-write_all.ensures.ok) refl);
      counted = omega (arith, kept.counted, c.write_all.ensures.counted);
    }

pub returns-clause-ok : goal.returns-clause-ok
returns-clause-ok g c = λ old whole texts first p.
    let now = g.W.Sink.taken c.loop-message.sink in
    finishes old now c.loop-message.desk c.loop-message.refused.items (replies_from (Some c.loop-message.talk) []) whole (λ rs h. message_texts []) texts first (g.B.Build.log c.loop-message.build) (λ rs history. refl)
    (subst (λ queue. Plays old now c.loop-message.desk c.loop-message.refused.items [] (replies_from (Some c.loop-message.talk) queue) whole (λ rs h. message_texts queue) texts first (g.B.Build.log c.loop-message.build))
    c.in_default.ensures.none (c.loop-message.invariant.plays old whole texts first p))

pub answer_message-answered-requires : goal.answer_message-answered-requires
answer_message-answered-requires g c =
    let kept = c.loop-message.invariant in
    record { few = omega (arith, kept.few); short = (subst (AllByRecursion IsShort) c.in-Some.ensures.queue kept.short).0 }
