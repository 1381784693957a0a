use Rattle.std.proofs.Common.{[], Some, refl, subst}
use Rattle.wm_talk.specs.Talking.{NEW}
use Rattle.wm_tool.specs.Ipc.{message_texts, replies_from}
use Rattle.wm_tool.specs.Running.{Finishes, Stops}
use Rattle.wm_tool.proofs.RunLemmas.{begins, err_weaker, ok_weaker}
use Rattle.wm_tool.proofs.ipc.answer_all.Goals as goal

pub returns-clause-ok : goal.returns-clause-ok
returns-clause-ok g c =
    let old = g.W.Sink.taken c.args.sink.now in
    let new = g.W.Sink.taken c.answer_queue-end.new.sink in
    let queue = c.args.decoder.now.queue in
    let listed = c.answer_queue-end.new.refused.items in
    let first = g.B.Build.log c.args.build.now in
    let log = g.B.Build.log c.answer_queue-end.new.build in
    let Ends : Type 0 = Finishes old new (λ rs. replies_from (Some NEW) queue rs []) listed (λ rs. message_texts queue) first log in
    ok_weaker {Q = Ends} c.answer_queue-end.result (c.answer_queue-end.ensures.ok _ _ _ _ (begins _ _ _ _ _ _ _ c.requires.none refl c.in_ok-desk.ensures.stands))
    (λ finishes. subst (λ t. Finishes old new (λ rs. replies_from (Some t) queue rs []) listed (λ rs. message_texts queue) first log) c.new-talk.ensures finishes)

pub returns-clause-part : goal.returns-clause-part
returns-clause-part g c =
    let old = g.W.Sink.taken c.args.sink.now in
    let new = g.W.Sink.taken c.answer_queue-end.new.sink in
    let queue = c.args.decoder.now.queue in
    let first = g.B.Build.log c.args.build.now in
    let log = g.B.Build.log c.answer_queue-end.new.build in
    let Ends : Type 0 = Stops old new (λ rs. replies_from (Some NEW) queue rs []) (λ rs. message_texts queue) first log in
    err_weaker {Q = Ends} c.answer_queue-end.result (c.answer_queue-end.ensures.part _ _ _ _ (begins _ _ _ _ _ _ _ c.requires.none refl c.in_ok-desk.ensures.stands))
    (λ stops. subst (λ t. Stops old new (λ rs. replies_from (Some t) queue rs []) (λ rs. message_texts queue) first log) c.new-talk.ensures stops)
