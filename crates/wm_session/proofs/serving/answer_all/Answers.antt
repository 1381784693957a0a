use Rattle.std.proofs.Common.{[], ap, ◌∙◌, ◌++◌, ◌∷◌}
use Rattle.wm_frames.specs.Decoding.{Decoding}
use Rattle.wm_session.specs.Served.{stage}
use Rattle.wm_session.proofs.GoingLemmas.{ends_as}
use Rattle.wm_session.proofs.HearLemmas.{asks_of, between_next, next_short}
use Rattle.wm_session.proofs.serving.answer_all.Goals as goal

pub answer-answered-requires-clause-short : goal.answer-answered-requires-clause-short
answer-answered-requires-clause-short g c = next_short c.loop-message.hearer.decoder c.in-Some.message c.next.new.self.queue c.loop-message.invariant.heard c.in-Some.ensures.queue

pub loop-message-preserved : goal.loop-message-preserved
loop-message-preserved g c =
    let kept = c.loop-message.invariant in
    let heard = kept.heard in
    let now = stage (g.D.Door.carried c.loop-message.pass) (g.L.Link.told c.loop-message.link) (g.L.Link.faults c.loop-message.link) (g.B.Build.log c.loop-message.build) in
    record {
      door = c.answer-answered.ensures.door;
      turn = c.answer-answered.ensures.turn;
      heard = record { fed = heard.fed; given = heard.given ++ c.in-Some.message ∷ []; stands = c.in-Some.ensures.stands heard.fed heard.given heard.stands; bytes = heard.bytes };
      decoder = c.in-Some.ensures.others ∙ ap {A = Decoding} (λ d. record d { queue = c.next.new.self.queue }) kept.decoder;
      room = kept.room;
      goes = λ first unasked b.
          let between = kept.goes first unasked b in
          record {
            received = between.received;
            given = between.given ++ c.in-Some.message ∷ [];
            stops = between.stops;
            going = c.in_ok-answered.ensures.answers first between.received c.next.new.self.queue _ between.stops (asks_of unasked between.stops)
                (between_next first now c.loop-message.teller.talk c.loop-message.hearer.decoder unasked c.in-Some.message c.next.new.self.queue between c.in-Some.ensures.queue);
            stands = c.in-Some.ensures.stands between.received between.given between.stands;
          };
    }

pub returns-in_err-answered-clause-goes_on : goal.returns-in_err-answered-clause-goes_on
returns-in_err-answered-clause-goes_on g c = λ first unasked b.
    let now = stage (g.D.Door.carried c.loop-message.pass) (g.L.Link.told c.loop-message.link) (g.L.Link.faults c.loop-message.link) (g.B.Build.log c.loop-message.build) in
    let new = stage (g.D.Door.carried c.answer-answered.new.pass) (g.L.Link.told c.answer-answered.new.link) (g.L.Link.faults c.answer-answered.new.link) (g.B.Build.log c.answer-answered.new.build) in
    let between = c.loop-message.invariant.goes first unasked b in
    ends_as first new _ c.from_residual.result c.in_err-answered.field-0.0
    (c.in_err-answered.ensures.answers first between.received c.next.new.self.queue _ between.stops (asks_of unasked between.stops)
    (between_next first now c.loop-message.teller.talk c.loop-message.hearer.decoder unasked c.in-Some.message c.next.new.self.queue between c.in-Some.ensures.queue))
    c.from_residual.ensures.1
