use Rattle.std.proofs.Common.{◌≡◌, ◌++◌}
use Rattle.wm_habits.proofs.SpeakLemmas.{sends}
use Rattle.wm_habits.proofs.actor_link.ActorLinkLink.send.Goals as goal
use Rattle.wm_habits.proofs.actor_link.ActorLinkLink.send.Goals.{in-Ok, in-Err}

pub returns-clause-ok : goal.returns-clause-ok
returns-clause-ok c =
    let l = c.self.inside in
    elim c.match-feed.branch [
      | in-Ok w ↦
          let fed : c.feed.new.self ≡ l.cutter ++ c.args.bytes.now = w.in-Ok.ensures.ok in
          rw (w.result-is, fed, ← c.self.view_is) (sends l.actor l.cutter c.args.bytes.now l.say.items)
      | in-Err w ↦ rw w.result-is tt
    ]
