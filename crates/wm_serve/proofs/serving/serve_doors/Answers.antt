use Rattle.std.proofs.Common.{◌∙◌, inr, refl, subst}
use denote.Param.Send.{sendable}
use Rattle.wm_actors.specs.Pictured.{screen}
use Rattle.wm_book.proofs.DeskCrossing.{desk_send}
use Rattle.wm_core.specs.Entries.{history_of}
use Rattle.wm_history.specs.History.{opening_of}
use Rattle.wm_crew.specs.Running.{outside}
use Rattle.wm_serve.proofs.DeskLemmas.{ran_as}
use Rattle.wm_serve.specs.Serving.{IsEnded}
use Rattle.wm_serve.specs.Summary.{summary}
use Rattle.wm_serve.proofs.serving.serve_doors.Goals as goal

pub run_desk-requires-send-V : goal.run_desk-requires-send-V
run_desk-requires-send-V g c κs within = search (desk_send, sendable)

pub returns-in-Ok-run_desk : goal.returns-in-Ok-run_desk
returns-in-Ok-run_desk g c = inr (record {
  left = outside c.run_desk.new.doors.items c.run_desk.new.builds (g.S.Sink.taken c.run_desk.new.frames) (g.S.Sink.faults c.run_desk.new.frames) (g.C.Clock.told c.run_desk.new.clock);
  ended = c.in-Ok-run_desk.status;
  desk = c.in-Ok-run_desk.desk;
  ran = ran_as g.L.Link.told g.L.Link.faults g.A.Listen.told g.A.Listen.faults g.B.Build.log _ _ _ _ _ _ _ _ _ _ c.in-Ok.ensures.plan (λ history stood. stood) c.in-Ok-run_desk.ensures.ran;
  doors = refl;
  builds = refl;
  clock = refl;
  summed = λ history stood. subst (λ plan. IsEnded c.in-Ok-run_desk.status c.close_down.result (summary (opening_of plan) (history_of history))
      (screen (g.S.Sink.taken c.run_desk.new.frames) (g.S.Sink.faults c.run_desk.new.frames)) (screen (g.S.Sink.taken c.close_down.new.frames) (g.S.Sink.faults c.close_down.new.frames)))
      (c.in-Ok-run_desk.ensures.opening ∙ c.in-Ok.ensures.plan) (c.close_down.ensures history stood);
})
