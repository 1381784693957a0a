use Rattle.std.proofs.Common.{◌≡◌, ℕ, ◌+◌, ◌≤◌, List, [], Option, Some, length}
use Rattle.std.specs.List.{AllByRecursion}
use Rattle.wm_criteria.specs.Building.{Log}
use Rattle.wm_frames.specs.Frame.{IsShort}
use Rattle.wm_tool.specs.Planning.{IsPlain}
use Rattle.wm_script.specs.declared.refused.Refused.{Refused}
use Rattle.wm_tool.specs.Ipc.{message_texts, replies_from}
use Rattle.wm_tool.specs.Running.{Plays}
use Rattle.wm_tool.proofs.ipc.answer_queue.Given as goal

-- the replies so far are written, the desk stands for their messages, and their refusals are backed
abbrev pub invariant-loop-message : goal.invariant-loop-message
invariant-loop-message g l = record {
  few : l.desk.steps + length l.decoder.queue ≤ 16777216;
  plan : IsPlain l.desk.plan;
  short : AllByRecursion IsShort l.decoder.queue;
  empty : l.piece.items ≡ [];
  plays : (old : Option (List ℕ)) (whole : List Refused → List ℕ) (texts : List Refused → List (Option (List ℕ))) (first : Log)
      → Plays old (g.W.Sink.taken l.initial.sink) l.initial.desk l.initial.refused.items [] (replies_from (Some l.initial.talk) l.initial.decoder.queue) whole (λ rs h. message_texts l.initial.decoder.queue) texts first (g.B.Build.log l.initial.build)
      → Plays old (g.W.Sink.taken l.sink) l.desk l.refused.items [] (replies_from (Some l.talk) l.decoder.queue) whole (λ rs h. message_texts l.decoder.queue) texts first (g.B.Build.log l.build);
  counted : g.W.Sink.faults l.initial.sink ≤ g.W.Sink.faults l.sink;
}

abbrev pub decreases-loop-message : goal.decreases-loop-message
decreases-loop-message g l = length l.decoder.queue
