use Rattle.std.proofs.Common.{◌≡◌, ℕ, ◌+◌, ◌≤◌, List, Option, length}
use Rattle.std.specs.List.{AllByRecursion}
use Rattle.wm_history.specs.History.{opening_of}
use Rattle.wm_criteria.specs.Building.{Log}
use Rattle.wm_script.specs.Out.{out_from, texts_from}
use Rattle.wm_script.specs.Script.{IsFitLine}
use Rattle.wm_script.specs.declared.refused.Refused.{Refused}
use Rattle.wm_tool.specs.Running.{Plays}
use Rattle.wm_tool.proofs.replay.run_lines.Given as goal

-- what the lines so far tell is written or held, the desk stands for them, and their refusals are backed
abbrev pub invariant-loop-rest : goal.invariant-loop-rest
invariant-loop-rest g l = record {
  few : l.desk.steps + length l.rest ≤ 16777216;
  fit : AllByRecursion IsFitLine l.rest;
  plan : l.desk.plan ≡ l.initial.desk.plan;
  plays : (old : Option (List ℕ)) (whole : List Refused → List ℕ) (texts : List Refused → List (Option (List ℕ))) (first : Log)
      → Plays old (g.W.Sink.taken l.initial.sink) l.initial.desk l.initial.refused.items l.initial.piece.items (out_from (opening_of l.initial.desk.plan) l.binds l.lines) whole (texts_from (opening_of l.initial.desk.plan) l.binds l.lines) texts first (g.B.Build.log l.initial.build)
      → Plays old (g.W.Sink.taken l.sink) l.desk l.refused.items l.piece.items (out_from (opening_of l.initial.desk.plan) l.binds l.rest) whole (texts_from (opening_of l.initial.desk.plan) l.binds l.rest) texts first (g.B.Build.log l.build);
  counted : g.W.Sink.faults l.initial.sink ≤ g.W.Sink.faults l.sink;
}

abbrev pub decreases-loop-rest : goal.decreases-loop-rest
decreases-loop-rest g l = length l.rest
