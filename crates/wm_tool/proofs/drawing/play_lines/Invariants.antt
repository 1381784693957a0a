use Rattle.std.proofs.Common.{◌≡◌, ℕ, ◌+◌, ◌≤◌, List, Option, length}
use Rattle.std.specs.List.{AllByRecursion}
use Rattle.wm_history.specs.History.{opening_of}
use Rattle.wm_criteria.specs.Building.{Log}
use Rattle.wm_script.specs.Out.{texts_from}
use Rattle.wm_script.specs.Script.{IsFitLine}
use Rattle.wm_script.specs.declared.refused.Refused.{Refused}
use Rattle.wm_tool.specs.Drawing.{drawn_from}
use Rattle.wm_tool.specs.Running.{Draws}
use Rattle.wm_tool.proofs.drawing.play_lines.Given as goal

-- the desk stands for the lines so far, and their refusals are backed
abbrev pub invariant-loop-rest : goal.invariant-loop-rest
invariant-loop-rest g l = record {
  few : l.desk.steps + length l.rest ≤ 16777216;
  fit : AllByRecursion IsFitLine l.rest;
  plan : l.desk.plan ≡ l.initial.desk.plan;
  draws : (whole : List Refused → List ℕ) (texts : List Refused → List (Option (List ℕ))) (first : Log)
      → Draws l.initial.desk l.initial.refused.items (drawn_from (opening_of l.initial.desk.plan) l.binds l.lines) whole (texts_from (opening_of l.initial.desk.plan) l.binds l.lines) texts first (g.B.Build.log l.initial.build)
      → Draws l.desk l.refused.items (drawn_from (opening_of l.initial.desk.plan) l.binds l.rest) whole (texts_from (opening_of l.initial.desk.plan) l.binds l.rest) texts first (g.B.Build.log l.build);
}

abbrev pub decreases-loop-rest : goal.decreases-loop-rest
decreases-loop-rest g l = length l.rest
