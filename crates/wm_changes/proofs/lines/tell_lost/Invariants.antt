use Rattle.std.proofs.Common.{◌≡◌, ◌++◌}
use Rattle.std.specs.List.{flat_map}
use Rattle.std.specs.BTreeMap.{values}
use Rattle.wm_changes.specs.Differing.{lost_line}
use Rattle.wm_changes.proofs.lines.tell_lost.Given as goal

-- the events so far and those of the rest are those of all
abbrev pub invariant-loop-window : goal.invariant-loop-window
invariant-loop-window l = record {
  events : l.events.items ++ flat_map (lost_line l.initial.viewer.tree l.initial.viewer.parts l.found.after.entries) l.window-iterator ≡ l.initial.events.items ++ flat_map (lost_line l.initial.viewer.tree l.initial.viewer.parts l.found.after.entries) (values l.found.before);
  viewer : l.viewer ≡ l.initial.viewer;
}
