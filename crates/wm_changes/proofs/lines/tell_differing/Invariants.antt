use Rattle.std.proofs.Common.{◌≡◌, ◌++◌}
use Rattle.std.specs.List.{flat_map}
use Rattle.std.specs.BTreeMap.{values}
use Rattle.wm_changes.specs.Differing.{here_line}
use Rattle.wm_changes.proofs.lines.tell_differing.Given as goal

-- the events so far and those of the rest are those of all
abbrev pub invariant-loop-window : goal.invariant-loop-window
invariant-loop-window l = record {
  events : l.events.items ++ flat_map (here_line l.before.tree.now l.after.tree.now l.initial.viewer.parts l.found.before.entries) l.window-iterator ≡ l.initial.events.items ++ flat_map (here_line l.before.tree.now l.after.tree.now l.initial.viewer.parts l.found.before.entries) (values l.found.after);
  viewer : l.viewer ≡ l.initial.viewer;
}
