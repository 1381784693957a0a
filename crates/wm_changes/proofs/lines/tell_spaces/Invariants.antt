use Rattle.std.proofs.Common.{◌≡◌, ◌++◌}
use Rattle.std.specs.List.{flat_map}
use Rattle.std.specs.BTreeMap.{values}
use Rattle.wm_changes.specs.Changes.{space_line}
use Rattle.wm_changes.proofs.lines.tell_spaces.Given as goal

-- the events so far and those of the rest are those of all
abbrev pub invariant-loop-site : goal.invariant-loop-site
invariant-loop-site l = record {
  events : l.events.items ++ flat_map (space_line l.before.tree.now l.initial.viewer.tree l.initial.viewer.parts) l.site-iterator ≡ l.initial.events.items ++ flat_map (space_line l.before.tree.now l.initial.viewer.tree l.initial.viewer.parts) (values l.after.spaces);
  viewer : l.viewer ≡ l.initial.viewer;
}
