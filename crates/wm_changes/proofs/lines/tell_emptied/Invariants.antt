use Rattle.std.proofs.Common.{◌≡◌, ◌++◌}
use Rattle.std.specs.List.{flat_map}
use Rattle.std.specs.BTreeMap.{values}
use Rattle.wm_changes.specs.Changes.{empty_line}
use Rattle.wm_changes.proofs.lines.tell_emptied.Given as goal

-- the events so far and those of the rest are those of all
abbrev pub invariant-loop-site : goal.invariant-loop-site
invariant-loop-site l = record {
  events : l.events.items ++ flat_map (empty_line l.initial.viewer.tree l.initial.viewer.parts l.after.tree.now) l.site-iterator ≡ l.initial.events.items ++ flat_map (empty_line l.initial.viewer.tree l.initial.viewer.parts l.after.tree.now) (values l.before.spaces);
  viewer : l.viewer ≡ l.initial.viewer;
}
