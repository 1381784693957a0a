use Rattle.std.proofs.Common.{◌≡◌, ◌++◌, length}
use Rattle.wm_changes.specs.Changes.{window_event, window_view, told}
use Rattle.wm_changes.proofs.telling.tell_window.Given as goal

-- the events so far and those of the rest are those of all
abbrev pub invariant-loop-rest : goal.invariant-loop-rest
invariant-loop-rest l = record {
  events : l.events.items ++ told (window_event (window_view l.initial.viewer.tree l.initial.viewer.parts l.window)) l.rest ≡ l.initial.events.items ++ told (window_event (window_view l.initial.viewer.tree l.initial.viewer.parts l.window)) l.words;
  viewer : l.viewer ≡ l.initial.viewer;
}

abbrev pub decreases-loop-rest : goal.decreases-loop-rest
decreases-loop-rest l = length l.rest
