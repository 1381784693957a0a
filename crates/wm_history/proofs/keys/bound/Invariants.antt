use Rattle.std.proofs.Common.{◌≡◌, ◌≤◌, ◌++◌, length}
use denote.Text.{Utf8}
use denote.Shadow.{shadow}
use Rattle.wm_history.specs.Keys.{chord_of}
use Rattle.wm_history.proofs.keys.bound.Given as goal

-- the parts so far and those of the rest are those of the chord
abbrev pub invariant-loop-part : goal.invariant-loop-part
invariant-loop-part l =
    shadow (Utf8 l.rest) × (length l.rest ≤ 1024) × (l.mask.items ++ (chord_of l.rest).mask ≡ (chord_of l.chord).mask) × ((chord_of l.rest).key ≡ (chord_of l.chord).key)

abbrev pub decreases-loop-part : goal.decreases-loop-part
decreases-loop-part l = length l.rest
