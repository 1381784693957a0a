use Rattle.std.proofs.Common.{◌≡◌, ◌++◌, length}
use Rattle.wm_frames.specs.Reading.{messages, tail}
use Rattle.wm_frames.proofs.whole.read_frames.Given as goal

-- what was found and the reading of what is left are the reading of all
abbrev pub invariant-loop-found : goal.invariant-loop-found
invariant-loop-found l = record {
  found : l.found.items ++ messages l.after ≡ messages l.bytes;
  tail : tail l.after ≡ tail l.bytes;
}

abbrev pub decreases-loop-found : goal.decreases-loop-found
decreases-loop-found l = length l.after
