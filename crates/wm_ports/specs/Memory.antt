-- Sources and sinks in memory: what they hold, and what a call does to it.
use Rattle.std.specs.Prelude.{ℕ, ◌+◌, ◌==◌, min, Bool, List, ◌++◌, drop}
use Rattle.std.specs.List.{list_any}
use Rattle.wm_defs.specs.Counts.{LAST_COUNT}

-- the bytes that are left to read, the numbers of the calls that fail, and how many calls and faults there were
pub record SourceState : Type 0 where
  pub left : List ℕ
  pub fails : List ℕ
  pub calls : ℕ
  pub faults : ℕ

-- the bytes taken, the room for them in all, the numbers of the calls that fail, and how many calls and faults there were
pub record SinkState : Type 0 where
  pub taken : List ℕ
  pub room : ℕ
  pub fails : List ℕ
  pub calls : ℕ
  pub faults : ℕ

-- one more, or the last value of a count
abbrev pub next : ℕ → ℕ
next count = min (count + 1) LAST_COUNT

-- whether the list names this call
abbrev pub is_listed : List ℕ → ℕ → Bool
is_listed calls call = list_any (λ k. k == call) calls

-- after a reading that gave n bytes
abbrev pub after_read : SourceState → ℕ → SourceState
after_read s n = record s { left = drop n s.left; calls = next s.calls }

-- after a reading that failed
abbrev pub after_failed_read : SourceState → SourceState
after_failed_read s = record s { calls = next s.calls; faults = next s.faults }

-- after a writing that took these bytes
abbrev pub after_write : SinkState → List ℕ → SinkState
after_write s bytes = record s { taken = s.taken ++ bytes; calls = next s.calls }

-- after a writing that failed
abbrev pub after_failed_write : SinkState → SinkState
after_failed_write s = record s { calls = next s.calls; faults = next s.faults }
