-- Counts of faults: how a count tells that something failed since.
use Rattle.std.specs.Prelude.{ℕ, ◌+◌, ◌≤◌, min}

-- the last value of a count of 64 bits, where it stands still
abbrev pub LAST_COUNT : ℕ
LAST_COUNT = 18446744073709551615

-- the count rose: it is greater than before, or stands at its last value
abbrev pub Rose : ℕ → ℕ → Type 0
Rose old new = min (old + 1) LAST_COUNT ≤ new
