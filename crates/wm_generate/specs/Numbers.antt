-- The numbers from which steps are made.
use Rattle.std.specs.Prelude.{ℕ, zero, suc, ◌+◌, ◌*◌, ◌/◌, ◌%◌, ◌^◌, List, [], ◌∷◌}

-- the number after x in the sequence
abbrev pub next : ℕ → ℕ
next x = (x * 6364136223846793005 + 1442695040888963407) % 2 ^ 64

-- what is drawn by a number: its upper 31 bits
abbrev pub drawn : ℕ → ℕ
drawn x = x / 2 ^ 33

-- what the so many numbers after x draw, in their order
abbrev pub numbers : ℕ → ℕ → List ℕ
numbers zero x = []
numbers (suc count) x = drawn (next x) ∷ numbers count (next x)
