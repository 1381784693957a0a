-- The cut of a length by shares.
use Rattle.std.specs.Prelude.{ℕ, ◌+◌, ◌-◌, ◌*◌, ◌/◌, List, sum, take}

-- where child i of a length begins: the part of the length that the shares before it make, rounded down
abbrev pub cut_at : ℕ → List ℕ → ℕ → ℕ
cut_at length shares i = length * sum (take i shares) / sum shares

-- the start of child i, and its length: it ends where the next one begins, the last one at the end
abbrev pub cut : ℕ → List ℕ → ℕ → ℕ × ℕ
cut length shares i = (cut_at length shares i, cut_at length shares (i + 1) - cut_at length shares i)
