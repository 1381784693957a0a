-- Columns and rows of pixels that stand row by row.
use Rattle.std.specs.Prelude.{ℕ, ◌/◌, ◌%◌, nat_le, nat_lt, Bool, ◌&&◌}

-- i is from the first one on and before the end
abbrev pub in_range : ℕ → ℕ → ℕ → Bool
in_range first end i = nat_le first i && nat_lt i end

-- the k-th pixel, in rows of w pixels, stands in these columns and in these rows
abbrev pub in_box : ℕ → ℕ → ℕ → ℕ → ℕ → ℕ → Bool
in_box w left right top bottom k = in_range left right (k % w) && in_range top bottom (k / w)
