-- What stands at the front of some bytes.
use Rattle.std.specs.Prelude.{ℕ, ◌+◌, Bool, true, ◌&&◌, ◌==◌, nat_lt, nat_le, if◌then◌else◌, List, [], ◌∷◌, length, take, drop}
use Rattle.std.specs.Int.{w32, from_le_bytes}
use Rattle.wm_frames.specs.Frame.{MAGIC, MAX_PAYLOAD}
use Rattle.wm_frames.specs.declared.front.Front.{Front}
use Rattle.wm_frames.specs.declared.front.Front.TheVariants.{Whole, Part, Wrong, Long}

-- the shorter of the two begins the other
abbrev pub agrees : List ℕ → List ℕ → Bool
agrees [] ys = true
agrees (x ∷ xs) [] = true
agrees (x ∷ xs) (y ∷ ys) = (x == y) && agrees xs ys

-- how many bytes the payload has, as the bytes say
abbrev pub length_field : List ℕ → ℕ
length_field bytes = from_le_bytes w32 (take 4 (drop 6 bytes))

-- the type, as the bytes say
abbrev pub kind_field : List ℕ → ℕ
kind_field bytes = from_le_bytes w32 (take 4 (drop 10 bytes))

-- where the magic is right: the length is there once ten bytes are, and the frame is whole once all of its bytes are
abbrev pub sized : ℕ → ℕ → Front
sized count len = if nat_le 10 count && nat_lt MAX_PAYLOAD len then Long len else if nat_le 14 count && nat_le (14 + len) count then Whole len else Part

-- a wrong magic, a length above the limit, a whole frame with its payload's length, or a part of a frame
unfoldable pub front_of : List ℕ → Front
front_of bytes = if agrees MAGIC bytes then sized (length bytes) (length_field bytes) else Wrong
