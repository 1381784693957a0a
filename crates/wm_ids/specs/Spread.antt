-- The hash of an id, by which no clause of a map can tell anything.
use Rattle.std.specs.Prelude.{ℕ, ◌*◌, ◌/◌, ◌%◌, ◌^◌, bit_and, bit_or, bit_xor}

-- the number without its lowest byte, and with another one above the rest
abbrev pub byte_behind : ℕ → ℕ → ℕ
byte_behind number byte = bit_or (number / 2 ^ 8) ((byte * 2 ^ 24) % 2 ^ 32)

-- the place in the low 24 bits, by the id without its lowest two bits as one mixed number, and in the 8 bits above what tells
-- ids of one place apart
abbrev pub spread_by : ℕ → ℕ → ℕ
spread_by mixed id = bit_or (mixed / 2 ^ 40) ((bit_and (bit_xor (mixed / 2 ^ 32) id) 255 * 2 ^ 24) % 2 ^ 64)

abbrev pub spread : ℕ → ℕ
spread id = spread_by ((id / 4 * 0x9e37_79b9_7f4a_7c15) % 2 ^ 64) id
