-- Inks as six hexadecimal digits.
use Rattle.std.specs.Prelude.{ℕ, ◌+◌, ◌*◌, ◌/◌, ◌%◌, ◌-◌, nat_le, nat_lt, ◌&&◌, Bool, if◌then◌else◌, List, [], ◌∷◌, Option, None, Some}

-- the lower-case digit of a value below 16
abbrev pub hex_digit : ℕ → ℕ
hex_digit n = if nat_lt n 10 then 48 + n else 87 + n

-- the six digits of a number below 2^24, the highest first
abbrev pub six_hex : ℕ → List ℕ
six_hex n =
    hex_digit (n / 1048576 % 16) ∷ hex_digit (n / 65536 % 16) ∷ hex_digit (n / 4096 % 16) ∷ hex_digit (n / 256 % 16) ∷ hex_digit (n / 16 % 16) ∷ hex_digit (n % 16) ∷ []

-- the value of a digit, in lower or upper case
abbrev pub hex_value : ℕ → Option ℕ
hex_value c =
    if nat_le 48 c && nat_le c 57 then Some (c - 48)
    else if nat_le 97 c && nat_le c 102 then Some (c - 87)
    else if nat_le 65 c && nat_le c 70 then Some (c - 55)
    else None
