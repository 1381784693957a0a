-- Fields of a line: what stands at the front of a text, and the rest behind it.
use Rattle.std.specs.Prelude.{ℕ, ℤ, pos, neg_ℤ, ◌+◌, ◌*◌, ◌-◌, ◌==◌, nat_le, ◌&&◌, if◌then◌else◌, List, [], ◌∷◌, length, drop, Option, None, Some, codes, take_while, nat_eq}
use Rattle.std.specs.Char.{is_ascii_digit}
use Rattle.std.specs.List.{starts_with}
use Rattle.wm_defs.specs.Hex.{hex_value}
use Rattle.wm_base.specs.declared.geometry.Edges.{Edges}
use Rattle.wm_base.specs.declared.geometry.Rect.{Rect}
use Rattle.wm_base.specs.declared.geometry.Size.{Size}
use Rattle.wm_base.specs.declared.ids.Buffer.{Buffer}
use Rattle.wm_base.specs.declared.plan.OutputPlan.{OutputPlan}

abbrev pub or_none : {A B : Type 0} → Option A → (A → Option B) → Option B
or_none None f = None
or_none (Some x) f = f x

-- the rest behind a word
abbrev pub behind : List ℕ → List ℕ → Option (List ℕ)
behind word text = if starts_with nat_eq text word then Some (drop (length word) text) else None

-- what follows a word is read so; where the word is not there, another reading holds
abbrev pub or_else : {A : Type 0} → Option (List ℕ) → (List ℕ → Option A) → Option A → Option A
or_else None f other = other
or_else (Some rest) f other = f rest

-- a text without the spaces at its front
abbrev pub past_spaces : List ℕ → List ℕ
past_spaces text = drop (length (take_while (λ c. c == 32) text)) text

-- what follows one or more spaces
abbrev pub gap_at : List ℕ → Option (List ℕ)
gap_at [] = None
gap_at (c ∷ cs) = if c == 32 then Some (past_spaces cs) else None

-- what follows this word and the spaces behind it
abbrev pub word_then : List ℕ → List ℕ → Option (List ℕ)
word_then word text = or_none (behind word text) gap_at

abbrev pub if_end : {A : Type 0} → A → List ℕ → Option A
if_end x [] = Some x
if_end x (c ∷ cs) = None

-- the value of decimal digits
abbrev pub decimal_value : ℕ → List ℕ → ℕ
decimal_value value [] = value
decimal_value value (digit ∷ digits) = decimal_value (value * 10 + (digit - 48)) digits

-- a number: 1 to 20 decimal digits, with a value of at most `most`
abbrev pub number_at : ℕ → List ℕ → Option (ℕ × List ℕ)
number_at most text =
    let digits = take_while is_ascii_digit text in
    if nat_le 1 (length digits) && nat_le (length digits) 20 && nat_le (decimal_value 0 digits) most
    then Some (decimal_value 0 digits, drop (length digits) text) else None

-- a number of 64 bits
abbrev pub serial_at : List ℕ → Option (ℕ × List ℕ)
serial_at text = number_at 18446744073709551615 text

-- a value with one more hexadecimal digit
abbrev pub with_digit : ℕ → Option ℕ → Option ℕ
with_digit value None = None
with_digit value (Some digit) = Some (value * 16 + digit)

-- an ink: six hexadecimal digits, the highest first
abbrev pub ink_at : List ℕ → Option (ℕ × List ℕ)
ink_at (a ∷ b ∷ c ∷ d ∷ e ∷ f ∷ rest) =
    or_none (with_digit 0 (hex_value a)) (λ v. or_none (with_digit v (hex_value b)) (λ v. or_none (with_digit v (hex_value c)) (λ v.
    or_none (with_digit v (hex_value d)) (λ v. or_none (with_digit v (hex_value e)) (λ v. or_none (with_digit v (hex_value f)) (λ v. Some (v, rest)))))))
ink_at text = None

-- ---- sizes, places and widths

abbrev pub size_of : ℕ → ℕ → Size
size_of w h = record { w = w; h = h }

-- a width and a height of at most 16,384 pixels each, as `400x300`
abbrev pub size_at : List ℕ → Option (Size × List ℕ)
size_at text =
    or_none (number_at 16384 text) (λ w. or_none (behind (codes "x") w.1) (λ height.
    or_none (number_at 16384 height) (λ h. Some (size_of w.0 h.0, h.1))))

abbrev pub buffer_of : ℕ → Size → Buffer
buffer_of ink size = record { ink = record { 0 = ink }; size = size }

-- an ink and a size, as `e0b030 400x300`
abbrev pub buffer_at : List ℕ → Option (Buffer × List ℕ)
buffer_at text =
    or_none (ink_at text) (λ ink. or_none (gap_at ink.1) (λ rest.
    or_none (size_at rest) (λ size. Some (buffer_of ink.0 size.0, size.1))))

-- a number from -131,072 to 131,071
abbrev pub coordinate_at : List ℕ → Option (ℤ × List ℕ)
coordinate_at text =
    or_else (behind (codes "-") text) (λ digits. or_none (number_at 131072 digits) (λ n. Some (neg_ℤ (pos n.0), n.1)))
    (or_none (number_at 131071 text) (λ n. Some (pos n.0, n.1)))

abbrev pub rect_of : ℤ → ℤ → Size → Rect
rect_of x y size = record { x = x; y = y; w = size.w; h = size.h }

-- a place and a size, as `-1000,0 400x300`
abbrev pub rect_at : List ℕ → Option (Rect × List ℕ)
rect_at text =
    or_none (coordinate_at text) (λ x. or_none (behind (codes ",") x.1) (λ down.
    or_none (coordinate_at down) (λ y. or_none (gap_at y.1) (λ rest.
    or_none (size_at rest) (λ size. Some (rect_of x.0 y.0 size.0, size.1))))))

-- a width of at most 16,384 pixels behind spaces
abbrev pub width_at : List ℕ → Option (ℕ × List ℕ)
width_at text = or_none (gap_at text) (number_at 16384)

abbrev pub edges_of : ℕ → ℕ → ℕ → ℕ → Edges
edges_of top right bottom left = record { top = top; right = right; bottom = bottom; left = left }

-- the widths of the edges, each behind spaces: above, to the right, below and to the left
abbrev pub edges_at : List ℕ → Option (Edges × List ℕ)
edges_at text =
    or_none (width_at text) (λ top. or_none (width_at top.1) (λ right. or_none (width_at right.1) (λ bottom. or_none (width_at bottom.1) (λ left.
    Some (edges_of top.0 right.0 bottom.0 left.0, left.1)))))

-- an output of which nothing is reserved
abbrev pub output_of : List ℕ → Rect → OutputPlan
output_of name rect = record { name = name; rect = rect; reserved = edges_of 0 0 0 0 }
