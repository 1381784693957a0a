-- The text of a command in the code, as its bytes.
use Rattle.std.specs.Prelude.{ℕ, List}
use Rattle.wm_grammar.specs.declared.reading.Piece.{Piece}
use Rattle.wm_grammar.specs.declared.reading.Piece.TheVariants as pieces

abbrev pub piece_bytes : Piece → List ℕ
piece_bytes (pieces.Plain b) = b.now
piece_bytes (pieces.Quoted v) = v.items
