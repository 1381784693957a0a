-- The place of the last of some turns that has one.
use Rattle.std.specs.Prelude.{ℕ, List, [], ◌∷◌, Option, None}
use Rattle.wm_grammar.specs.declared.search.Turn.{Turn}
use Rattle.wm_words.specs.Pieces.{first_of}
use Rattle.wm_grammar.specs.Farthest.{here, farthest}

-- a place at the end of the turn or inside it
abbrev pub at_turn : Turn → Option ℕ
at_turn t = here (farthest t.left) t.fresh t.text.now t.end.now

unfoldable pub last_of : List Turn → Option ℕ
last_of [] = None
last_of (t ∷ ts) = first_of (last_of ts) (at_turn t)
