-- At which bytes the pieces of a text stop.
use Rattle.std.specs.Prelude.{ℕ, Bool}
use Rattle.wm_words.specs.declared.words.Stop.{Stop}
use Rattle.wm_words.specs.declared.words.Stop.TheVariants as at
use Rattle.wm_words.specs.Pieces.{is_blank, is_end, is_gap, is_semicolon, ends_name, ends_value, breaks_word}

abbrev pub stops : Stop → ℕ → Bool
stops at.Blank = is_blank
stops at.End = is_end
stops at.Gap = is_gap
stops at.Group = is_semicolon
stops at.Name = ends_name
stops at.Value = ends_value
stops at.Break = breaks_word
