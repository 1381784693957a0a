-- What the words of the server ask for, by clap's own definitions of a command and its matches.
use Rattle.std.specs.Prelude.{◌≡◌, ◌≤◌, ℕ, List, [], ◌∷◌, Option, None, Some, codes, pos, true, option_map, unwrap_or, IfSome}
use Rattle.std.specs.Str.Parse.{IsNumeral, digits_value, without_leading_plus}
use Rattle.clap.specs.Kinds.{Kinds}
use Rattle.clap.specs.Simple.{on_top}
use Rattle.clap.specs.Words.{App, Row, Rule, Text, fault_of, matches_of, new_app, new_rule, one_of, with_rule}
use Rattle.clap.specs.declared.builder.value_parser.ValueParser.TheVariants as parser
use Rattle.wm_options.specs.declared.words.Options.{Options}

-- `--hold`, with a number from 1 to 10,000
abbrev pub hold : Rule
hold = record (new_rule (codes "hold")) { long = Some (codes "hold"); parser = Some (parser.Unsigned 1 10000) }

-- `--rehearse`, with a number from 1 to 8
abbrev pub rehearse : Rule
rehearse = record (new_rule (codes "rehearse")) { long = Some (codes "rehearse"); parser = Some (parser.Signed (pos 1) (pos 8)) }

-- the command of the two options: no word names the program, and there is no help flag
abbrev pub command : App
command = with_rule (with_rule (on_top (λ s. record s { no_binary_name = true; disable_help_flag = true }) (new_app (codes "i3desk"))) hold) rehearse

-- the number that the digits of a text write
abbrev pub spelled : Text → ℕ
spelled text = digits_value 10 (without_leading_plus text)

-- the number that the argument of this name is given
abbrev pub number_of : Text → List Row → Option ℕ
number_of name rows = option_map spelled (one_of name rows)

-- what the matches give, where 200 milliseconds stand for a hold that is not given
abbrev pub options_in : List Row → Options
options_in rows = record { hold_ms = unwrap_or (number_of (codes "hold") rows) 200; rehearse = number_of (codes "rehearse") rows }

-- what the matches give, where clap has no fault to find
abbrev pub unless : Kinds → Options → Option Options
unless [] options = Some options
unless (fault ∷ faults) options = None

-- what the words ask for
abbrev pub options_of : List Text → Option Options
options_of words = unless (fault_of command words) (options_in (matches_of command words))

-- a hold of 1 to 10,000 milliseconds, and 1 to 8 callers
abbrev pub IsInRange : Options → Type 0
IsInRange options = (1 ≤ options.hold_ms) × (options.hold_ms ≤ 10000) × IfSome options.rehearse (λ n. (1 ≤ n) × (n ≤ 8))

-- the text is digits that write a number from low to high
abbrev pub Spells : ℕ → ℕ → Text → Type 0
Spells low high text = IsNumeral 10 (without_leading_plus text) × (low ≤ spelled text) × (spelled text ≤ high)

-- what the argument of this name is given spells a number from low to high
abbrev pub IsSpelled : ℕ → ℕ → Text → List Row → Type 0
IsSpelled low high name rows = (text : Text) → one_of name rows ≡ Some text → Spells low high text

-- what the two options are given are numbers in their ranges
abbrev pub AreSpelled : List Row → Type 0
AreSpelled rows = IsSpelled 1 10000 (codes "hold") rows × IsSpelled 1 8 (codes "rehearse") rows
