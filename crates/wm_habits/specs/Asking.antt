-- What a line from the server asks of a window.
use Rattle.std.specs.Prelude.{ℕ, List, Option, None, codes}
use Rattle.wm_habits.specs.declared.asking.Asked.{Asked}
use Rattle.wm_habits.specs.declared.asking.Asked.TheVariants as asked
use Rattle.wm_fields.specs.Fields.{behind, if_end, number_at, or_else, or_none, serial_at, size_at}
use Rattle.wm_lines.specs.Lines.{con_of}

-- `ID SERIAL SIZE`, to the end of the line
abbrev pub configure_at : List ℕ → Option Asked
configure_at text =
    or_none (number_at 4294967295 text) (λ id. or_none (behind (codes " ") id.1) (λ rest.
    or_none (serial_at rest) (λ serial. or_none (behind (codes " ") serial.1) (λ rest.
    or_none (size_at rest) (λ size. if_end (asked.Configure (con_of id.0) serial.0 size.0) size.1)))))

-- `ID NUMBER`, to the end of the line
abbrev pub kill_at : List ℕ → Option Asked
kill_at text =
    or_none (number_at 4294967295 text) (λ id. or_none (behind (codes " ") id.1) (λ rest.
    or_none (serial_at rest) (λ number. if_end (asked.Kill (con_of id.0)) number.1)))

-- what a line asks; None where it is any other line
abbrev pub asked_of : List ℕ → Option Asked
asked_of line = or_else (behind (codes "configure ") line) configure_at (or_else (behind (codes "kill ") line) kill_at None)
