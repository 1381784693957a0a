-- Ways to read the keywords of a command, as the texts behind them are.
use Rattle.std.specs.Prelude.{ℕ, List, map}
use denote.Bor.{Bor}
use Rattle.wm_grammar.specs.declared.opening.Opening.{Opening}
use Rattle.wm_grammar.specs.Openings.{Opened}

abbrev pub seen : List (Opening × Bor (List ℕ)) → Opened
seen ways = map (λ w. (w.0, w.1.now)) ways
