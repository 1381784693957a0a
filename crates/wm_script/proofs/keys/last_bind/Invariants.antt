use Rattle.std.proofs.Common.{◌≡◌, length}
use Rattle.std.specs.Prelude.{MatchOption}
use Rattle.std.specs.List.{AllByRecursion}
use Rattle.std.specs.Option.{option_copied}
use Rattle.wm_script.specs.Lines.{or}
use Rattle.wm_script.specs.Out.{last_bind}
use Rattle.wm_script.specs.Playing.{IsShort}
use Rattle.wm_script.proofs.keys.last_bind.Given as goal

-- what was found so far counts where none is behind it
abbrev pub invariant-loop-rest : goal.invariant-loop-rest
invariant-loop-rest l = record {
  found : or (last_bind l.mode l.chord l.rest) (option_copied l.found) ≡ last_bind l.mode l.chord l.binds;
  short : MatchOption l.found (Unit {0}) (λ b. IsShort b.now);
  left : AllByRecursion IsShort l.rest;
}

abbrev pub decreases-loop-rest : goal.decreases-loop-rest
decreases-loop-rest l = length l.rest
