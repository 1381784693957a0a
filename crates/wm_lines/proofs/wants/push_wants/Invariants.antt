use Rattle.std.proofs.Common.{◌≡◌, ◌++◌, length}
use Rattle.std.specs.List.{flat_map}
use Rattle.wm_lines.specs.Told.{want_text}
use Rattle.wm_lines.proofs.wants.push_wants.Given as goal

-- the lines so far and those of the rest are those of all
abbrev pub invariant-loop-rest : goal.invariant-loop-rest
invariant-loop-rest l = record {
  told : l.piece.items ++ flat_map want_text l.rest ≡ l.initial.piece.items ++ flat_map want_text l.wants;
}

abbrev pub decreases-loop-rest : goal.decreases-loop-rest
decreases-loop-rest l = length l.rest
