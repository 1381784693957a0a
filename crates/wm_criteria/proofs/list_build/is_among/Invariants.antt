use Rattle.std.proofs.Common.{◌≡◌, length}
use Rattle.std.specs.Prelude.{map, string_bytes}
use Rattle.wm_criteria.specs.Building.{is_listed}
use Rattle.wm_criteria.proofs.list_build.is_among.Given as goal

-- the text is among all where it is among those that are left
abbrev pub invariant-loop-rest : goal.invariant-loop-rest
invariant-loop-rest l = is_listed (map string_bytes l.rest) l.text ≡ is_listed (map string_bytes l.texts) l.text

abbrev pub decreases-loop-rest : goal.decreases-loop-rest
decreases-loop-rest l = length l.rest
