use Rattle.std.proofs.Common.{◌≡◌, ◌≤◌, ◌++◌, length}
use Rattle.wm_binds.specs.Letters.{found}
use Rattle.wm_binds.specs.Naming.{replaced, replaced_behind}
use Rattle.wm_binds.proofs.naming.replaced.Given as goal

-- what was put so far is not too long, and makes the whole with what is left, its names replaced
abbrev pub invariant-loop-rest : goal.invariant-loop-rest
invariant-loop-rest l = record {
  short : length l.bytes.items ≤ l.room;
  said : l.bytes.items ++ replaced_behind (found l.names) l.skipped l.rest ≡ replaced (found l.names) l.text;
}

abbrev pub decreases-loop-rest : goal.decreases-loop-rest
decreases-loop-rest l = length l.rest
