-- Below each letter there are fewer letters.
use Rattle.std.specs.Prelude.{◌≤◌, max}
use Rattle.std.proofs.Common.{arith}
use Rattle.wm_binds.specs.Letters.{count}
use Rattle.wm_binds.specs.LettersOf.{letters_of}
use Rattle.wm_binds.specs.declared.names.Node.{Node}
use Rattle.wm_binds.specs.declared.names.Node.TheVariants.{End, Letter}
use Rattle.wm_binds.specs.declared.names.Names.TheDeep.{deep-Node}

pub depth_le-count : (n : Node) → max (deep-Node n) 0 ≤ count (letters_of n)
depth_le-count End = omega arith
depth_le-count (Letter byte value below others) = omega arith
