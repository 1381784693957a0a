-- What a node of letters is seen as.
use Rattle.wm_binds.specs.Letters.{Letters, end, letter}
use Rattle.wm_binds.specs.declared.names.Node.{Node}
use Rattle.wm_binds.specs.declared.names.Node.TheVariants as node

abbrev pub letters_of : Node → Letters
letters_of node.End = end
letters_of (node.Letter byte value below others) = letter byte value below.value others.value
