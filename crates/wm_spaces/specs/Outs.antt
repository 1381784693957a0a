-- The output that a command names.
use Rattle.std.specs.Prelude.{Option, option_and_then}
use Rattle.std.specs.Option.{option_or}
use Rattle.wm_base.specs.declared.ids.ConId.{ConId}
use Rattle.wm_language.specs.declared.arguments.OutArg.{OutArg}
use Rattle.wm_language.specs.declared.arguments.OutArg.TheVariants as outs
use Rattle.wm_shared.specs.Outputs.{output_from, output_of}
use Rattle.wm_spaces.specs.Names.{output_named}
use Rattle.wm_forest.specs.Forest.{Forest}
use Rattle.wm_forest.specs.Look.{first_kids, node_in, nth_id, rest_of}
use Rattle.wm_tree.specs.TreeValue.{TreeValue}

-- the node of a row after c, the first after the last
abbrev pub next_in : Forest → ConId → Option ConId
next_in row c = option_or (nth_id 0 (rest_of (node_in c row))) (nth_id 0 row)

-- the output in a direction of the subject's, the subject's, the first one, the one after the subject's, or that of a
-- name
abbrev pub output_at : ConId → OutArg → TreeValue → Option ConId
output_at c (outs.At d) t = output_from d c t
output_at c outs.Current t = output_of c t
output_at c outs.Primary t = nth_id 0 (first_kids t.nodes)
output_at c outs.Next t = option_and_then (next_in (first_kids t.nodes)) (output_of c t)
output_at c (outs.Named n) t = output_named n t
