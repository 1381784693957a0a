-- The output that a command names is one of them.
use Rattle.std.proofs.Common.{◌≡◌, Bool, true, false, cond, ◌||◌, Option, None, Some, refl, sym}
use Rattle.std.specs.Prelude.{IfSome, option_and_then}
use Rattle.std.specs.Option.{option_map, option_or}
use Rattle.wm_base.specs.declared.geometry.Dir.{Dir}
use Rattle.wm_base.specs.declared.ids.ConId.{ConId}
use Rattle.wm_language.specs.declared.arguments.OutArg.{OutArg}
use Rattle.wm_language.specs.declared.arguments.OutArg.TheVariants as outs
use Rattle.wm_shared.proofs.KeyLemmas.{listed_by}
use Rattle.wm_shared.proofs.SpaceLemmas.{placed, space_of_node}
use Rattle.wm_shared.specs.declared.keys.Key.{Key}
use Rattle.wm_shared.specs.Keys.{least}
use Rattle.wm_shared.specs.Outputs.{keys_beyond, nearest_to, output_from, output_in, output_of}
use Rattle.wm_spaces.proofs.ComingLemmas.{named_output}
use Rattle.wm_spaces.specs.Outs.{next_in, output_at}
use Rattle.wm_tree.proofs.OutputRows.{first_there}
use Rattle.wm_forest.specs.declared.part.OutputPart.{OutputPart}
use Rattle.wm_forest.specs.Forest.{Forest, end, con}
use Rattle.wm_forest.specs.Look.{first_kids, in_row, kind_of, node_in, nth_id, output_kind, rest_of, same}
use Rattle.wm_tree.specs.Outputs.{IsOutput}
use Rattle.wm_tree.specs.Sound.{IsSound}
use Rattle.wm_tree.specs.TreeValue.{TreeValue, parent, workspace_of}

-- where there is one, it is in the row
abbrev Listed : Option ConId → Forest → Type 0
Listed None row = Unit {0}
Listed (Some o) row = in_row o row ≡ true

first_listed : (row : Forest) → Listed (nth_id 0 row) row
first_listed end = tt
first_listed (con part kids floats rest) = first_there part.id (con part kids floats rest) refl

behind_listed : (c : ConId) (row : Forest) → Listed (nth_id 0 (rest_of (node_in c row))) row
behind_listed c end = tt
behind_listed c (con part kids floats rest) = step (same part.id c) (widen (nth_id 0 rest) (first_listed rest)) (widen (nth_id 0 (rest_of (node_in c rest))) (behind_listed c rest))
  where
    last : (a b : Bool) → b ≡ true → (a || b) ≡ true
    last true b h = refl
    last false b h = h

    widen : (o : Option ConId) → Listed o rest → Listed o (con part kids floats rest)
    widen None h = tt
    widen (Some o) h = last (same part.id o) (in_row o rest) h

    step : (b : Bool) → Listed (nth_id 0 rest) (con part kids floats rest) → Listed (nth_id 0 (rest_of (node_in c rest))) (con part kids floats rest)
        → Listed (nth_id 0 (rest_of (cond b (con part kids floats rest) (node_in c rest)))) (con part kids floats rest)
    step true h k = h
    step false h k = k

or_listed : (a b : Option ConId) (row : Forest) → Listed a row → Listed b row → Listed (option_or a b) row
or_listed None b row h k = k
or_listed (Some a) b row h k = h

own_listed : (c : ConId) (t : TreeValue) → IsSound t → Listed (output_of c t) (first_kids t.nodes)
own_listed c t s = by_space (workspace_of t c) refl
  where
    by_space : (w : Option ConId) → workspace_of t c ≡ w → Listed (option_and_then (parent t) w) (first_kids t.nodes)
    by_space None e = tt
    by_space (Some w) e = let p = placed w t s (space_of_node c w t s e) in rw p.held_by p.listed

in_listed : (d : Dir) (o : ConId) (t : TreeValue) → Listed (output_in d o t) (first_kids t.nodes)
in_listed d o t = by_part (kind_of output_kind o t.nodes)
  where
    by_key : (a : OutputPart) (k : Option Key) → least (keys_beyond d a.rect (first_kids t.nodes)) ≡ k → Listed (option_map (λ (k : Key). k.id) k) (first_kids t.nodes)
    by_key a None e = tt
    by_key a (Some k) e = listed_by d a.rect (first_kids t.nodes) k (sym e)

    by_part : (a : Option OutputPart) → Listed (option_and_then (nearest_to d (first_kids t.nodes)) a) (first_kids t.nodes)
    by_part None = tt
    by_part (Some a) = by_key a (least (keys_beyond d a.rect (first_kids t.nodes))) refl

from_listed : (d : Dir) (c : ConId) (t : TreeValue) → Listed (output_from d c t) (first_kids t.nodes)
from_listed d c t = by_own (output_of c t)
  where
    by_own : (o : Option ConId) → Listed (option_and_then (λ (o : ConId). output_in d o t) o) (first_kids t.nodes)
    by_own None = tt
    by_own (Some o) = in_listed d o t

next_listed : (c : ConId) (t : TreeValue) → Listed (option_and_then (next_in (first_kids t.nodes)) (output_of c t)) (first_kids t.nodes)
next_listed c t = by_own (output_of c t)
  where
    by_own : (o : Option ConId) → Listed (option_and_then (next_in (first_kids t.nodes)) o) (first_kids t.nodes)
    by_own None = tt
    by_own (Some o) = or_listed (nth_id 0 (rest_of (node_in o (first_kids t.nodes)))) (nth_id 0 (first_kids t.nodes)) (first_kids t.nodes) (behind_listed o (first_kids t.nodes)) (first_listed (first_kids t.nodes))

at_listed : (c : ConId) (arg : OutArg) (t : TreeValue) → IsSound t → Listed (output_at c arg t) (first_kids t.nodes)
at_listed c (outs.At d) t s = from_listed d c t
at_listed c outs.Current t s = own_listed c t s
at_listed c outs.Primary t s = first_listed (first_kids t.nodes)
at_listed c outs.Next t s = next_listed c t
at_listed c (outs.Named n) t s = by_name (output_at c (outs.Named n) t) refl
  where
    by_name : (o : Option ConId) → output_at c (outs.Named n) t ≡ o → Listed o (first_kids t.nodes)
    by_name None e = tt
    by_name (Some o) e = named_output n o t e

-- an answer that is that output
pub at_by : (c : ConId) (arg : OutArg) (t : TreeValue) (r : Option ConId) → r ≡ output_at c arg t → IsSound t → IfSome r (λ o. IsOutput o t.nodes)
at_by c arg t r e s = by_answer r (rw e (at_listed c arg t s))
  where
    by_answer : (r : Option ConId) → Listed r (first_kids t.nodes) → IfSome r (λ o. IsOutput o t.nodes)
    by_answer None h = tt
    by_answer (Some o) h = h
