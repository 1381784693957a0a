-- The output in a direction: the nearest of those that lie wholly beyond that edge and beside it, then the one of
-- least id.
use Rattle.std.specs.Prelude.{ℕ, ℤ, pos, ◌+ℤ◌, ◌-ℤ◌, nat_abs, Bool, ◌&&◌, int_le, int_lt, if◌then◌else◌, List, [], Option, None, Some, option_and_then}
use Rattle.std.specs.Option.{option_map}
use Rattle.wm_base.specs.declared.geometry.Dir.{Dir}
use Rattle.wm_base.specs.declared.geometry.Dir.TheVariants.{Left, Right, Up, Down}
use Rattle.wm_base.specs.declared.geometry.Rect.{Rect}
use Rattle.wm_base.specs.declared.ids.ConId.{ConId}
use Rattle.wm_shared.specs.declared.keys.Key.{Key}
use Rattle.wm_shared.specs.Keys.{least, with_key}
use Rattle.wm_forest.specs.declared.part.OutputPart.{OutputPart}
use Rattle.wm_forest.specs.Forest.{Forest, end, con}
use Rattle.wm_forest.specs.Look.{first_kids, kind_of, output_kind}
use Rattle.wm_tree.specs.TreeValue.{TreeValue, parent, workspace_of}

-- the place behind the last of a span
abbrev pub end_of : ℤ → ℕ → ℤ
end_of start length = start +ℤ pos length

-- two spans have a place in common
abbrev pub spans_meet : ℤ → ℕ → ℤ → ℕ → Bool
spans_meet a n b m = int_lt a (end_of b m) && int_lt b (end_of a n)

-- how far it is from the edge of a in that direction to the side of b that is towards it
abbrev pub gap : Dir → Rect → Rect → ℤ
gap Left a b = a.x -ℤ end_of b.x b.w
gap Right a b = b.x -ℤ end_of a.x a.w
gap Up a b = a.y -ℤ end_of b.y b.h
gap Down a b = b.y -ℤ end_of a.y a.h

-- a and b overlap on the other axis
abbrev pub stands_beside : Dir → Rect → Rect → Bool
stands_beside Left a b = spans_meet a.y a.h b.y b.h
stands_beside Right a b = spans_meet a.y a.h b.y b.h
stands_beside Up a b = spans_meet a.x a.w b.x b.w
stands_beside Down a b = spans_meet a.x a.w b.x b.w

-- b lies wholly beyond the edge of a in that direction, and beside it
abbrev pub is_beyond : Dir → Rect → Rect → Bool
is_beyond d a b = int_le (pos 0) (gap d a b) && stands_beside d a b

abbrev pub key_beyond : Dir → Rect → ConId → Option OutputPart → Option Key
key_beyond d a c None = None
key_beyond d a c (Some o) = if is_beyond d a o.rect then Some (record { first = nat_abs (gap d a o.rect); id = c }) else None

-- how far off the outputs of a row are that lie beyond the edge of a in that direction
abbrev pub keys_beyond : Dir → Rect → Forest → List Key
keys_beyond d a end = []
keys_beyond d a (con part kids floats rest) = with_key (key_beyond d a part.id (output_kind part.kind)) (keys_beyond d a rest)

abbrev pub nearest_to : Dir → Forest → OutputPart → Option ConId
nearest_to d outputs o = option_map (λ (k : Key). k.id) (least (keys_beyond d o.rect outputs))

-- the output of a container's or workspace's workspace
abbrev pub output_of : ConId → TreeValue → Option ConId
output_of c t = option_and_then (parent t) (workspace_of t c)

-- the output in a direction of the output o
abbrev pub output_in : Dir → ConId → TreeValue → Option ConId
output_in d o t = option_and_then (nearest_to d (first_kids t.nodes)) (kind_of output_kind o t.nodes)

-- the output in a direction of the one on which c stands
abbrev pub output_from : Dir → ConId → TreeValue → Option ConId
output_from d c t = option_and_then (λ (o : ConId). output_in d o t) (output_of c t)
