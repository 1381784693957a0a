-- An output that takes the focus is the current one, and nothing else changes.
use Rattle.std.proofs.Common.{◌≡◌, Bool, true, false, cond, ◌||◌, Option, None, Some, refl, ap, sym, ◌∙◌}
use Rattle.std.specs.Option.{option_map}
use Rattle.std.specs.Prelude.{option_and_then}
use Rattle.law_sizes.specs.Edges.{FocusEnters, IsEntered}
use Rattle.wm_base.specs.declared.geometry.Dir.{Dir}
use Rattle.wm_base.specs.declared.ids.ConId.{ConId}
use Rattle.wm_shared.proofs.DownLemmas.{Once, in_rest, once_kids, once_rest}
use Rattle.wm_shared.proofs.KeyLemmas.{listed_by}
use Rattle.wm_shared.specs.declared.keys.Key.{Key}
use Rattle.wm_shared.specs.Keys.{least}
use Rattle.wm_shared.specs.Outputs.{keys_beyond, nearest_to, output_from, output_in, output_of}
use Rattle.wm_shared.specs.Showing.{output_focused, shown_on, space_name, with_current}
use Rattle.wm_tree.proofs.AttachLemmas.{has_row}
use Rattle.wm_tree.proofs.FocusLemmas.{outputs_of}
use Rattle.wm_forest.proofs.OnceLemmas.{only_kids}
use Rattle.wm_forest.proofs.RecencyLemmas.{same_self}
use Rattle.wm_forest.specs.Change.{at, shown_of}
use Rattle.wm_forest.specs.declared.kind.KindEdit.TheVariants as edits
use Rattle.wm_forest.specs.declared.part.NodeKind.{NodeKind}
use Rattle.wm_forest.specs.declared.part.NodeKind.TheVariants.{Root, Output, Space, Con}
use Rattle.wm_forest.specs.declared.part.OutputPart.{OutputPart}
use Rattle.wm_forest.specs.Forest.{Forest, end, con}
use Rattle.wm_forest.specs.Kinds.{kind_changed}
use Rattle.wm_forest.specs.Look.{first_floats, first_kids, first_part, in_row, kind_by, kind_of, node_in, only, output_kind, same}
use Rattle.wm_forest.specs.RootId.{root}
use Rattle.wm_forest.specs.SoundRow.{IsNode, IsSoundRow, outputs, roots}
use Rattle.wm_tree.specs.Sound.{IsSound}
use Rattle.wm_tree.specs.TreeValue.{TreeValue, current, current_in, or_id, shown}

-- ---- the output is one of the root's

output_listed : (d : Dir) (o : ConId) (t : TreeValue) (a : Option OutputPart) → option_and_then (nearest_to d (first_kids t.nodes)) a ≡ Some o → in_row o (first_kids t.nodes) ≡ true
output_listed d o t None h = cc
output_listed d o t (Some a) h = by (least (keys_beyond d a.rect (first_kids t.nodes))) refl h where
  by : (k : Option Key) → least (keys_beyond d a.rect (first_kids t.nodes)) ≡ k → option_map (λ (x : Key). x.id) k ≡ Some o → in_row o (first_kids t.nodes) ≡ true
  by None e h = cc
  by (Some k) e h = let one : k.id ≡ o = cc in ap (λ z. in_row z (first_kids t.nodes)) (sym one) ∙ listed_by d a.rect (first_kids t.nodes) k (sym e)

from_listed : (d : Dir) (c o : ConId) (t : TreeValue) → output_from d c t ≡ Some o → in_row o (first_kids t.nodes) ≡ true
from_listed d c o t h = by (output_of c t) h where
  by : (p : Option ConId) → option_and_then (λ (x : ConId). output_in d x t) p ≡ Some o → in_row o (first_kids t.nodes) ≡ true
  by None h = cc
  by (Some p) h = output_listed d o t (kind_of output_kind p t.nodes) h

-- ---- what it shows

-- an output of a row shows a workspace
shows : (o : ConId) (row : Forest) → IsSoundRow outputs true 32 row → in_row o row ≡ true → Some (or_id (kind_by shown_of (first_part (node_in o row))) o) ≡ kind_by shown_of (first_part (node_in o row))
shows o end s h = cc
shows o (con part kids floats rest) s h = by (same part.id o) h (shows o rest s.4) where
  own : (kind : NodeKind) → IsNode outputs true 32 part.id kind part.marks kids → Some (or_id (shown_of kind) o) ≡ shown_of kind
  own (Root c) n = absurd n
  own (Output x) n = refl
  own (Space x) n = absurd n
  own (Con x) n = absurd n

  by : (b : Bool) → (b || in_row o rest) ≡ true → (in_row o rest ≡ true → Some (or_id (kind_by shown_of (first_part (node_in o rest))) o) ≡ kind_by shown_of (first_part (node_in o rest)))
      → Some (or_id (kind_by shown_of (first_part (cond b (con part kids floats rest) (node_in o rest)))) o) ≡ kind_by shown_of (first_part (cond b (con part kids floats rest) (node_in o rest)))
  by true h u = own part.kind s.0
  by false h u = u h

-- a node of a row is found in it
pub found_in : (o : ConId) (row : Forest) → Once row → in_row o row ≡ true → first_part (only o row) ≡ first_part (node_in o row)
found_in o end once h = cc
found_in o (con part kids floats rest) once h = by (same part.id o) refl h (found_in o rest (once_rest part kids floats rest once)) where
  by : (b : Bool) → same part.id o ≡ b → (b || in_row o rest) ≡ true → (in_row o rest ≡ true → first_part (only o rest) ≡ first_part (node_in o rest))
      → first_part (only o (con part kids floats rest)) ≡ first_part (cond b (con part kids floats rest) (node_in o rest))
  by true e h u = rw e refl
  by false e h u = let n = in_rest part kids floats rest once o (has_row o rest h) in rw (n.0, n.1, n.2) (u h)

found_below : (o : ConId) (f : Forest) → Once f → in_row o (first_kids f) ≡ true → first_part (only o f) ≡ first_part (node_in o (first_kids f))
found_below o end once h = cc
found_below o (con part kids floats rest) once h =
    ap first_part (only_kids o part kids floats rest (once o) (has_row o kids h)) ∙ found_in o kids (once_kids part kids floats rest once) h

-- ---- the current output

record IsNow (o : ConId) (old new : Forest) : Type 0 where
  now : current_in (first_part new) ≡ o
  kids : first_kids new ≡ first_kids old
  floats : first_floats new ≡ first_floats old

is_now : (o : ConId) (f : Forest) → IsSoundRow roots false 0 f → in_row root f ≡ true → IsNow o f (at root kind_changed (edits.Current o) f)
is_now o end s h = cc
is_now o (con part kids floats rest) s h = own part.kind refl s.0 where
  own : (kind : NodeKind) → part.kind ≡ kind → IsNode roots false 0 part.id kind part.marks kids → IsNow o (con part kids floats rest) (at root kind_changed (edits.Current o) (con part kids floats rest))
  own (Root c) e n = rw (same_self part.id root n.0, e) (record { now = refl; kids = refl; floats = refl })
  own (Output x) e n = absurd n
  own (Space x) e n = absurd n
  own (Con x) e n = absurd n

entered : (o : ConId) (t : TreeValue) → IsSound t → in_row o (first_kids t.nodes) ≡ true → IsEntered o t (output_focused o t)
entered o t s h = by (same (shown t) (shown new)) where
  new : TreeValue
  new = with_current o t

  k : IsNow o t.nodes new.nodes
  k = is_now o t.nodes s.shaped s.rooted

  shown_new : Some (shown new) ≡ shown_on o t
  shown_new =
      let row : Forest = first_kids t.nodes in
      let found : shown_on o t ≡ kind_by shown_of (first_part (node_in o row)) = ap (kind_by shown_of) (found_below o t.nodes s.once h) in
      let is : Some (shown new) ≡ Some (or_id (kind_by shown_of (first_part (node_in o row))) o) =
      ap (λ z. Some (or_id (kind_by shown_of (first_part (node_in z (first_kids new.nodes)))) z)) k.now ∙ ap (λ z. Some (or_id (kind_by shown_of (first_part (node_in o z))) o)) k.kids in
      is ∙ (shows o row (outputs_of t.nodes s.shaped) h ∙ sym found)

  by : (b : Bool) → IsEntered o t (cond b new (record new { previous = space_name (shown t) t }))
  by true = record { current = k.now; shown = shown_new; outputs = k.kids; scratchpad = k.floats; recency = refl; urgent = refl }
  by false = record { current = k.now; shown = shown_new; outputs = k.kids; scratchpad = k.floats; recency = refl; urgent = refl }

pub focus_enters : FocusEnters
focus_enters c o d t s tiled none out = rw (tiled, none, out) (entered o t s (from_listed d c o t out))
