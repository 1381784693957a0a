-- What maps keep of the parts of a node.
use Rattle.std.proofs.Common.{◌≡◌, ℕ, Bool, true, false, cond, List, Option, Some, None, refl, ap, ◌∙◌}
use Rattle.std.proofs.lemmas.Bool.{eqb-true}
use Rattle.std.specs.BTreeMap.{is_at}
use Rattle.std.specs.Map.{lookup}
use Rattle.std.specs.Option.{option_or}
use Rattle.std.specs.Ordering.{nat_cmp}
use Rattle.wm_arrange.specs.declared.parts.Placed.{Placed}
pub use Rattle.wm_arrange.proofs.MapLemmas.{any_assoc, find_insert, holds_insert}
use Rattle.wm_base.specs.declared.ids.ConId.{ConId}
use Rattle.wm_forest.specs.Look.{same}
use Rattle.wm_views.specs.declared.maps.NodeRects.{NodeRects}
use Rattle.wm_views.specs.declared.maps.Wanted.{Wanted}
use Rattle.wm_views.specs.declared.maps.Wanted.TheVariants.{Areas, Contents, Titles}
use Rattle.wm_views.specs.Maps.{of_node, or_unplaced, rect_in, rect_kept, rect_of, value_at}

-- the first of three is the first of the first two, or else the third
pub or_assoc : {X : Type 0} (a b c : Option X) → option_or (option_or a b) c ≡ option_or a (option_or b c)
or_assoc None b c = refl
or_assoc (Some x) b c = refl

-- ---- what a map keeps where a node is given a rectangle

pub or_none : {X : Type 0} (a : Option X) → a ≡ option_or a None
or_none None = refl
or_none (Some x) = refl

-- ---- what a map keeps of the parts of a node

node_own : {A : Type 0} (c id : ConId) (o : Option A) → same id c ≡ true → o ≡ of_node c id o
node_own c id None one = refl
node_own c id (Some x) one = rw (one) refl

node_other : {A : Type 0} (c id : ConId) (o : Option A) → same id c ≡ false → None ≡ of_node c id o
node_other c id None other = refl
node_other c id (Some x) other = rw (other) refl

kept_in : (w : Wanted) (o : Option NodeRects) → rect_in w (or_unplaced o) ≡ rect_kept w o
kept_in Areas None = refl
kept_in Titles None = refl
kept_in Contents None = refl
kept_in w (Some r) = refl

with_rect : (w : Wanted) (r held : NodeRects) (p : Placed) → r.area ≡ option_or held.area (rect_of Areas p) → r.title ≡ option_or held.title (rect_of Titles p) → r.content ≡ option_or held.content (rect_of Contents p)
    → rect_in w r ≡ option_or (rect_in w held) (rect_of w p)
with_rect Areas r held p area title content = area
with_rect Titles r held p area title content = title
with_rect Contents r held p area title content = content

-- where what was kept of a part's node is kept with that part, the map has what it had, or else the part's rectangle
pub kept_more : (w : Wanted) (p : Placed) (c : ConId) (r : NodeRects) (map : List (ℕ × NodeRects))
    → r.area ≡ option_or (or_unplaced (value_at map p.con)).area (rect_of Areas p) → r.title ≡ option_or (or_unplaced (value_at map p.con)).title (rect_of Titles p) → r.content ≡ option_or (or_unplaced (value_at map p.con)).content (rect_of Contents p)
    → rect_kept w (cond (same p.con c) (Some r) (value_at map c)) ≡ option_or (rect_kept w (value_at map c)) (of_node c p.con (rect_of w p))
kept_more w p c r map area title content = by_same (same p.con c) refl
  where
    by_same : (b : Bool) → same p.con c ≡ b → rect_kept w (cond b (Some r) (value_at map c)) ≡ option_or (rect_kept w (value_at map c)) (of_node c p.con (rect_of w p))
    by_same true one =
        let alike : p.con.0 ≡ c.0 = eqb-true p.con.0 c.0 one in
        let there : rect_in w (or_unplaced (value_at map p.con)) ≡ rect_kept w (value_at map c) = kept_in w (value_at map p.con) ∙ ap (λ n. rect_kept w (lookup (is_at (nat_cmp n)) map)) alike in
        with_rect w r (or_unplaced (value_at map p.con)) p area title content ∙ ap (λ o. option_or o (rect_of w p)) there ∙ ap (option_or (rect_kept w (value_at map c))) (node_own c p.con (rect_of w p) one)
    by_same false other = or_none (rect_kept w (value_at map c)) ∙ ap (option_or (rect_kept w (value_at map c))) (node_other c p.con (rect_of w p) other)
