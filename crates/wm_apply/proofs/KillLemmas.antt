-- The row from a node on begins with that node.
use Rattle.std.proofs.Common.{◌≡◌, Bool, true, false, cond, ◌||◌, List, [], Option, None, Some, refl}
use Rattle.std.specs.Option.{option_or}
use Rattle.std.specs.Prelude.{is_some}
use Rattle.wm_base.specs.declared.ids.ConId.{ConId}
use Rattle.wm_apply.specs.Kills.{asked_from, asked_of, begins_space, row_at, windows_from}
use Rattle.wm_forest.specs.declared.part.NodeKind.{NodeKind}
use Rattle.wm_forest.specs.declared.part.NodeKind.TheVariants.{Root, Output, Space, Con}
use Rattle.wm_forest.specs.Forest.{Forest, end, con}
use Rattle.wm_forest.specs.Kinds.{is_con_kind}
use Rattle.wm_forest.specs.Look.{con_kind, first_part, has, kind_by, only, same, space_kind}
use Rattle.wm_forest.proofs.ForestLemmas.{only_absent}
use Rattle.wm_shared.specs.Subject.{is_space}
use Rattle.wm_tree.specs.TreeValue.{TreeValue}

-- the row is there where the node is, and begins with what was found
abbrev pub IsFrom : Option Forest → Bool → Forest → Type 0
IsFrom None here found = here ≡ false
IsFrom (Some row) here found = (here ≡ true) × (first_part found ≡ first_part row)

pub from : (c : ConId) (f : Forest) → IsFrom (row_at c f) (has c f) (only c f)
from c end = refl
from c (con part kids floats rest) = step (same part.id c) (row_at c kids) (row_at c floats) (row_at c rest) (has c kids) (has c floats) (has c rest) (only c kids) (only c floats) (only c rest) (from c kids) (from c floats) (from c rest)
  where
    step : (s : Bool) (a b c : Option Forest) (k l r : Bool) (f g h : Forest) → IsFrom a k f → IsFrom b l g → IsFrom c r h
        → IsFrom (cond s (Some (con part kids floats rest)) (option_or a (option_or b c))) (s || k || l || r) (cond s (con part kids floats end) (cond k f (cond l g h)))
    step true a b c k l r f g h x y z = (refl, refl)
    step false (Some row) b c k l r f g h x y z = rw x.0 (refl, x.1)
    step false None (Some row) c k l r f g h x y z = rw (x, y.0) (refl, y.1)
    step false None None (Some row) k l r f g h x y z = rw (x, y, z.0) (refl, z.1)
    step false None None None k l r f g h x y z = rw (x, y, z) refl

pub con_is : (kind : NodeKind) → is_con_kind kind ≡ is_some (con_kind kind)
con_is (Root c) = refl
con_is (Output o) = refl
con_is (Space s) = refl
con_is (Con c) = refl

-- a container's windows are those of the first node of the row from it on, if that is a container
pub asked_at : (c : ConId) (t : TreeValue) → asked_of c t ≡ asked_from (row_at c t.nodes)
asked_at c t = by (row_at c t.nodes) (has c t.nodes) (only c t.nodes) (from c t.nodes)
  where
    none : (b : Bool) → ◌≡◌ {A = List ConId} (cond b [] []) []
    none true = refl
    none false = refl

    by : (row : Option Forest) (here : Bool) (found : Forest) → IsFrom row here found → cond (is_some (kind_by con_kind (first_part found))) (windows_from row) [] ≡ asked_from row
    by None here found h = none (is_some (kind_by con_kind (first_part found)))
    by (Some row) here found h = rw h.1 refl

-- a workspace is what the row from it on begins with
pub space_at : (c : ConId) (t : TreeValue) → is_space t c ≡ begins_space (row_at c t.nodes)
space_at c t = by (row_at c t.nodes) (only c t.nodes) (from c t.nodes) (only_absent c t.nodes)
  where
    by : (row : Option Forest) (found : Forest) → IsFrom row (has c t.nodes) found → (has c t.nodes ≡ false → found ≡ end) → is_some (kind_by space_kind (first_part found)) ≡ begins_space row
    by None found h e = rw (e h) refl
    by (Some row) found h e = rw h.1 refl
