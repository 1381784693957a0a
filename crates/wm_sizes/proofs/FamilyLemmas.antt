-- The node that climbing finds is there, and its children are tiled.
use Rattle.std.proofs.Common.{◌≡◌, ℕ, Bool, true, false, cond, ◌&&◌, ◌||◌, Option, None, Some, refl, subst}
use Rattle.std.specs.Option.{option_or}
use Rattle.std.specs.Prelude.{option_and_then}
use Rattle.wm_base.specs.declared.geometry.Axis.{Axis}
use Rattle.wm_base.specs.declared.ids.ConId.{ConId}
use Rattle.wm_shared.proofs.DownLemmas.{Once, down_floats, down_kids, down_rest, once_floats, once_kids, once_rest}
use Rattle.wm_sizes.specs.Climbing.{climb, has_two, rung_at, rung_of, runs, up_floats, up_kids}
use Rattle.wm_sizes.specs.declared.climbing.Climbed.{Climbed}
use Rattle.wm_sizes.specs.declared.climbing.Rung.{Rung}
use Rattle.wm_sizes.specs.Tiled.{HasFamily}
use Rattle.wm_forest.proofs.RecencyLemmas.{same_self}
use Rattle.wm_forest.specs.declared.part.NodeKind.{NodeKind}
use Rattle.wm_forest.specs.declared.part.NodeKind.TheVariants.{Root, Output, Space, Con}
use Rattle.wm_forest.specs.declared.part.Part.{Part}
use Rattle.wm_forest.specs.Forest.{Forest, end, con}
use Rattle.wm_forest.specs.Look.{has, in_row, same}
use Rattle.wm_forest.specs.SoundRow.{IsNode, IsSoundRow, Level, below, containers, outputs, roots, spaces}
use Rattle.wm_tree.specs.Sound.{IsSound}
use Rattle.wm_forest.specs.Spot.{room_below}
use Rattle.wm_tree.specs.TreeValue.{TreeValue}
use Rattle.wm_forest.specs.Focus.{tiled_by}

-- what has an axis holds tiled containers
holds_tiled : (a : Axis) (l : Level) (tiled : Bool) (room : ℕ) (part : Part) (kids : Forest) → IsNode l tiled room part.id part.kind part.marks kids → runs a part.kind ≡ true → (below l ≡ containers) × (tiled_by part.kind kids ≡ kids)
holds_tiled a l tiled room part kids n h = by l part.kind n h where
  by : (l : Level) (kind : NodeKind) → IsNode l tiled room part.id kind part.marks kids → runs a kind ≡ true → (below l ≡ containers) × (tiled_by kind kids ≡ kids)
  by l (Root c) n h = cc
  by l (Output o) n h = cc
  by roots (Space w) n h = absurd n
  by outputs (Space w) n h = absurd n
  by spaces (Space w) n h = (refl, refl)
  by containers (Space w) n h = absurd n
  by roots (Con c) n h = absurd n
  by outputs (Con c) n h = absurd n
  by spaces (Con c) n h = absurd n
  by containers (Con c) n h = (refl, refl)

-- the children of the rung's parent, where there is a rung
abbrev pub IsRung : Option Rung → Forest → Type 0
IsRung None f = Unit {0}
IsRung (Some r) f = HasFamily r f

abbrev pub IsClimbed : Option Climbed → Forest → Type 0
IsClimbed None f = Unit {0}
IsClimbed (Some x) f = (in_row x.child f ≡ true) × IsRung x.rung f

or_first : (a b : Bool) → a ≡ true → (a || b) ≡ true
or_first true b h = refl
or_first false b h = cc

or_end : (a b : Bool) → b ≡ true → (a || b) ≡ true
or_end true b h = refl
or_end false b h = h

or_there : (a k l r : Bool) → k ≡ true → (a || k || l || r) ≡ true
or_there true k l r h = refl
or_there false true l r h = refl
or_there false false l r h = cc

or_third : (a k l r : Bool) → l ≡ true → (a || k || l || r) ≡ true
or_third true k l r h = refl
or_third false true l r h = refl
or_third false false true r h = refl
or_third false false false r h = cc

or_last : (a k l r : Bool) → r ≡ true → (a || k || l || r) ≡ true
or_last true k l r h = refl
or_last false true l r h = refl
or_last false false true r h = refl
or_last false false false r h = h

module _ (part : Part) (kids floats rest : Forest) (once : Once (con part kids floats rest)) where
  from_kids : (r : Rung) → HasFamily r kids → HasFamily r (con part kids floats rest)
  from_kids r h =
      let e = down_kids part kids floats rest once r.parent h.there in
      record { there = or_there (same part.id r.parent) (has r.parent kids) (has r.parent floats) (has r.parent rest) h.there; tiled = rw e h.tiled; family = rw e h.family; node = rw e h.node; two = rw e h.two }

  from_floats : (r : Rung) → HasFamily r floats → HasFamily r (con part kids floats rest)
  from_floats r h =
      let e = down_floats part kids floats rest once r.parent h.there in
      record { there = or_third (same part.id r.parent) (has r.parent kids) (has r.parent floats) (has r.parent rest) h.there; tiled = rw e h.tiled; family = rw e h.family; node = rw e h.node; two = rw e h.two }

  from_rest : (r : Rung) → HasFamily r rest → HasFamily r (con part kids floats rest)
  from_rest r h =
      let e = down_rest part kids floats rest once r.parent h.there in
      record { there = or_last (same part.id r.parent) (has r.parent kids) (has r.parent floats) (has r.parent rest) h.there; tiled = rw e h.tiled; family = rw e h.family; node = rw e h.node; two = rw e h.two }

  rung_kids : (r : Option Rung) → IsRung r kids → IsRung r (con part kids floats rest)
  rung_kids None h = tt
  rung_kids (Some r) h = from_kids r h

  rung_floats : (r : Option Rung) → IsRung r floats → IsRung r (con part kids floats rest)
  rung_floats None h = tt
  rung_floats (Some r) h = from_floats r h

  rung_rest : (r : Option Rung) → IsRung r rest → IsRung r (con part kids floats rest)
  rung_rest None h = tt
  rung_rest (Some r) h = from_rest r h

  -- the first node is a rung itself
  rung_here : (a : Axis) (l : Level) (b : Bool) (room : ℕ) (node : ConId) → IsSoundRow l b room (con part kids floats rest) → in_row node kids ≡ true → IsRung (rung_at a part kids node) (con part kids floats rest)
  rung_here a l b room node s h = by (runs a part.kind) refl (has_two kids) refl where
    me : same part.id part.id ≡ true
    me = same_self part.id part.id refl

    mine : runs a part.kind ≡ true → has_two kids ≡ true → HasFamily (record { parent = part.id; node = node }) (con part kids floats rest)
    mine e two =
        let k = holds_tiled a l b room part kids s.0 e in
        let Row : Level → Type 0 = λ m. IsSoundRow m true (room_below room part.kind) kids in
        record { there = rw me refl; tiled = rw me k.1; family = rw me (record { few = s.1; sound = (room_below room part.kind, subst Row k.0 s.2) }); node = rw me h; two = rw me two }

    by : (r : Bool) → runs a part.kind ≡ r → (t : Bool) → has_two kids ≡ t → IsRung (cond (r && t) (Some (record { parent = part.id; node = node })) None) (con part kids floats rest)
    by false e t f = tt
    by true e true f = mine e f
    by true e false f = tt

rung_or : (x y : Option Rung) (f : Forest) → IsRung x f → IsRung y f → IsRung (option_or x y) f
rung_or None y f p q = q
rung_or (Some r) y f p q = p

climbed_or : (x y : Option Climbed) (f : Forest) → IsClimbed x f → IsClimbed y f → IsClimbed (option_or x y) f
climbed_or None y f p q = q
climbed_or (Some r) y f p q = p

climb_family : (a : Axis) (c : ConId) (l : Level) (b : Bool) (room : ℕ) (f : Forest) → IsSoundRow l b room f → Once f → IsClimbed (climb a c f) f
climb_family a c l b room end s once = tt
climb_family a c l b room (con part kids floats rest) s once =
    step (same part.id c) refl (climb a c kids) (climb a c floats) (climb a c rest)
    (climb_family a c (below l) true (room_below room part.kind) kids s.2 (once_kids part kids floats rest once))
    (climb_family a c containers false (room_below room part.kind) floats s.3 (once_floats part kids floats rest once))
    (climb_family a c l b room rest s.4 (once_rest part kids floats rest once))
  where
    first_in : in_row part.id (con part kids floats rest) ≡ true
    first_in = rw (same_self part.id part.id refl) refl

    kids_case : (x : Option Climbed) → IsClimbed x kids → IsClimbed (up_kids a part kids x) (con part kids floats rest)
    kids_case None h = tt
    kids_case (Some x) h = (first_in, rung_or x.rung (rung_at a part kids x.child) (con part kids floats rest) (rung_kids part kids floats rest once x.rung h.1) (rung_here part kids floats rest once a l b room x.child s h.0))

    floats_case : (x : Option Climbed) → IsClimbed x floats → IsClimbed (up_floats part x) (con part kids floats rest)
    floats_case None h = tt
    floats_case (Some x) h = (first_in, rung_floats part kids floats rest once x.rung h.1)

    rest_case : (x : Option Climbed) → IsClimbed x rest → IsClimbed x (con part kids floats rest)
    rest_case None h = tt
    rest_case (Some x) h = (or_end (same part.id x.child) (in_row x.child rest) h.0, rung_rest part kids floats rest once x.rung h.1)

    step : (m : Bool) → same part.id c ≡ m → (x y z : Option Climbed) → IsClimbed x kids → IsClimbed y floats → IsClimbed z rest
        → IsClimbed (cond m (Some (record { child = c; rung = None })) (option_or (up_kids a part kids x) (option_or (up_floats part y) z))) (con part kids floats rest)
    step true e x y z p q r = (or_first (same part.id c) (in_row c rest) e, tt)
    step false e x y z p q r =
        climbed_or (up_kids a part kids x) (option_or (up_floats part y) z) (con part kids floats rest) (kids_case x p)
        (climbed_or (up_floats part y) z (con part kids floats rest) (floats_case y q) (rest_case z r))

-- the parent of a rung is there, and its children are tiled
pub rung_family : (a : Axis) (c : ConId) (t : TreeValue) (r : Rung) → IsSound t → rung_of a c t ≡ Some r → HasFamily r t.nodes
rung_family a c t r s h = by (climb a c t.nodes) (climb_family a c roots false 0 t.nodes s.shaped s.once) h where
  by : (x : Option Climbed) → IsClimbed x t.nodes → option_and_then (λ (y : Climbed). y.rung) x ≡ Some r → HasFamily r t.nodes
  by None k h = cc
  by (Some x) k h = let P : Option Rung → Type 0 = λ o. IsRung o t.nodes in let done : P (Some r) = subst P h k.1 in done
