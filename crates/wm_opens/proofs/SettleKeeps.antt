-- Settling keeps each window where no container has floating windows.
use Rattle.std.proofs.Common.{◌≡◌, ℕ, Bool, true, false, cond, ◌&&◌, not, Option, None, refl, arith}
use Rattle.wm_base.specs.declared.ids.ConId.{ConId}
use Rattle.wm_forest.specs.Change.{is_window_kind}
use Rattle.wm_opens.specs.Opens.{HoldsNone, IsTidy, window_at, windows, windows_at}
use Rattle.wm_forest.specs.Change.{is_end, is_id, is_split, is_vacant, settled_row, shown_of}
use Rattle.wm_forest.specs.Counts.{count}
use Rattle.wm_forest.specs.declared.part.ConKind.{ConKind}
use Rattle.wm_forest.specs.declared.part.ConKind.TheVariants.{Split, Window, Placeholder}
use Rattle.wm_forest.specs.declared.part.NodeKind.{NodeKind}
use Rattle.wm_forest.specs.declared.part.NodeKind.TheVariants.{Root, Output, Space, Con}
use Rattle.wm_forest.specs.Forest.{Forest, end, con}
use Rattle.wm_forest.specs.Look.{same}
use Rattle.wm_tree.specs.TreeValue.{TreeValue}
use Rattle.wm_tree.specs.Words.{settled}

both : (a b : Bool) → (a && b) ≡ true → (a ≡ true) × (b ≡ true)
both true true h = (refl, refl)
both true false h = cc
both false b h = cc

ended : (f : Forest) → is_end f ≡ true → f ≡ end
ended end h = refl
ended (con part kids floats rest) h = cc

split_opens : (kind : ConKind) → is_split kind ≡ true → is_window_kind kind ≡ false
split_opens (Split layout last) h = refl
split_opens (Window props owner natural) h = cc
split_opens (Placeholder props swallows) h = cc

-- a vacant node is no window, and holds nothing
vacant_is : (shown : Option ConId) (id : ConId) (kind : NodeKind) (kids floats : Forest) → HoldsNone kind floats → is_vacant shown id kind kids floats ≡ true → (windows kind ≡ 0) × (kids ≡ end) × (floats ≡ end)
vacant_is shown id (Root c) kids floats p h = cc
vacant_is shown id (Output o) kids floats p h = cc
vacant_is shown id (Space s) kids floats p h =
    let a = both (is_end kids && is_end floats) (not (is_id id shown)) h in
    let b = both (is_end kids) (is_end floats) a.0 in
    (refl, ended kids b.0, ended floats b.1)
vacant_is shown id (Con c) kids floats p h =
    let a = both (is_split c.kind) (is_end kids) h in
    (none, ended kids a.1, p)
  where
    none : windows (Con c) ≡ 0
    none = let e : is_window_kind c.kind ≡ false = split_opens c.kind (both (is_split c.kind) (is_end kids) h).0 in rw e refl

nothing_by : (b : Bool) (n : ℕ) → n ≡ 0 → cond b n 0 ≡ 0
nothing_by true n e = e
nothing_by false n e = refl

module _ (v : ConId) where
  settled_keep : (shown : Option ConId) (f : Forest) → IsTidy f → count (window_at v) (settled_row shown f) ≡ count (window_at v) f
  settled_keep shown end p = refl
  settled_keep shown (con part kids floats rest) p =
      step (is_vacant shown part.id part.kind (settled_row (shown_of part.kind) kids) floats) refl (settled_keep (shown_of part.kind) kids p.1) (settled_keep shown rest p.3)
    where
      step : (b : Bool) → is_vacant shown part.id part.kind (settled_row (shown_of part.kind) kids) floats ≡ b → count (window_at v) (settled_row (shown_of part.kind) kids) ≡ count (window_at v) kids
          → count (window_at v) (settled_row shown rest) ≡ count (window_at v) rest
          → count (window_at v) (cond b (settled_row shown rest) (con part (settled_row (shown_of part.kind) kids) floats (settled_row shown rest))) ≡ count (window_at v) (con part kids floats rest)
      step true e k q =
          let none = vacant_is shown part.id part.kind (settled_row (shown_of part.kind) kids) floats p.0 e in
          let here : window_at v part ≡ 0 = nothing_by (same part.id v) (windows part.kind) none.0 in
          let no_kids : count (window_at v) (settled_row (shown_of part.kind) kids) ≡ 0 = rw none.1 refl in
          let no_floats : count (window_at v) floats ≡ 0 = rw none.2 refl in
          omega (arith, here, no_kids, no_floats, k, q)
      step false e k q = omega (arith, k, q)

pub settling_keeps : (t : TreeValue) (v : ConId) → IsTidy t.nodes → windows_at v (settled t) ≡ windows_at v t
settling_keeps t v p = settled_keep v None t.nodes p
