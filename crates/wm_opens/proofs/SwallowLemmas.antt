-- A placeholder that becomes a window: what is counted and found of the tree afterwards.
use Rattle.std.proofs.Common.{◌≡◌, ℕ, ◌+◌, ◌≤◌, ◌<◌, Bool, true, false, cond, ◌==◌, ◌&&◌, Option, None, Some, refl, ap, sym, subst, ◌∙◌, arith}
use Rattle.wm_base.specs.declared.geometry.Size.{Size}
use Rattle.wm_base.specs.declared.ids.ConId.{ConId}
use Rattle.wm_base.specs.declared.properties.Props.{Props}
use Rattle.wm_forest.specs.Change.{is_window_kind}
use Rattle.wm_opens.proofs.MeasureLemmas.{kinds_at}
use Rattle.wm_opens.proofs.OpenLemmas.{IsAt, found_at, seen_same, windows_tallied}
use Rattle.wm_opens.proofs.OwnerLemmas.{owned_found, owned_told}
use Rattle.wm_opens.proofs.PlaceholderLemmas.{given_may_not_open, may_open_placeholder, never_opens, no_placeholder, opens_edited, opens_refl, placeholder_found, placeholder_is_given, placeholders_seen}
use Rattle.wm_opens.proofs.TidyLemmas.{tidy_edited}
use Rattle.wm_opens.specs.Opens.{Fills, IsGood, OpensNoOther, is_owned_kind, is_placeholder_kind, is_placeholder_of, may_open, owned, owned_at, placeholders, placeholders_at, windows, windows_at}
use Rattle.wm_swallow.proofs.WalkLemmas.{taker_takes, taker_there, takes_first}
use Rattle.wm_swallow.specs.Swallowing.{filled_at, has_entry, swallowed, swallower, takes}
use Rattle.wm_forest.proofs.ChangeLemmas.{by_change}
use Rattle.wm_forest.proofs.EditLemmas.{fits_fill}
use Rattle.wm_forest.proofs.RecencyLemmas.{same_is, same_self}
use Rattle.wm_forest.specs.Change.{at}
use Rattle.wm_forest.specs.Counts.{count}
use Rattle.wm_forest.specs.declared.kind.KindEdit.{KindEdit}
use Rattle.wm_forest.specs.declared.kind.KindEdit.TheVariants as edits
use Rattle.wm_forest.specs.declared.part.ConKind.{ConKind}
use Rattle.wm_forest.specs.declared.part.ConKind.TheVariants.{Split, Window, Placeholder}
use Rattle.wm_forest.specs.declared.part.NodeKind.{NodeKind}
use Rattle.wm_forest.specs.declared.part.NodeKind.TheVariants.{Root, Output, Space, Con}
use Rattle.wm_forest.specs.declared.part.Part.{Part}
use Rattle.wm_forest.specs.Forest.{Forest, end, con}
use Rattle.wm_forest.specs.Kinds.{changed, filled, kind_changed}
use Rattle.wm_forest.specs.Look.{first_kids, first_part, only, same}
use Rattle.wm_forest.specs.Spot.{spot_in, top}
use Rattle.wm_tree.proofs.SoundLemmas.{sound-edited}
use Rattle.wm_tree.specs.Sound.{IsSound}
use Rattle.wm_tree.specs.TreeValue.{TreeValue}
use Rattle.wm_tree.specs.Words.{edited}

-- ---- what one change of a node counts

-- a change of the node c, which has this part
pub count_changed : (m : Part → ℕ) (c : ConId) (edit : KindEdit) (p : Part) (f : Forest) → first_part (only c f) ≡ Some p
    → count m (at c kind_changed edit f) + m p ≡ count m f + m (record p { kind = changed edit p.kind })
count_changed m c edit p =
    by_change c kind_changed edit (λ old now found. first_part found ≡ Some p → count m now + m p ≡ count m old + m (record p { kind = changed edit p.kind })) (λ h. cc)
    (λ part kids floats rest h. let one : part ≡ p = cc in subst (λ (z : Part). m (record z { kind = changed edit z.kind }) + count m kids + count m floats + count m rest + m p ≡ m z + count m kids + count m floats + count m rest + m (record p { kind = changed edit p.kind })) (sym one) (omega arith))
    (λ part kids floats rest now found h e. omega (arith, h e))
    (λ part kids floats rest now found h e. omega (arith, h e))
    (λ part kids floats rest now found h e. omega (arith, h e))

-- ---- a placeholder that takes the window

-- what a container of this kind is, and what it is when it is filled
record Takes (props : Props) (owner : ℕ) (natural : Size) (kind : ConKind) : Type 0 where
  pub no_window : is_window_kind kind ≡ false
  pub placeholder : is_placeholder_kind kind ≡ true
  pub unowned : (who : ℕ) → is_owned_kind who kind ≡ false
  pub window : is_window_kind (filled props owner natural kind) ≡ true
  pub spent : is_placeholder_kind (filled props owner natural kind) ≡ false
  pub own : (who : ℕ) → is_owned_kind who (filled props owner natural kind) ≡ (owner == who)

takes_con : (props : Props) (owner : ℕ) (natural : Size) (kind : ConKind) → has_entry props kind ≡ true → Takes props owner natural kind
takes_con props owner natural (Split layout last) h = cc
takes_con props owner natural (Window p o n) h = cc
takes_con props owner natural (Placeholder p swallows) h = record { no_window = refl; placeholder = refl; unowned = λ who. refl; window = refl; spent = refl; own = λ who. refl }

-- what the node counts before and after
record Fitting (props : Props) (owner : ℕ) (natural : Size) (kind : NodeKind) : Type 0 where
  pub no_window : windows kind ≡ 0
  pub placeholder : placeholders kind ≡ 1
  pub unowned : (who : ℕ) → owned who kind ≡ 0
  pub window : windows (changed (edits.Fill props owner natural) kind) ≡ 1
  pub spent : placeholders (changed (edits.Fill props owner natural) kind) ≡ 0
  pub own : (who : ℕ) → owned who (changed (edits.Fill props owner natural) kind) ≡ cond (owner == who) 1 0

fitting : (props : Props) (owner : ℕ) (natural : Size) (kind : NodeKind) → takes props kind ≡ true → Fitting props owner natural kind
fitting props owner natural (Root c) h = cc
fitting props owner natural (Output o) h = cc
fitting props owner natural (Space s) h = cc
fitting props owner natural (Con c) h =
    let k : Takes props owner natural c.kind = takes_con props owner natural c.kind h in
    record {
      no_window = ap (λ b. cond {A = ℕ} b 1 0) k.no_window;
      placeholder = ap (λ b. cond {A = ℕ} b 1 0) k.placeholder;
      unowned = λ who. ap (λ b. cond {A = ℕ} b 1 0) (k.unowned who);
      window = ap (λ b. cond {A = ℕ} b 1 0) k.window;
      spent = ap (λ b. cond {A = ℕ} b 1 0) k.spent;
      own = λ who. ap (λ b. cond {A = ℕ} b 1 0) (k.own who);
    }

-- the node that is found
record IsTaker (props : Props) (owner : ℕ) (natural : Size) (c : ConId) (f : Forest) (p : Part) : Type 0 where
  pub is : first_part (only c f) ≡ Some p
  pub own : p.id ≡ c
  pub fits : Fitting props owner natural p.kind

first_own : (c : ConId) (g : Forest) (p : Part) → IsAt c g → first_part g ≡ Some p → p.id ≡ c
first_own c end p at h = cc
first_own c (con part kids floats rest) p at h = let one : part ≡ p = cc in subst (λ (z : Part). z.id ≡ c) one (same_is part.id c at.0)

taker : (props : Props) (owner : ℕ) (natural : Size) (t : TreeValue) (c : ConId) → IsSound t → swallower props t ≡ Some c → (p : Part) × IsTaker props owner natural c t.nodes p
taker props owner natural t c s found = by (first_part (only c t.nodes)) refl (taker_takes props c t.nodes (s.once c) found)
  where
    by : (o : Option Part) → first_part (only c t.nodes) ≡ o → takes_first props o ≡ true → (p : Part) × IsTaker props owner natural c t.nodes p
    by None e h = cc
    by (Some p) e h = (p, record { is = e; own = first_own c (only c t.nodes) p (found_at c t.nodes (taker_there props c t.nodes found)) e; fits = fitting props owner natural p.kind h })

-- ---- the tree in which it is filled

one_more : (b : Bool) (x y a d : ℕ) → a ≡ 0 → d ≡ 1 → x + cond b a 0 ≡ y + cond b d 0 → x ≡ y + cond b 1 0
one_more true x y a d f g h = omega (arith, f, g, h)
one_more false x y a d f g h = omega (arith, h)

one_less : (b : Bool) (x y a d : ℕ) → a ≡ 1 → d ≡ 0 → x + cond b a 0 ≡ y + cond b d 0 → x + cond b 1 0 ≡ y
one_less true x y a d f g h = omega (arith, f, g, h)
one_less false x y a d f g h = omega (arith, h)

one_own : (b e : Bool) (x y a d : ℕ) → a ≡ 0 → d ≡ cond e 1 0 → x + cond b a 0 ≡ y + cond b d 0 → x ≡ y + cond (b && e) 1 0
one_own true e x y a d f g h = omega (arith, f, g, h)
one_own false e x y a d f g h = omega (arith, h)

module _ (props : Props) (owner : ℕ) (natural : Size) (c : ConId) (t : TreeValue) (s : IsSound t) (p : Part) (k : IsTaker props owner natural c t.nodes p) where
  abbrev fill : KindEdit
  fill = edits.Fill props owner natural

  abbrev full : TreeValue
  full = edited c (edits.Fill props owner natural) t

  by_kinds : (w : NodeKind → ℕ) (v : ConId) → count (kinds_at w v) full.nodes + cond (same c v) (w p.kind) 0 ≡ count (kinds_at w v) t.nodes + cond (same c v) (w (changed fill p.kind)) 0
  by_kinds w v =
      subst (λ i. count (kinds_at w v) full.nodes + cond (same i v) (w p.kind) 0 ≡ count (kinds_at w v) t.nodes + cond (same i v) (w (changed fill p.kind)) 0) k.own
      (count_changed (kinds_at w v) c fill p t.nodes k.is)

  sound_full : IsSound full
  sound_full = sound-edited c fill t (fits_fill props owner natural (spot_in top c t.nodes) (first_kids (only c t.nodes))) s

  one_window : (v : ConId) → windows_at v full ≡ windows_at v t + cond (same c v) 1 0
  one_window v = one_more (same c v) (windows_at v full) (windows_at v t) (windows p.kind) (windows (changed fill p.kind)) k.fits.no_window k.fits.window (by_kinds windows v)

  owned_one : (who : ℕ) (v : ConId) → count (owned_at who v) full.nodes ≡ count (owned_at who v) t.nodes + cond (same c v && (owner == who)) 1 0
  owned_one who v =
      one_own (same c v) (owner == who) (count (owned_at who v) full.nodes) (count (owned_at who v) t.nodes) (owned who p.kind) (owned who (changed fill p.kind)) (k.fits.unowned who) (k.fits.own who) (by_kinds (owned who) v)

  left_over : (v : ConId) → placeholders_at v full + cond (same c v) 1 0 ≡ placeholders_at v t
  left_over v = one_less (same c v) (placeholders_at v full) (placeholders_at v t) (placeholders p.kind) (placeholders (changed fill p.kind)) k.fits.placeholder k.fits.spent (by_kinds placeholders v)

  own_one : cond {A = ℕ} (same c c) 1 0 ≡ 1
  own_one = ap (λ b. cond {A = ℕ} b 1 0) (same_self c c refl)

  owned_here : cond {A = ℕ} (same c c && (owner == owner)) 1 0 ≡ 1
  owned_here = ap (λ b. cond {A = ℕ} (b && (owner == owner)) 1 0) (same_self c c refl) ∙ ap (λ b. cond {A = ℕ} b 1 0) (same_self (record { 0 = owner }) (record { 0 = owner }) refl)

  stays : (v : ConId) → same c v ≡ false → windows_at v full ≡ windows_at v t
  stays v other = omega (arith, one_window v, ap (λ b. cond {A = ℕ} b 1 0) other)

  stays_owned : (who : ℕ) (v : ConId) → same c v ≡ false → count (owned_at who v) full.nodes ≡ count (owned_at who v) t.nodes
  stays_owned who v other = omega (arith, owned_one who v, ap (λ b. cond {A = ℕ} (b && (owner == who)) 1 0) other)

  fills_edited : Fills c owner t full
  fills_edited = record {
    sound = sound_full;
    tidy = tidy_edited c fill t.nodes;
    next = refl;
    recency = refl;
    was = placeholder_found t c s (omega (arith, left_over c, own_one));
    none = omega (arith, one_window c, own_one, windows_tallied c full.nodes, sound_full.once c);
    own = owned_found owner c full sound_full (omega (arith, owned_one owner c, owned_here));
    gone = no_more_than_one (left_over c) (placeholders_seen t c s);
    one = one_window;
    all = omega (arith, count_changed (λ q. windows q.kind) c fill p t.nodes k.is, k.fits.no_window, k.fits.window);
    owned = owned_one;
    left = left_over;
    windows_stay = λ v other. seen_same t full v s sound_full (stays v other);
    owners_stay = λ who v other. owned_told who v t full s sound_full (stays_owned who v other);
  }
    where
      one_most : (b : Bool) → cond {A = ℕ} b 1 0 ≤ 1
      one_most true = omega arith
      one_most false = omega arith

      no_more_than_one : placeholders_at c full + cond (same c c) 1 0 ≡ placeholders_at c t → placeholders_at c t ≡ cond (is_placeholder_of t c) 1 0 → placeholders_at c full ≡ 0
      no_more_than_one a b = omega (arith, a, b, own_one, one_most (is_placeholder_of t c))

-- ---- a window that comes to its placeholder

-- the placeholder that is found in a sound tree becomes the window, and nothing else comes or goes
pub fills_swallowed : (props : Props) (owner : ℕ) (natural : Size) (t : TreeValue) (c : ConId) → IsSound t → swallower props t ≡ Some c → Fills c owner t (swallowed props owner natural t)
fills_swallowed props owner natural t c s found =
    let k = taker props owner natural t c s found in
    subst (λ o. Fills c owner t (filled_at o props owner natural t)) (sym found) (fills_edited props owner natural c t s k.0 k.1)

pub good_swallowed : (props : Props) (owner : ℕ) (natural : Size) (t : TreeValue) → IsGood t → IsGood (swallowed props owner natural t)
good_swallowed props owner natural t g = by (swallower props t) refl
  where
    by : (o : Option ConId) → swallower props t ≡ o → IsGood (filled_at o props owner natural t)
    by None e = g
    by (Some c) e =
        let k : Fills c owner t (swallowed props owner natural t) = fills_swallowed props owner natural t c g.sound e in
        subst (λ o. IsGood (filled_at o props owner natural t)) e (record { sound = k.sound; tidy = k.tidy g.tidy })

pub none_swallowed : (props : Props) (owner : ℕ) (natural : Size) (t : TreeValue) → swallower props t ≡ None → swallowed props owner natural t ≡ t
none_swallowed props owner natural t none = ap (λ o. filled_at o props owner natural t) none

pub opens_swallowed : (props : Props) (owner : ℕ) (natural : Size) (t : TreeValue) → OpensNoOther t (swallowed props owner natural t)
opens_swallowed props owner natural t = by (swallower props t)
  where
    by : (o : Option ConId) → OpensNoOther t (filled_at o props owner natural t)
    by None = opens_refl t
    by (Some c) = opens_edited c (edits.Fill props owner natural) t

-- the placeholder's id might open before
pub filled_might_open : (c : ConId) (owner : ℕ) (t new : TreeValue) → Fills c owner t new → may_open t c ≡ true
filled_might_open c owner t now k = may_open_placeholder t c k.was

-- and was given
pub filled_is_given : (c : ConId) (owner : ℕ) (t new : TreeValue) → IsSound t → Fills c owner t new → c.0 < t.next_id
filled_is_given c owner t now s k = placeholder_is_given t c s k.was

-- it may not open again
pub filled_is_spent : (c : ConId) (owner : ℕ) (t new : TreeValue) → IsSound t → Fills c owner t new → may_open new c ≡ false
filled_is_spent c owner t now s k =
    given_may_not_open now c (omega (arith, filled_is_given c owner t now s k, k.next)) (no_placeholder now c k.sound k.gone)

-- nor after further steps that let no other id open
pub filled_stays_spent : (c : ConId) (owner : ℕ) (t mid new : TreeValue) → IsSound t → Fills c owner t mid → IsSound new → OpensNoOther mid new → may_open new c ≡ false
filled_stays_spent c owner t mid now s k r o = never_opens mid now c k.sound r o (filled_is_spent c owner t mid s k)

pub spends_its_id : (props : Props) (owner : ℕ) (natural : Size) (t : TreeValue) (c : ConId) → IsSound t → swallower props t ≡ Some c → (may_open t c ≡ true) × (may_open (swallowed props owner natural t) c ≡ false)
spends_its_id props owner natural t c s found =
    let k : Fills c owner t (swallowed props owner natural t) = fills_swallowed props owner natural t c s found in
    (filled_might_open c owner t (swallowed props owner natural t) k, filled_is_spent c owner t (swallowed props owner natural t) s k)
