-- Two containers that change places over a hole keep what holds of every tree.
use Rattle.std.proofs.Common.{◌≡◌, ◌≢◌, ℕ, ◌+◌, ◌≤◌, Bool, true, false, cond, ◌⊎◌, inl, inr, ⊎_elim, List, [], Option, None, Some, refl, ap, sym, ◌∙◌, subst, arith}
use Rattle.wm_base.specs.declared.ids.ConId.{ConId}
use Rattle.wm_forest.specs.declared.part.Part.{Part}
use Rattle.wm_forest.specs.declared.part.NodeKind.{NodeKind}
use Rattle.wm_forest.specs.declared.part.NodeKind.TheVariants.{Root}
use Rattle.wm_forest.specs.declared.spot.Spot.{Spot}
use Rattle.wm_forest.specs.Forest.{Forest, end, con}
use Rattle.wm_forest.specs.Change.{hole, in_place, nobody, replaced}
use Rattle.wm_forest.specs.Counts.{row_length, row_with}
use Rattle.wm_forest.specs.Look.{con_kind, only, same}
use Rattle.wm_forest.specs.Exchange.{holed}
use Rattle.wm_forest.specs.SoundRow.{Level, roots, outputs, spaces, containers, below, IsNode, IsSoundRow, RowOf, tally}
use Rattle.wm_forest.specs.Spot.{room_below, spot_in, spot_of}
use Rattle.wm_forest.proofs.PutLemmas.{IsConFirst, con_level}
use Rattle.wm_forest.proofs.RecencyLemmas.{same_self}
use Rattle.wm_forest.proofs.RowLemmas.{KeepsRow, GrowsBy, keeps_by, node_keeps}

-- ---- rows that may have a hole

abbrev pub IsHole : Level → ConId → Forest → Type 0
IsHole roots id kids = ⊥
IsHole outputs id kids = ⊥
IsHole spaces id kids = ⊥
IsHole containers id kids = (id ≡ nobody) × (kids ≡ end)

-- a node of a tree, or a hole among the containers
abbrev pub IsHoley : Level → Bool → ℕ → ConId → NodeKind → List (List ℕ) → Forest → Type 0
IsHoley l tiled room id kind marks kids = IsNode l tiled room id kind marks kids ⊎ IsHole l id kids

hole_keeps : (l : Level) (id : ConId) (old new : Forest) → (old ≡ end → new ≡ end) → IsHole l id old → IsHole l id new
hole_keeps roots id old new ends h = h
hole_keeps outputs id old new ends h = h
hole_keeps spaces id old new ends h = h
hole_keeps containers id old new ends h = (h.0, ends h.1)

pub holey_keeps : (l : Level) (tiled : Bool) (room : ℕ) (id : ConId) (kind : NodeKind) (marks : List (List ℕ)) (old new : Forest) → KeepsRow (below l) old new → (old ≡ end → new ≡ end)
    → IsHoley l tiled room id kind marks old → IsHoley l tiled room id kind marks new
holey_keeps l tiled room id kind marks old new keeps ends h = ⊎_elim (λ n. inl (node_keeps l tiled room id kind marks old new keeps ends n)) (λ k. inr (hole_keeps l id old new ends k)) h

pub weaken : (l : Level) (tiled : Bool) (room : ℕ) (f : Forest) → IsSoundRow l tiled room f → RowOf IsHoley l tiled room f
weaken l tiled room end p = tt
weaken l tiled room (con part kids floats rest) p =
    (inl p.0, p.1, weaken (below l) true (room_below room part.kind) kids p.2, weaken containers false (room_below room part.kind) floats p.3, weaken l tiled room rest p.4)

no_hole : (l : Level) (part : Part) (kids : Forest) → same part.id nobody ≡ false → IsHole l part.id kids → ⊥
no_hole roots part kids e h = h
no_hole outputs part kids e h = h
no_hole spaces part kids e h = h
no_hole containers part kids e h = let bad : true ≡ false = sym (same_self part.id nobody h.0) ∙ e in cc

-- without a hole it is sound
pub strengthen : (l : Level) (tiled : Bool) (room : ℕ) (f : Forest) → tally nobody f ≡ 0 → RowOf IsHoley l tiled room f → IsSoundRow l tiled room f
strengthen l tiled room end none p = tt
strengthen l tiled room (con part kids floats rest) none p = (
  ⊎_elim (λ n. n) (λ k. absurd (no_hole l part kids (not_nobody (same part.id nobody) none) k)) p.0,
  p.1,
  strengthen (below l) true (room_below room part.kind) kids (omega (arith, none)) p.2,
  strengthen containers false (room_below room part.kind) floats (omega (arith, none)) p.3,
  strengthen l tiled room rest (omega (arith, none)) p.4,
)
  where
    not_nobody : (b : Bool) → cond b 1 0 + tally nobody kids + tally nobody floats + tally nobody rest ≡ 0 → b ≡ false
    not_nobody true h = absurd (omega (arith, h))
    not_nobody false h = refl

hole_level : (l : Level) (id : ConId) (kids : Forest) → IsHole l id kids → containers ≡ l
hole_level roots id kids h = absurd h
hole_level outputs id kids h = absurd h
hole_level spaces id kids h = absurd h
hole_level containers id kids h = refl

holey_level : (l : Level) (tiled : Bool) (room : ℕ) (id : ConId) (kind : NodeKind) (marks : List (List ℕ)) (kids : Forest) → con_kind kind ≢ None → IsHoley l tiled room id kind marks kids → containers ≡ l
holey_level l tiled room id kind marks kids ok h = ⊎_elim (λ n. con_level l tiled room id kind marks kids ok n) (λ k. hole_level l id kids k) h

-- the hole itself stands among the containers
root_kind : (l : Level) (tiled : Bool) (room : ℕ) (id : ConId) (c : ConId) (marks : List (List ℕ)) (kids : Forest) → id ≡ nobody → IsNode l tiled room id (Root c) marks kids → containers ≡ l
root_kind roots tiled room id c marks kids e h = let zero_one : nobody.0 ≡ id.0 = ap (λ (x : ConId). x.0) (sym e) in let one : id.0 ≡ 1 = ap (λ (x : ConId). x.0) h.0 in absurd (omega (arith, zero_one, one))
root_kind outputs tiled room id c marks kids e h = absurd h
root_kind spaces tiled room id c marks kids e h = absurd h
root_kind containers tiled room id c marks kids e h = refl

own_level : (l : Level) (tiled : Bool) (room : ℕ) (part : Part) (kids floats : Forest) → con part kids floats end ≡ hole → IsHoley l tiled room part.id part.kind part.marks kids → containers ≡ l
own_level l tiled room part kids floats e h =
    let parts : part ≡ record { id = nobody; kind = Root nobody; marks = [] } = cc in
    let P : Part → Type 0 = λ p. IsHoley l tiled room p.id p.kind p.marks kids in
    ⊎_elim (λ n. root_kind l tiled room nobody nobody [] kids refl n) (λ k. hole_level l nobody kids k) (subst P parts h)

-- ---- the three steps

abbrev pub IsHoleyAt : Option Spot → Forest → Type 0
IsHoleyAt None x = ⊥
IsHoleyAt (Some s) x = RowOf IsHoley containers s.tiled s.room x

-- what a change makes of a row
abbrev Here : Level → Spot → Forest → Forest → Type 0
Here l s old new = RowOf IsHoley l s.tiled s.room old → RowOf IsHoley l s.tiled s.room new × KeepsRow l old new × (row_length new ≤ row_length old + 0)

placed_here : (x : Forest) (s : Spot) (part : Part) (kids floats rest : Forest) → RowOf IsHoley containers s.tiled s.room x → Here containers s (con part kids floats rest) (in_place x part kids floats rest)
placed_here end s part kids floats rest ok q = (q, tt, omega arith)
placed_here (con new below above behind) s part kids floats rest ok q = ((ok.0, ok.1, ok.2, ok.3, q.4), tt, omega arith)

pub sound-holed : (c : ConId) (l : Level) (s : Spot) (forest : Forest) → IsConFirst (only c forest) → RowOf IsHoley l s.tiled s.room forest → GrowsBy IsHoley 0 l s.tiled s.room forest forest (holed c forest) (row_with c forest forest)
sound-holed c l s forest ok p = keeps_by IsHoley holey_keeps c in_place hole 0 (λ found sp st. IsConFirst found) (λ found sp st h. inl refl) here l s forest forest ok p
  where
    here : (l : Level) (s : Spot) (whole : Forest) (part : Part) (kids floats rest : Forest) → IsConFirst (con part kids floats end) → Here l s (con part kids floats rest) (in_place hole part kids floats rest)
    here l s whole part kids floats rest ok p =
        let At : Level → Type 0 = λ l. Here l s (con part kids floats rest) (in_place hole part kids floats rest) in
        subst At (holey_level l s.tiled s.room part.id part.kind part.marks kids ok p.0) (λ q. ((inr (refl, refl), omega arith, tt, tt, q.4), tt, omega arith)) p

pub sound-filled : (c : ConId) (x : Forest) (l : Level) (s : Spot) (forest : Forest) → IsConFirst (only c forest) × IsHoleyAt (spot_in s c forest) x → RowOf IsHoley l s.tiled s.room forest
    → GrowsBy IsHoley 0 l s.tiled s.room forest forest (replaced c x forest) (row_with c forest forest)
sound-filled c x l s forest ok p = keeps_by IsHoley holey_keeps c in_place x 0 (λ found sp st. IsConFirst found × IsHoleyAt sp x) (λ found sp st h. inl refl) here l s forest forest ok p
  where
    here : (l : Level) (s : Spot) (whole : Forest) (part : Part) (kids floats rest : Forest) → IsConFirst (con part kids floats end) × IsHoleyAt (Some (spot_of s part)) x → Here l s (con part kids floats rest) (in_place x part kids floats rest)
    here l s whole part kids floats rest ok p =
        let At : Level → Type 0 = λ l. Here l s (con part kids floats rest) (in_place x part kids floats rest) in
        subst At (holey_level l s.tiled s.room part.id part.kind part.marks kids ok.0 p.0) (placed_here x s part kids floats rest ok.1) p

pub sound-unholed : (x : Forest) (l : Level) (s : Spot) (forest : Forest) → (only nobody forest ≡ hole) × IsHoleyAt (spot_in s nobody forest) x → RowOf IsHoley l s.tiled s.room forest
    → GrowsBy IsHoley 0 l s.tiled s.room forest forest (replaced nobody x forest) (row_with nobody forest forest)
sound-unholed x l s forest ok p = keeps_by IsHoley holey_keeps nobody in_place x 0 (λ found sp st. (found ≡ hole) × IsHoleyAt sp x) (λ found sp st h. inl refl) here l s forest forest ok p
  where
    here : (l : Level) (s : Spot) (whole : Forest) (part : Part) (kids floats rest : Forest) → (con part kids floats end ≡ hole) × IsHoleyAt (Some (spot_of s part)) x → Here l s (con part kids floats rest) (in_place x part kids floats rest)
    here l s whole part kids floats rest ok p =
        let At : Level → Type 0 = λ l. Here l s (con part kids floats rest) (in_place x part kids floats rest) in
        subst At (own_level l s.tiled s.room part kids floats ok.0 p.0) (placed_here x s part kids floats rest ok.1) p
