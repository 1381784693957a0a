-- What is taken out, and what is put at a place, keeps what holds of the rows of every tree.
use Rattle.std.proofs.Common.{◌≡◌, ◌≢◌, ℕ, ◌+◌, ◌≤◌, Bool, true, false, inl, inr, List, Option, None, Some, refl, sym, subst, arith}
use Rattle.wm_base.specs.declared.ids.ConId.{ConId}
use Rattle.wm_forest.specs.declared.part.Part.{Part}
use Rattle.wm_forest.specs.declared.part.ConKind.{ConKind}
use Rattle.wm_forest.specs.declared.part.ConKind.TheVariants.{Split, Window, Placeholder}
use Rattle.wm_forest.specs.declared.part.NodeKind.{NodeKind}
use Rattle.wm_forest.specs.declared.part.NodeKind.TheVariants.{Root, Output, Space, Con}
use Rattle.wm_forest.specs.declared.spot.Spot.{Spot}
use Rattle.wm_forest.specs.Forest.{Forest, end, con}
use Rattle.wm_forest.specs.Change.{append, at, without}
use Rattle.wm_forest.specs.Counts.{row_length, row_with}
use Rattle.wm_forest.specs.Look.{only, con_kind, first_kids, first_part, kind_by}
use Rattle.wm_forest.specs.Place.{IsSplit, TakesFirst, TakesKids, before_first}
use Rattle.wm_forest.specs.SoundRow.{Level, roots, outputs, spaces, containers, below, HasKids, IsNode, IsSoundRow}
use Rattle.wm_forest.specs.Spot.{room_below, spot_in, spot_of}
use Rattle.wm_forest.proofs.RowLemmas.{KeepsRow, same_row, behind_row, Grows, keeps_by, node_keeps}

-- the row found begins with a container
abbrev pub IsConFirst : Forest → Type 0
IsConFirst found = kind_by con_kind (first_part found) ≢ None

pub con_level : (l : Level) (tiled : Bool) (room : ℕ) (id : ConId) (kind : NodeKind) (marks : List (List ℕ)) (kids : Forest) → con_kind kind ≢ None → IsNode l tiled room id kind marks kids → containers ≡ l
con_level l tiled room id (Root c) marks kids ok h = absurd (ok refl)
con_level l tiled room id (Output o) marks kids ok h = absurd (ok refl)
con_level l tiled room id (Space w) marks kids ok h = absurd (ok refl)
con_level roots tiled room id (Con c) marks kids ok h = absurd h
con_level outputs tiled room id (Con c) marks kids ok h = absurd h
con_level spaces tiled room id (Con c) marks kids ok h = absurd h
con_level containers tiled room id (Con c) marks kids ok h = refl

pub row_length-append : (a b : Forest) → row_length (append a b) ≡ row_length a + row_length b
row_length-append end b = omega arith
row_length-append (con part kids floats rest) b = omega (arith, row_length-append rest b)

pub sound-append : (l : Level) (tiled : Bool) (room : ℕ) (a b : Forest) → IsSoundRow l tiled room a → IsSoundRow l tiled room b → IsSoundRow l tiled room (append a b)
sound-append l tiled room end b p q = q
sound-append l tiled room (con part kids floats rest) b p q = (p.0, p.1, p.2, p.3, sound-append l tiled room rest b p.4 q)

-- what a change makes of a row
abbrev pub Here : ℕ → Level → Spot → Forest → Forest → Type 0
Here d l s old new = IsSoundRow l s.tiled s.room old → IsSoundRow l s.tiled s.room new × KeepsRow l old new × (row_length new ≤ row_length old + d)

-- ---- taking out

pub sound-without : (c : ConId) (l : Level) (s : Spot) (forest : Forest) → IsConFirst (only c forest) → IsSoundRow l s.tiled s.room forest → Grows 0 l s.tiled s.room forest forest (without c forest) (row_with c forest forest)
sound-without c l s forest ok p = keeps_by IsNode node_keeps c (λ row part kids floats rest. rest) end 0 (λ found sp st. IsConFirst found) (λ found sp st h. inl refl) here l s forest forest ok p
  where
    here : (l : Level) (s : Spot) (whole : Forest) (part : Part) (kids floats rest : Forest) → IsConFirst (con part kids floats end) → Here 0 l s (con part kids floats rest) rest
    here l s whole part kids floats rest ok p =
        let Keeps : Level → Type 0 = λ l. KeepsRow l (con part kids floats rest) rest in
        (p.4, subst Keeps (con_level l s.tiled s.room part.id part.kind part.marks kids ok p.0) tt, omega arith)

-- ---- putting beside a container

-- the row is sound where the node stands
abbrev pub IsSoundAt : Option Spot → Forest → Type 0
IsSoundAt None row = ⊥
IsSoundAt (Some s) row = IsSoundRow containers s.tiled s.room row

abbrev pub Beside : Forest → Forest → Option Spot → Forest → Type 0
Beside row found sp st = IsConFirst found × IsSoundAt sp row × (row_length st + row_length row ≤ 256)

pub sound-put_after : (c : ConId) (row : Forest) (l : Level) (s : Spot) (forest : Forest) → Beside row (only c forest) (spot_in s c forest) (row_with c forest forest) → IsSoundRow l s.tiled s.room forest
    → Grows (row_length row) l s.tiled s.room forest forest (at c (λ row part kids floats rest. con part kids floats (append row rest)) row forest) (row_with c forest forest)
sound-put_after c row l s forest ok p =
    keeps_by IsNode node_keeps c (λ row part kids floats rest. con part kids floats (append row rest)) row (row_length row) (Beside row) (λ found sp st h. inr h.2) here l s forest forest ok p
  where
    here : (l : Level) (s : Spot) (whole : Forest) (part : Part) (kids floats rest : Forest) → Beside row (con part kids floats end) (Some (spot_of s part)) whole
        → Here (row_length row) l s (con part kids floats rest) (con part kids floats (append row rest))
    here l s whole part kids floats rest ok p =
        let At : Level → Type 0 = λ l. Here (row_length row) l s (con part kids floats rest) (con part kids floats (append row rest)) in
        subst At (con_level l s.tiled s.room part.id part.kind part.marks kids ok.0 p.0)
        (λ q. ((q.0, q.1, q.2, q.3, sound-append containers s.tiled s.room row rest ok.1 q.4), tt, omega (arith, row_length-append row rest))) p

pub sound-put_before : (c : ConId) (row : Forest) (l : Level) (s : Spot) (forest : Forest) → Beside row (only c forest) (spot_in s c forest) (row_with c forest forest) → IsSoundRow l s.tiled s.room forest
    → Grows (row_length row) l s.tiled s.room forest forest (at c before_first row forest) (row_with c forest forest)
sound-put_before c row l s forest ok p = keeps_by IsNode node_keeps c before_first row (row_length row) (Beside row) (λ found sp st h. inr h.2) here l s forest forest ok p
  where
    here : (l : Level) (s : Spot) (whole : Forest) (part : Part) (kids floats rest : Forest) → Beside row (con part kids floats end) (Some (spot_of s part)) whole
        → Here (row_length row) l s (con part kids floats rest) (append row (con part kids floats rest))
    here l s whole part kids floats rest ok p =
        let At : Level → Type 0 = λ l. Here (row_length row) l s (con part kids floats rest) (append row (con part kids floats rest)) in
        subst At (con_level l s.tiled s.room part.id part.kind part.marks kids ok.0 p.0)
        (λ q. (sound-append containers s.tiled s.room row (con part kids floats rest) ok.1 q, tt, omega (arith, row_length-append row (con part kids floats rest)))) p

-- ---- putting among the children of a node

any_kids : (kind : ConKind) (kids : Forest) → IsSplit kind → HasKids kind kids
any_kids (Split layout last) kids h = tt
any_kids (Window props owner natural) kids h = absurd h
any_kids (Placeholder props swallows) kids h = absurd h

-- such a node may have any children
pub node_takes : (l : Level) (tiled : Bool) (room : ℕ) (id : ConId) (kind : NodeKind) (marks : List (List ℕ)) (old new : Forest) → TakesKids kind → IsNode l tiled room id kind marks old
    → IsNode l tiled room id kind marks new × (containers ≡ below l)
node_takes l tiled room id (Root c) marks old new ok h = absurd ok
node_takes l tiled room id (Output o) marks old new ok h = absurd ok
node_takes roots tiled room id (Space w) marks old new ok h = absurd h
node_takes outputs tiled room id (Space w) marks old new ok h = absurd h
node_takes spaces tiled room id (Space w) marks old new ok h = (h, refl)
node_takes containers tiled room id (Space w) marks old new ok h = absurd h
node_takes roots tiled room id (Con c) marks old new ok h = absurd h
node_takes outputs tiled room id (Con c) marks old new ok h = absurd h
node_takes spaces tiled room id (Con c) marks old new ok h = absurd h
node_takes containers tiled room id (Con c) marks old new ok h = ((h.0, h.1, h.2, any_kids c.kind new ok), refl)

-- the row is sound below the node that was found
abbrev pub IsSoundBelow : Bool → Option Spot → Option Part → Forest → Type 0
IsSoundBelow tiled None part row = ⊥
IsSoundBelow tiled (Some s) None row = ⊥
IsSoundBelow tiled (Some s) (Some part) row = IsSoundRow containers tiled (room_below s.room part.kind) row

abbrev pub Under : Forest → Forest → Option Spot → Forest → Type 0
Under row found sp st = TakesFirst (first_part found) × IsSoundBelow true sp (first_part found) row × (row_length (first_kids found) + row_length row ≤ 256)

-- children that are sound where the node takes any
under_here : (row new : Forest) (l : Level) (s : Spot) (whole : Forest) (part : Part) (kids floats rest : Forest) → Under row (con part kids floats end) (Some (spot_of s part)) whole
    → row_length new ≡ row_length kids + row_length row → ((t : Bool) (r : ℕ) → IsSoundRow containers t r kids → IsSoundRow containers t r row → IsSoundRow containers t r new)
    → Here 0 l s (con part kids floats rest) (con part new floats rest)
under_here row new l s whole part kids floats rest ok long joins p =
    let n = node_takes l s.tiled s.room part.id part.kind part.marks kids new ok.0 p.0 in
    let Old : Level → Type 0 = λ m. IsSoundRow m true (room_below s.room part.kind) kids in
    let New : Level → Type 0 = λ m. IsSoundRow m true (room_below s.room part.kind) new in
    let was : IsSoundRow containers true (room_below s.room part.kind) kids = subst Old (sym n.1) p.2 in
    ((n.0, omega (arith, long, ok.2), subst New n.1 (joins true (room_below s.room part.kind) was ok.1), p.3, p.4), behind_row l part part kids floats rest new floats rest refl (same_row l rest), omega arith)

pub sound-put_last : (c : ConId) (row : Forest) (l : Level) (s : Spot) (forest : Forest) → Under row (only c forest) (spot_in s c forest) (row_with c forest forest) → IsSoundRow l s.tiled s.room forest
    → Grows 0 l s.tiled s.room forest forest (at c (λ row part kids floats rest. con part (append kids row) floats rest) row forest) (row_with c forest forest)
sound-put_last c row l s forest ok p =
    keeps_by IsNode node_keeps c (λ row part kids floats rest. con part (append kids row) floats rest) row 0 (Under row) (λ found sp st h. inl refl)
    (λ l s whole part kids floats rest ok. under_here row (append kids row) l s whole part kids floats rest ok (row_length-append kids row) (λ t r a b. sound-append containers t r kids row a b)) l s forest forest ok p

pub sound-put_first : (c : ConId) (row : Forest) (l : Level) (s : Spot) (forest : Forest) → Under row (only c forest) (spot_in s c forest) (row_with c forest forest) → IsSoundRow l s.tiled s.room forest
    → Grows 0 l s.tiled s.room forest forest (at c (λ row part kids floats rest. con part (append row kids) floats rest) row forest) (row_with c forest forest)
sound-put_first c row l s forest ok p =
    keeps_by IsNode node_keeps c (λ row part kids floats rest. con part (append row kids) floats rest) row 0 (Under row) (λ found sp st h. inl refl)
    (λ l s whole part kids floats rest ok. under_here row (append row kids) l s whole part kids floats rest ok (omega (arith, row_length-append row kids)) (λ t r a b. sound-append containers t r row kids b a)) l s forest forest ok p

-- ---- putting among the floating windows of a node, or in the scratchpad

abbrev pub Above : Forest → Forest → Option Spot → Forest → Type 0
Above row found sp st = IsSoundBelow false sp (first_part found) row

pub sound-put_float : (c : ConId) (row : Forest) (l : Level) (s : Spot) (forest : Forest) → Above row (only c forest) (spot_in s c forest) (row_with c forest forest) → IsSoundRow l s.tiled s.room forest
    → Grows 0 l s.tiled s.room forest forest (at c (λ row part kids floats rest. con part kids (append floats row) rest) row forest) (row_with c forest forest)
sound-put_float c row l s forest ok p = keeps_by IsNode node_keeps c (λ row part kids floats rest. con part kids (append floats row) rest) row 0 (Above row) (λ found sp st h. inl refl) here l s forest forest ok p
  where
    here : (l : Level) (s : Spot) (whole : Forest) (part : Part) (kids floats rest : Forest) → Above row (con part kids floats end) (Some (spot_of s part)) whole
        → Here 0 l s (con part kids floats rest) (con part kids (append floats row) rest)
    here l s whole part kids floats rest ok p =
        ((p.0, p.1, p.2, sound-append containers false (room_below s.room part.kind) floats row p.3 ok, p.4), behind_row l part part kids floats rest kids (append floats row) rest refl (same_row l rest), omega arith)
