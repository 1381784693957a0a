-- A change at one node keeps what holds of the rows of every tree.
use Rattle.std.proofs.Common.{◌≡◌, ℕ, ◌+◌, ◌≤◌, Bool, true, false, ◌||◌, ◌⊎◌, inl, inr, ⊎_elim, List, Option, Some, refl, ap, arith}
use Rattle.wm_base.specs.declared.ids.ConId.{ConId}
use Rattle.wm_forest.specs.declared.part.Part.{Part}
use Rattle.wm_forest.specs.declared.part.ConKind.{ConKind}
use Rattle.wm_forest.specs.declared.part.ConKind.TheVariants.{Split, Window, Placeholder}
use Rattle.wm_forest.specs.declared.part.NodeKind.{NodeKind}
use Rattle.wm_forest.specs.declared.part.NodeKind.TheVariants.{Root, Output, Space, Con}
use Rattle.wm_forest.specs.declared.spot.Spot.{Spot}
use Rattle.wm_forest.specs.Forest.{Forest, end, con}
use Rattle.wm_forest.specs.Change.{at}
use Rattle.wm_forest.specs.Counts.{row_length, row_with}
use Rattle.wm_forest.specs.Look.{same, only, in_row}
use Rattle.wm_forest.specs.SoundRow.{Level, roots, outputs, spaces, containers, below, HasKids, IsNode, RowOf}
use Rattle.wm_forest.specs.Spot.{spot_below, spot_in, spot_of}
use Rattle.wm_forest.proofs.ChangeLemmas.{by_place}

-- a row above the containers keeps its nodes
abbrev pub KeepsRow : Level → Forest → Forest → Type 0
KeepsRow roots old new = (i : ConId) → in_row i old ≡ true → in_row i new ≡ true
KeepsRow outputs old new = (i : ConId) → in_row i old ≡ true → in_row i new ≡ true
KeepsRow spaces old new = (i : ConId) → in_row i old ≡ true → in_row i new ≡ true
KeepsRow containers old new = Unit {0}

pub same_row : (l : Level) (f : Forest) → KeepsRow l f f
same_row roots f = λ i h. h
same_row outputs f = λ i h. h
same_row spaces f = λ i h. h
same_row containers f = tt

pub or_keeps : (a b c : Bool) → (b ≡ true → c ≡ true) → (a || b) ≡ true → (a || c) ≡ true
or_keeps true b c f h = refl
or_keeps false b c f h = f h

-- a row whose rest keeps its nodes, behind a node with the same id
pub behind_row : (l : Level) (part other : Part) (kids floats rest kids' floats' rest' : Forest) → part.id ≡ other.id → KeepsRow l rest rest'
    → KeepsRow l (con part kids floats rest) (con other kids' floats' rest')
behind_row roots part other kids floats rest kids' floats' rest' e h = λ i there. rw (← e) (or_keeps (same part.id i) (in_row i rest) (in_row i rest') (h i) there)
behind_row outputs part other kids floats rest kids' floats' rest' e h = λ i there. rw (← e) (or_keeps (same part.id i) (in_row i rest) (in_row i rest') (h i) there)
behind_row spaces part other kids floats rest kids' floats' rest' e h = λ i there. rw (← e) (or_keeps (same part.id i) (in_row i rest) (in_row i rest') (h i) there)
behind_row containers part other kids floats rest kids' floats' rest' e h = tt

pub kids_keep : (kind : ConKind) (old new : Forest) → (old ≡ end → new ≡ end) → HasKids kind old → HasKids kind new
kids_keep (Split layout last) old new ends h = tt
kids_keep (Window props owner natural) old new ends h = ends h
kids_keep (Placeholder props swallows) old new ends h = ends h

-- a node whose children keep their nodes
pub node_keeps : (l : Level) (tiled : Bool) (room : ℕ) (id : ConId) (kind : NodeKind) (marks : List (List ℕ)) (old new : Forest) → KeepsRow (below l) old new → (old ≡ end → new ≡ end)
    → IsNode l tiled room id kind marks old → IsNode l tiled room id kind marks new
node_keeps roots tiled room id (Root c) marks old new keeps ends h = (h.0, keeps c h.1, h.2)
node_keeps roots tiled room id (Output o) marks old new keeps ends h = h
node_keeps roots tiled room id (Space w) marks old new keeps ends h = h
node_keeps roots tiled room id (Con c) marks old new keeps ends h = h
node_keeps outputs tiled room id (Root c) marks old new keeps ends h = h
node_keeps outputs tiled room id (Output o) marks old new keeps ends h = (h.0, keeps o.shown h.1, h.2)
node_keeps outputs tiled room id (Space w) marks old new keeps ends h = h
node_keeps outputs tiled room id (Con c) marks old new keeps ends h = h
node_keeps spaces tiled room id (Root c) marks old new keeps ends h = h
node_keeps spaces tiled room id (Output o) marks old new keeps ends h = h
node_keeps spaces tiled room id (Space w) marks old new keeps ends h = h
node_keeps spaces tiled room id (Con c) marks old new keeps ends h = h
node_keeps containers tiled room id (Root c) marks old new keeps ends h = h
node_keeps containers tiled room id (Output o) marks old new keeps ends h = h
node_keeps containers tiled room id (Space w) marks old new keeps ends h = h
node_keeps containers tiled room id (Con c) marks old new keeps ends h = (h.0, h.1, h.2, kids_keep c.kind old new ends h.3)

-- a row after a change that adds at most d nodes to the row `st` in which it is made
pub record GrowsBy (N : Level → Bool → ℕ → ConId → NodeKind → List (List ℕ) → Forest → Type 0) (d : ℕ) (l : Level) (tiled : Bool) (room : ℕ) (whole old new st : Forest) : Type 0 where
  pub sound : RowOf N l tiled room new
  pub keeps : KeepsRow l old new
  pub ends : old ≡ end → new ≡ end
  pub grows : (row_length new ≤ row_length old) ⊎ ((st ≡ whole) × (row_length new ≤ row_length old + d))

abbrev pub Grows : ℕ → Level → Bool → ℕ → Forest → Forest → Forest → Forest → Type 0
Grows d l tiled room whole old new st = GrowsBy IsNode d l tiled room whole old new st

-- a change that keeps what holds of a row where it is made keeps it everywhere; Allowed is what it needs of the node, its spot and its row
module _ (N : Level → Bool → ℕ → ConId → NodeKind → List (List ℕ) → Forest → Type 0)
    (keeps_node : (l : Level) (tiled : Bool) (room : ℕ) (id : ConId) (kind : NodeKind) (marks : List (List ℕ)) (old new : Forest) → KeepsRow (below l) old new → (old ≡ end → new ≡ end) → N l tiled room id kind marks old → N l tiled room id kind marks new)
    {X : Type 0} (c : ConId) (f : X → Part → Forest → Forest → Forest → Forest) (x : X) (d : ℕ) (Allowed : Forest → Option Spot → Forest → Type 0)
    (room_left : (found : Forest) (sp : Option Spot) (st : Forest) → Allowed found sp st → (d ≡ 0) ⊎ (row_length st + d ≤ 256))
    (here : (l : Level) (s : Spot) (whole : Forest) (part : Part) (kids floats rest : Forest) → Allowed (con part kids floats end) (Some (spot_of s part)) whole → RowOf N l s.tiled s.room (con part kids floats rest)
    → RowOf N l s.tiled s.room (f x part kids floats rest) × KeepsRow l (con part kids floats rest) (f x part kids floats rest) × (row_length (f x part kids floats rest) ≤ row_length (con part kids floats rest) + d))
  where
    abbrev Kept : Level → Spot → Forest → Forest → Forest → Forest → Option Spot → Forest → Type 0
    Kept l s whole old new found sp st = Allowed found sp st → RowOf N l s.tiled s.room old → GrowsBy N d l s.tiled s.room whole old new st

    -- a row below a node has room for what is put into it
    short : (old new st : Forest) → row_length old ≤ 256 → (d ≡ 0) ⊎ (row_length st + d ≤ 256) → (row_length new ≤ row_length old) ⊎ ((st ≡ old) × (row_length new ≤ row_length old + d)) → row_length new ≤ 256
    short old new st few room g =
        ⊎_elim (λ le. omega (arith, le))
        (λ e. ⊎_elim (λ none. omega (arith, none, e.1)) (λ left. let one : row_length st ≡ row_length old = ap row_length e.0 in omega (arith, left, e.1)) room) g

    in_kids : (l : Level) (s : Spot) (whole : Forest) (part : Part) (kids floats rest new found : Forest) (sp : Option Spot) (st : Forest) → Kept (below l) (spot_below true s part) kids kids new found sp st
        → Kept l s whole (con part kids floats rest) (con part new floats rest) found sp st
    in_kids l s whole part kids floats rest new found sp st h ok p =
        let g = h ok p.2 in
        record {
          sound = (keeps_node l s.tiled s.room part.id part.kind part.marks kids new g.keeps g.ends p.0, short kids new st p.1 (room_left found sp st ok) g.grows, g.sound, p.3, p.4);
          keeps = behind_row l part part kids floats rest new floats rest refl (same_row l rest);
          ends = λ e. cc;
          grows = inl (omega arith);
        }

    in_floats : (l : Level) (s : Spot) (whole : Forest) (part : Part) (kids floats rest new found : Forest) (sp : Option Spot) (st : Forest) → Kept containers (spot_below false s part) floats floats new found sp st
        → Kept l s whole (con part kids floats rest) (con part kids new rest) found sp st
    in_floats l s whole part kids floats rest new found sp st h ok p =
        let g = h ok p.3 in
        record {
          sound = (p.0, p.1, p.2, g.sound, p.4);
          keeps = behind_row l part part kids floats rest kids new rest refl (same_row l rest);
          ends = λ e. cc;
          grows = inl (omega arith);
        }

    behind : (l : Level) (s : Spot) (whole : Forest) (part : Part) (kids floats rest new found : Forest) (sp : Option Spot) (st : Forest) → Kept l s whole rest new found sp st
        → Kept l s whole (con part kids floats rest) (con part kids floats new) found sp st
    behind l s whole part kids floats rest new found sp st h ok p =
        let g = h ok p.4 in
        record {
          sound = (p.0, p.1, p.2, p.3, g.sound);
          keeps = behind_row l part part kids floats rest kids floats new refl g.keeps;
          ends = λ e. cc;
          grows = ⊎_elim (λ le. inl (omega (arith, le))) (λ e. inr (e.0, omega (arith, e.1))) g.grows;
        }

    pub keeps_by : (l : Level) (s : Spot) (whole forest : Forest) → Kept l s whole forest (at c f x forest) (only c forest) (spot_in s c forest) (row_with c whole forest)
    keeps_by =
        by_place c f x Kept
        (λ l s whole ok p. record { sound = p; keeps = same_row l end; ends = λ e. e; grows = inl (omega arith) })
        (λ l s whole part kids floats rest ok p. let h = here l s whole part kids floats rest ok p in record { sound = h.0; keeps = h.1; ends = λ e. cc; grows = inr (refl, h.2) })
        in_kids in_floats behind
