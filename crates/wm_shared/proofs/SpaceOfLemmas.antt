-- What is below a container or workspace is in the same workspace.
use Rattle.std.proofs.Common.{◌≡◌, ℕ, ◌≤◌, Bool, true, false, cond, ◌||◌, List, Option, None, Some, refl, ap, sym, ◌∙◌, subst, arith}
use Rattle.std.specs.Prelude.{option_and_then}
use Rattle.wm_base.specs.declared.ids.ConId.{ConId}
use Rattle.wm_forest.proofs.ChangeLemmas.{by_place}
use Rattle.wm_forest.proofs.OnceLemmas.{in_floats, in_kids, in_rest, spot_floats, spot_kids, spot_rest}
use Rattle.wm_forest.specs.declared.part.NodeKind.{NodeKind}
use Rattle.wm_forest.specs.declared.part.NodeKind.TheVariants.{Root, Output, Space, Con}
use Rattle.wm_forest.specs.declared.part.Part.{Part}
use Rattle.wm_forest.specs.declared.spot.Spot.{Spot}
use Rattle.wm_forest.specs.Forest.{Forest, end, con}
use Rattle.wm_forest.specs.Look.{first_part, has, only, same}
use Rattle.wm_forest.specs.SoundRow.{Level, roots, outputs, spaces, containers, below, IsNode, IsSoundRow, tally}
use Rattle.wm_tree.specs.Sound.{IsSound}
use Rattle.wm_forest.specs.Spot.{room_below, space_at, space_by, spot_below, spot_in, spot_of, top}
use Rattle.wm_tree.specs.TreeValue.{TreeValue, workspace_of}

-- the workspace of a spot
abbrev spaced : Option Spot → Option ConId
spaced sp = option_and_then (λ (s : Spot). s.space) sp

con_space : (tiled : Bool) (room : ℕ) (id : ConId) (kind : NodeKind) (marks : List (List ℕ)) (kids : Forest) (space : Option ConId) → IsNode containers tiled room id kind marks kids → space_by space id kind ≡ space
con_space tiled room id (Root c) marks kids space n = absurd n
con_space tiled room id (Output o) marks kids space n = absurd n
con_space tiled room id (Space w) marks kids space n = absurd n
con_space tiled room id (Con c) marks kids space n = refl

-- what is among containers is in the workspace of their row
pub low_space : (d : ConId) (s : Spot) (tiled : Bool) (room : ℕ) (row : Forest) → IsSoundRow containers tiled room row → has d row ≡ true → spaced (spot_in s d row) ≡ s.space
low_space d s tiled room end p h = cc
low_space d s tiled room (con part kids floats rest) p h =
    step (same part.id d) (has d kids) (has d floats) h (low_space d (spot_below true s part) true (room_below room part.kind) kids p.2) (low_space d (spot_below false s part) false (room_below room part.kind) floats p.3)
    (low_space d s tiled room rest p.4)
  where
    own : space_at s.space part ≡ s.space
    own = con_space tiled room part.id part.kind part.marks kids s.space p.0

    step : (a k l : Bool) → (a || k || l || has d rest) ≡ true → (k ≡ true → spaced (spot_in (spot_below true s part) d kids) ≡ space_at s.space part) → (l ≡ true → spaced (spot_in (spot_below false s part) d floats) ≡ space_at s.space part)
        → (has d rest ≡ true → spaced (spot_in s d rest) ≡ s.space)
        → spaced (cond a (Some (spot_of s part)) (cond k (spot_in (spot_below true s part) d kids) (cond l (spot_in (spot_below false s part) d floats) (spot_in s d rest)))) ≡ s.space
    step true k l h u v x = own
    step false true l h u v x = u refl ∙ own
    step false false true h u v x = v refl ∙ own
    step false false false h u v x = x h

-- a workspace or a container
abbrev pub LowKind : NodeKind → Type 0
LowKind (Root c) = ⊥
LowKind (Output o) = ⊥
LowKind (Space w) = Unit {0}
LowKind (Con c) = Unit {0}

abbrev pub IsLow : Option Part → Type 0
IsLow None = ⊥
IsLow (Some part) = LowKind part.kind

low_level : (l : Level) (tiled : Bool) (room : ℕ) (id : ConId) (kind : NodeKind) (marks : List (List ℕ)) (kids : Forest) → LowKind kind → IsNode l tiled room id kind marks kids → containers ≡ below l
low_level l tiled room id (Root c) marks kids ok n = absurd ok
low_level l tiled room id (Output o) marks kids ok n = absurd ok
low_level roots tiled room id (Space w) marks kids ok n = absurd n
low_level outputs tiled room id (Space w) marks kids ok n = absurd n
low_level spaces tiled room id (Space w) marks kids ok n = refl
low_level containers tiled room id (Space w) marks kids ok n = absurd n
low_level roots tiled room id (Con c) marks kids ok n = absurd n
low_level outputs tiled room id (Con c) marks kids ok n = absurd n
low_level spaces tiled room id (Con c) marks kids ok n = absurd n
low_level containers tiled room id (Con c) marks kids ok n = refl

module _ (c d : ConId) where
  abbrev Same : Level → Spot → Forest → Forest → Forest → Forest → Option Spot → Forest → Type 0
  Same l s whole old new found sp st = IsLow (first_part found) → has d found ≡ true → tally d old ≤ 1 → IsSoundRow l s.tiled s.room old → (has d old ≡ true) × (spaced (spot_in s d old) ≡ spaced sp)

  here : (l : Level) (s : Spot) (whole : Forest) (part : Part) (kids floats rest : Forest) → Same l s whole (con part kids floats rest) rest (con part kids floats end) (Some (spot_of s part)) whole
  here l s whole part kids floats rest ok h once p = (there (same part.id d) (has d kids) (has d floats) (has d rest) h, step (same part.id d) (has d kids) (has d floats) h (low_space d (spot_below true s part) true (room_below s.room part.kind) kids kids_sound) (low_space d (spot_below false s part) false (room_below s.room part.kind) floats p.3))
    where
      kids_sound : IsSoundRow containers true (room_below s.room part.kind) kids
      kids_sound = let Kids : Level → Type 0 = λ m. IsSoundRow m true (room_below s.room part.kind) kids in subst Kids (sym (low_level l s.tiled s.room part.id part.kind part.marks kids ok p.0)) p.2

      there : (a k l r : Bool) → (a || k || l || false) ≡ true → (a || k || l || r) ≡ true
      there true k l r h = refl
      there false true l r h = refl
      there false false true r h = refl
      there false false false r h = cc

      step : (a k l : Bool) → (a || k || l || false) ≡ true → (k ≡ true → spaced (spot_in (spot_below true s part) d kids) ≡ space_at s.space part) → (l ≡ true → spaced (spot_in (spot_below false s part) d floats) ≡ space_at s.space part)
          → spaced (cond a (Some (spot_of s part)) (cond k (spot_in (spot_below true s part) d kids) (cond l (spot_in (spot_below false s part) d floats) (spot_in s d rest)))) ≡ space_at s.space part
      step true k l h u v = refl
      step false true l h u v = u refl
      step false false true h u v = v refl
      step false false false h u v = cc

  same_spot : (l : Level) (s : Spot) (forest : Forest) → IsLow (first_part (only c forest)) → has d (only c forest) ≡ true → tally d forest ≤ 1 → IsSoundRow l s.tiled s.room forest
      → (has d forest ≡ true) × (spaced (spot_in s d forest) ≡ spaced (spot_in s c forest))
  same_spot l s forest =
      by_place c (λ row part kids floats rest. rest) end Same
      (λ l s whole ok h once p. absurd ok)
      here
      (λ l s whole part kids floats rest new found sp st ih ok h once p.
      let g = ih ok h (omega (arith, once)) p.2 in (in_kids d part kids floats rest g.0, ap (λ z. spaced z) (spot_kids d s part kids floats rest once g.0) ∙ g.1))
      (λ l s whole part kids floats rest new found sp st ih ok h once p.
      let g = ih ok h (omega (arith, once)) p.3 in (in_floats d part kids floats rest g.0, ap (λ z. spaced z) (spot_floats d s part kids floats rest once g.0) ∙ g.1))
      (λ l s whole part kids floats rest new found sp st ih ok h once p.
      let g = ih ok h (omega (arith, once)) p.4 in (in_rest d part kids floats rest g.0, ap (λ z. spaced z) (spot_rest d s part kids floats rest once g.0) ∙ g.1)) l s forest forest

-- what is below a workspace or container is in its workspace
pub below_space : (c d : ConId) (t : TreeValue) → IsSound t → IsLow (first_part (only c t.nodes)) → has d (only c t.nodes) ≡ true → workspace_of t d ≡ workspace_of t c
below_space c d t s ok h = (same_spot c d roots top t.nodes ok h (s.once d) s.shaped).1
