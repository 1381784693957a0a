-- A change of all gaps leaves each node where it stands, and changes of a workspace the gaps alone.
use Rattle.std.proofs.Common.{◌≡◌, Bool, true, false, cond, refl, subst, sym}
use Rattle.std.specs.Option.{option_map}
use Rattle.std.specs.Prelude.{ℕ}
use Rattle.wm_base.specs.declared.ids.ConId.{ConId}
use Rattle.wm_sizes.specs.declared.gaps.Change.{Change}
use Rattle.wm_sizes.specs.Gaps.{AllGapped, all_gapped, gapped}
use Rattle.wm_forest.specs.declared.part.NodeKind.{NodeKind}
use Rattle.wm_forest.specs.declared.part.NodeKind.TheVariants.{Root, Output, Space, Con}
use Rattle.wm_forest.specs.declared.part.Part.{Part}
use Rattle.wm_forest.specs.declared.part.SpacePart.{SpacePart}
use Rattle.wm_forest.specs.declared.spot.Spot.{Spot}
use Rattle.wm_forest.specs.Each.{mapped}
use Rattle.wm_forest.specs.Forest.{Forest, end, con}
use Rattle.wm_forest.specs.Look.{con_kind, first_part, has, kind_by, only, same, space_kind}
use Rattle.wm_forest.specs.Spot.{spot_below, spot_in, spot_of}
use Rattle.wm_tree.specs.Gaps.{kind_gapped, part_gapped}
use Rattle.wm_tree.specs.TreeValue.{TreeValue}

-- what makes an inner and an outer gap of two others
abbrev pub GapWord : Type 0
GapWord = ℕ → ℕ → ℕ × ℕ

-- a forest with all gaps changed
abbrev pub all : GapWord → Forest → Forest
all g f = mapped (part_gapped g) f

-- ---- where nodes are

pub has_all : (g : GapWord) (c : ConId) (f : Forest) → has c (all g f) ≡ has c f
has_all g c end = refl
has_all g c (con part kids floats rest) = rw (has_all g c kids, has_all g c floats, has_all g c rest) refl

pub only_all : (g : GapWord) (c : ConId) (f : Forest) → only c (all g f) ≡ all g (only c f)
only_all g c end = refl
only_all g c (con part kids floats rest) =
    rw (has_all g c kids, has_all g c floats) (step (same part.id c) (has c kids) (has c floats) (only_all g c kids) (only_all g c floats) (only_all g c rest))
  where
    step : (a k l : Bool) → only c (all g kids) ≡ all g (only c kids) → only c (all g floats) ≡ all g (only c floats) → only c (all g rest) ≡ all g (only c rest)
        → cond a (con (part_gapped g part) (all g kids) (all g floats) end) (cond k (only c (all g kids)) (cond l (only c (all g floats)) (only c (all g rest))))
        ≡ all g (cond a (con part kids floats end) (cond k (only c kids) (cond l (only c floats) (only c rest))))
    step true k l x y z = refl
    step false true l x y z = x
    step false false true x y z = y
    step false false false x y z = z

below_all : (g : GapWord) (tiled : Bool) (s : Spot) (part : Part) → spot_below tiled s (part_gapped g part) ≡ spot_below tiled s part
below_all g tiled s part = by part.kind refl
  where
    by : (kind : NodeKind) → part.kind ≡ kind → spot_below tiled s (part_gapped g part) ≡ spot_below tiled s part
    by (Root c) e = rw e refl
    by (Output o) e = rw e refl
    by (Space w) e = rw e refl
    by (Con c) e = rw e refl

of_all : (g : GapWord) (s : Spot) (part : Part) → spot_of s (part_gapped g part) ≡ spot_of s part
of_all g s part = by part.kind refl
  where
    by : (kind : NodeKind) → part.kind ≡ kind → spot_of s (part_gapped g part) ≡ spot_of s part
    by (Root c) e = rw e refl
    by (Output o) e = rw e refl
    by (Space w) e = rw e refl
    by (Con c) e = rw e refl

pub spot_all : (g : GapWord) (s : Spot) (c : ConId) (f : Forest) → spot_in s c (all g f) ≡ spot_in s c f
spot_all g s c end = refl
spot_all g s c (con part kids floats rest) =
    rw (has_all g c kids, has_all g c floats, of_all g s part, below_all g true s part, below_all g false s part, spot_all g (spot_below true s part) c kids, spot_all g (spot_below false s part) c floats, spot_all g s c rest) refl

-- ---- what nodes are

abbrev regap : GapWord → SpacePart → SpacePart
regap g s = record s { inner = (g s.inner s.outer).0; outer = (g s.inner s.outer).1 }

first_space : (g : GapWord) (f : Forest) → kind_by space_kind (first_part (all g f)) ≡ option_map (regap g) (kind_by space_kind (first_part f))
first_space g end = refl
first_space g (con part kids floats rest) = by part.kind
  where
    by : (kind : NodeKind) → space_kind (kind_gapped g kind) ≡ option_map (regap g) (space_kind kind)
    by (Root c) = refl
    by (Output o) = refl
    by (Space s) = refl
    by (Con c) = refl

first_con : (g : GapWord) (f : Forest) → kind_by con_kind (first_part (all g f)) ≡ kind_by con_kind (first_part f)
first_con g end = refl
first_con g (con part kids floats rest) = by part.kind
  where
    by : (kind : NodeKind) → con_kind (kind_gapped g kind) ≡ con_kind kind
    by (Root c) = refl
    by (Output o) = refl
    by (Space s) = refl
    by (Con c) = refl

-- a container is as it was
pub con_all : (g : GapWord) (c : ConId) (f : Forest) → kind_by con_kind (first_part (only c (all g f))) ≡ kind_by con_kind (first_part (only c f))
con_all g c f = rw (only_all g c f) (first_con g (only c f))

-- a workspace is as it was but for its gaps
pub space_all : (g : GapWord) (c : ConId) (f : Forest) → kind_by space_kind (first_part (only c (all g f))) ≡ option_map (regap g) (kind_by space_kind (first_part (only c f)))
space_all g c f = rw (only_all g c f) (first_space g (only c f))

pub all_by : (ch : Change) (t new : TreeValue) → new ≡ all_gapped ch t → AllGapped ch t new
all_by ch t new e = subst (AllGapped ch t) (sym e) (λ w. space_all (gapped ch) w t.nodes)
