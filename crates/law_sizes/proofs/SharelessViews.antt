-- What is seen of a forest without its shares, and that shares are all that is missing there.
use Rattle.std.proofs.Common.{◌≡◌, ℕ, ◌≤◌, Bool, true, false, cond, Option, None, Some, refl, ap, sym, ◌∙◌, subst}
use Rattle.law_sizes.specs.Shares.{unshared, unshared_kind}
use Rattle.wm_base.specs.declared.geometry.Axis.{Axis}
use Rattle.wm_base.specs.declared.geometry.Dir.{Dir}
use Rattle.wm_base.specs.declared.ids.ConId.{ConId}
use Rattle.wm_shared.proofs.DownLemmas.{Once, down_floats, down_kids, down_rest, once_floats, once_kids, once_rest}
use Rattle.wm_shared.proofs.KidLemmas.{tiled_in}
use Rattle.wm_shared.specs.Neighbours.{after, before, first_id, neighbour}
use Rattle.wm_sizes.specs.Climbing.{climb, has_two, runs, up_kids}
use Rattle.wm_sizes.specs.declared.climbing.Climbed.{Climbed}
use Rattle.wm_forest.proofs.ForestLemmas.{only_absent}
use Rattle.wm_forest.proofs.RecencyLemmas.{same_self}
use Rattle.wm_forest.specs.Counts.{row_length, share_of}
use Rattle.wm_forest.specs.declared.part.ConPart.{ConPart}
use Rattle.wm_forest.specs.declared.part.NodeKind.{NodeKind}
use Rattle.wm_forest.specs.declared.part.NodeKind.TheVariants.{Root, Output, Space, Con}
use Rattle.wm_forest.specs.declared.part.Part.{Part}
use Rattle.wm_forest.specs.Forest.{Forest, end, con}
use Rattle.wm_forest.specs.Look.{first_floats, first_kids, first_part, has, in_row, only, rest_of, same}
use Rattle.wm_forest.specs.SoundRow.{tally}
use Rattle.wm_tree.specs.TreeValue.{is_con, is_con_kind}

-- ---- views

pub has_un : (i : ConId) (f : Forest) → has i (unshared f) ≡ has i f
has_un i end = refl
has_un i (con part kids floats rest) = rw (has_un i kids, has_un i floats, has_un i rest) refl

pub only_un : (i : ConId) (f : Forest) → only i (unshared f) ≡ unshared (only i f)
only_un i end = refl
only_un i (con part kids floats rest) = rw (has_un i kids, has_un i floats, only_un i kids, only_un i floats, only_un i rest) (by (same part.id i) (has i kids) (has i floats)) where
  by : (a k l : Bool) → cond a (con (record part { kind = unshared_kind part.kind }) (unshared kids) (unshared floats) end) (cond k (unshared (only i kids)) (cond l (unshared (only i floats)) (unshared (only i rest))))
      ≡ unshared (cond a (con part kids floats end) (cond k (only i kids) (cond l (only i floats) (only i rest))))
  by true k l = refl
  by false true l = refl
  by false false true = refl
  by false false false = refl

pub tally_un : (i : ConId) (f : Forest) → tally i (unshared f) ≡ tally i f
tally_un i end = refl
tally_un i (con part kids floats rest) = rw (tally_un i kids, tally_un i floats, tally_un i rest) refl

pub tiled_un : (b : Bool) (i : ConId) (f : Forest) → tiled_in b i (unshared f) ≡ tiled_in b i f
tiled_un b i end = refl
tiled_un b i (con part kids floats rest) = rw (has_un i kids, has_un i floats, tiled_un true i kids, tiled_un false i floats, tiled_un b i rest) refl

pub con_un : (f : Forest) → is_con (first_part (unshared f)) ≡ is_con (first_part f)
con_un end = refl
con_un (con part kids floats rest) = by part.kind where
  by : (kind : NodeKind) → is_con_kind (unshared_kind kind) ≡ is_con_kind kind
  by (Root c) = refl
  by (Output o) = refl
  by (Space s) = refl
  by (Con c) = refl

pub kids_un : (f : Forest) → first_kids (unshared f) ≡ unshared (first_kids f)
kids_un end = refl
kids_un (con part kids floats rest) = refl

pub row_un : (i : ConId) (row : Forest) → in_row i (unshared row) ≡ in_row i row
row_un i end = refl
row_un i (con part kids floats rest) = rw (row_un i rest) refl

pub length_un : (row : Forest) → row_length (unshared row) ≡ row_length row
length_un end = refl
length_un (con part kids floats rest) = rw (length_un rest) refl

id_un : (row : Forest) → first_id (unshared row) ≡ first_id row
id_un end = refl
id_un (con part kids floats rest) = refl

after_un : (c : ConId) (row : Forest) → after c (unshared row) ≡ after c row
after_un c end = refl
after_un c (con part kids floats rest) = rw (id_un rest, after_un c rest) refl

before_un : (c : ConId) (row : Forest) → before c (unshared row) ≡ before c row
before_un c end = refl
before_un c (con part kids floats rest) = rw (id_un rest, before_un c rest) refl

pub neighbour_un : (d : Dir) (c : ConId) (row : Forest) → neighbour d c (unshared row) ≡ neighbour d c row
neighbour_un d c row = rw (after_un c row, before_un c row) refl

two_un : (row : Forest) → has_two (unshared row) ≡ has_two row
two_un end = refl
two_un (con part kids floats end) = refl
two_un (con part kids floats (con p k l r)) = refl

runs_un : (a : Axis) (kind : NodeKind) → runs a (unshared_kind kind) ≡ runs a kind
runs_un a (Root c) = refl
runs_un a (Output o) = refl
runs_un a (Space s) = refl
runs_un a (Con c) = refl

up_un : (a : Axis) (part : Part) (kids : Forest) (x : Option Climbed) → up_kids a (record part { kind = unshared_kind part.kind }) (unshared kids) x ≡ up_kids a part kids x
up_un a part kids None = refl
up_un a part kids (Some x) = rw (runs_un a part.kind, two_un kids) refl

pub climb_un : (a : Axis) (c : ConId) (f : Forest) → climb a c (unshared f) ≡ climb a c f
climb_un a c end = refl
climb_un a c (con part kids floats rest) = rw (climb_un a c kids, climb_un a c floats, climb_un a c rest, up_un a part kids (climb a c kids)) refl

-- ---- two forests that differ in nothing

abbrev pub share_first : Option Part → ℕ
share_first None = 0
share_first (Some part) = share_of part.kind

kind_equal : (a b : NodeKind) → unshared_kind a ≡ unshared_kind b → share_of a ≡ share_of b → a ≡ b
kind_equal (Root a) (Root b) h s = h
kind_equal (Output a) (Output b) h s = h
kind_equal (Space a) (Space b) h s = h
kind_equal (Con a) (Con b) h s =
    let one : record a { share = 0 } ≡ record b { share = 0 } = cc in
    let two : a ≡ record b { share = a.share } = ap (λ (x : ConPart). record x { share = a.share }) one in
    ap (λ (x : ConPart). Con x) (two ∙ ap (λ n. record b { share = n }) s)
kind_equal a b h s = cc

part_equal : (p q : Part) → record p { kind = unshared_kind p.kind } ≡ record q { kind = unshared_kind q.kind } → share_of p.kind ≡ share_of q.kind → p ≡ q
part_equal p q h s =
    let kinds = kind_equal p.kind q.kind (ap (λ (x : Part). x.kind) h) s in
    let one : p ≡ record q { kind = p.kind } = ap (λ (x : Part). record x { kind = p.kind }) h in
    one ∙ ap (λ (k : NodeKind). record q { kind = k }) kinds

once_un : (f g : Forest) → unshared f ≡ unshared g → Once f → Once g
once_un f g e once = λ i. subst (λ (n : ℕ). n ≤ 1) (sym (tally_un i f) ∙ (ap (tally i) e ∙ tally_un i g)) (once i)

-- the share of each id is one in both
abbrev pub AreShared : Forest → Forest → Type 0
AreShared f g = (i : ConId) → share_first (first_part (only i f)) ≡ share_first (first_part (only i g))

-- what is seen of both in a part of each
narrowed : (f g : Forest) → unshared f ≡ unshared g → (i : ConId) → (has i f ≡ true → has i g ≡ true → share_first (first_part (only i f)) ≡ share_first (first_part (only i g))) → share_first (first_part (only i f)) ≡ share_first (first_part (only i g))
narrowed f g e i u = by (has i f) refl where
  there : has i g ≡ has i f
  there = sym (has_un i g) ∙ (ap (has i) (sym e) ∙ has_un i f)

  by : (b : Bool) → has i f ≡ b → share_first (first_part (only i f)) ≡ share_first (first_part (only i g))
  by true h = u h (there ∙ h)
  by false h = rw (only_absent i f h, only_absent i g (there ∙ h)) refl

pub forest_equal : (f g : Forest) → unshared f ≡ unshared g → Once f → AreShared f g → f ≡ g
forest_equal end end e once h = refl
forest_equal end (con q a b d) e once h = cc
forest_equal (con p k l r) end e once h = cc
forest_equal (con p k l r) (con q a b d) e once h =
    let f : Forest = con p k l r in
    let g : Forest = con q a b d in
    let once_g = once_un f g e once in
    let parts : record p { kind = unshared_kind p.kind } ≡ record q { kind = unshared_kind q.kind } = cc in
    let ids : p.id ≡ q.id = ap (λ (x : Part). x.id) parts in
    let mine = same_self p.id p.id refl in
    let its = same_self q.id p.id (sym ids) in
    let shares : share_of p.kind ≡ share_of q.kind = rw (mine, its) at (h p.id) in
    let ek : unshared k ≡ unshared a = ap first_kids e in
    let el : unshared l ≡ unshared b = ap first_floats e in
    let er : unshared r ≡ unshared d = ap rest_of e in
    let Seen : Forest → ℕ = λ x. share_first (first_part x) in
    let one = part_equal p q parts shares in
    let two = forest_equal k a ek (once_kids p k l r once) (λ i. narrowed k a ek i (λ x y. ap Seen (sym (down_kids p k l r once i x)) ∙ (h i ∙ ap Seen (down_kids q a b d once_g i y)))) in
    let three = forest_equal l b el (once_floats p k l r once) (λ i. narrowed l b el i (λ x y. ap Seen (sym (down_floats p k l r once i x)) ∙ (h i ∙ ap Seen (down_floats q a b d once_g i y)))) in
    let four = forest_equal r d er (once_rest p k l r once) (λ i. narrowed r d er i (λ x y. ap Seen (sym (down_rest p k l r once i x)) ∙ (h i ∙ ap Seen (down_rest q a b d once_g i y)))) in
    rw (one, two, three, four) refl
