-- What holds of a sound tree, and lasts when the gaps of one node change, lasts when all gaps change.
use Rattle.std.proofs.Common.{◌≡◌, ℕ, true, false, refl, ap, ◌∙◌, subst}
use Rattle.wm_base.specs.declared.ids.ConId.{ConId}
use Rattle.wm_sizes.proofs.AllGapLemmas.{GapWord, all, has_all}
use Rattle.wm_forest.proofs.OnceLemmas as found
use Rattle.wm_forest.proofs.RecencyLemmas.{same_self}
use Rattle.wm_shared.proofs.DownLemmas.{Once, in_floats, in_kids, in_rest, once_floats, once_kids, once_rest}
use Rattle.wm_forest.specs.Change.{at}
use Rattle.wm_forest.specs.declared.kind.KindEdit.TheVariants as edits
use Rattle.wm_forest.specs.declared.part.NodeKind.{NodeKind}
use Rattle.wm_forest.specs.declared.part.NodeKind.TheVariants.{Root, Output, Space, Con}
use Rattle.wm_forest.specs.declared.part.Part.{Part}
use Rattle.wm_forest.specs.Forest.{Forest, end, con}
use Rattle.wm_forest.specs.Counts.{count}
use Rattle.wm_forest.specs.Kinds.{changed, kind_changed}
use Rattle.wm_forest.specs.Look.{has, same}
use Rattle.wm_tree.specs.Gaps.{kind_gapped, part_gapped}
use Rattle.wm_tree.specs.Sound.{IsSound}
use Rattle.wm_tree.specs.TreeValue.{TreeValue}
use Rattle.wm_tree.specs.Words.{edited}

-- the node w has these gaps
abbrev gap_at : ConId → ℕ → ℕ → Forest → Forest
gap_at w a b f = at w kind_changed (edits.Gaps a b) f

abbrev SameIds : Forest → Forest → Type 0
SameIds new old = (i : ConId) → has i new ≡ has i old

-- a forest with a hole, in which rows with the ids of f are; where a node of such a row changes, that is the only one
abbrev IsPlace : (Forest → Forest) → Forest → Type 0
IsPlace K f = (w : ConId) (a b : ℕ) (x : Forest) → SameIds x f → has w f ≡ true → gap_at w a b (K x) ≡ K (gap_at w a b x)

-- the same hole around the children, the floating windows and the rest of a row
module _ (part : Part) (kids floats rest : Forest) (once : Once (con part kids floats rest)) (K : Forest → Forest) (p : IsPlace K (con part kids floats rest)) where
  place_kids : IsPlace (λ x. K (con part x floats rest)) kids
  place_kids w a b x same_ids h =
      let there : has w x ≡ true = same_ids w ∙ h in
      p w a b (con part x floats rest) (λ i. rw (same_ids i) refl) (found.in_kids w part kids floats rest h) ∙ ap K (rw (in_kids part kids floats rest once w h, there) refl)

  place_floats : (k : Forest) → SameIds k kids → IsPlace (λ x. K (con part k x rest)) floats
  place_floats k same_kids w a b x same_ids h =
      let n = in_floats part kids floats rest once w h in
      let there : has w x ≡ true = same_ids w ∙ h in
      let apart : has w k ≡ false = same_kids w ∙ n.1 in
      p w a b (con part k x rest) (λ i. rw (same_kids i, same_ids i) refl) (found.in_floats w part kids floats rest h) ∙ ap K (rw (n.0, apart, there) refl)

  place_rest : (k l : Forest) → SameIds k kids → SameIds l floats → IsPlace (λ x. K (con part k l x)) rest
  place_rest k l same_kids same_floats w a b x same_ids h =
      let n = in_rest part kids floats rest once w h in
      let apart : has w k ≡ false = same_kids w ∙ n.1 in
      let afar : has w l ≡ false = same_floats w ∙ n.2 in
      p w a b (con part k l x) (λ i. rw (same_kids i, same_floats i, same_ids i) refl) (found.in_rest w part kids floats rest h) ∙ ap K (rw (n.0, apart, afar) refl)

module _ (P : Forest → Type 0) (step : (w : ConId) (a b : ℕ) (f : Forest) → P f → P (gap_at w a b f)) (g : GapWord) where
  own_gap : (K : Forest → Forest) (part : Part) (kids floats rest k l r : Forest) → IsPlace K (con part kids floats rest) → SameIds k kids → SameIds l floats → SameIds r rest → P (K (con part k l r)) → P (K (con (part_gapped g part) k l r))
  own_gap K part kids floats rest k l r p ek el er h = by part.kind refl
    where
      self : same part.id part.id ≡ true
      self = same_self part.id part.id refl

      by : (kind : NodeKind) → part.kind ≡ kind → P (K (con (record part { kind = kind_gapped g kind }) k l r))
      by (Root c) e = rw (← e) h
      by (Output o) e = rw (← e) h
      by (Con c) e = rw (← e) h
      by (Space s) e =
          let a : ℕ = (g s.inner s.outer).0 in
          let b : ℕ = (g s.inner s.outer).1 in
          let there : has part.id (con part kids floats rest) ≡ true = rw self refl in
          let one : gap_at part.id a b (K (con part k l r)) ≡ K (con (record part { kind = kind_gapped g (Space s) }) k l r) =
          p part.id a b (con part k l r) (λ i. rw (ek i, el i, er i) refl) there ∙ ap K (rw (self, e) refl) in
          subst P one (step part.id a b (K (con part k l r)) h)

  stepped : (K : Forest → Forest) (f : Forest) → Once f → IsPlace K f → P (K f) → P (K (all g f))
  stepped K end once p h = h
  stepped K (con part kids floats rest) once p h =
      let one : P (K (con part (all g kids) floats rest)) =
      stepped (λ x. K (con part x floats rest)) kids (once_kids part kids floats rest once) (place_kids part kids floats rest once K p) h in
      let two : P (K (con part (all g kids) (all g floats) rest)) =
      stepped (λ x. K (con part (all g kids) x rest)) floats (once_floats part kids floats rest once) (place_floats part kids floats rest once K p (all g kids) (λ i. has_all g i kids)) one in
      let three : P (K (con part (all g kids) (all g floats) (all g rest))) =
      stepped (λ x. K (con part (all g kids) (all g floats) x)) rest (once_rest part kids floats rest once) (place_rest part kids floats rest once K p (all g kids) (all g floats) (λ i. has_all g i kids) (λ i. has_all g i floats)) two in
      own_gap K part kids floats rest (all g kids) (all g floats) (all g rest) p (λ i. has_all g i kids) (λ i. has_all g i floats) (λ i. has_all g i rest) three

-- what lasts when the gaps of one node change lasts when those of all workspaces do
pub gaps_last : (P : TreeValue → Type 0) → ((w : ConId) (a b : ℕ) (t : TreeValue) → P t → P (edited w (edits.Gaps a b) t)) → (g : GapWord) (t : TreeValue) → IsSound t → P t → P (record t { nodes = all g t.nodes })
gaps_last P step g t s h = stepped (λ f. P (record t { nodes = f })) (λ w a b f. step w a b (record t { nodes = f })) g (λ f. f) t.nodes s.once (λ w a b x e i. refl) h

-- ---- counts

-- what counts a node alike whatever its gaps are counts a forest alike
own_count : (m : Part → ℕ) → ((a b : ℕ) (p : Part) → m (record p { kind = changed (edits.Gaps a b) p.kind }) ≡ m p) → (g : GapWord) (p : Part) → m (part_gapped g p) ≡ m p
own_count m h g p = by p.kind refl
  where
    by : (kind : NodeKind) → p.kind ≡ kind → m (record p { kind = kind_gapped g kind }) ≡ m p
    by (Root c) e = rw (← e) refl
    by (Output o) e = rw (← e) refl
    by (Con c) e = rw (← e) refl
    by (Space s) e =
        let a : ℕ = (g s.inner s.outer).0 in
        let b : ℕ = (g s.inner s.outer).1 in
        subst (λ (kind : NodeKind). m (record p { kind = changed (edits.Gaps a b) kind }) ≡ m p) e (h a b p)

pub count_all : (m : Part → ℕ) → ((a b : ℕ) (p : Part) → m (record p { kind = changed (edits.Gaps a b) p.kind }) ≡ m p) → (g : GapWord) (f : Forest) → count m (all g f) ≡ count m f
count_all m h g end = refl
count_all m h g (con part kids floats rest) = rw (own_count m h g part, count_all m h g kids, count_all m h g floats, count_all m h g rest) refl
