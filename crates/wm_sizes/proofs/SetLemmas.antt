-- Other shares of tiled containers keep a tree sound.
use Rattle.std.proofs.Common.{◌≡◌, ℕ, ◌≤◌, Bool, true, false, cond, ◌||◌, List, [], ◌∷◌, refl, ap, sym, ◌∙◌, subst}
use Rattle.wm_base.specs.declared.ids.ConId.{ConId}
use Rattle.wm_shared.proofs.KidLemmas.{kid_of, spot_tiled, tiled_in}
use Rattle.wm_sizes.proofs.BoolLemmas.{both}
use Rattle.wm_sizes.proofs.HandLemmas.{fitting}
use Rattle.wm_sizes.specs.declared.climbing.Rung.{Rung}
use Rattle.wm_sizes.specs.declared.deals.Deal.{Deal}
use Rattle.wm_sizes.specs.Deals.{dealt, fits, fits_all, share_after, siblings, turn_after}
use Rattle.wm_sizes.specs.Tiled.{HasFamily, IsReady, children_of, shares_set}
use Rattle.wm_forest.proofs.EditLemmas.{fits_share}
use Rattle.wm_forest.proofs.RecencyLemmas.{same_self}
use Rattle.wm_tree.proofs.SoundLemmas.{sound-edited}
use Rattle.wm_forest.specs.Change.{at}
use Rattle.wm_forest.specs.declared.kind.KindEdit.{KindEdit}
use Rattle.wm_forest.specs.declared.kind.KindEdit.TheVariants as edits
use Rattle.wm_forest.specs.declared.shares.Sibling.{Sibling}
use Rattle.wm_forest.specs.Forest.{Forest, end, con}
use Rattle.wm_forest.specs.Kinds.{changed, kind_changed}
use Rattle.wm_forest.specs.Look.{first_kids, has, in_row, only, same}
use Rattle.wm_tree.specs.Sound.{IsSound}
use Rattle.wm_forest.specs.SoundRow.{roots}
use Rattle.wm_forest.specs.Spot.{spot_in, top}
use Rattle.wm_tree.specs.TreeValue.{TreeValue}

-- ---- where nodes stand

-- a node stands where it stood
pub record Stays (i : ConId) (old new : Forest) : Type 0 where
  pub there : has i new ≡ has i old
  pub tiled : (b : Bool) → tiled_in b i new ≡ tiled_in b i old

pub edited_stays : (c i : ConId) (edit : KindEdit) (f : Forest) → Stays i f (at c kind_changed edit f)
edited_stays c i edit end = record { there = refl; tiled = λ b. refl }
edited_stays c i edit (con part kids floats rest) =
    step (same part.id c) (has c kids) (has c floats) (edited_stays c i edit kids) (edited_stays c i edit floats) (edited_stays c i edit rest)
  where
    step : (s k l : Bool) → Stays i kids (at c kind_changed edit kids) → Stays i floats (at c kind_changed edit floats) → Stays i rest (at c kind_changed edit rest)
        → Stays i (con part kids floats rest) (cond s (con (record part { kind = changed edit part.kind }) kids floats rest) (cond k (con part (at c kind_changed edit kids) floats rest) (cond l (con part kids (at c kind_changed edit floats) rest) (con part kids floats (at c kind_changed edit rest)))))
    step true k l p q r = record { there = refl; tiled = λ b. refl }
    step false true l p q r = record { there = rw p.there refl; tiled = λ b. rw (p.there, p.tiled true) refl }
    step false false true p q r = record { there = rw q.there refl; tiled = λ b. rw (q.there, q.tiled false) refl }
    step false false false p q r = record { there = rw r.there refl; tiled = λ b. rw (r.tiled b) refl }

set_tiled : (l : List Sibling) (i : ConId) (t : TreeValue) → tiled_in false i (shares_set l t).nodes ≡ tiled_in false i t.nodes
set_tiled [] i t = refl
set_tiled (s ∷ l) i t = (edited_stays s.id i (edits.Share s.share) (shares_set l t).nodes).tiled false ∙ set_tiled l i t

-- ---- shares

-- each of the siblings is tiled
abbrev pub AreTiled : List Sibling → Forest → Type 0
AreTiled [] f = Unit {0}
AreTiled (s ∷ l) f = (tiled_in false s.id f ≡ true) × AreTiled l f

one_sound : (s : Sibling) (t : TreeValue) → tiled_in false s.id t.nodes ≡ true → 1 ≤ s.share → s.share ≤ 1048576 → IsSound t → IsSound (shares_set (s ∷ []) t)
one_sound s t tiled low high sound =
    sound-edited s.id (edits.Share s.share) t (fits_share s.share (spot_in top s.id t.nodes) (first_kids (only s.id t.nodes)) (spot_tiled s.id top t.nodes ∙ tiled) low high) sound

pub set_sound : (d : Deal) (turn : ℕ) (l : List Sibling) (t : TreeValue) → fits_all d turn l ≡ true → AreTiled l t.nodes → IsSound t → IsSound (shares_set (dealt d turn l) t)
set_sound d turn [] t h k s = s
set_sound d turn (x ∷ l) t h k s =
    let b = both (fits d x turn) (fits_all d (turn_after d x.id turn) l) h in
    let f = fitting d x turn b.0 in
    let rest : List Sibling = dealt d (turn_after d x.id turn) l in
    one_sound (record { id = x.id; share = share_after d x turn }) (shares_set rest t) (set_tiled rest x.id t ∙ k.0) f.0 f.1 (set_sound d (turn_after d x.id turn) l t b.1 k.1 s)

-- ---- the children of a node

or_right : (a b : Bool) → b ≡ true → (a || b) ≡ true
or_right true b h = refl
or_right false b h = h

row_tiled : (f row : Forest) → ((i : ConId) → in_row i row ≡ true → tiled_in false i f ≡ true) → AreTiled (siblings row) f
row_tiled f end h = tt
row_tiled f (con part kids floats rest) h =
    (h part.id (rw (same_self part.id part.id refl) refl), row_tiled f rest (λ i k. h i (or_right (same part.id i) (in_row i rest) k)))

pub family_tiled : (r : Rung) (t : TreeValue) → IsSound t → HasFamily r t.nodes → AreTiled (siblings (children_of r.parent t)) t.nodes
family_tiled r t s h = row_tiled t.nodes (children_of r.parent t) (λ i k. (kid_of r.parent i roots false 0 t.nodes s.shaped s.once (ap (in_row i) h.tiled ∙ k)).1)

-- the tree after a deal of the children of the rung's parent
pub anew_sound : (d : Deal) (r : Rung) (t new : TreeValue) → IsSound t → HasFamily r t.nodes → IsReady d (siblings (children_of r.parent t)) → new ≡ shares_set (dealt d 0 (siblings (children_of r.parent t))) t → IsSound new
anew_sound d r t new s h ready e = subst IsSound (sym e) (set_sound d 0 (siblings (children_of r.parent t)) t ready.fit (family_tiled r t s h) s)
