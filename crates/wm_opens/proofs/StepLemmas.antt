-- The steps that are no texts: which windows they leave of a good tree, and that what they leave is good.
use Rattle.std.proofs.Common.{◌≡◌, ◌≢◌, ℕ, Bool, true, false, cond, List, None, refl, ap, ◌∙◌, arith}
use Rattle.wm_base.specs.declared.geometry.Edges.{Edges}
use Rattle.wm_base.specs.declared.geometry.Size.{Size}
use Rattle.wm_base.specs.declared.ids.ConId.{ConId}
use Rattle.wm_base.specs.declared.properties.Props.{Props}
use Rattle.wm_forest.specs.Change.{is_window_kind}
use Rattle.wm_opens.proofs.OpenLemmas.{IsAt, closing_takes, found_at}
use Rattle.wm_opens.proofs.SureLemmas.{sure_edited, sure_raised}
use Rattle.wm_opens.proofs.SureSpaces.{fits_all}
use Rattle.wm_opens.proofs.TextLemmas.{holds_sure}
use Rattle.wm_opens.proofs.TidyLemmas.{IsFreeAt, tidy_put, tidy_without}
use Rattle.wm_opens.specs.Opens.{Holds, HoldsNone, IsGood, IsTidy, is_window_of, is_window_part, window_at, windows, windows_at}
use Rattle.wm_tree.proofs.AttachLemmas.{sound-attached}
use Rattle.wm_forest.proofs.ChangeLemmas.{by_change}
use Rattle.wm_forest.proofs.ForestLemmas.{only_absent}
use Rattle.wm_tree.proofs.PlaceLemmas.{place_fits}
use Rattle.wm_forest.proofs.RecencyLemmas.{same_is}
use Rattle.wm_tree.proofs.SoundLemmas.{sound-detached, sound-edited}
use Rattle.wm_forest.specs.Change.{at}
use Rattle.wm_forest.specs.Counts.{count}
use Rattle.wm_forest.specs.declared.kind.KindEdit.TheVariants as edits
use Rattle.wm_forest.specs.declared.part.ConKind.{ConKind}
use Rattle.wm_forest.specs.declared.part.ConKind.TheVariants.{Split, Window, Placeholder}
use Rattle.wm_forest.specs.declared.part.NodeKind.{NodeKind}
use Rattle.wm_forest.specs.declared.part.NodeKind.TheVariants.{Root, Output, Space, Con}
use Rattle.wm_forest.specs.declared.part.Part.{Part}
use Rattle.wm_forest.specs.declared.place.NewCon.TheVariants as new
use Rattle.wm_forest.specs.declared.place.Place.{Place}
use Rattle.wm_forest.specs.declared.place.Place.TheVariants.{After, Last}
use Rattle.wm_forest.specs.Forest.{Forest, end, con}
use Rattle.wm_forest.specs.Look.{con_kind, first_kids, first_part, has, kind_by, kind_of, only, same}
use Rattle.wm_forest.specs.Place.{new_part, passed_limit, rect_at, share_at}
use Rattle.wm_forest.specs.SoundRow.{HasKids, IsNode, IsSoundRow, Level, below, containers, outputs, roots, spaces}
use Rattle.wm_forest.specs.Spot.{room_below, spot_in, top}
use Rattle.wm_tree.specs.TreeValue.{TreeValue, focused, is_tiled_con, leaf, newcomer_place, or_id, shown}
use Rattle.wm_forest.specs.RootId.{id}
use Rattle.wm_tree.specs.Words.{attached, detached, edited, with_raised}

-- ---- changes that keep all windows

pub holds_raised : (c : ConId) (t : TreeValue) → IsGood t → Holds t (with_raised c t)
holds_raised c t g = holds_sure t (with_raised c t) g (sure_raised c t g.sound)

pub holds_titled : (c : ConId) (title : List ℕ) (t : TreeValue) → IsGood t → Holds t (edited c (edits.Title title) t)
holds_titled c title t g =
    holds_sure t (edited c (edits.Title title) t) g
    (sure_edited c (edits.Title title) t refl (sound-edited c (edits.Title title) t (fits_all (edits.Title title) (λ b kids. tt) (spot_in top c t.nodes) (first_kids (only c t.nodes))) g.sound))

pub holds_reserved : (o : ConId) (edges : Edges) (t : TreeValue) → IsGood t → Holds t (edited o (edits.Reserved edges) t)
holds_reserved o edges t g =
    holds_sure t (edited o (edits.Reserved edges) t) g
    (sure_edited o (edits.Reserved edges) t refl (sound-edited o (edits.Reserved edges) t (fits_all (edits.Reserved edges) (λ b kids. tt) (spot_in top o t.nodes) (first_kids (only o t.nodes))) g.sound))

-- other windows are urgent
pub holds_urgent : (urgent : List ConId) (t : TreeValue) → IsGood t → Holds t (record t { urgent = urgent })
holds_urgent urgent t g =
    let s = g.sound in
    record {
      good = record {
        sound = record { shaped = s.shaped; rooted = s.rooted; once = s.once; fresh = s.fresh; low = s.low; above = s.above; known = s.known; few = s.few; few_spaces = s.few_spaces; few_marks = s.few_marks; ids = s.ids };
        tidy = g.tidy;
      };
      keeps = λ v. refl;
      owners = λ who v. refl;
    }

-- ---- a window that is mapped

-- a new window floats nowhere
free_newcomer : (t : TreeValue) (f : Forest) → IsFreeAt (newcomer_place t) f
free_newcomer t f = step (same (focused t) (shown t)) (is_tiled_con t (focused t)) (is_tiled_con t (or_id (leaf t (shown t)) (shown t)))
  where
    step : (a b d : Bool) → IsFreeAt (cond a (Last (shown t)) (cond b (After (focused t)) (cond d (After (or_id (leaf t (shown t)) (shown t))) (Last (shown t))))) f
    step true b d = tt
    step false true d = tt
    step false false true = tt
    step false false false = tt

pub good_mapped : (who : ℕ) (props : Props) (natural : Size) (t : TreeValue) → IsGood t → passed_limit (newcomer_place t) t.nodes t.next_id ≡ None → IsGood (attached (newcomer_place t) (new.Window props who natural) t)
good_mapped who props natural t g fits =
    let fit = place_fits t g.sound in
    let p : Place = newcomer_place t in
    let part : Part = new_part (id t.next_id) (share_at p t.nodes) t.border (rect_at p) (new.Window props who natural) in
    record {
      sound = sound-attached (newcomer_place t) (new.Window props who natural) t fit.0 fit.1 fits g.sound;
      tidy = tidy_put (newcomer_place t) (con part end end end) t.nodes (free_newcomer t t.nodes) (refl, tt, tt, tt) g.tidy;
    }

-- ---- a window that is closed

pub good_closed : (c : ConId) (t : TreeValue) → IsGood t → kind_of con_kind c t.nodes ≢ None → IsGood (detached c t)
good_closed c t g ok = record { sound = sound-detached c t ok g.sound; tidy = tidy_without c t.nodes g.tidy }

abbrev IsBare : Forest → Type 0
IsBare end = Unit {0}
IsBare (con part kids floats rest) = (kids ≡ end) × (floats ≡ end)

window_kids : (kind : ConKind) (kids : Forest) → HasKids kind kids → is_window_kind kind ≡ true → kids ≡ end
window_kids (Split layout last) kids h w = cc
window_kids (Window props owner natural) kids h w = h
window_kids (Placeholder props swallows) kids h w = cc

node_bare : (l : Level) (tiled : Bool) (room : ℕ) (id : ConId) (kind : NodeKind) (marks : List (List ℕ)) (kids floats : Forest) → IsNode l tiled room id kind marks kids → HoldsNone kind floats → is_window_part (con_kind kind) ≡ true
    → (kids ≡ end) × (floats ≡ end)
node_bare l tiled room id (Root c) marks kids floats n h w = cc
node_bare l tiled room id (Output o) marks kids floats n h w = cc
node_bare l tiled room id (Space s) marks kids floats n h w = cc
node_bare roots tiled room id (Con c) marks kids floats n h w = absurd n
node_bare outputs tiled room id (Con c) marks kids floats n h w = absurd n
node_bare spaces tiled room id (Con c) marks kids floats n h w = absurd n
node_bare containers tiled room id (Con c) marks kids floats n h w = (window_kids c.kind kids n.3 w, h)

-- nothing stands below a window
found_bare : (c : ConId) (f : Forest) (l : Level) (tiled : Bool) (room : ℕ) → IsSoundRow l tiled room f → IsTidy f → is_window_part (kind_by con_kind (first_part (only c f))) ≡ true → IsBare (only c f)
found_bare c =
    by_change c (λ row part kids floats rest. rest) end
    (λ old new found. (l : Level) (tiled : Bool) (room : ℕ) → IsSoundRow l tiled room old → IsTidy old → is_window_part (kind_by con_kind (first_part found)) ≡ true → IsBare found)
    (λ l tiled room p h w. tt)
    (λ part kids floats rest l tiled room p h w. node_bare l tiled room part.id part.kind part.marks kids floats p.0 h.0 w)
    (λ part kids floats rest new found k l tiled room p h w. k (below l) true (room_below room part.kind) p.2 h.1 w)
    (λ part kids floats rest new found k l tiled room p h w. k containers false (room_below room part.kind) p.3 h.2 w)
    (λ part kids floats rest new found k l tiled room p h w. k l tiled room p.4 h.3 w)

other_none : (c v : ConId) (f : Forest) → IsAt c f → IsBare f → same c v ≡ false → count (window_at v) f ≡ 0
other_none c v end at bare other = refl
other_none c v (con part kids floats rest) at bare other =
    let one : part.id ≡ c = same_is part.id c at.0 in
    let none : same part.id v ≡ false = ap (λ i. same i v) one ∙ other in
    let here : window_at v part ≡ 0 = ap (λ b. cond b (windows part.kind) 0) none in
    let no_kids : count (window_at v) kids ≡ 0 = ap (count (window_at v)) bare.0 in
    let no_floats : count (window_at v) floats ≡ 0 = ap (count (window_at v)) bare.1 in
    let no_rest : count (window_at v) rest ≡ 0 = ap (count (window_at v)) at.1 in
    omega (arith, here, no_kids, no_floats, no_rest)

-- a window that is closed takes no other one with it
pub closing_keeps_others : (c v : ConId) (t : TreeValue) → IsGood t → is_window_of t c ≡ true → same c v ≡ false → windows_at v (detached c t) ≡ windows_at v t
closing_keeps_others c v t g w other = by_test (has c t.nodes) refl
  where
    by_test : (b : Bool) → has c t.nodes ≡ b → windows_at v (detached c t) ≡ windows_at v t
    by_test true e =
        let none : count (window_at v) (only c t.nodes) ≡ 0 = other_none c v (only c t.nodes) (found_at c t.nodes e) (found_bare c t.nodes roots false 0 g.sound.shaped g.tidy w) other in
        omega (arith, none, closing_takes c t v)
    by_test false e =
        let none : count (window_at v) (only c t.nodes) ≡ 0 = ap (count (window_at v)) (only_absent c t.nodes e) in
        omega (arith, none, closing_takes c t v)
