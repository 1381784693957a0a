-- Which containers have a share: those that come where containers are tiled; one that is not tiled, or is hidden, has none.
use Rattle.std.proofs.Common.{◌≡◌, ◌≢◌, ℕ, ◌≤◌, Bool, true, false, ◌&&◌, Option, None, Some, refl, ap, sym, subst, ◌∙◌}
use Rattle.std.specs.Prelude.{is_none, is_some, option_and_then}
use Rattle.wm_base.specs.declared.ids.ConId.{ConId}
use Rattle.law_lasting.proofs.EachLemmas.{each_only}
use Rattle.law_lasting.specs.Each.{Each}
use Rattle.law_marks.proofs.AfloatKinds.{IsRight, Right, both}
use Rattle.wm_floats.specs.Floating.{IsGoal}
use Rattle.wm_forest.specs.Change.{is_window_kind}
use Rattle.wm_opens.specs.Opens.{is_window_of, is_window_part}
use Rattle.wm_shared.specs.Subject.{is_hidden}
use Rattle.wm_forest.proofs.ChangeLemmas.{by_place}
use Rattle.wm_forest.proofs.PutLemmas.{IsConFirst, con_level}
use Rattle.wm_forest.proofs.StandLemmas.{HasSpot, SoundKids, SoundStanding, has_spot, mean_bounds, sound-but, stands}
use Rattle.wm_forest.specs.Counts.{but, newcomer_share, row_with, share_of}
use Rattle.wm_forest.specs.declared.part.ConKind.{ConKind}
use Rattle.wm_forest.specs.declared.part.ConKind.TheVariants.{Split, Window, Placeholder}
use Rattle.wm_forest.specs.declared.part.NodeKind.{NodeKind}
use Rattle.wm_forest.specs.declared.part.NodeKind.TheVariants.{Root, Output, Space, Con}
use Rattle.wm_forest.specs.declared.part.Part.{Part}
use Rattle.wm_forest.specs.declared.place.Place.{Place}
use Rattle.wm_forest.specs.declared.place.Place.TheVariants.{After, Before, First, Last, Float, Scratchpad}
use Rattle.wm_forest.specs.declared.spot.Spot.{Spot}
use Rattle.wm_forest.specs.Forest.{Forest, end, con}
use Rattle.wm_forest.specs.Look.{con_kind, first_kids, first_part, has, kind_by, kind_of, only}
use Rattle.wm_forest.specs.Place.{IsPlace, TakesFirst, is_tiled, named, share_at, siblings, tiles}
use Rattle.wm_forest.specs.SoundRow.{HasKids, HasShare, IsNode, IsSoundRow, Level, below, containers, outputs, roots, spaces}
use Rattle.wm_forest.specs.Spot.{room_below, space_at, space_by, spot_below, spot_in, spot_of, top}
use Rattle.wm_tree.proofs.MoveLemmas.{SoundFound, found_sound}
use Rattle.wm_tree.proofs.WrapLemmas.{node_share}
use Rattle.wm_tree.specs.Move.{moved_share, share_by}
use Rattle.wm_tree.specs.Sound.{IsSound}
use Rattle.wm_tree.specs.TreeValue.{TreeValue, is_con, is_tiled_con, is_tiled_spot, workspace_of}

-- ---- where containers are tiled

record IsTiledRow (row : Forest) : Type 0 where
  room : ℕ
  sound : IsSoundRow containers true room row

standing_row : (sp : Option Spot) (found st : Forest) → SoundStanding sp found st → IsConFirst found → is_tiled sp ≡ true → IsTiledRow st
standing_row None found st h ok tiled = cc
standing_row (Some s) found st h ok tiled = let Row : Bool → Type 0 = λ b. IsSoundRow containers b s.room st in record { room = s.room; sound = subst Row tiled (h ok) }

kids_row : (sp : Option Spot) (part : Option Part) (kids : Forest) → HasSpot sp → SoundKids sp part kids → TakesFirst part → IsTiledRow kids
kids_row None part kids spot h ok = absurd spot
kids_row (Some s) None kids spot h ok = absurd ok
kids_row (Some s) (Some part) kids spot h ok = record { room = room_below s.room part.kind; sound = h ok }

tiled_row : (p : Place) (t : TreeValue) → IsSound t → tiles p ≡ true → has (named p) t.nodes ≡ true → IsPlace p t.nodes → IsTiledRow (siblings p t.nodes)
tiled_row (After c) t s h there fits = standing_row (spot_in top c t.nodes) (only c t.nodes) (row_with c t.nodes t.nodes) (stands c roots top t.nodes t.nodes s.shaped s.shaped).0 (fits there).0 (fits there).1
tiled_row (Before c) t s h there fits = standing_row (spot_in top c t.nodes) (only c t.nodes) (row_with c t.nodes t.nodes) (stands c roots top t.nodes t.nodes s.shaped s.shaped).0 (fits there).0 (fits there).1
tiled_row (First c) t s h there fits = kids_row (spot_in top c t.nodes) (first_part (only c t.nodes)) (first_kids (only c t.nodes)) (has_spot c top t.nodes there) (stands c roots top t.nodes t.nodes s.shaped s.shaped).1 (fits there)
tiled_row (Last c) t s h there fits = kids_row (spot_in top c t.nodes) (first_part (only c t.nodes)) (first_kids (only c t.nodes)) (has_spot c top t.nodes there) (stands c roots top t.nodes t.nodes s.shaped s.shaped).1 (fits there)
tiled_row (Float w r) t s h there fits = cc
tiled_row (Scratchpad r) t s h there fits = cc

-- what moves there has a share
pub moved_gives : (c : ConId) (p : Place) (t : TreeValue) → IsSound t → IsGoal c p t → tiles p ≡ true → 1 ≤ moved_share c p t.nodes
moved_gives c p t s goal h =
    let row = tiled_row p t s h goal.1 goal.2.1 in
    let share : 1 ≤ newcomer_share (but c (siblings p t.nodes)) = (mean_bounds row.room (but c (siblings p t.nodes)) (sound-but c containers true row.room (siblings p t.nodes) row.sound)).0 in
    rw h share

-- and so has what comes
pub come_gives : (p : Place) (t : TreeValue) → IsSound t → has (named p) t.nodes ≡ true → IsPlace p t.nodes → tiles p ≡ true → 1 ≤ share_at p t.nodes
come_gives p t s there fits h =
    let row = tiled_row p t s h there fits in
    let share : 1 ≤ newcomer_share (siblings p t.nodes) = (mean_bounds row.room (siblings p t.nodes) row.sound).0 in
    rw h share

-- ---- where they are not

is_con_first : (o : Option Part) → kind_by con_kind o ≢ None → is_con o ≡ true
is_con_first None h = absurd (h refl)
is_con_first (Some part) h = by part.kind refl h
  where
    by : (kind : NodeKind) → part.kind ≡ kind → con_kind kind ≢ None → is_con (Some part) ≡ true
    by (Root c) e k = absurd (k refl)
    by (Output o) e k = absurd (k refl)
    by (Space s) e k = absurd (k refl)
    by (Con c) e k = rw e refl

-- a container that is not tiled has no share
pub untiled_share : (c : ConId) (t : TreeValue) → IsSound t → has c t.nodes ≡ true → kind_of con_kind c t.nodes ≢ None → is_tiled_con t c ≡ false → share_by (first_part (only c t.nodes)) ≡ 0
untiled_share c t s there ok none =
    by_spot (spot_in top c t.nodes) (only c t.nodes) (has_spot c top t.nodes there) (untiled (is_con (first_part (only c t.nodes))) (is_tiled_spot (spot_in top c t.nodes)) (is_con_first (first_part (only c t.nodes)) ok) none) ok
    (found_sound c roots top t.nodes s.shaped)
  where
    untiled : (a b : Bool) → a ≡ true → (a && b) ≡ false → b ≡ false
    untiled true b p h = h
    untiled false b p h = cc

    by_spot : (sp : Option Spot) (found : Forest) → HasSpot sp → is_tiled_spot sp ≡ false → IsConFirst found → SoundFound sp found → share_by (first_part found) ≡ 0
    by_spot None found spot tiled con_first h = absurd spot
    by_spot (Some q) end spot tiled con_first h = absurd (con_first refl)
    by_spot (Some q) (con part kids floats rest) spot tiled con_first h =
        let Share : Bool → Type 0 = λ b. HasShare b (share_of part.kind) in
        subst Share tiled (node_share q.tiled q.room part.id part.kind part.marks kids (h con_first).0).0

-- ---- who is hidden

window_kids : (kind : ConKind) (kids : Forest) → is_window_kind kind ≡ true → HasKids kind kids → kids ≡ end
window_kids (Split layout last) kids h k = cc
window_kids (Window props owner natural) kids h k = k
window_kids (Placeholder props swallows) kids h k = cc

-- rows of tiled containers outside workspaces are empty
abbrev IsOutside : Level → Spot → Forest → Type 0
IsOutside roots s f = Unit {0}
IsOutside outputs s f = Unit {0}
IsOutside spaces s f = Unit {0}
IsOutside containers s f = s.space ≡ None → s.tiled ≡ true → f ≡ end

abbrev space_of : Option Spot → Option ConId
space_of sp = option_and_then (λ (z : Spot). z.space) sp

abbrev Hides : Level → Spot → Forest → Forest → Forest → Forest → Option Spot → Forest → Type 0
Hides l s whole old new found sp st = IsSoundRow l s.tiled s.room old → Each Right old → IsOutside l s old → IsConFirst found → space_of sp ≡ None → share_by (first_part found) ≡ 0

con_space : (s : Spot) (part : Part) (kind : NodeKind) → part.kind ≡ kind → con_kind kind ≢ None → space_at s.space part ≡ None → s.space ≡ None
con_space s part (Root c) e k h = absurd (k refl)
con_space s part (Output o) e k h = absurd (k refl)
con_space s part (Space w) e k h = absurd (k refl)
con_space s part (Con c) e k h = ap (space_by s.space part.id) (sym e) ∙ h

untiled_by : (s : Spot) (part : Part) (kids floats rest : Forest) → s.space ≡ None → IsOutside containers s (con part kids floats rest) → s.tiled ≡ false
untiled_by s part kids floats rest none out = by s.tiled refl
  where
    by : (b : Bool) → s.tiled ≡ b → b ≡ false
    by true e = let bad : con part kids floats rest ≡ end = out none e in cc
    by false e = refl

hides_here : (l : Level) (s : Spot) (whole : Forest) (part : Part) (kids floats rest : Forest) → Hides l s whole (con part kids floats rest) rest (con part kids floats end) (Some (spot_of s part)) whole
hides_here l s whole part kids floats rest p e out ok none =
    let At : Level → Type 0 = λ l. IsNode l s.tiled s.room part.id part.kind part.marks kids → IsOutside l s (con part kids floats rest) → share_of part.kind ≡ 0 in
    subst At (con_level l s.tiled s.room part.id part.kind part.marks kids ok p.0)
    (λ n o.
    let free : s.space ≡ None = con_space s part part.kind refl ok none in
    let Share : Bool → Type 0 = λ b. HasShare b (share_of part.kind) in
    subst Share (untiled_by s part kids floats rest free o) (node_share s.tiled s.room part.id part.kind part.marks kids n).0)
    p.0 out

kids_outside : (l : Level) (s : Spot) (part : Part) (kids floats rest : Forest) → IsNode l s.tiled s.room part.id part.kind part.marks kids → IsRight part.kind → IsOutside l s (con part kids floats rest) → IsOutside (below l) (spot_below true s part) kids
kids_outside roots s part kids floats rest n right out = tt
kids_outside outputs s part kids floats rest n right out = tt
kids_outside spaces s part kids floats rest n right out = by part.kind refl n
  where
    by : (kind : NodeKind) → part.kind ≡ kind → IsNode spaces s.tiled s.room part.id kind part.marks kids → space_at s.space part ≡ None → true ≡ true → kids ≡ end
    by (Root c) e k = absurd k
    by (Output o) e k = absurd k
    by (Space w) e k = λ none tiled. let bad : Some part.id ≡ None = ap (space_by s.space part.id) (sym e) ∙ none in cc
    by (Con c) e k = absurd k
kids_outside containers s part kids floats rest n right out = by part.kind refl n right
  where
    by : (kind : NodeKind) → part.kind ≡ kind → IsNode containers s.tiled s.room part.id kind part.marks kids → IsRight kind → space_at s.space part ≡ None → true ≡ true → kids ≡ end
    by (Root c) e k r = absurd k
    by (Output o) e k r = absurd k
    by (Space w) e k r = absurd k
    by (Con c) e k r = λ none tiled.
        let free : s.space ≡ None = con_space s part (Con c) e (λ z. cc) none in
        let Share : Bool → Type 0 = λ b. HasShare b c.share in
        let share : c.share ≡ 0 = subst Share (untiled_by s part kids floats rest free out) k.1 in
        window_kids c.kind kids (both (is_window_kind c.kind) (is_some c.state.rect) (r.1 share)).0 k.3

floats_outside : (s : Spot) (part : Part) (floats : Forest) → IsOutside containers (spot_below false s part) floats
floats_outside s part floats none tiled = cc

rest_outside : (l : Level) (s : Spot) (part : Part) (kids floats rest : Forest) → IsOutside l s (con part kids floats rest) → IsOutside l s rest
rest_outside roots s part kids floats rest out = tt
rest_outside outputs s part kids floats rest out = tt
rest_outside spaces s part kids floats rest out = tt
rest_outside containers s part kids floats rest out = λ none tiled. let bad : con part kids floats rest ≡ end = out none tiled in cc

-- a container in no workspace has no share
pub hidden_share : (c : ConId) (t : TreeValue) → IsSound t → Each Right t.nodes → kind_of con_kind c t.nodes ≢ None → is_hidden t c ≡ true → share_by (first_part (only c t.nodes)) ≡ 0
hidden_share c t s right ok hidden =
    by_place c (λ row part kids floats rest. rest) end Hides
    (λ l q whole p e out k none. absurd (k refl))
    hides_here
    (λ l q whole part kids floats rest new found sp st h p e out. h p.2 e.1 (kids_outside l q part kids floats rest p.0 e.0 out))
    (λ l q whole part kids floats rest new found sp st h p e out. h p.3 e.2 (floats_outside q part floats))
    (λ l q whole part kids floats rest new found sp st h p e out. h p.4 e.3 (rest_outside l q part kids floats rest out))
    roots top t.nodes t.nodes s.shaped right tt ok (none_is (workspace_of t c) hidden)
  where
    none_is : (o : Option ConId) → is_none o ≡ true → o ≡ None
    none_is None h = refl
    none_is (Some w) h = cc

-- ---- a container without a share is a window

pub shareless_window : (c : ConId) (t : TreeValue) → Each Right t.nodes → kind_of con_kind c t.nodes ≢ None → share_by (first_part (only c t.nodes)) ≡ 0 → is_window_of t c ≡ true
shareless_window c t right ok none = by (only c t.nodes) (each_only Right c t.nodes right) ok none
  where
    kind_window : (kind : NodeKind) → IsRight kind → con_kind kind ≢ None → share_of kind ≡ 0 → is_window_part (con_kind kind) ≡ true
    kind_window (Root d) r k z = absurd (k refl)
    kind_window (Output o) r k z = absurd (k refl)
    kind_window (Space w) r k z = absurd (k refl)
    kind_window (Con d) r k z = (both (is_window_kind d.kind) (is_some d.state.rect) (r.1 z)).0

    by : (f : Forest) → Each Right f → kind_by con_kind (first_part f) ≢ None → share_by (first_part f) ≡ 0 → is_window_part (kind_by con_kind (first_part f)) ≡ true
    by end r k z = absurd (k refl)
    by (con part kids floats rest) r k z = kind_window part.kind r.0 k z
