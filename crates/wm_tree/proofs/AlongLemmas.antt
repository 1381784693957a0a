-- Sticky windows that go along keep what holds of every tree.
use Rattle.std.proofs.Common.{◌≡◌, ◌≢◌, ℕ, ◌+◌, ◌≤◌, Bool, true, false, cond, inl, Option, None, Some, refl, ap, sym, ◌∙◌, subst, arith}
use Rattle.wm_base.specs.declared.ids.ConId.{ConId}
use Rattle.wm_forest.specs.declared.part.Part.{Part}
use Rattle.wm_forest.specs.declared.part.NodeKind.{NodeKind}
use Rattle.wm_forest.specs.declared.part.NodeKind.TheVariants.{Root, Output, Space, Con}
use Rattle.wm_forest.specs.declared.place.Place.TheVariants.{Float}
use Rattle.wm_forest.specs.declared.spot.Spot.{Spot}
use Rattle.wm_tree.specs.Along.{AreSpaces, gone_along, nowhere}
use Rattle.wm_forest.specs.Sticky.{is_sticky, loose, loosened, sticky}
use Rattle.wm_forest.specs.Change.{at, nobody, unfull, unfull_kind, without}
use Rattle.wm_forest.specs.Counts.{con_of, count, marks_of, one_space, row_length, row_with, space_of as is_counted_space}
use Rattle.wm_forest.specs.Forest.{Forest, end, con}
use Rattle.wm_tree.specs.Ids.{IdsRise}
use Rattle.wm_forest.specs.Look.{first_floats, first_kids, first_part, has, kind_by, only, same, space_kind}
use Rattle.wm_forest.specs.SoundRow.{Level, roots, outputs, spaces, containers, below, IsNode, IsSoundRow, one_of, rank_of, tally}
use Rattle.wm_tree.specs.Sound.{IsSound}
use Rattle.wm_forest.specs.Spot.{room_below, spot_in, top}
use Rattle.wm_tree.specs.TreeValue.{TreeValue}
use Rattle.wm_forest.specs.RootId.{root}
use Rattle.wm_tree.proofs.AttachLemmas.{sound-put, space_room}
use Rattle.wm_forest.proofs.ChangeLemmas.{by_change, by_place}
use Rattle.wm_forest.proofs.CountLemmas.{count-put, count-without, counted}
use Rattle.wm_forest.proofs.ForestLemmas.{only_absent}
use Rattle.wm_forest.proofs.LookLemmas.{SeenAs, none_of_four, seen}
use Rattle.wm_tree.proofs.MoveLemmas.{found_alone}
use Rattle.wm_tree.proofs.PlaceLemmas.{count_first, found_id, space_of, spaces_le}
use Rattle.wm_forest.proofs.PutLemmas.{Above, Here, IsSoundBelow}
use Rattle.wm_tree.proofs.RaiseLemmas.{count-unfull, sound-unfull, unfull_one, unfull_ranks, unfull_space}
use Rattle.wm_forest.proofs.RecencyLemmas.{same_is}
use Rattle.wm_forest.proofs.RowLemmas.{Grows, behind_row, keeps_by, node_keeps, same_row}
use Rattle.wm_forest.proofs.StandLemmas.{HasSpot, has_spot}

-- ---- what is parted

sound_sticky : (tiled : Bool) (room : ℕ) (f : Forest) → IsSoundRow containers tiled room f → IsSoundRow containers tiled room (sticky f)
sound_sticky tiled room end p = p
sound_sticky tiled room (con part kids floats rest) p = step (is_sticky part.kind) (sound_sticky tiled room rest p.4) where
  step : (b : Bool) → IsSoundRow containers tiled room (sticky rest) → IsSoundRow containers tiled room (cond b (con part kids floats (sticky rest)) (sticky rest))
  step true q = (p.0, p.1, p.2, p.3, q)
  step false q = q

sound_loose : (tiled : Bool) (room : ℕ) (f : Forest) → IsSoundRow containers tiled room f → IsSoundRow containers tiled room (loose f)
sound_loose tiled room end p = p
sound_loose tiled room (con part kids floats rest) p = step (is_sticky part.kind) (sound_loose tiled room rest p.4) where
  step : (b : Bool) → IsSoundRow containers tiled room (loose rest) → IsSoundRow containers tiled room (cond b (loose rest) (con part kids floats (loose rest)))
  step true q = q
  step false q = (p.0, p.1, p.2, p.3, q)

count-parted : (m : Part → ℕ) (f : Forest) → count m (loose f) + count m (sticky f) ≡ count m f
count-parted m end = refl
count-parted m (con part kids floats rest) = step (is_sticky part.kind) (count-parted m rest) where
  step : (b : Bool) → count m (loose rest) + count m (sticky rest) ≡ count m rest
      → count m (cond b (loose rest) (con part kids floats (loose rest))) + count m (cond b (con part kids floats (sticky rest)) (sticky rest)) ≡ count m (con part kids floats rest)
  step true h = omega (arith, h)
  step false h = omega (arith, h)

pub has_loose : (i : ConId) (f : Forest) → has i f ≡ false → has i (loose f) ≡ false
has_loose i end h = h
has_loose i (con part kids floats rest) h =
    let n = none_of_four (same part.id i) (has i kids) (has i floats) (has i rest) h in
    step (is_sticky part.kind) n.0 n.1 n.2 (has_loose i rest n.3)
  where
    step : (b : Bool) → same part.id i ≡ false → has i kids ≡ false → has i floats ≡ false → has i (loose rest) ≡ false → has i (cond b (loose rest) (con part kids floats (loose rest))) ≡ false
    step true o p q r = r
    step false o p q r = rw (o, p, q) r

-- ---- a node without its sticky windows

sound_loosened : (v : ConId) (l : Level) (s : Spot) (forest : Forest) → IsSoundRow l s.tiled s.room forest → Grows 0 l s.tiled s.room forest forest (at v loosened end forest) (row_with v forest forest)
sound_loosened v l s forest p = keeps_by IsNode node_keeps v loosened end 0 (λ found sp st. Unit {0}) (λ found sp st h. inl refl) here l s forest forest tt p where
  here : (l : Level) (s : Spot) (whole : Forest) (part : Part) (kids floats rest : Forest) → Unit {0} → Here 0 l s (con part kids floats rest) (con part kids (loose floats) rest)
  here l s whole part kids floats rest ok p =
      ((p.0, p.1, p.2, sound_loose false (room_below s.room part.kind) floats p.3, p.4), behind_row l part part kids floats rest kids (loose floats) rest refl (same_row l rest), omega arith)

count-loosened : (m : Part → ℕ) (v : ConId) (f : Forest) → count m (at v loosened end f) + count m (sticky (first_floats (only v f))) ≡ count m f
count-loosened m v =
    by_change v loosened end (λ old new found. count m new + count m (sticky (first_floats found)) ≡ count m old) refl
    (λ part kids floats rest. omega (arith, count-parted m floats))
    (λ part kids floats rest new found h. omega (arith, h))
    (λ part kids floats rest new found h. omega (arith, h))
    (λ part kids floats rest new found h. omega (arith, h))

seen_loosened : (v i : ConId) (f : Forest) → has i (only v f) ≡ false → SeenAs i top f (at v loosened end f)
seen_loosened v i f h = seen v i loosened end here containers top f f h where
  here : (s : Spot) (part : Part) (kids floats rest : Forest) → has i (con part kids floats end) ≡ false → SeenAs i s rest (con part kids (loose floats) rest)
  here s part kids floats rest m =
      let n = none_of_four (same part.id i) (has i kids) (has i floats) false m in
      let o = has_loose i floats n.2 in
      record { there = rw (n.0, n.1, o) refl; spot = rw (n.0, n.1, o) refl; part = rw (n.0, n.1, o) refl }

-- ---- two workspaces

-- what stands on a workspace
abbrev SpaceRows : Forest → Type 0
SpaceRows found = IsSoundRow containers true 32 (first_kids found) × IsSoundRow containers false 32 (first_floats found)

abbrev FindsRows : Level → Spot → Forest → Forest → Forest → Forest → Option Spot → Forest → Type 0
FindsRows l s whole old new found sp st = IsSoundRow l s.tiled s.room old → kind_by space_kind (first_part found) ≢ None → SpaceRows found

space_rows : (v : ConId) (f : Forest) → IsSoundRow roots false 0 f → kind_by space_kind (first_part (only v f)) ≢ None → SpaceRows (only v f)
space_rows v f =
    by_place v (λ row part kids floats rest. rest) end FindsRows
    (λ l s whole p ok. absurd (ok refl))
    (λ l s whole part kids floats rest p ok. here l s.tiled s.room part kids floats part.kind refl p.0 p.2 p.3 ok)
    (λ l s whole part kids floats rest new found sp st h p. h p.2)
    (λ l s whole part kids floats rest new found sp st h p. h p.3)
    (λ l s whole part kids floats rest new found sp st h p. h p.4) roots top f f
  where
    here : (l : Level) (tiled : Bool) (room : ℕ) (part : Part) (kids floats : Forest) (kind : NodeKind) → part.kind ≡ kind → IsNode l tiled room part.id kind part.marks kids → IsSoundRow (below l) true (room_below room kind) kids
        → IsSoundRow containers false (room_below room kind) floats → space_kind kind ≢ None → SpaceRows (con part kids floats end)
    here l tiled room part kids floats (Root c) e n p q ok = absurd (ok refl)
    here l tiled room part kids floats (Output o) e n p q ok = absurd (ok refl)
    here l tiled room part kids floats (Con c) e n p q ok = absurd (ok refl)
    here roots tiled room part kids floats (Space w) e n p q ok = absurd n
    here outputs tiled room part kids floats (Space w) e n p q ok = absurd n
    here spaces tiled room part kids floats (Space w) e n p q ok = (p, q)
    here containers tiled room part kids floats (Space w) e n p q ok = absurd n

-- among containers there is no workspace
no_spaces : (i : ConId) (tiled : Bool) (room : ℕ) (f : Forest) → IsSoundRow containers tiled room f → count (space_of i) f ≡ 0
no_spaces i tiled room end p = refl
no_spaces i tiled room (con part kids floats rest) p =
    let own : space_of i part ≡ 0 = here part.kind p.0 (same part.id i) in
    omega (arith, own, no_spaces i true (room_below room part.kind) kids p.2, no_spaces i false (room_below room part.kind) floats p.3, no_spaces i tiled room rest p.4)
  where
    here : (kind : NodeKind) → IsNode containers tiled room part.id kind part.marks kids → (b : Bool) → cond b (one_space kind) 0 ≡ 0
    here (Root c) n b = absurd n
    here (Output o) n b = absurd n
    here (Space w) n b = absurd n
    here (Con c) n true = refl
    here (Con c) n false = refl

pub space_there : (w : ConId) (f : Forest) → kind_by space_kind (first_part (only w f)) ≢ None → has w f ≡ true
space_there w f ok = by (has w f) refl where
  by : (b : Bool) → has w f ≡ b → has w f ≡ true
  by true e = e
  by false e = absurd (ok (ap (λ g. kind_by space_kind (first_part g)) (only_absent w f e)))

-- a workspace is counted as one
space_counts : (w : ConId) (f : Forest) → kind_by space_kind (first_part (only w f)) ≢ None → 1 ≤ count (space_of w) (only w f)
space_counts w f ok = by (only w f) (found_id w f (space_there w f ok)) ok where
  here : (b : Bool) (kind : NodeKind) → 1 ≤ cond b 1 0 → space_kind kind ≢ None → 1 ≤ cond b (one_space kind) 0
  here b (Root c) some ok = absurd (ok refl)
  here b (Output o) some ok = absurd (ok refl)
  here b (Con c) some ok = absurd (ok refl)
  here true (Space x) some ok = omega arith
  here false (Space x) some ok = absurd (omega (arith, some))

  by : (g : Forest) → 1 ≤ count_first w g → kind_by space_kind (first_part g) ≢ None → 1 ≤ count (space_of w) g
  by end some ok = absurd (ok refl)
  by (con part kids floats rest) some ok = omega (arith, here (same part.id w) part.kind some ok)

-- a workspace is not within another one
pub space_apart : (v w : ConId) (t : TreeValue) → AreSpaces v w t.nodes → IsSound t → has w (only v t.nodes) ≡ false
space_apart v w t two s = by (has w (only v t.nodes)) refl where
  -- in a workspace no other one is counted
  inside : (g : Forest) → 1 ≤ count_first v g → row_length g ≤ 1 → SpaceRows g → count (space_of w) g ≡ 0
  inside end own few p = refl
  inside (con part kids floats (con q k l r)) own few p = absurd (omega (arith, few))
  inside (con part kids floats end) own few p =
      let other : space_of w part ≡ 0 = here (same part.id v) refl own in
      omega (arith, other, no_spaces w true 32 kids p.0, no_spaces w false 32 floats p.1)
    where
      here : (b : Bool) → same part.id v ≡ b → 1 ≤ cond b 1 0 → space_of w part ≡ 0
      here true e some = rw (same_is part.id v e, two.2) refl
      here false e some = absurd (omega (arith, some))

  by : (b : Bool) → has w (only v t.nodes) ≡ b → has w (only v t.nodes) ≡ false
  by false e = e
  by true e =
      let low = space_counts w t.nodes two.1 in
      absurd (omega (
        arith,
        counted w (only v t.nodes) e,
        s.once w,
        count-without (one_of w) v t.nodes,
        count-without (space_of w) v t.nodes,
        count-without (space_of w) w t.nodes,
        spaces_le w (without v t.nodes),
        low,
        inside (only v t.nodes) (found_id v t.nodes (space_there v t.nodes two.0)) (found_alone v t.nodes) (space_rows v t.nodes s.shaped two.0),
      ))

-- ---- going along

below_space : (sp : Option Spot) (part : Option Part) (row : Forest) → HasSpot sp → kind_by space_kind part ≢ None → IsSoundRow containers false 32 row → IsSoundBelow false sp part row
below_space None part row spot ok p = absurd spot
below_space (Some s) None row spot ok p = absurd (ok refl)
below_space (Some s) (Some part) row spot ok p =
    let Row : ℕ → Type 0 = λ n. IsSoundRow containers false n row in
    subst Row (sym (space_room s.room (Some part) ok)) p

module _ (v w : ConId) (t : TreeValue) (two : AreSpaces v w t.nodes) (s : IsSound t) where
  stays : SeenAs w top t.nodes (at v loosened end t.nodes)
  stays = seen_loosened v w t.nodes (space_apart v w t two s)

  w_there : has w (at v loosened end t.nodes) ≡ true
  w_there = stays.there ∙ space_there w t.nodes two.1

  pub count-along : (m : Part → ℕ) → ((part : Part) → m (record part { kind = unfull_kind part.kind }) ≡ m part) → count m (gone_along v w t).nodes ≡ count m t.nodes
  count-along m h =
      omega (arith, count-put m (Float w nowhere) (unfull nobody (sticky (first_floats (only v t.nodes)))) (at v loosened end t.nodes) w_there, count-unfull nobody m h (sticky (first_floats (only v t.nodes))), count-loosened m v t.nodes)

  pub sound-along : IsSound (gone_along v w t)
  sound-along =
      let f = t.nodes in
      let g = sound_loosened v roots top f s.shaped in
      let moving : Forest = unfull nobody (sticky (first_floats (only v f))) in
      let fits : IsSoundRow containers false 32 moving = sound-unfull nobody containers false 32 (sticky (first_floats (only v f))) (sound_sticky false 32 (first_floats (only v f)) (space_rows v f s.shaped two.0).1) in
      let At : Option Spot → Type 0 = λ q. IsSoundBelow false q (first_part (only w f)) moving in
      let Of : Option Part → Type 0 = λ q. IsSoundBelow false (spot_in top w (at v loosened end f)) q moving in
      let ready : Above moving (only w (at v loosened end f)) (spot_in top w (at v loosened end f)) (row_with w (at v loosened end f) (at v loosened end f)) =
      subst Of (sym stays.part) (subst At (sym stays.spot) (below_space (spot_in top w f) (first_part (only w f)) moving (has_spot w top f (space_there w f two.1)) two.1 fits)) in
      let h = sound-put (Float w nowhere) moving (at v loosened end f) ready g.sound in
      let ones : (i : ConId) → count (one_of i) (gone_along v w t).nodes ≡ count (one_of i) f = λ i. count-along (one_of i) (λ part. refl) in
      record {
        shaped = h.0;
        rooted = h.1 root (g.keeps root s.rooted);
        once = λ i. omega (arith, ones i, s.once i);
        fresh = λ i above. omega (arith, ones i, s.fresh i above);
        low = omega (arith, ones nobody, s.low);
        above = s.above;
        known = λ i. s.known i ∙ sym (count-along (rank_of i) (λ part. ap (λ n. cond (same part.id i) n 0) (unfull_ranks part.kind)));
        few = omega (arith, count-along con_of (λ part. unfull_one part.kind), s.few);
        few_spaces = omega (arith, count-along is_counted_space (λ part. unfull_space part.kind), s.few_spaces);
        few_marks = omega (arith, count-along marks_of (λ part. refl), s.few_marks);
        ids = s.ids;
      }

-- the new tree of a call
pub along_by : (v w : ConId) (t new : TreeValue) → new ≡ gone_along v w t → AreSpaces v w t.nodes → IsSound t → IsSound new
along_by v w t new e two s = rw e (sound-along v w t two s)

pub ones_by : (v w : ConId) (t : TreeValue) (new : Forest) → new ≡ (gone_along v w t).nodes → AreSpaces v w t.nodes → IsSound t → (i : ConId) → tally i new ≡ tally i t.nodes
ones_by v w t new e two s i = rw e (count-along v w t two s (one_of i) (λ part. refl))

pub ids_along : (v w : ConId) (t : TreeValue) → IdsRise t (gone_along v w t)
ids_along v w t = record { next = omega arith; known = λ i below. omega arith }
