-- An exchange keeps what holds of every tree: what is counted, and what stands in each place.
use Rattle.std.proofs.Common.{◌≡◌, ℕ, ◌+◌, ◌≤◌, Bool, true, false, cond, ◌||◌, ◌&&◌, not, Option, None, Some, refl, ap, sym, ◌∙◌, subst, arith}
use Rattle.wm_base.specs.declared.ids.ConId.{ConId}
use Rattle.wm_forest.specs.declared.part.Part.{Part}
use Rattle.wm_forest.specs.declared.spot.Spot.{Spot}
use Rattle.wm_forest.specs.Forest.{Forest, end, con}
use Rattle.wm_forest.specs.Change.{arriving, hole, in_place, nobody, placed, replaced, unfull_kind}
use Rattle.wm_forest.specs.Counts.{con_of, count, marks_of, row_length, share_of, space_of}
use Rattle.wm_forest.specs.Look.{first_part, has, only, same}
use Rattle.wm_tree.specs.Move.{apart, exchanged, is_too_deep, share_by, share_in}
use Rattle.wm_forest.specs.Exchange.{exchanged_nodes, holed}
use Rattle.wm_forest.specs.Place.{IsTiled, is_tiled, room_by, row_room}
use Rattle.wm_forest.specs.SoundRow.{below, containers, HasShare, IsSoundRow, RowOf, one_of, rank_of, roots, tally}
use Rattle.wm_tree.specs.Sound.{IsSound}
use Rattle.wm_forest.specs.Spot.{fits, spot_in, top}
use Rattle.wm_tree.specs.TreeValue.{TreeValue}
use Rattle.wm_forest.specs.RootId.{root}
use Rattle.wm_forest.proofs.ChangeLemmas.{by_change}
use Rattle.wm_forest.proofs.CountLemmas.{count-without, counted, found_counted, tally-absent}
use Rattle.wm_forest.proofs.HoleLooks.{hole_stands, stays}
use Rattle.wm_forest.proofs.HoleLemmas.{IsHoley, IsHoleyAt, sound-filled, sound-holed, sound-unholed, strengthen, weaken}
use Rattle.wm_forest.proofs.LookLemmas.{SeenAs, seen-replaced}
use Rattle.wm_tree.proofs.MoveLemmas.{SoundFound, arrived, count-arriving, found_alone, found_sound, placed_one, placed_ranks, placed_space, row_length-arriving}
use Rattle.wm_forest.proofs.PutLemmas.{IsConFirst}
use Rattle.wm_forest.proofs.RecencyLemmas.{same_is}
use Rattle.wm_forest.proofs.RowLemmas.{KeepsRow}
use Rattle.wm_tree.proofs.WrapLemmas.{node_share}
use Rattle.wm_tree.proofs.RaiseLemmas.{unfull_one, unfull_ranks, unfull_space}
use Rattle.wm_forest.proofs.StandLemmas.{HasSpot, has_spot}

-- ---- counts

-- an id that is not counted is not there
pub zero_has : (c : ConId) (f : Forest) → tally c f ≡ 0 → has c f ≡ false
zero_has c f none = by_test (has c f) refl
  where
    by_test : (b : Bool) → has c f ≡ b → has c f ≡ false
    by_test true e = absurd (omega (arith, none, counted c f e))
    by_test false e = e

abbrev gain : ℕ → Forest → ℕ
gain n end = 0
gain n (con part kids floats rest) = n

count_replaced : (m : Part → ℕ) (c : ConId) (new : Part) (below above f : Forest) → count m (replaced c (con new below above end) f) + count m (only c f) ≡ count m f + gain (count m (con new below above end)) (only c f)
count_replaced m c new below above =
    by_change c in_place (con new below above end) (λ old now found. count m now + count m found ≡ count m old + gain (count m (con new below above end)) found) refl
    (λ part kids floats rest. omega arith)
    (λ part kids floats rest now found h. omega (arith, h))
    (λ part kids floats rest now found h. omega (arith, h))
    (λ part kids floats rest now found h. omega (arith, h))

-- what stands alone in the place of a node that is there
pub count_filled : (m : Part → ℕ) (c : ConId) (x f : Forest) → has c f ≡ true → row_length x ≡ 1 → count m (replaced c x f) + count m (only c f) ≡ count m f + count m x
count_filled m c end f there one = absurd (omega arith)
count_filled m c (con p k l (con q u v r)) f there one = absurd (omega arith)
count_filled m c (con p k l end) f there one =
    let gains : gain (count m (con p k l end)) (only c f) ≡ count m (con p k l end) = gain_all (only c f) (omega (arith, found_counted c f there)) in
    omega (arith, count_replaced m c p k l f, gains)
  where
    gain_all : (found : Forest) → 1 ≤ tally c found → gain (count m (con p k l end)) found ≡ count m (con p k l end)
    gain_all end h = absurd (omega arith)
    gain_all (con part kids floats rest) h = refl

pub found_one : (c : ConId) (f : Forest) → has c f ≡ true → row_length (only c f) ≡ 1
found_one c f there = by_found (only c f) (found_alone c f) (found_counted c f there)
  where
    by_found : (x : Forest) → row_length x ≤ 1 → 1 ≤ tally c x → row_length x ≡ 1
    by_found end le some = absurd (omega arith)
    by_found (con p k l r) le some = omega (arith, le)

-- ---- the exchange

-- what the two containers of an exchange are
pub record Apart (a b : ConId) (f : Forest) : Type 0 where
  pub first : has a f ≡ true
  pub second : has b f ≡ true
  pub outside : has b (only a f) ≡ false
  pub inside : has a (only b f) ≡ false
  pub none : has nobody f ≡ false

-- the hole and b in the trees between
pub record Steps (a b : ConId) (sa sb : ℕ) (away : Bool) (f : Forest) : Type 0 where
  pub b_there : has b (holed a f) ≡ true
  pub b_same : only b (holed a f) ≡ only b f
  pub b_spot : spot_in top b (holed a f) ≡ spot_in top b f
  pub hole_there : has nobody (replaced b (arriving sb None away (only a f)) (holed a f)) ≡ true
  pub hole_found : only nobody (replaced b (arriving sb None away (only a f)) (holed a f)) ≡ hole
  pub hole_spot : spot_in top nobody (replaced b (arriving sb None away (only a f)) (holed a f)) ≡ spot_in top nobody (holed a f)
  pub hole_tiled : is_tiled (spot_in top nobody (replaced b (arriving sb None away (only a f)) (holed a f))) ≡ is_tiled (spot_in top a f)
  pub hole_room : room_by (spot_in top nobody (replaced b (arriving sb None away (only a f)) (holed a f))) ≡ room_by (spot_in top a f)

-- a node in the place of another, which has not the node i either
pub seen_any : (c i : ConId) (s : Spot) (x f : Forest) → row_length x ≡ 1 → has i x ≡ false → has i (only c f) ≡ false → SeenAs i s f (replaced c x f)
seen_any c i s end f one none h = absurd (omega arith)
seen_any c i s (con p k l (con q u v r)) f one none h = absurd (omega arith)
seen_any c i s (con p k l end) f one none h = seen-replaced c i s p k l end f none h

pub other_than_nobody : (b : ConId) (f : Forest) → has nobody f ≡ false → has b f ≡ true → has b hole ≡ false
other_than_nobody b f none there = by_test (same nobody b) refl
  where
    by_test : (d : Bool) → same nobody b ≡ d → (d || false || false || false) ≡ false
    by_test true e =
        let one : b ≡ nobody = sym (same_is nobody b e) in
        let bad : true ≡ false = sym there ∙ (ap (λ z. has z f) one ∙ none) in
        cc
    by_test false e = refl

pub steps : (a b : ConId) (sa sb : ℕ) (away : Bool) (f : Forest) → Apart a b f → Steps a b sa sb away f
steps a b sa sb away f p =
    let x : Forest = arriving sb None away (only a f) in
    let hs = hole_stands a top f p.none (has_spot a top f p.first) in
    let not_hole = other_than_nobody b f p.none p.second in
    let seen_b = seen_any a b top hole f refl not_hole p.outside in
    let same_b = stays a b hole not_hole f p.outside p.inside in
    let none = tally-absent nobody f p.none in
    let none_in : (c : ConId) → tally nobody (only c f) ≡ 0 = λ c. omega (arith, none, count-without (one_of nobody) c f) in
    let x_none : has nobody x ≡ false = zero_has nobody x (omega (arith, none_in a, count-arriving (one_of nobody) sb None (λ part. refl) (λ part. refl) away (only a f))) in
    let b_none : has nobody (only b (holed a f)) ≡ false = rw same_b.found (zero_has nobody (only b f) (none_in b)) in
    let above : has b (only nobody (holed a f)) ≡ false = rw hs.found not_hole in
    let same_hole = stays b nobody x x_none (holed a f) b_none above in
    let seen_hole = seen_any b nobody top x (holed a f) (row_length-arriving sb None away (only a f) ∙ found_one a f p.first) x_none b_none in
    record {
      b_there = same_b.there ∙ p.second;
      b_same = same_b.found;
      b_spot = seen_b.spot;
      hole_there = same_hole.there ∙ hs.there;
      hole_found = same_hole.found ∙ hs.found;
      hole_spot = seen_hole.spot;
      hole_tiled = ap (λ z. is_tiled z) seen_hole.spot ∙ hs.tiled;
      hole_room = ap (λ z. room_by z) seen_hole.spot ∙ hs.room;
    }

count_exchanged : (m : Part → ℕ) (a b : ConId) (sa sb : ℕ) (away : Bool) (f : Forest) → ((part : Part) → m (record part { kind = unfull_kind part.kind }) ≡ m part)
    → ((share : ℕ) (part : Part) → m (record part { kind = placed share None part.kind }) ≡ m part) → Apart a b f → Steps a b sa sb away f
    → count m (exchanged_nodes a b sa sb away f) ≡ count m f
count_exchanged m a b sa sb away f hu hp p q =
    let x : Forest = arriving sb None away (only a f) in
    let y : Forest = arriving sa None away (only b (holed a f)) in
    omega (
      arith,
      count_filled m a hole f p.first refl,
      count_filled m b x (holed a f) q.b_there (row_length-arriving sb None away (only a f) ∙ found_one a f p.first),
      count-arriving m sb None hu (hp sb) away (only a f),
      count_filled m nobody y (replaced b x (holed a f)) q.hole_there (row_length-arriving sa None away (only b (holed a f)) ∙ found_one b (holed a f) q.b_there),
      count-arriving m sa None hu (hp sa) away (only b (holed a f)),
      ap (count m) q.hole_found,
    )

-- what comes to a tiled place where it fits is sound there
comes : (c : ConId) (share room : ℕ) (away : Bool) (f : Forest) → IsSoundRow roots false 0 f → has c f ≡ true → IsConFirst (only c f) → HasShare true share → fits room (only c f) ≡ true
    → IsSoundRow containers true room (arriving share None away (only c f))
comes c share room away f s there ok fine fit = by_spot (spot_in top c f) (has_spot c top f there) (found_sound c roots top f s)
  where
    by_spot : (sp : Option Spot) → HasSpot sp → SoundFound sp (only c f) → IsSoundRow containers true room (arriving share None away (only c f))
    by_spot None spot h = absurd spot
    by_spot (Some q) spot h = arrived q.tiled true q.room room share None away (only c f) fine fit (h ok) (found_alone c f)

holey_at : (sp : Option Spot) (x : Forest) → is_tiled sp ≡ true → IsSoundRow containers true (room_by sp) x → IsHoleyAt sp x
holey_at None x tiled p = cc
holey_at (Some s) x tiled p = let Row : Bool → Type 0 = λ b. RowOf IsHoley containers b s.room x in subst Row (sym tiled) (weaken containers true s.room x p)

-- the share of a tiled container
own_share : (c : ConId) (f : Forest) → IsSoundRow roots false 0 f → has c f ≡ true → IsTiled c f → HasShare true (share_in c f)
own_share c f s there ok = by_spot (spot_in top c f) (only c f) (has_spot c top f there) ok.1 ok.0 (found_sound c roots top f s)
  where
    by_spot : (sp : Option Spot) (found : Forest) → HasSpot sp → is_tiled sp ≡ true → IsConFirst found → SoundFound sp found → HasShare true (share_by (first_part found))
    by_spot None found spot tiled con_first h = absurd spot
    by_spot (Some q) end spot tiled con_first h = absurd (con_first refl)
    by_spot (Some q) (con part kids floats rest) spot tiled con_first h =
        let Share : Bool → Type 0 = λ b. HasShare b (share_of part.kind) in
        subst Share tiled (node_share q.tiled q.room part.id part.kind part.marks kids (h con_first).0).0

both_fit : (x y : Bool) → not (x && y) ≡ false → (x ≡ true) × (y ≡ true)
both_fit true true h = (refl, refl)
both_fit true false h = cc
both_fit false y h = cc

shaped_exchanged : (a b : ConId) (away : Bool) (f : Forest) → IsTiled a f → IsTiled b f → Apart a b f → is_too_deep a b f ≡ false → IsSoundRow roots false 0 f
    → RowOf IsHoley roots false 0 (exchanged_nodes a b (share_in a f) (share_in b f) away f) × KeepsRow roots f (exchanged_nodes a b (share_in a f) (share_in b f) away f)
shaped_exchanged a b away f ta tb p shallow s =
    let q = steps a b (share_in a f) (share_in b f) away f p in
    let fit = both_fit (fits (row_room b f) (only a f)) (fits (row_room a f) (only b f)) shallow in
    let x : Forest = arriving (share_in b f) None away (only a f) in
    let y : Forest = arriving (share_in a f) None away (only b (holed a f)) in
    let x_sound = comes a (share_in b f) (row_room b f) away f s p.first ta.0 (own_share b f s p.second tb) fit.0 in
    let y_sound = comes b (share_in a f) (row_room a f) away f s p.second tb.0 (own_share a f s p.first ta) fit.1 in
    let AtSpot : Option Spot → Type 0 = λ z. IsHoleyAt z x in
    let First : Forest → Type 0 = λ z. IsConFirst z in
    let YRow : Forest → Type 0 = λ z. IsSoundRow containers true (row_room a f) (arriving (share_in a f) None away z) in
    let YRoom : ℕ → Type 0 = λ r. IsSoundRow containers true r y in
    let w1 = sound-holed a roots top f ta.0 (weaken roots false 0 f s) in
    let w2 = sound-filled b x roots top (holed a f) (subst First (sym q.b_same) tb.0, subst AtSpot (sym q.b_spot) (holey_at (spot_in top b f) x tb.1 x_sound)) w1.sound in
    let y_here = subst YRoom (sym q.hole_room) (subst YRow (sym q.b_same) y_sound) in
    let w3 = sound-unholed y roots top (replaced b x (holed a f)) (q.hole_found, holey_at (spot_in top nobody (replaced b x (holed a f))) y (q.hole_tiled ∙ ta.1) y_here) w2.sound in
    (w3.sound, λ i h. w3.keeps i (w2.keeps i (w1.keeps i h)))

pub sound-exchanged : (a b : ConId) (t : TreeValue) → has a t.nodes ≡ true → has b t.nodes ≡ true → IsTiled a t.nodes → IsTiled b t.nodes → has b (only a t.nodes) ≡ false → has a (only b t.nodes) ≡ false
    → is_too_deep a b t.nodes ≡ false → IsSound t → IsSound (exchanged a b t)
sound-exchanged a b t first second ta tb outside inside shallow s =
    let f = t.nodes in
    let away = apart t a b in
    let p : Apart a b f = record { first = first; second = second; outside = outside; inside = inside; none = zero_has nobody f s.low } in
    let q = steps a b (share_in a f) (share_in b f) away f p in
    let shape = shaped_exchanged a b away f ta tb p shallow s.shaped in
    let ones : (i : ConId) → count (one_of i) (exchanged a b t).nodes ≡ count (one_of i) f = λ i. count_exchanged (one_of i) a b (share_in a f) (share_in b f) away f (λ part. refl) (λ share part. refl) p q in
    record {
      shaped = strengthen roots false 0 (exchanged a b t).nodes (omega (arith, ones nobody, s.low)) shape.0;
      rooted = shape.1 root s.rooted;
      once = λ i. omega (arith, ones i, s.once i);
      fresh = λ i above. omega (arith, ones i, s.fresh i above);
      low = omega (arith, ones nobody, s.low);
      above = s.above;
      known = λ i. s.known i ∙ sym (count_exchanged (rank_of i) a b (share_in a f) (share_in b f) away f (λ part. ap (λ n. cond (same part.id i) n 0) (unfull_ranks part.kind)) (λ share part. ap (λ n. cond (same part.id i) n 0) (placed_ranks share None part.kind)) p q);
      few = omega (arith, count_exchanged con_of a b (share_in a f) (share_in b f) away f (λ part. unfull_one part.kind) (λ share part. placed_one share None part.kind) p q, s.few);
      few_spaces = omega (arith, count_exchanged space_of a b (share_in a f) (share_in b f) away f (λ part. unfull_space part.kind) (λ share part. placed_space share None part.kind) p q, s.few_spaces);
      few_marks = omega (arith, count_exchanged marks_of a b (share_in a f) (share_in b f) away f (λ part. refl) (λ share part. refl) p q, s.few_marks);
      ids = s.ids;
    }
