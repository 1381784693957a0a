-- Two containers that change places and take their shares along.
use Rattle.std.proofs.Common.{◌≡◌, ℕ, ◌+◌, ◌≤◌, Bool, true, false, cond, ◌||◌, Option, None, Some, refl, ap, sym, ◌∙◌, subst, arith}
use Rattle.wm_base.specs.declared.ids.ConId.{ConId}
use Rattle.wm_shared.proofs.DownLemmas.{none}
use Rattle.wm_shared.proofs.KidLemmas.{spot_tiled, tiled_in}
use Rattle.wm_focus.specs.Moves.{IsTurn, turned}
use Rattle.wm_forest.proofs.ChangeLemmas.{by_change}
use Rattle.wm_forest.proofs.CountLemmas.{count-without, counted, tally-absent}
use Rattle.wm_forest.proofs.EditLemmas.{fits_share}
use Rattle.wm_forest.proofs.ExchangeLemmas.{still_there}
use Rattle.wm_forest.proofs.HoleLooks.{hole_stands, stays}
use Rattle.wm_forest.proofs.LookLemmas.{SeenAs, none_of_four, seen-replaced}
use Rattle.wm_tree.proofs.MoveLemmas.{SoundFound, count-arriving, found_sound}
use Rattle.wm_forest.proofs.PutLemmas.{IsConFirst}
use Rattle.wm_forest.proofs.RecencyLemmas.{same_is}
use Rattle.wm_tree.proofs.SoundLemmas.{sound-edited}
use Rattle.wm_forest.proofs.StandLemmas.{HasSpot, has_spot}
use Rattle.wm_tree.proofs.WrapLemmas.{node_share}
use Rattle.wm_forest.specs.Change.{arriving, at, hole, in_place, nobody, replaced}
use Rattle.wm_forest.specs.Counts.{share_of}
use Rattle.wm_forest.specs.declared.kind.KindEdit.{KindEdit}
use Rattle.wm_forest.specs.declared.kind.KindEdit.TheVariants as edits
use Rattle.wm_forest.specs.declared.part.Part.{Part}
use Rattle.wm_forest.specs.declared.spot.Spot.{Spot}
use Rattle.wm_forest.specs.Forest.{Forest, end, con}
use Rattle.wm_forest.specs.Kinds.{changed, kind_changed}
use Rattle.wm_forest.specs.Look.{first_kids, first_part, has, only, same}
use Rattle.wm_tree.specs.Move.{apart, exchanged, share_by, share_in}
use Rattle.wm_forest.specs.Exchange.{exchanged_nodes, holed}
use Rattle.wm_forest.specs.Place.{IsTiled, is_tiled}
use Rattle.wm_forest.specs.SoundRow.{HasShare, IsSoundRow, one_of, roots, tally}
use Rattle.wm_tree.specs.Sound.{IsSound}
use Rattle.wm_forest.specs.Spot.{spot_in, top}
use Rattle.wm_tree.specs.TreeValue.{TreeValue}
use Rattle.wm_tree.specs.Words.{edited}

-- ---- a node in the place of another one

-- the first node of the row is i
abbrev pub heads : ConId → Forest → Bool
heads i end = false
heads i (con part kids floats rest) = same part.id i

-- it is there, and tiled where the other one was
record Fills (b was : Bool) (i : ConId) (new : Forest) : Type 0 where
  there : has i new ≡ true
  tiled : tiled_in b i new ≡ was

fills : (b : Bool) (c i : ConId) (x f : Forest) → heads i x ≡ true → has i f ≡ false → has c f ≡ true → Fills b (tiled_in b c f) i (replaced c x f)
fills b c i end f h n t = cc
fills b c i (con new below above behind) end h n t = cc
fills b c i (con new below above behind) (con part kids floats rest) h n t =
    step (same part.id c) (has c kids) (has c floats) (has c rest) (fills true c i x kids h o.1) (fills false c i x floats h o.2) (fills b c i x rest h o.3) t
  where
    x : Forest
    x = con new below above behind

    o : (same part.id i ≡ false) × (has i kids ≡ false) × (has i floats ≡ false) × (has i rest ≡ false)
    o = none_of_four (same part.id i) (has i kids) (has i floats) (has i rest) n

    step : (s k l r : Bool) → (k ≡ true → Fills true (tiled_in true c kids) i (replaced c x kids)) → (l ≡ true → Fills false (tiled_in false c floats) i (replaced c x floats))
        → (r ≡ true → Fills b (tiled_in b c rest) i (replaced c x rest)) → (s || k || l || r) ≡ true
        → Fills b (cond s b (cond k (tiled_in true c kids) (cond l (tiled_in false c floats) (tiled_in b c rest)))) i
        (cond s (con new below above rest) (cond k (con part (replaced c x kids) floats rest) (cond l (con part kids (replaced c x floats) rest) (con part kids floats (replaced c x rest)))))
    step true k l r p q u t = record { there = rw h refl; tiled = rw h refl }
    step false true l r p q u t = let y = p refl in record { there = rw (o.0, y.there) refl; tiled = rw (o.0, y.there) y.tiled }
    step false false true r p q u t = let y = q refl in record { there = rw (o.0, o.1, y.there) refl; tiled = rw (o.0, o.1, y.there) y.tiled }
    step false false false r p q u t = let y = u t in record { there = rw (o.0, o.1, o.2, y.there) refl; tiled = rw (o.0, o.1, o.2) y.tiled }

-- one that was replaced by what has it not is not there
gone : (c : ConId) (new : Part) (below above behind f : Forest) → tally c f ≤ 1 → has c (con new below above end) ≡ false → has c (replaced c (con new below above behind) f) ≡ false
gone c new below above behind end once h = refl
gone c new below above behind (con part kids floats rest) once h =
    step (same part.id c) (has c kids) (has c floats) refl refl refl (gone c new below above behind kids (omega (arith, once)) h) (gone c new below above behind floats (omega (arith, once)) h) (gone c new below above behind rest (omega (arith, once)) h)
  where
    x : Forest
    x = con new below above behind

    o : (same new.id c ≡ false) × (has c below ≡ false) × (has c above ≡ false) × (false ≡ false)
    o = none_of_four (same new.id c) (has c below) (has c above) false h

    step : (s k l : Bool) → same part.id c ≡ s → has c kids ≡ k → has c floats ≡ l → has c (replaced c x kids) ≡ false → has c (replaced c x floats) ≡ false → has c (replaced c x rest) ≡ false
        → has c (cond s (con new below above rest) (cond k (con part (replaced c x kids) floats rest) (cond l (con part kids (replaced c x floats) rest) (con part kids floats (replaced c x rest))))) ≡ false
    step true k l es ek el p q r =
        let much : 1 + tally c kids + tally c floats + tally c rest ≤ 1 = rw es at once in
        rw (o.0, o.1, o.2) (none c rest (omega (arith, much)))
    step false true l es ek el p q r =
        let some = counted c kids ek in
        rw (es, p, none c floats (omega (arith, once, some)), none c rest (omega (arith, once, some))) refl
    step false false true es ek el p q r =
        let some = counted c floats el in
        rw (es, ek, q, none c rest (omega (arith, once, some))) refl
    step false false false es ek el p q r = rw (es, ek, el, r) refl

-- a hole in the place of a node adds nothing
holed_fewer : (i a : ConId) (f : Forest) → same nobody i ≡ false → tally i (holed a f) ≤ tally i f
holed_fewer i a f other =
    by_change a in_place hole (λ old new found. tally i new ≤ tally i old) (omega arith)
    (λ part kids floats rest. let less : ◌≡◌ {A = ℕ} (cond (same nobody i) 1 0) 0 = rw other refl in omega (arith, less))
    (λ part kids floats rest new found h. omega (arith, h))
    (λ part kids floats rest new found h. omega (arith, h))
    (λ part kids floats rest new found h. omega (arith, h)) f

-- ---- a node that comes to another place

comes : (i : ConId) (share : ℕ) (away : Bool) (f : Forest) → tally i (arriving share None away f) ≡ tally i f
comes i share away f = count-arriving (one_of i) share None (λ part. refl) (λ part. refl) away f

pub heads_only : (c : ConId) (f : Forest) → has c f ≡ true → heads c (only c f) ≡ true
heads_only c end h = cc
heads_only c (con part kids floats rest) h =
    step (same part.id c) (has c kids) (has c floats) (has c rest) refl (heads_only c kids) (heads_only c floats) (heads_only c rest) h
  where
    step : (a k l r : Bool) → same part.id c ≡ a → (k ≡ true → heads c (only c kids) ≡ true) → (l ≡ true → heads c (only c floats) ≡ true) → (r ≡ true → heads c (only c rest) ≡ true) → (a || k || l || r) ≡ true
        → heads c (cond a (con part kids floats end) (cond k (only c kids) (cond l (only c floats) (only c rest)))) ≡ true
    step true k l r e p q u h = e
    step false true l r e p q u h = p refl
    step false false true r e p q u h = q refl
    step false false false r e p q u h = u h

heads_arriving : (c : ConId) (share : ℕ) (away : Bool) (f : Forest) → heads c (arriving share None away f) ≡ heads c f
heads_arriving c share away end = refl
heads_arriving c share true (con part kids floats rest) = refl
heads_arriving c share false (con part kids floats rest) = refl

-- ---- looking from outside

-- the node i is seen as before where another one, which has it not, comes to a place that has it not
seen_tiled : (c i j : ConId) (x f : Forest) → heads j x ≡ true → has i x ≡ false → has i (only c f) ≡ false → SeenAs i top f (replaced c x f)
seen_tiled c i j end f h n m = cc
seen_tiled c i j (con new below above behind) f h n m =
    let o = none_of_four (same new.id i) (has i below) (has i above) (has i behind) n in
    seen-replaced c i top new below above behind f (rw (o.0, o.1, o.2) refl) m

gone_any : (c j : ConId) (x f : Forest) → heads j x ≡ true → tally c f ≤ 1 → has c x ≡ false → has c (replaced c x f) ≡ false
gone_any c j end f h once n = cc
gone_any c j (con new below above behind) f h once n =
    let o = none_of_four (same new.id c) (has c below) (has c above) (has c behind) n in
    gone c new below above behind f once (rw (o.0, o.1, o.2) refl)

other_than : (i : ConId) (f : Forest) → has nobody f ≡ false → has i f ≡ true → same nobody i ≡ false
other_than i f n t = by (same nobody i) refl where
  by : (b : Bool) → same nobody i ≡ b → same nobody i ≡ false
  by false e = e
  by true e = let bad : has nobody f ≡ true = ap (λ z. has z f) (same_is nobody i e) ∙ t in absurd (cc)

-- both are tiled after the exchange
record AreTiled (a b : ConId) (f : Forest) : Type 0 where
  first : tiled_in false a f ≡ true
  second : tiled_in false b f ≡ true

exchanged_tiled : (a b : ConId) (sa sb : ℕ) (away : Bool) (f : Forest) → tally a f ≤ 1 → tally b f ≤ 1 → tally nobody f ≡ 0 → has a f ≡ true → has b f ≡ true → is_tiled (spot_in top a f) ≡ true → is_tiled (spot_in top b f) ≡ true
    → has b (only a f) ≡ false → has a (only b f) ≡ false → AreTiled a b (exchanged_nodes a b sa sb away f)
exchanged_tiled a b sa sb away f once_a once_b low ha hb ta tb outside inside =
    let f1 : Forest = holed a f in
    let x : Forest = arriving sb None away (only a f) in
    let f2 : Forest = replaced b x f1 in
    let y : Forest = arriving sa None away (only b f1) in
    let no_hole = none nobody f low in
    let a_other = other_than a f no_hole ha in
    let b_other = other_than b f no_hole hb in
    let hole_a : has a hole ≡ false = rw a_other refl in
    let hole_b : has b hole ≡ false = rw b_other refl in
    let hs = hole_stands a top f no_hole (has_spot a top f ha) in
    let b_there = still_there b a f hb outside in
    let b_stays = stays a b hole hole_b f outside inside in
    let a_gone : has a f1 ≡ false = gone_any a nobody hole f refl once_a hole_a in
    let b_seen = seen_tiled a b nobody hole f refl hole_b outside in
    let x_heads : heads a x ≡ true = heads_arriving a sb away (only a f) ∙ heads_only a f ha in
    let y_heads : heads b y ≡ true = heads_arriving b sa away (only b f1) ∙ heads_only b f1 b_there in
    let a_fills = fills false b a x f1 x_heads a_gone b_there in
    let x_b : has b x ≡ false = none b x (comes b sb away (only a f) ∙ tally-absent b (only a f) outside) in
    let y_a : has a y ≡ false = none a y (comes a sa away (only b f1) ∙ (ap (tally a) b_stays.found ∙ tally-absent a (only b f) inside)) in
    let low_in : (c : ConId) → tally nobody (only c f) ≡ 0 = λ c. omega (arith, low, count-without (one_of nobody) c f) in
    let x_none : has nobody x ≡ false = none nobody x (comes nobody sb away (only a f) ∙ low_in a) in
    let b_none : has nobody (only b f1) ≡ false = rw b_stays.found (none nobody (only b f) (low_in b)) in
    let hole_seen = seen_tiled b nobody a x f1 x_heads x_none b_none in
    let above : has b (only nobody f1) ≡ false = rw hs.found hole_b in
    let hole_found : only nobody f2 ≡ hole = (stays b nobody x x_none f1 b_none above).found ∙ hs.found in
    let hole_there : has nobody f2 ≡ true = hole_seen.there ∙ hs.there in
    let b_gone : has b f2 ≡ false = gone_any b a x f1 x_heads (omega (arith, once_b, holed_fewer b a f b_other)) x_b in
    let b_fills = fills false nobody b y f2 y_heads b_gone hole_there in
    let a_seen = seen_tiled nobody a b y f2 y_heads y_a (rw hole_found hole_a) in
    record {
      first = sym (spot_tiled a top (replaced nobody y f2)) ∙ (ap is_tiled a_seen.spot ∙ (spot_tiled a top f2 ∙ (a_fills.tiled ∙ (sym (spot_tiled b top f1) ∙ (ap is_tiled b_seen.spot ∙ tb)))));
      second = b_fills.tiled ∙ (sym (spot_tiled nobody top f2) ∙ (ap is_tiled hole_seen.spot ∙ (hs.tiled ∙ ta)));
    }

-- ---- shares

-- another share changes no place
record Stays (i : ConId) (old new : Forest) : Type 0 where
  there : has i new ≡ has i old
  tiled : (b : Bool) → tiled_in b i new ≡ tiled_in b i old

edited_stays : (c i : ConId) (edit : KindEdit) (f : Forest) → Stays i f (at c kind_changed edit f)
edited_stays c i edit end = record { there = refl; tiled = λ b. refl }
edited_stays c i edit (con part kids floats rest) =
    step (same part.id c) (has c kids) (has c floats) (edited_stays c i edit kids) (edited_stays c i edit floats) (edited_stays c i edit rest)
  where
    step : (s k l : Bool) → Stays i kids (at c kind_changed edit kids) → Stays i floats (at c kind_changed edit floats) → Stays i rest (at c kind_changed edit rest)
        → Stays i (con part kids floats rest) (cond s (con (record part { kind = changed edit part.kind }) kids floats rest) (cond k (con part (at c kind_changed edit kids) floats rest) (cond l (con part kids (at c kind_changed edit floats) rest) (con part kids floats (at c kind_changed edit rest)))))
    step true k l p q r = record { there = refl; tiled = λ b. refl }
    step false true l p q r = record { there = rw p.there refl; tiled = λ b. rw (p.there, p.tiled true) refl }
    step false false true p q r = record { there = rw q.there refl; tiled = λ b. rw (q.there, q.tiled false) refl }
    step false false false p q r = record { there = rw r.there refl; tiled = λ b. rw (r.tiled b) refl }

-- the share of a tiled container is within its limits
own_share : (c : ConId) (f : Forest) → IsSoundRow roots false 0 f → has c f ≡ true → IsTiled c f → HasShare true (share_in c f)
own_share c f s there ok = by_spot (spot_in top c f) (only c f) (has_spot c top f there) ok.1 ok.0 (found_sound c roots top f s)
  where
    by_spot : (sp : Option Spot) (found : Forest) → HasSpot sp → is_tiled sp ≡ true → IsConFirst found → SoundFound sp found → HasShare true (share_by (first_part found))
    by_spot None found spot tiled con_first h = absurd spot
    by_spot (Some q) end spot tiled con_first h = absurd (con_first refl)
    by_spot (Some q) (con part kids floats rest) spot tiled con_first h =
        let Share : Bool → Type 0 = λ b. HasShare b (share_of part.kind) in
        subst Share tiled (node_share q.tiled q.room part.id part.kind part.marks kids (h con_first).0).0

-- two containers that change places, each with its share, leave the tree sound
pub turned_sound : (c n : ConId) (t : TreeValue) → IsTurn c n t → IsSound t → IsSound (exchanged c n t) → IsSound (turned c n t)
turned_sound c n t fit s after =
    let f = t.nodes in
    let tc = fit.2.0 fit.0 in
    let tn = fit.2.1 fit.1 in
    let both = exchanged_tiled c n (share_in c f) (share_in n f) (apart t c n) f (s.once c) (s.once n) s.low fit.0 fit.1 tc.1 tn.1 fit.2.2 fit.2.3 in
    let own = own_share c f s.shaped fit.0 tc in
    let other = own_share n f s.shaped fit.1 tn in
    let t1 : TreeValue = exchanged c n t in
    let t2 : TreeValue = edited c (edits.Share (share_in c f)) t1 in
    let s2 : IsSound t2 = sound-edited c (edits.Share (share_in c f)) t1 (fits_share (share_in c f) (spot_in top c t1.nodes) (first_kids (only c t1.nodes)) (spot_tiled c top t1.nodes ∙ both.first) own.0 own.1) after in
    let n_tiled : tiled_in false n t2.nodes ≡ true = (edited_stays c n (edits.Share (share_in c f)) t1.nodes).tiled false ∙ both.second in
    sound-edited n (edits.Share (share_in n f)) t2 (fits_share (share_in n f) (spot_in top n t2.nodes) (first_kids (only n t2.nodes)) (spot_tiled n top t2.nodes ∙ n_tiled) other.0 other.1) s2
