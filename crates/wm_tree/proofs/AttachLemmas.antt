-- Putting a new container into a tree keeps what holds of every tree.
use Rattle.std.proofs.Common.{◌≡◌, ◌≢◌, ℕ, ◌+◌, ◌≤◌, ◌<◌, Bool, true, false, cond, leb, ltb, ◌&&◌, ◌||◌, not, ◌⊎◌, inl, inr, ⊎_elim, [], ◌∷◌, ◌++◌, Option, None, Some, refl, sym, subst, arith}
use Rattle.std.proofs.lemmas.Bool.Decides.{eqb_tells, nat_tests}
use Rattle.wm_base.specs.declared.errors.Limit.TheVariants.{Containers, Children, Depth, Ids}
use Rattle.wm_base.specs.declared.geometry.Rect.{Rect}
use Rattle.wm_base.specs.declared.ids.ConId.{ConId}
use Rattle.wm_base.specs.declared.plan.Border.{Border}
use Rattle.wm_forest.specs.declared.part.Part.{Part}
use Rattle.wm_forest.specs.declared.part.NodeKind.{NodeKind}
use Rattle.wm_forest.specs.declared.part.NodeKind.TheVariants.{Root, Output, Space, Con}
use Rattle.wm_forest.specs.declared.place.Place.{Place}
use Rattle.wm_forest.specs.declared.place.Place.TheVariants.{After, Before, First, Last, Float, Scratchpad}
use Rattle.wm_forest.specs.declared.place.NewCon.{NewCon}
use Rattle.wm_forest.specs.declared.place.NewCon.TheVariants as new
use Rattle.wm_forest.specs.declared.spot.Spot.{Spot}
use Rattle.wm_forest.specs.Forest.{Forest, end, con}
use Rattle.wm_forest.specs.Change.{nobody}
use Rattle.wm_forest.specs.Counts.{con_of, con_count, count, marks_of, newcomer_share, row_length, row_with, space_count, space_of}
use Rattle.wm_forest.specs.Look.{first_kids, first_part, has, in_row, kind_by, only, same, space_kind}
use Rattle.wm_forest.specs.Place.{IsPlace, TakesFirst, is_tiled, named, new_kind, new_part, passed_limit, put, rect_at, room_at, room_by, room_under, row_room, share_at, siblings, tiles}
use Rattle.wm_forest.specs.SoundRow.{HasKids, HasShare, IsNode, IsSoundRow, containers, one_of, rank_of, roots, tally}
use Rattle.wm_tree.specs.Sound.{IsSound}
use Rattle.wm_forest.specs.Spot.{room_below, spot_in, top}
use Rattle.wm_tree.specs.TreeValue.{TreeValue}
use Rattle.wm_forest.specs.RootId.{id, root}
use Rattle.wm_tree.specs.Words.{attached}
use Rattle.wm_forest.proofs.CountLemmas.{count-put, counted, there}
use Rattle.wm_forest.proofs.PutLemmas.{Above, Beside, IsConFirst, Under, sound-put_after, sound-put_before, sound-put_first, sound-put_float, sound-put_last}
use Rattle.wm_forest.proofs.RecencyLemmas.{same_self}
use Rattle.wm_forest.proofs.RowLemmas.{KeepsRow}
use Rattle.wm_forest.proofs.StandLemmas.{HasSpot, SoundKids, SoundStanding, has_spot, mean_bounds, stands}
use Rattle.wm_forest.proofs.TimesLemmas.{times-append}

-- ---- putting a row at a place

-- the row fits the place
abbrev pub Ready : Place → Forest → Forest → Type 0
Ready (After c) row f = Beside row (only c f) (spot_in top c f) (row_with c f f)
Ready (Before c) row f = Beside row (only c f) (spot_in top c f) (row_with c f f)
Ready (First c) row f = Under row (only c f) (spot_in top c f) (row_with c f f)
Ready (Last c) row f = Under row (only c f) (spot_in top c f) (row_with c f f)
Ready (Float w r) row f = Above row (only w f) (spot_in top w f) (row_with w f f)
Ready (Scratchpad r) row f = Above row (only root f) (spot_in top root f) (row_with root f f)

pub sound-put : (p : Place) (row f : Forest) → Ready p row f → IsSoundRow roots false 0 f → IsSoundRow roots false 0 (put p row f) × KeepsRow roots f (put p row f)
sound-put (After c) row f ok s = let g = sound-put_after c row roots top f ok s in (g.sound, g.keeps)
sound-put (Before c) row f ok s = let g = sound-put_before c row roots top f ok s in (g.sound, g.keeps)
sound-put (First c) row f ok s = let g = sound-put_first c row roots top f ok s in (g.sound, g.keeps)
sound-put (Last c) row f ok s = let g = sound-put_last c row roots top f ok s in (g.sound, g.keeps)
sound-put (Float w r) row f ok s = let g = sound-put_float w row roots top f ok s in (g.sound, g.keeps)
sound-put (Scratchpad r) row f ok s = let g = sound-put_float root row roots top f ok s in (g.sound, g.keeps)

-- ---- a new container fits

new_kids : (newcomer : NewCon) → HasKids (new_kind newcomer) end
new_kids (new.Window props owner natural) = refl
new_kids (new.Placeholder props swallows) = refl
new_kids (new.Split layout) = tt

pub newcomer_sound : (tiled : Bool) (room : ℕ) (c : ConId) (share : ℕ) (border : Border) (rect : Option Rect) (newcomer : NewCon) → 0 < room → HasShare tiled share
    → IsSoundRow containers tiled room (con (new_part c share border rect newcomer) end end end)
newcomer_sound tiled room c share border rect newcomer low ok = ((omega arith, ok, omega arith, new_kids newcomer), omega arith, tt, tt, tt)

-- what passes no limit is within all
pub record IsRoom (cons len room next : ℕ) (tiled : Bool) : Type 0 where
  pub containers_left : cons < 4096
  pub children_left : tiled ≡ true → len < 256
  pub levels_left : 0 < room
  pub ids_left : next ≤ 4000000000

room_step : (cons len room next : ℕ) (tiled a b d e : Bool) → leb 4096 cons ≡ a → (tiled && leb 256 len) ≡ b → ltb 0 room ≡ d → ltb 4000000000 next ≡ e
    → cond a (Some Containers) (cond b (Some Children) (cond (not d) (Some Depth) (cond e (Some Ids) None))) ≡ None → IsRoom cons len room next tiled
room_step cons len room next tiled true b d e ea eb ed ee h = cc
room_step cons len room next tiled false true d e ea eb ed ee h = cc
room_step cons len room next tiled false false false e ea eb ed ee h = cc
room_step cons len room next tiled false false true true ea eb ed ee h = cc
room_step cons len room next tiled false false true false ea eb ed ee h = record {
  containers_left = grind (arith, nat_tests);
  children_left = λ t. few (rw t at eb);
  levels_left = grind (arith, nat_tests);
  ids_left = grind (arith, nat_tests);
}
  where
    few : leb 256 len ≡ false → len < 256
    few e = grind (arith, nat_tests)

pub room_here : (p : Place) (f : Forest) (next : ℕ) → passed_limit p f next ≡ None → IsRoom (con_count f) (row_length (siblings p f)) (room_at p f) next (tiles p)
room_here p f next h =
    room_step (con_count f) (row_length (siblings p f)) (room_at p f) next (tiles p) (leb 4096 (con_count f)) (tiles p && leb 256 (row_length (siblings p f))) (ltb 0 (room_at p f)) (ltb 4000000000 next) refl refl refl refl h

beside_ready : (sp : Option Spot) (found st : Forest) (c : ConId) (border : Border) (rect : Option Rect) (newcomer : NewCon) → SoundStanding sp found st → IsConFirst found → is_tiled sp ≡ true → 0 < room_by sp → row_length st < 256
    → Beside (con (new_part c (newcomer_share st) border rect newcomer) end end end) found sp st
beside_ready None found st c border rect newcomer stood ok tiled low few = cc
beside_ready (Some s) found st c border rect newcomer stood ok tiled low few =
    let Row : Bool → Type 0 = λ b. IsSoundRow containers b s.room st in
    let Now : Bool → Type 0 = λ b. IsSoundRow containers b s.room (con (new_part c (newcomer_share st) border rect newcomer) end end end) in
    let share = mean_bounds s.room st (subst Row tiled (stood ok)) in
    (ok, subst Now (sym tiled) (newcomer_sound true s.room c (newcomer_share st) border rect newcomer low share), omega arith)

under_ready : (sp : Option Spot) (found st : Forest) (c : ConId) (border : Border) (rect : Option Rect) (newcomer : NewCon) → HasSpot sp → SoundKids sp (first_part found) (first_kids found) → TakesFirst (first_part found)
    → 0 < room_under (room_by sp) (first_part found) → row_length (first_kids found) < 256
    → Under (con (new_part c (newcomer_share (first_kids found)) border rect newcomer) end end end) found sp st
under_ready None found st c border rect newcomer spot sound ok low few = absurd spot
under_ready (Some s) end st c border rect newcomer spot sound ok low few = absurd ok
under_ready (Some s) (con part kids floats rest) st c border rect newcomer spot sound ok low few =
    (ok, newcomer_sound true (room_below s.room part.kind) c (newcomer_share kids) border rect newcomer low (mean_bounds (room_below s.room part.kind) kids (sound ok)), omega arith)

above_ready : (sp : Option Spot) (found st : Forest) (c : ConId) (border : Border) (rect : Option Rect) (newcomer : NewCon) → HasSpot sp → (0 < room_under (room_by sp) (first_part found))
    → Above (con (new_part c 0 border rect newcomer) end end end) found sp st
above_ready None found st c border rect newcomer spot low = absurd spot
above_ready (Some s) end st c border rect newcomer spot low = absurd (omega arith)
above_ready (Some s) (con part kids floats rest) st c border rect newcomer spot low = newcomer_sound false (room_below s.room part.kind) c 0 border rect newcomer low refl

pub space_room : (n : ℕ) (part : Option Part) → kind_by space_kind part ≢ None → room_under n part ≡ 32
space_room n None ok = absurd (ok refl)
space_room n (Some part) ok = by_kind part.kind ok
  where
    by_kind : (kind : NodeKind) → space_kind kind ≢ None → room_below n kind ≡ 32
    by_kind (Root c) ok = refl
    by_kind (Output o) ok = refl
    by_kind (Space w) ok = refl
    by_kind (Con c) ok = absurd (ok refl)

-- the root is where it is looked for
pub root_room : (n : ℕ) (f : Forest) → IsSoundRow roots false 0 f → in_row root f ≡ true → room_under n (first_part (only root f)) ≡ 32
root_room n end s h = cc
root_room n (con part kids floats rest) s h = by_kind part.kind s.0
  where
    by_kind : (kind : NodeKind) → IsNode roots false 0 part.id kind part.marks kids → room_under n (first_part (cond (same part.id root) (con (record part { kind = kind }) kids floats end) (cond (has root kids) (only root kids) (cond (has root floats) (only root floats) (only root rest))))) ≡ 32
    by_kind (Root c) k = rw (same_self part.id root k.0) refl
    by_kind (Output o) k = absurd k
    by_kind (Space w) k = absurd k
    by_kind (Con c) k = absurd k

pub has_row : (c : ConId) (f : Forest) → in_row c f ≡ true → has c f ≡ true
has_row c end h = cc
has_row c (con part kids floats rest) h = step (same part.id c) (has c kids) (has c floats) (has_row c rest) h
  where
    step : (a k l : Bool) → (in_row c rest ≡ true → has c rest ≡ true) → (a || in_row c rest) ≡ true → (a || k || l || has c rest) ≡ true
    step true k l f h = refl
    step false true l f h = refl
    step false false true f h = refl
    step false false false f h = f h

-- a new container fits a place that is there, where no limit is passed
ready_new : (p : Place) (newcomer : NewCon) (t : TreeValue) → IsSound t → has (named p) t.nodes ≡ true → IsPlace p t.nodes → passed_limit p t.nodes t.next_id ≡ None
    → Ready p (con (new_part (id t.next_id) (share_at p t.nodes) t.border (rect_at p) newcomer) end end end) t.nodes
ready_new (After c) newcomer t s there ok none =
    let r = room_here (After c) t.nodes t.next_id none in
    beside_ready (spot_in top c t.nodes) (only c t.nodes) (row_with c t.nodes t.nodes) (id t.next_id) t.border None newcomer (stands c roots top t.nodes t.nodes s.shaped s.shaped).0 (ok there).0 (ok there).1 r.levels_left (r.children_left refl)
ready_new (Before c) newcomer t s there ok none =
    let r = room_here (Before c) t.nodes t.next_id none in
    beside_ready (spot_in top c t.nodes) (only c t.nodes) (row_with c t.nodes t.nodes) (id t.next_id) t.border None newcomer (stands c roots top t.nodes t.nodes s.shaped s.shaped).0 (ok there).0 (ok there).1 r.levels_left (r.children_left refl)
ready_new (First c) newcomer t s there ok none =
    let r = room_here (First c) t.nodes t.next_id none in
    under_ready (spot_in top c t.nodes) (only c t.nodes) (row_with c t.nodes t.nodes) (id t.next_id) t.border None newcomer (has_spot c top t.nodes there) (stands c roots top t.nodes t.nodes s.shaped s.shaped).1 (ok there) r.levels_left (r.children_left refl)
ready_new (Last c) newcomer t s there ok none =
    let r = room_here (Last c) t.nodes t.next_id none in
    under_ready (spot_in top c t.nodes) (only c t.nodes) (row_with c t.nodes t.nodes) (id t.next_id) t.border None newcomer (has_spot c top t.nodes there) (stands c roots top t.nodes t.nodes s.shaped s.shaped).1 (ok there) r.levels_left (r.children_left refl)
ready_new (Float w rect) newcomer t s there ok none =
    above_ready (spot_in top w t.nodes) (only w t.nodes) (row_with w t.nodes t.nodes) (id t.next_id) t.border (Some rect) newcomer (has_spot w top t.nodes there) (omega (arith, space_room (row_room w t.nodes) (first_part (only w t.nodes)) (ok there)))
ready_new (Scratchpad rect) newcomer t s there ok none =
    above_ready (spot_in top root t.nodes) (only root t.nodes) (row_with root t.nodes t.nodes) (id t.next_id) t.border (Some rect) newcomer (has_spot root top t.nodes there) (omega (arith, root_room (row_room root t.nodes) t.nodes s.shaped s.rooted))

-- ---- the tree with a new container

-- a node alone under an id counts once under it
abbrev pub hits : ConId → ConId → ℕ
hits m i = cond (same m i) 1 0

pub one_node : (m : ConId) (i : ConId) → (hits m i ≡ 0) ⊎ ((hits m i ≡ 1) × (m.0 ≡ i.0))
one_node m i = ⊎_elim (λ t. inr (rw t.0 refl, t.1)) (λ t. inl (rw t.0 refl)) (eqb_tells m.0 i.0)

-- nodes that count one more under the next id
pub record Grown (t : TreeValue) (nodes : Forest) : Type 0 where
  pub ones : (i : ConId) → tally i nodes ≡ tally i t.nodes + cond (same (id t.next_id) i) 1 0
  pub ranked_more : (i : ConId) → count (rank_of i) nodes ≡ count (rank_of i) t.nodes + cond (same (id t.next_id) i) 1 0
  pub cons : con_count nodes ≤ 4096
  pub spaces : space_count nodes ≤ 256
  pub marks : count marks_of nodes ≡ count marks_of t.nodes

pub sound-grown : (t : TreeValue) (nodes : Forest) → IsSound t → IsSoundRow roots false 0 nodes × KeepsRow roots t.nodes nodes → Grown t nodes → t.next_id ≤ 4000000000
    → IsSound (record t { nodes = nodes; recency = t.recency ++ id t.next_id ∷ []; next_id = t.next_id + 1 })
sound-grown t nodes s shape g last = record {
  shaped = shape.0;
  rooted = shape.1 root s.rooted;
  once = λ i. ⊎_elim (λ z. omega (arith, z, g.ones i, s.once i)) (λ z. omega (arith, z.0, z.1, g.ones i, s.fresh i (omega (arith, z.1)))) (one_node (id t.next_id) i);
  fresh = λ i above. ⊎_elim (λ z. omega (arith, z, g.ones i, s.fresh i (omega arith))) (λ z. absurd (omega (arith, z.1))) (one_node (id t.next_id) i);
  low = ⊎_elim (λ z. omega (arith, z, g.ones nobody, s.low)) (λ z. absurd (omega (arith, z.1, s.above))) (one_node (id t.next_id) nobody);
  above = omega (arith, s.above);
  known = λ i. omega (arith, times-append i t.recency (id t.next_id ∷ []), s.known i, g.ranked_more i);
  few = g.cons;
  few_spaces = g.spaces;
  few_marks = omega (arith, g.marks, s.few_marks);
  ids = omega arith;
}

rank_new : (b : Bool) → cond b 1 0 ≡ cond b 1 0 + 0 + 0 + 0
rank_new b = omega arith

pub sound-attached : (p : Place) (newcomer : NewCon) (t : TreeValue) → has (named p) t.nodes ≡ true → IsPlace p t.nodes → passed_limit p t.nodes t.next_id ≡ None → IsSound t → IsSound (attached p newcomer t)
sound-attached p newcomer t there ok none s =
    let row : Forest = con (new_part (id t.next_id) (share_at p t.nodes) t.border (rect_at p) newcomer) end end end in
    let r = room_here p t.nodes t.next_id none in
    sound-grown t (put p row t.nodes) s (sound-put p row t.nodes (ready_new p newcomer t s there ok none) s.shaped)
    (record {
      ones = λ i. omega (arith, count-put (one_of i) p row t.nodes there);
      ranked_more = λ i. omega (arith, count-put (rank_of i) p row t.nodes there);
      cons = omega (arith, count-put con_of p row t.nodes there, r.containers_left);
      spaces = omega (arith, count-put space_of p row t.nodes there, s.few_spaces);
      marks = omega (arith, count-put marks_of p row t.nodes there);
    })
    r.ids_left

-- what is there afterwards was there before, or is the newcomer
pub one_new-attached : (p : Place) (newcomer : NewCon) (t : TreeValue) (v : ConId) → has (named p) t.nodes ≡ true → has v (attached p newcomer t).nodes ≡ true → same (id t.next_id) v ≡ false → has v t.nodes ≡ true
one_new-attached p newcomer t v named_there h other =
    let row : Forest = con (new_part (id t.next_id) (share_at p t.nodes) t.border (rect_at p) newcomer) end end end in
    let none : tally v row ≡ 0 = rw other refl in
    there v t.nodes (omega (arith, counted v (attached p newcomer t).nodes h, count-put (one_of v) p row t.nodes named_there, none))

-- the same of nodes that are those after attaching
pub one_new_by : (p : Place) (newcomer : NewCon) (t : TreeValue) (new : Forest) (v : ConId) → new ≡ (attached p newcomer t).nodes → has (named p) t.nodes ≡ true → has v new ≡ true → same (id t.next_id) v ≡ false → has v t.nodes ≡ true
one_new_by p newcomer t new v e named_there h other = one_new-attached p newcomer t v named_there (rw e at h) other
