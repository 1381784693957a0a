-- Moving a container keeps what holds of every tree.
use Rattle.std.proofs.Common.{◌≡◌, ◌≢◌, ℕ, ◌≤◌, ◌<◌, Bool, true, false, cond, leb, ◌&&◌, not, List, Option, None, Some, refl, ap, sym, ◌∙◌, subst, arith}
use Rattle.std.proofs.lemmas.Bool.Decides.{nat_tests}
use Rattle.wm_base.specs.declared.errors.Limit.TheVariants.{Children, Depth}
use Rattle.wm_base.specs.declared.geometry.Rect.{Rect}
use Rattle.wm_base.specs.declared.ids.ConId.{ConId}
use Rattle.wm_forest.specs.declared.part.Part.{Part}
use Rattle.wm_forest.specs.declared.part.NodeKind.{NodeKind}
use Rattle.wm_forest.specs.declared.part.NodeKind.TheVariants.{Root, Output, Space, Con}
use Rattle.wm_forest.specs.declared.place.Place.{Place}
use Rattle.wm_forest.specs.declared.place.Place.TheVariants.{After, Before, First, Last, Float, Scratchpad}
use Rattle.wm_forest.specs.declared.spot.Spot.{Spot}
use Rattle.wm_forest.specs.Forest.{Forest, end, con}
use Rattle.wm_forest.specs.Change.{arriving, nobody, placed, unfull, unfull_kind, without}
use Rattle.wm_forest.specs.Counts.{but, con_of, count, marks_of, newcomer_share, one_con, one_space, row_length, row_with, space_of}
use Rattle.wm_forest.specs.Look.{con_kind, first_kids, first_part, has, kind_by, only, same}
use Rattle.wm_tree.specs.Move.{apart, moved, moved_share, passed_by_move}
use Rattle.wm_forest.specs.Place.{IsPlace, TakesFirst, is_tiled, named, rect_at, room_by, room_under, row_room, siblings}
use Rattle.wm_forest.specs.SoundRow.{Level, containers, HasShare, IsNode, IsSoundRow, one_of, rank_of, ranks, tally, roots}
use Rattle.wm_tree.specs.Sound.{IsSound}
use Rattle.wm_forest.specs.Spot.{fits, room_below, spot_in, spot_of, top}
use Rattle.wm_tree.specs.TreeValue.{TreeValue}
use Rattle.wm_forest.specs.RootId.{root}
use Rattle.wm_tree.proofs.AttachLemmas.{Ready, root_room, sound-put, space_room}
use Rattle.wm_forest.proofs.ChangeLemmas.{by_change, by_place}
use Rattle.wm_forest.proofs.CountLemmas.{count-put, count-without}
use Rattle.wm_forest.proofs.LookLemmas.{kids-without, row-without, seen-without}
use Rattle.wm_forest.proofs.PutLemmas.{Above, Beside, IsConFirst, IsSoundAt, IsSoundBelow, Under, con_level, sound-without}
use Rattle.wm_tree.proofs.RaiseLemmas.{count-unfull, ends-unfull, row_length-unfull, sound-unfull, unfull_node, unfull_one, unfull_ranks, unfull_room, unfull_space}
use Rattle.wm_forest.proofs.RowLemmas.{node_keeps}
use Rattle.wm_forest.proofs.StandLemmas.{HasSpot, SoundKids, SoundStanding, has_spot, mean_bounds, sound-but, stands}
use Rattle.wm_tree.proofs.WrapLemmas.{resound}

-- ---- what is moved

abbrev pub SoundFound : Option Spot → Forest → Type 0
SoundFound None found = Unit {0}
SoundFound (Some s) found = IsConFirst found → IsSoundRow containers s.tiled s.room found

abbrev Finds : Level → Spot → Forest → Forest → Forest → Forest → Option Spot → Forest → Type 0
Finds l s whole old new found sp st = IsSoundRow l s.tiled s.room old → SoundFound sp found

-- a container that is found is sound where it stands
pub found_sound : (c : ConId) (l : Level) (s : Spot) (forest : Forest) → IsSoundRow l s.tiled s.room forest → SoundFound (spot_in s c forest) (only c forest)
found_sound c l s forest =
    by_place c (λ row part kids floats rest. rest) end Finds
    (λ l s whole p. tt)
    here
    (λ l s whole part kids floats rest new found sp st h p. h p.2)
    (λ l s whole part kids floats rest new found sp st h p. h p.3)
    (λ l s whole part kids floats rest new found sp st h p. h p.4) l s forest forest
  where
    here : (l : Level) (s : Spot) (whole : Forest) (part : Part) (kids floats rest : Forest) → Finds l s whole (con part kids floats rest) rest (con part kids floats end) (Some (spot_of s part)) whole
    here l s whole part kids floats rest p ok =
        let Row : Level → Type 0 = λ m. IsSoundRow m s.tiled s.room (con part kids floats end) in
        subst Row (sym (con_level l s.tiled s.room part.id part.kind part.marks kids ok p.0)) (p.0, p.1, p.2, p.3, tt)

arrived_node : (tiled other : Bool) (room : ℕ) (id : ConId) (kind : NodeKind) (marks : List (List ℕ)) (kids : Forest) (share : ℕ) (rect : Option Rect) → HasShare other share → IsNode containers tiled room id kind marks kids
    → IsNode containers other room id (placed share rect kind) marks kids
arrived_node tiled other room id (Root c) marks kids share rect ok h = absurd h
arrived_node tiled other room id (Output o) marks kids share rect ok h = absurd h
arrived_node tiled other room id (Space w) marks kids share rect ok h = absurd h
arrived_node tiled other room id (Con c) marks kids share rect ok h = (h.0, ok, h.2, h.3)

placed_room : (room share : ℕ) (rect : Option Rect) (kind : NodeKind) → room_below room (placed share rect kind) ≡ room_below room kind
placed_room room share rect (Root c) = refl
placed_room room share rect (Output o) = refl
placed_room room share rect (Space w) = refl
placed_room room share rect (Con c) = refl

pub placed_ranks : (share : ℕ) (rect : Option Rect) (kind : NodeKind) → ranks (placed share rect kind) ≡ ranks kind
placed_ranks share rect (Root c) = refl
placed_ranks share rect (Output o) = refl
placed_ranks share rect (Space w) = refl
placed_ranks share rect (Con c) = refl

pub placed_one : (share : ℕ) (rect : Option Rect) (kind : NodeKind) → one_con (placed share rect kind) ≡ one_con kind
placed_one share rect (Root c) = refl
placed_one share rect (Output o) = refl
placed_one share rect (Space w) = refl
placed_one share rect (Con c) = refl

pub placed_space : (share : ℕ) (rect : Option Rect) (kind : NodeKind) → one_space (placed share rect kind) ≡ one_space kind
placed_space share rect (Root c) = refl
placed_space share rect (Output o) = refl
placed_space share rect (Space w) = refl
placed_space share rect (Con c) = refl

-- a container that comes to a row with other room
pub arrived : (tiled other : Bool) (room room' share : ℕ) (rect : Option Rect) (away : Bool) (f : Forest) → HasShare other share → fits room' f ≡ true → IsSoundRow containers tiled room f → row_length f ≤ 1
    → IsSoundRow containers other room' (arriving share rect away f)
arrived tiled other room room' share rect away end ok fit p one = tt
arrived tiled other room room' share rect away (con part kids floats (con q k l r)) ok fit p one = absurd (omega arith)
arrived tiled other room room' share rect away (con part kids floats end) ok fit p one = by_test away
  where
    here : IsSoundRow containers tiled room' (con part kids floats end)
    here = resound tiled room room' (con part kids floats end) fit p

    kids_there : IsSoundRow containers true (room_below room' (placed share rect part.kind)) kids
    kids_there = rw (placed_room room' share rect part.kind) here.2

    floats_there : IsSoundRow containers false (room_below room' (placed share rect part.kind)) floats
    floats_there = rw (placed_room room' share rect part.kind) here.3

    node_there : IsNode containers other room' part.id (placed share rect part.kind) part.marks kids
    node_there = arrived_node tiled other room' part.id part.kind part.marks kids share rect ok here.0

    by_test : (b : Bool) → IsSoundRow containers other room' (cond b (con (record part { kind = unfull_kind (placed share rect part.kind) }) (unfull nobody kids) (unfull nobody floats) end) (con (record part { kind = placed share rect part.kind }) kids floats end))
    by_test true =
        let kind = placed share rect part.kind in (
          unfull_node containers other room' part.id kind part.marks (unfull nobody kids) (node_keeps containers other room' part.id kind part.marks kids (unfull nobody kids) tt (ends-unfull nobody kids) node_there),
          omega (arith, row_length-unfull nobody kids, p.1),
          rw (unfull_room room' kind) (sound-unfull nobody containers true (room_below room' kind) kids kids_there),
          rw (unfull_room room' kind) (sound-unfull nobody containers false (room_below room' kind) floats floats_there),
          tt,
        )
    by_test false = (node_there, p.1, kids_there, floats_there, tt)

-- ---- counts

pub count-arriving : (m : Part → ℕ) (share : ℕ) (rect : Option Rect) → ((part : Part) → m (record part { kind = unfull_kind part.kind }) ≡ m part) → ((part : Part) → m (record part { kind = placed share rect part.kind }) ≡ m part)
    → (away : Bool) (f : Forest) → count m (arriving share rect away f) ≡ count m f
count-arriving m share rect hu hp away end = refl
count-arriving m share rect hu hp true (con part kids floats rest) =
    omega (arith, hu (record part { kind = placed share rect part.kind }), hp part, count-unfull nobody m hu kids, count-unfull nobody m hu floats)
count-arriving m share rect hu hp false (con part kids floats rest) = omega (arith, hp part)

pub row_length-arriving : (share : ℕ) (rect : Option Rect) (away : Bool) (f : Forest) → row_length (arriving share rect away f) ≡ row_length f
row_length-arriving share rect away end = refl
row_length-arriving share rect true (con part kids floats rest) = refl
row_length-arriving share rect false (con part kids floats rest) = refl

-- what is found stands alone
pub found_alone : (c : ConId) (f : Forest) → row_length (only c f) ≤ 1
found_alone c =
    by_change c (λ row part kids floats rest. rest) end (λ old new found. row_length found ≤ 1) (omega arith)
    (λ part kids floats rest. omega arith)
    (λ part kids floats rest new found h. h)
    (λ part kids floats rest new found h. h)
    (λ part kids floats rest new found h. h)

-- ---- the place fits what is moved

-- a node that is sound in some row of containers
record SoundNode (f : Forest) : Type 0 where
  pub tiled : Bool
  pub room : ℕ
  pub sound : IsSoundRow containers tiled room f

sound_node : (sp : Option Spot) (found : Forest) → HasSpot sp → SoundFound sp found → IsConFirst found → SoundNode found
sound_node None found spot h ok = absurd spot
sound_node (Some s) found spot h ok = record { tiled = s.tiled; room = s.room; sound = h ok }

at_spot : (sp : Option Spot) (node : Forest) (share : ℕ) (rect : Option Rect) (away : Bool) → SoundNode node → row_length node ≤ 1 → is_tiled sp ≡ true → fits (room_by sp) node ≡ true → HasShare true share
    → IsSoundRow containers true (room_by sp) (arriving share rect away node)
at_spot sp node share rect away n one tiled fit ok = arrived n.tiled true n.room (room_by sp) share rect away node ok fit n.sound one

sound_at : (sp : Option Spot) (row : Forest) → is_tiled sp ≡ true → IsSoundRow containers true (room_by sp) row → IsSoundAt sp row
sound_at None row tiled p = cc
sound_at (Some s) row tiled p = let Row : Bool → Type 0 = λ b. IsSoundRow containers b s.room row in subst Row (sym tiled) p

abbrev HasPart : Option Part → Type 0
HasPart None = ⊥
HasPart (Some part) = Unit {0}

some_part : (part : Option Part) → TakesFirst part → HasPart part
some_part None ok = absurd ok
some_part (Some part) ok = tt

part_there : (n : ℕ) (part : Option Part) → room_under n part ≡ 32 → HasPart part
part_there n None e = absurd (omega (arith, e))
part_there n (Some part) e = tt

below_spot : (tiled : Bool) (sp : Option Spot) (part : Option Part) (node : Forest) (share : ℕ) (rect : Option Rect) (away : Bool) → HasSpot sp → HasPart part → SoundNode node → row_length node ≤ 1
    → fits (room_under (room_by sp) part) node ≡ true → HasShare tiled share → IsSoundBelow tiled sp part (arriving share rect away node)
below_spot tiled None part node share rect away spot some n one fit ok = absurd spot
below_spot tiled (Some s) None node share rect away spot some n one fit ok = absurd some
below_spot tiled (Some s) (Some part) node share rect away spot some n one fit ok = arrived n.tiled tiled n.room (room_below s.room part.kind) share rect away node ok fit n.sound one

-- what passes no limit is within both
move_room : (tiled a fit : Bool) (len : ℕ) → (tiled && leb 256 len) ≡ a → cond a (Some Children) (cond (not fit) (Some Depth) None) ≡ None → (tiled ≡ true → len < 256) × (fit ≡ true)
move_room tiled true fit len e h = cc
move_room tiled false false len e h = cc
move_room tiled false true len e h = (λ t. few (rw t at e), refl)
  where
    few : leb 256 len ≡ false → len < 256
    few e = grind (arith, nat_tests)

-- the mean of the others' shares where a node stands beside them
standing_share : (sp : Option Spot) (found st : Forest) (c : ConId) → SoundStanding sp found st → IsConFirst found → is_tiled sp ≡ true → HasShare true (newcomer_share (but c st))
standing_share None found st c h ok tiled = cc
standing_share (Some s) found st c h ok tiled =
    let Row : Bool → Type 0 = λ b. IsSoundRow containers b s.room st in
    mean_bounds s.room (but c st) (sound-but c containers true s.room st (subst Row tiled (h ok)))

kids_share : (sp : Option Spot) (part : Option Part) (kids : Forest) (c : ConId) → HasSpot sp → SoundKids sp part kids → TakesFirst part → HasShare true (newcomer_share (but c kids))
kids_share None part kids c spot h ok = absurd spot
kids_share (Some s) None kids c spot h ok = absurd ok
kids_share (Some s) (Some part) kids c spot h ok = mean_bounds (room_below s.room part.kind) (but c kids) (sound-but c containers true (room_below s.room part.kind) kids (h ok))

beside : (c i : ConId) (t : TreeValue) (rect : Option Rect) (away : Bool) → IsSound t → IsConFirst (only c t.nodes) → has c t.nodes ≡ true → has i t.nodes ≡ true → has i (only c t.nodes) ≡ false
    → (kind_by con_kind (first_part (only i t.nodes)) ≢ None) × (is_tiled (spot_in top i t.nodes) ≡ true) → row_length (but c (row_with i t.nodes t.nodes)) < 256 → fits (row_room i t.nodes) (only c t.nodes) ≡ true
    → Beside (arriving (newcomer_share (but c (row_with i t.nodes t.nodes))) rect away (only c t.nodes)) (only i (without c t.nodes)) (spot_in top i (without c t.nodes)) (row_with i (without c t.nodes) (without c t.nodes))
beside c i t rect away s con_first there named_there apart ok few fit =
    let f = t.nodes in
    let e = seen-without c i top f apart in
    let share : ℕ = newcomer_share (but c (row_with i f f)) in
    let node = sound_node (spot_in top c f) (only c f) (has_spot c top f there) (found_sound c roots top f s.shaped) con_first in
    let stood = (stands i roots top f f s.shaped s.shaped).0 in
    let fine = standing_share (spot_in top i f) (only i f) (row_with i f f) c stood ok.0 ok.1 in
    let Con : Option Part → Type 0 = λ q. kind_by con_kind q ≢ None in
    let At : Option Spot → Type 0 = λ q. IsSoundAt q (arriving share rect away (only c f)) in (
      subst Con (sym e.part) ok.0,
      subst At (sym e.spot) (sound_at (spot_in top i f) (arriving share rect away (only c f)) ok.1 (at_spot (spot_in top i f) (only c f) share rect away node (found_alone c f) ok.1 fit fine)),
      omega (arith, row-without c i f (s.once c) apart, few, row_length-arriving share rect away (only c f), found_alone c f),
    )

under : (c i : ConId) (t : TreeValue) (rect : Option Rect) (away : Bool) → IsSound t → IsConFirst (only c t.nodes) → has c t.nodes ≡ true → has i t.nodes ≡ true → has i (only c t.nodes) ≡ false
    → TakesFirst (first_part (only i t.nodes)) → row_length (but c (first_kids (only i t.nodes))) < 256 → fits (room_under (row_room i t.nodes) (first_part (only i t.nodes))) (only c t.nodes) ≡ true
    → Under (arriving (newcomer_share (but c (first_kids (only i t.nodes)))) rect away (only c t.nodes)) (only i (without c t.nodes)) (spot_in top i (without c t.nodes)) (row_with i (without c t.nodes) (without c t.nodes))
under c i t rect away s con_first there named_there apart ok few fit =
    let f = t.nodes in
    let e = seen-without c i top f apart in
    let share : ℕ = newcomer_share (but c (first_kids (only i f))) in
    let node = sound_node (spot_in top c f) (only c f) (has_spot c top f there) (found_sound c roots top f s.shaped) con_first in
    let fine = kids_share (spot_in top i f) (first_part (only i f)) (first_kids (only i f)) c (has_spot i top f named_there) (stands i roots top f f s.shaped s.shaped).1 ok in
    let Takes : Option Part → Type 0 = λ q. TakesFirst q in
    let Below : Option Spot → Type 0 = λ q. IsSoundBelow true q (first_part (only i f)) (arriving share rect away (only c f)) in
    let BelowPart : Option Part → Type 0 = λ q. IsSoundBelow true (spot_in top i (without c f)) q (arriving share rect away (only c f)) in (
      subst Takes (sym e.part) ok,
      subst BelowPart (sym e.part) (subst Below (sym e.spot) (below_spot true (spot_in top i f) (first_part (only i f)) (only c f) share rect away (has_spot i top f named_there) (some_part (first_part (only i f)) ok) node (found_alone c f) fit fine)),
      omega (arith, kids-without c i f (s.once c) apart, few, row_length-arriving share rect away (only c f), found_alone c f),
    )

above : (c i : ConId) (t : TreeValue) (rect : Option Rect) (away : Bool) → IsSound t → IsConFirst (only c t.nodes) → has c t.nodes ≡ true → has i t.nodes ≡ true → has i (only c t.nodes) ≡ false
    → room_under (row_room i t.nodes) (first_part (only i t.nodes)) ≡ 32 → fits 32 (only c t.nodes) ≡ true
    → Above (arriving 0 rect away (only c t.nodes)) (only i (without c t.nodes)) (spot_in top i (without c t.nodes)) (row_with i (without c t.nodes) (without c t.nodes))
above c i t rect away s con_first there named_there apart room fit =
    let f = t.nodes in
    let e = seen-without c i top f apart in
    let node = sound_node (spot_in top c f) (only c f) (has_spot c top f there) (found_sound c roots top f s.shaped) con_first in
    let Below : Option Spot → Type 0 = λ q. IsSoundBelow false q (first_part (only i f)) (arriving 0 rect away (only c f)) in
    let BelowPart : Option Part → Type 0 = λ q. IsSoundBelow false (spot_in top i (without c f)) q (arriving 0 rect away (only c f)) in
    subst BelowPart (sym e.part) (subst Below (sym e.spot) (below_spot false (spot_in top i f) (first_part (only i f)) (only c f) 0 rect away (has_spot i top f named_there) (part_there (row_room i f) (first_part (only i f)) room) node (found_alone c f) (rw room fit) refl))

ready_moved : (c : ConId) (p : Place) (t : TreeValue) (away : Bool) → IsSound t → IsConFirst (only c t.nodes) → has c t.nodes ≡ true → has (named p) t.nodes ≡ true → has (named p) (only c t.nodes) ≡ false → IsPlace p t.nodes
    → passed_by_move c p t.nodes ≡ None → Ready p (arriving (moved_share c p t.nodes) (rect_at p) away (only c t.nodes)) (without c t.nodes)
ready_moved c (After i) t away s con_first there named_there outside ok none =
    let r = move_room true (true && leb 256 (row_length (but c (row_with i t.nodes t.nodes)))) (fits (row_room i t.nodes) (only c t.nodes)) (row_length (but c (row_with i t.nodes t.nodes))) refl none in
    beside c i t None away s con_first there named_there outside (ok named_there) (r.0 refl) r.1
ready_moved c (Before i) t away s con_first there named_there outside ok none =
    let r = move_room true (true && leb 256 (row_length (but c (row_with i t.nodes t.nodes)))) (fits (row_room i t.nodes) (only c t.nodes)) (row_length (but c (row_with i t.nodes t.nodes))) refl none in
    beside c i t None away s con_first there named_there outside (ok named_there) (r.0 refl) r.1
ready_moved c (First i) t away s con_first there named_there outside ok none =
    let r = move_room true (true && leb 256 (row_length (but c (first_kids (only i t.nodes))))) (fits (room_under (row_room i t.nodes) (first_part (only i t.nodes))) (only c t.nodes)) (row_length (but c (first_kids (only i t.nodes)))) refl none in
    under c i t None away s con_first there named_there outside (ok named_there) (r.0 refl) r.1
ready_moved c (Last i) t away s con_first there named_there outside ok none =
    let r = move_room true (true && leb 256 (row_length (but c (first_kids (only i t.nodes))))) (fits (room_under (row_room i t.nodes) (first_part (only i t.nodes))) (only c t.nodes)) (row_length (but c (first_kids (only i t.nodes)))) refl none in
    under c i t None away s con_first there named_there outside (ok named_there) (r.0 refl) r.1
ready_moved c (Float w rect) t away s con_first there named_there outside ok none =
    let r = move_room false (false && leb 256 (row_length (but c (siblings (Float w rect) t.nodes)))) (fits 32 (only c t.nodes)) (row_length (but c (siblings (Float w rect) t.nodes))) refl none in
    above c w t (Some rect) away s con_first there named_there outside (space_room (row_room w t.nodes) (first_part (only w t.nodes)) (ok named_there)) r.1
ready_moved c (Scratchpad rect) t away s con_first there named_there outside ok none =
    let r = move_room false (false && leb 256 (row_length (but c (siblings (Scratchpad rect) t.nodes)))) (fits 32 (only c t.nodes)) (row_length (but c (siblings (Scratchpad rect) t.nodes))) refl none in
    above c root t (Some rect) away s con_first there named_there outside (root_room (row_room root t.nodes) t.nodes s.shaped s.rooted) r.1

count_moved : (m : Part → ℕ) (c : ConId) (p : Place) (t : TreeValue) → ((part : Part) → m (record part { kind = unfull_kind part.kind }) ≡ m part)
    → ((share : ℕ) (rect : Option Rect) (part : Part) → m (record part { kind = placed share rect part.kind }) ≡ m part) → has (named p) t.nodes ≡ true → has (named p) (only c t.nodes) ≡ false
    → count m (moved c p t).nodes ≡ count m t.nodes
count_moved m c p t hu hp named_there outside =
    let row : Forest = arriving (moved_share c p t.nodes) (rect_at p) (apart t c (named p)) (only c t.nodes) in
    omega (
      arith,
      count-put m p row (without c t.nodes) ((seen-without c (named p) top t.nodes outside).there ∙ named_there),
      count-arriving m (moved_share c p t.nodes) (rect_at p) hu (hp (moved_share c p t.nodes) (rect_at p)) (apart t c (named p)) (only c t.nodes),
      count-without m c t.nodes,
    )

-- each id is there as often as before
pub ones_moved : (c : ConId) (p : Place) (t : TreeValue) → has (named p) t.nodes ≡ true → has (named p) (only c t.nodes) ≡ false → (i : ConId) → tally i (moved c p t).nodes ≡ tally i t.nodes
ones_moved c p t there outside i = count_moved (one_of i) c p t (λ part. refl) (λ share rect part. refl) there outside

pub ones_moved_by : (c : ConId) (p : Place) (t : TreeValue) (new : Forest) → has (named p) t.nodes ≡ true → has (named p) (only c t.nodes) ≡ false → new ≡ (moved c p t).nodes → (i : ConId) → tally i new ≡ tally i t.nodes
ones_moved_by c p t new there outside e i = rw e (ones_moved c p t there outside i)

pub sound-moved : (c : ConId) (p : Place) (t : TreeValue) → IsConFirst (only c t.nodes) → has c t.nodes ≡ true → has (named p) t.nodes ≡ true → has (named p) (only c t.nodes) ≡ false → IsPlace p t.nodes
    → passed_by_move c p t.nodes ≡ None → IsSound t → IsSound (moved c p t)
sound-moved c p t con_first there named_there outside ok none s =
    let away = apart t c (named p) in
    let row : Forest = arriving (moved_share c p t.nodes) (rect_at p) away (only c t.nodes) in
    let g = sound-without c roots top t.nodes con_first s.shaped in
    let h = sound-put p row (without c t.nodes) (ready_moved c p t away s con_first there named_there outside ok none) g.sound in
    let ones : (i : ConId) → count (one_of i) (moved c p t).nodes ≡ count (one_of i) t.nodes = ones_moved c p t named_there outside in
    record {
      shaped = h.0;
      rooted = h.1 root (g.keeps root s.rooted);
      once = λ i. omega (arith, ones i, s.once i);
      fresh = λ i above. omega (arith, ones i, s.fresh i above);
      low = omega (arith, ones nobody, s.low);
      above = s.above;
      known = λ i. s.known i ∙ sym (count_moved (rank_of i) c p t (λ part. ap (λ n. cond (same part.id i) n 0) (unfull_ranks part.kind)) (λ share rect part. ap (λ n. cond (same part.id i) n 0) (placed_ranks share rect part.kind)) named_there outside);
      few = omega (arith, count_moved con_of c p t (λ part. unfull_one part.kind) (λ share rect part. placed_one share rect part.kind) named_there outside, s.few);
      few_spaces = omega (arith, count_moved space_of c p t (λ part. unfull_space part.kind) (λ share rect part. placed_space share rect part.kind) named_there outside, s.few_spaces);
      few_marks = omega (arith, count_moved marks_of c p t (λ part. refl) (λ share rect part. refl) named_there outside, s.few_marks);
      ids = s.ids;
    }
