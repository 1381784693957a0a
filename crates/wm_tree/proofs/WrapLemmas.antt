-- A container in a new split keeps what holds of every tree.
use Rattle.std.proofs.Common.{◌≡◌, ℕ, ◌-◌, ◌≤◌, ◌<◌, Bool, true, false, cond, leb, ltb, not, ◌&&◌, inl, List, Option, None, Some, refl, ap, sym, subst, arith}
use Rattle.std.proofs.lemmas.Bool.Decides.{nat_tests}
use Rattle.wm_base.specs.declared.errors.Limit.TheVariants.{Containers, Depth, Ids}
use Rattle.wm_base.specs.declared.ids.ConId.{ConId}
use Rattle.wm_base.specs.declared.plan.Border.{Border}
use Rattle.wm_base.specs.declared.plan.Layout.{Layout}
use Rattle.wm_forest.specs.declared.kind.KindEdit.TheVariants as edits
use Rattle.wm_forest.specs.declared.part.Part.{Part}
use Rattle.wm_forest.specs.declared.part.NodeKind.{NodeKind}
use Rattle.wm_forest.specs.declared.part.NodeKind.TheVariants.{Root, Output, Space, Con}
use Rattle.wm_forest.specs.declared.place.NewCon.TheVariants as new
use Rattle.wm_forest.specs.declared.spot.Spot.{Spot}
use Rattle.wm_forest.specs.Forest.{Forest, end, con}
use Rattle.wm_forest.specs.Change.{at}
use Rattle.wm_forest.specs.Counts.{con_count, con_of, marks_of, row_with, share_of, space_of}
use Rattle.wm_forest.specs.Kinds.{changed}
use Rattle.wm_forest.specs.Look.{first_part, has, only, same}
use Rattle.wm_tree.specs.Move.{passed_by_wrap, share_by, share_in, wrap_word, wrapped}
use Rattle.wm_forest.specs.Place.{IsTiled, is_tiled, new_part, room_by, row_room}
use Rattle.wm_forest.specs.SoundRow.{Level, roots, containers, HasShare, IsNode, IsSoundRow, one_of, rank_of}
use Rattle.wm_tree.specs.Sound.{IsSound}
use Rattle.wm_forest.specs.Spot.{fits, room_below, spot_in, spot_of, top}
use Rattle.wm_tree.specs.TreeValue.{TreeValue}
use Rattle.wm_forest.specs.RootId.{id}
use Rattle.wm_tree.proofs.AttachLemmas.{sound-grown}
use Rattle.wm_forest.proofs.CountLemmas.{count-more}
use Rattle.wm_forest.proofs.EditLemmas.{changed_one, changed_ranks, changed_space}
use Rattle.wm_forest.proofs.PutLemmas.{Here, IsConFirst, con_level}
use Rattle.wm_forest.proofs.RowLemmas.{Grows, keeps_by, node_keeps}
use Rattle.wm_forest.proofs.StandLemmas.{HasSpot, has_spot}

-- ---- rows with other room

pub all_four : (a b c d : Bool) → (a && b && c && d) ≡ true → (a ≡ true) × (b ≡ true) × (c ≡ true) × (d ≡ true)
all_four true true true true h = (refl, refl, refl, refl)
all_four true true true false h = cc
all_four true true false d h = cc
all_four true false c d h = cc
all_four false b c d h = cc

resound_node : (tiled : Bool) (room other : ℕ) (id : ConId) (kind : NodeKind) (marks : List (List ℕ)) (kids : Forest) → 0 < other → IsNode containers tiled room id kind marks kids
    → IsNode containers tiled other id kind marks kids × (other - 1 ≡ room_below other kind)
resound_node tiled room other id (Root c) marks kids low h = absurd h
resound_node tiled room other id (Output o) marks kids low h = absurd h
resound_node tiled room other id (Space w) marks kids low h = absurd h
resound_node tiled room other id (Con c) marks kids low h = ((omega arith, h.1, h.2, h.3), refl)

-- a row of containers that fits other room is sound there
pub resound : (tiled : Bool) (room other : ℕ) (f : Forest) → fits other f ≡ true → IsSoundRow containers tiled room f → IsSoundRow containers tiled other f
resound tiled room other end fit p = tt
resound tiled room other (con part kids floats rest) fit p =
    let a = all_four (ltb 0 other) (fits (other - 1) kids) (fits (other - 1) floats) (fits other rest) fit in
    let low : 0 < other = positive a.0 in
    let n = resound_node tiled room other part.id part.kind part.marks kids low p.0 in
    let Kids : ℕ → Type 0 = λ r. IsSoundRow containers true r kids in
    let Floats : ℕ → Type 0 = λ r. IsSoundRow containers false r floats in (
      n.0,
      p.1,
      subst Kids n.1 (resound true (room_below room part.kind) (other - 1) kids a.1 p.2),
      subst Floats n.1 (resound false (room_below room part.kind) (other - 1) floats a.2 p.3),
      resound tiled room other rest a.3 p.4,
    )
  where
    positive : ltb 0 other ≡ true → 0 < other
    positive e = grind (arith, nat_tests)

-- ---- wrapping

pub node_share : (tiled : Bool) (room : ℕ) (id : ConId) (kind : NodeKind) (marks : List (List ℕ)) (kids : Forest) → IsNode containers tiled room id kind marks kids → HasShare tiled (share_of kind) × (1 ≤ room)
node_share tiled room id (Root c) marks kids h = absurd h
node_share tiled room id (Output o) marks kids h = absurd h
node_share tiled room id (Space w) marks kids h = absurd h
node_share tiled room id (Con c) marks kids h = (h.1, h.0)

whole_share : (tiled : Bool) (room : ℕ) (id : ConId) (kind : NodeKind) (marks : List (List ℕ)) (kids : Forest) → tiled ≡ true → IsNode containers tiled room id kind marks kids
    → IsNode containers true room id (changed (edits.Share 65536) kind) marks kids
whole_share tiled room id (Root c) marks kids e h = absurd h
whole_share tiled room id (Output o) marks kids e h = absurd h
whole_share tiled room id (Space w) marks kids e h = absurd h
whole_share tiled room id (Con c) marks kids e h = (h.0, (omega arith, omega arith), h.2, h.3)

whole_room : (room : ℕ) (kind : NodeKind) → room_below room (changed (edits.Share 65536) kind) ≡ room_below room kind
whole_room room (Root c) = refl
whole_room room (Output o) = refl
whole_room room (Space w) = refl
whole_room room (Con c) = refl

abbrev WrapFits : Option Spot → Forest → Type 0
WrapFits None found = ⊥
WrapFits (Some s) found = (s.tiled ≡ true) × (fits (s.room - 1) found ≡ true)

abbrev Wraps : ℕ → Forest → Option Spot → Forest → Type 0
Wraps share found sp st = IsConFirst found × (share ≡ share_by (first_part found)) × WrapFits sp found

shaped-wrapped : (c n : ConId) (share : ℕ) (border : Border) (layout : Layout) (l : Level) (s : Spot) (forest : Forest) → Wraps share (only c forest) (spot_in s c forest) (row_with c forest forest) → IsSoundRow l s.tiled s.room forest
    → Grows 0 l s.tiled s.room forest forest (at c wrap_word (new_part n share border None (new.Split layout)) forest) (row_with c forest forest)
shaped-wrapped c n share border layout l s forest ok p = keeps_by IsNode node_keeps c wrap_word split 0 (Wraps share) (λ found sp st h. inl refl) here l s forest forest ok p
  where
    split : Part
    split = new_part n share border None (new.Split layout)

    here : (l : Level) (s : Spot) (whole : Forest) (part : Part) (kids floats rest : Forest) → Wraps share (con part kids floats end) (Some (spot_of s part)) whole
        → Here 0 l s (con part kids floats rest) (wrap_word (new_part n share border None (new.Split layout)) part kids floats rest)
    here l s whole part kids floats rest ok p =
        let At : Level → Type 0 = λ l. Here 0 l s (con part kids floats rest) (wrap_word (new_part n share border None (new.Split layout)) part kids floats rest) in
        subst At (con_level l s.tiled s.room part.id part.kind part.marks kids ok.0 p.0) (λ q.
        let own = node_share s.tiled s.room part.id part.kind part.marks kids q.0 in
        let Share : ℕ → Type 0 = λ z. HasShare s.tiled z in
        let below = resound s.tiled s.room (s.room - 1) (con part kids floats end) ok.2.1 (q.0, q.1, q.2, q.3, tt) in (
          (
            (own.1, subst Share (sym ok.1) own.0, omega arith, tt),
            omega arith,
            (whole_share s.tiled (s.room - 1) part.id part.kind part.marks kids ok.2.0 below.0, below.1, rw (whole_room (s.room - 1) part.kind) below.2, rw (whole_room (s.room - 1) part.kind) below.3, tt),
            tt,
            q.4,
          ),
          tt,
          omega arith,
        )) p

-- what passes no limit is within all
record HasRoom (cons next : ℕ) (fit : Bool) : Type 0 where
  pub containers_left : cons < 4096
  pub levels_left : fit ≡ true
  pub ids_left : next ≤ 4000000000

room_step : (cons next : ℕ) (fit a e : Bool) → leb 4096 cons ≡ a → ltb 4000000000 next ≡ e → cond a (Some Containers) (cond (not fit) (Some Depth) (cond e (Some Ids) None)) ≡ None → HasRoom cons next fit
room_step cons next fit true e ea ee h = cc
room_step cons next false false e ea ee h = cc
room_step cons next true false true ea ee h = cc
room_step cons next true false false ea ee h = record { containers_left = grind (arith, nat_tests); levels_left = refl; ids_left = grind (arith, nat_tests) }

wraps_here : (sp : Option Spot) (found : Forest) → HasSpot sp → is_tiled sp ≡ true → fits (room_by sp - 1) found ≡ true → WrapFits sp found
wraps_here None found spot tiled fit = absurd spot
wraps_here (Some s) found spot tiled fit = (tiled, fit)

pub sound-wrapped : (c : ConId) (layout : Layout) (t : TreeValue) → has c t.nodes ≡ true → IsTiled c t.nodes → passed_by_wrap c t.nodes t.next_id ≡ None → IsSound t → IsSound (wrapped c layout t)
sound-wrapped c layout t there ok none s =
    let split : Part = new_part (id t.next_id) (share_in c t.nodes) t.border None (new.Split layout) in
    let r = room_step (con_count t.nodes) t.next_id (fits (row_room c t.nodes - 1) (only c t.nodes)) (leb 4096 (con_count t.nodes)) (ltb 4000000000 t.next_id) refl refl none in
    let g = shaped-wrapped c (id t.next_id) (share_in c t.nodes) t.border layout roots top t.nodes
    (ok.0, refl, wraps_here (spot_in top c t.nodes) (only c t.nodes) (has_spot c top t.nodes there) ok.1 r.levels_left) s.shaped in
    sound-grown t (at c wrap_word split t.nodes) s (g.sound, g.keeps)
    (record {
      ones = λ i. count-more (one_of i) c wrap_word split (one_of i split) (λ part kids floats rest. omega arith) t.nodes there;
      ranked_more = λ i. count-more (rank_of i) c wrap_word split (rank_of i split)
          (λ part kids floats rest. let same_rank : rank_of i (record part { kind = changed (edits.Share 65536) part.kind }) ≡ rank_of i part = ap (λ n. cond (same part.id i) n 0) (changed_ranks (edits.Share 65536) part.kind) in omega (arith, same_rank)) t.nodes there;
      cons = omega (arith, count-more con_of c wrap_word split 1 (λ part kids floats rest. omega (arith, changed_one (edits.Share 65536) part.kind)) t.nodes there, r.containers_left);
      spaces = omega (arith, count-more space_of c wrap_word split 0 (λ part kids floats rest. omega (arith, changed_space (edits.Share 65536) part.kind)) t.nodes there, s.few_spaces);
      marks = omega (arith, count-more marks_of c wrap_word split 0 (λ part kids floats rest. omega arith) t.nodes there);
    })
    r.ids_left
