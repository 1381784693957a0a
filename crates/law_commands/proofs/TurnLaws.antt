-- A container that moves towards one beside it and back, and two that change places twice.
use Rattle.std.proofs.Common.{◌≡◌, ◌≢◌, ℕ, ◌≤◌, Bool, true, false, cond, not, ◌&&◌, ◌||◌, Option, None, Some, refl, ap, sym, ◌∙◌, subst, arith}
use Rattle.std.specs.Prelude.{is_some, option_and_then}
use Rattle.wm_base.specs.declared.geometry.Dir.{Dir}
use Rattle.wm_base.specs.declared.geometry.Dir.TheVariants.{Left, Right, Up, Down}
use Rattle.wm_base.specs.declared.ids.ConId.{ConId}
use Rattle.wm_focus.proofs.BesideLemmas.{below_two}
use Rattle.wm_shared.proofs.NeighbourLemmas.{neighbour_two}
use Rattle.wm_shared.proofs.DownLemmas.{Once, has_only, in_floats, in_kids, in_rest, not_below, once_floats, once_kids, once_only, once_rest}
use Rattle.wm_focus.proofs.GiveLemmas.{container_there}
use Rattle.wm_shared.proofs.KidLemmas.{child_there, in_tiled, kid_of, kid_there, takes_containers}
use Rattle.wm_focus.specs.Moves.{beside, is_split_con, is_split_part, move_dir_tree, neighbour_below, turned}
use Rattle.wm_focus.specs.Rungs.{aimed, rung, runs, runs_con}
use Rattle.wm_shared.specs.Neighbours.{after, before, dir_axis, first_id, neighbour, same_axis, axis_of}
use Rattle.wm_shared.specs.Subject.{is_container}
use Rattle.wm_focus.specs.Swaps.{con_named, exchanged_with, swap_tree}
use Rattle.wm_focus.specs.declared.rungs.Aim.TheVariants.{Beside}
use Rattle.wm_language.specs.declared.arguments.SwapArg.TheVariants as swaps
use Rattle.law_commands.proofs.PartMaps.{count-mapped, edited_mapped, mapped, mapped-mapped, mapped_all, only_mapped, spot_mapped, tuned}
use Rattle.wm_focus.proofs.MoveGoals.{chained, turn_fits}
use Rattle.wm_focus.proofs.TurnLemmas.{heads, heads_only}
use Rattle.law_commands.proofs.TradeLemmas.{Leaves, came, came_back, came_con, came_share, first_id as first_own, leaves_traded, light, not_other, same_sym, second_id as second_own, share_kept, trade, trade_back, traded, was_a, was_b, was_same}
use Rattle.law_commands.specs.Turning.{MovesBack, SwapsBack, opposite}
use Rattle.wm_tree.proofs.AttachLemmas.{has_row}
use Rattle.wm_forest.proofs.ForestLemmas.{only_absent}
use Rattle.wm_forest.proofs.RecencyLemmas.{same_is, same_self}
use Rattle.wm_forest.specs.Change.{at, is_id}
use Rattle.wm_forest.specs.declared.kind.KindEdit.TheVariants as edits
use Rattle.wm_forest.specs.declared.part.ConKind.{ConKind}
use Rattle.wm_forest.specs.declared.part.ConKind.TheVariants.{Split, Window, Placeholder}
use Rattle.wm_forest.specs.declared.part.ConPart.{ConPart}
use Rattle.wm_forest.specs.declared.part.NodeKind.{NodeKind}
use Rattle.wm_forest.specs.declared.part.NodeKind.TheVariants.{Root, Output, Space, Con}
use Rattle.wm_forest.specs.declared.part.Part.{Part}
use Rattle.wm_forest.specs.declared.spot.Spot.{Spot}
use Rattle.wm_forest.specs.Counts.{share_of}
use Rattle.wm_forest.specs.Forest.{Forest, end, con}
use Rattle.wm_forest.specs.Kinds.{changed, kind_changed}
use Rattle.wm_forest.specs.Look.{con_kind, first_floats, first_kids, first_part, has, in_row, kind_by, kind_of, only, rest_of, same}
use Rattle.wm_tree.specs.Move.{apart as are_apart, exchanged, same_space, share_by, share_in}
use Rattle.wm_forest.specs.Exchange.{exchanged_nodes}
use Rattle.wm_forest.specs.SoundRow.{IsNode, IsSoundRow, Level, below, containers, one_of, roots, tally}
use Rattle.wm_forest.specs.Place.{is_tiled}
use Rattle.wm_forest.specs.Spot.{room_below, spot_below, spot_in, spot_of, top}
use Rattle.wm_tree.specs.TreeValue.{TreeValue, is_con, is_con_kind, is_tiled_con, is_tiled_spot, parent, workspace_of}
use Rattle.wm_forest.specs.Focus.{tiled_by, tiled_kids}

-- ---- two children of a node stand alike

abbrev held : Option Spot → Option ConId
held o = option_and_then (λ (s : Spot). s.holder) o

abbrev spaced : Option Spot → Option ConId
spaced o = option_and_then (λ (s : Spot). s.space) o

-- they have one holder and one workspace
record Alike (x y : Option Spot) : Type 0 where
  holders : held x ≡ held y
  spaces : spaced x ≡ spaced y

record StandsBy (s : Spot) (x : Option Spot) : Type 0 where
  holder : held x ≡ s.holder
  space : spaced x ≡ s.space

-- a node of a row of containers
row_stands : (i : ConId) (s : Spot) (b : Bool) (room : ℕ) (row : Forest) → IsSoundRow containers b room row → Once row → in_row i row ≡ true → StandsBy s (spot_in s i row)
row_stands i s b room end sound once h = cc
row_stands i s b room (con part kids floats rest) sound once h = step (same part.id i) refl (row_stands i s b room rest sound.4 (once_rest part kids floats rest once)) h where
  own : (kind : NodeKind) → part.kind ≡ kind → IsNode containers b room part.id kind part.marks kids → (spot_of s part).space ≡ s.space
  own (Root c) e n = absurd n
  own (Output o) e n = absurd n
  own (Space w) e n = absurd n
  own (Con c) e n = rw e refl

  step : (a : Bool) → same part.id i ≡ a → (in_row i rest ≡ true → StandsBy s (spot_in s i rest)) → (a || in_row i rest) ≡ true → StandsBy s (spot_in s i (con part kids floats rest))
  step true e p h = record { holder = rw e refl; space = rw e (own part.kind refl sound.0) }
  step false e p h =
      let n = in_rest part kids floats rest once i (has_row i rest h) in
      let k = p h in
      record { holder = rw (n.0, n.1, n.2) k.holder; space = rw (n.0, n.1, n.2) k.space }

-- two children of the node p
kids_alike : (p c n : ConId) (l : Level) (s : Spot) (b : Bool) (room : ℕ) (f : Forest) → IsSoundRow l b room f → Once f → in_row c (tiled_kids (only p f)) ≡ true → in_row n (tiled_kids (only p f)) ≡ true
    → Alike (spot_in s c f) (spot_in s n f)
kids_alike p c n l s b room end sound once hc hn = cc
kids_alike p c n l s b room (con part kids floats rest) sound once hc hn =
    step (same part.id p) (has p kids) (has p floats) (kids_alike p c n (below l) (spot_below true s part) true (room_below room part.kind) kids sound.2 (once_kids part kids floats rest once))
    (kids_alike p c n containers (spot_below false s part) false (room_below room part.kind) floats sound.3 (once_floats part kids floats rest once)) (kids_alike p c n l s b room rest sound.4 (once_rest part kids floats rest once)) hc hn
  where
    node : Forest
    node = con part kids floats rest

    from_kids : has c kids ≡ true → has n kids ≡ true → Alike (spot_in (spot_below true s part) c kids) (spot_in (spot_below true s part) n kids) → Alike (spot_in s c node) (spot_in s n node)
    from_kids u v k = rw (in_kids part kids floats rest once c u, in_kids part kids floats rest once n v, u, v) k

    from_floats : has c floats ≡ true → has n floats ≡ true → Alike (spot_in (spot_below false s part) c floats) (spot_in (spot_below false s part) n floats) → Alike (spot_in s c node) (spot_in s n node)
    from_floats u v k =
        let x = in_floats part kids floats rest once c u in
        let y = in_floats part kids floats rest once n v in
        rw (x.0, y.0, x.1, y.1, u, v) k

    from_rest : has c rest ≡ true → has n rest ≡ true → Alike (spot_in s c rest) (spot_in s n rest) → Alike (spot_in s c node) (spot_in s n node)
    from_rest u v k =
        let x = in_rest part kids floats rest once c u in
        let y = in_rest part kids floats rest once n v in
        rw (x.0, y.0, x.1, y.1, x.2, y.2) k

    inner : (i : ConId) (g : Forest) → in_row i (tiled_kids (only p g)) ≡ true → has i g ≡ true
    inner i g h = has_only i p g (child_there i (only p g) h)

    here : in_row c (tiled_by part.kind kids) ≡ true → in_row n (tiled_by part.kind kids) ≡ true → Alike (spot_in s c node) (spot_in s n node)
    here u v =
        let t = takes_containers l b room part.id c part.kind part.marks kids kids sound.0 u in
        let Row : Level → Type 0 = λ m. IsSoundRow m true (room_below room part.kind) kids in
        let row = subst Row t.0 sound.2 in
        let z = in_tiled n part.kind kids v in
        let k = row_stands c (spot_below true s part) true (room_below room part.kind) kids row (once_kids part kids floats rest once) t.1 in
        let m = row_stands n (spot_below true s part) true (room_below room part.kind) kids row (once_kids part kids floats rest once) z in
        from_kids (has_row c kids t.1) (has_row n kids z) (record { holders = k.holder ∙ sym m.holder; spaces = k.space ∙ sym m.space })

    step : (a k m : Bool) → (in_row c (tiled_kids (only p kids)) ≡ true → in_row n (tiled_kids (only p kids)) ≡ true → Alike (spot_in (spot_below true s part) c kids) (spot_in (spot_below true s part) n kids))
        → (in_row c (tiled_kids (only p floats)) ≡ true → in_row n (tiled_kids (only p floats)) ≡ true → Alike (spot_in (spot_below false s part) c floats) (spot_in (spot_below false s part) n floats))
        → (in_row c (tiled_kids (only p rest)) ≡ true → in_row n (tiled_kids (only p rest)) ≡ true → Alike (spot_in s c rest) (spot_in s n rest))
        → in_row c (tiled_kids (cond a (con part kids floats end) (cond k (only p kids) (cond m (only p floats) (only p rest))))) ≡ true
        → in_row n (tiled_kids (cond a (con part kids floats end) (cond k (only p kids) (cond m (only p floats) (only p rest))))) ≡ true → Alike (spot_in s c node) (spot_in s n node)
    step true k m u v w hc hn = here hc hn
    step false true m u v w hc hn = from_kids (inner c kids hc) (inner n kids hn) (u hc hn)
    step false false true u v w hc hn = from_floats (inner c floats hc) (inner n floats hn) (v hc hn)
    step false false false u v w hc hn = from_rest (inner c rest hc) (inner n rest hn) (w hc hn)

-- ---- neighbours in a row whose parts are traded

module _ (c n : ConId) (pc pn : Part) (two : same c n ≡ false) (ic : same pc.id c ≡ true) (ib : same pn.id n ≡ true) where
  abbrev trade_of : Part → Part
  trade_of = traded c pc n pn

  first_mapped : (i j : ConId) → ((p : Part) → same (trade_of p).id i ≡ same p.id j) → (row : Forest) → first_id row ≡ Some j → first_id (mapped trade_of row) ≡ Some i
  first_mapped i j e end h = cc
  first_mapped i j e (con part kids floats rest) h =
      let one : part.id ≡ j = cc in
      ap (λ (z : ConId). Some z) (same_is (trade_of part).id i (e part ∙ same_self part.id j one))

  is_first : (i : ConId) (o : Option ConId) → is_id i o ≡ true → o ≡ Some i
  is_first i None h = cc
  is_first i (Some d) h = ap (λ (z : ConId). Some z) (sym (same_is i d h))

  -- the one that follows c is not the first of the rest, which c is in
  not_first : (row : Forest) → Once row → after c row ≡ Some n → is_id c (first_id (mapped trade_of row)) ≡ false
  not_first end once h = cc
  not_first (con part kids floats rest) once h = step (same part.id n) refl where
    step : (b : Bool) → same part.id n ≡ b → same c (trade_of part).id ≡ false
    step false e = same_sym (trade_of part).id c (was_b c n pc pn two ic ib part ∙ e)
    step true e =
        let other : same part.id c ≡ false = not_other part.id n c (same_sym c n two) e in
        let behind : after c rest ≡ Some n = rw other at h in
        let t = neighbour_two Right c n rest (once_rest part kids floats rest once) behind in
        let clear = (not_below part kids floats rest once n e).2 in
        let there = has_row n rest t.second in
        absurd (cc)

  -- n followed c, and now c follows n
  now_before : (row : Forest) → Once row → after c row ≡ Some n → before c (mapped trade_of row) ≡ Some n
  now_before end once h = cc
  now_before (con part kids floats rest) once h = step (same part.id c) refl (now_before rest (once_rest part kids floats rest once)) h where
    step : (a : Bool) → same part.id c ≡ a → (after c rest ≡ Some n → before c (mapped trade_of rest) ≡ Some n) → cond a (first_id rest) (after c rest) ≡ Some n
        → cond (is_id c (first_id (mapped trade_of rest))) (Some (trade_of part).id) (before c (mapped trade_of rest)) ≡ Some n
    step true e p h =
        let first : is_id c (first_id (mapped trade_of rest)) ≡ true = ap (is_id c) (first_mapped c n (was_b c n pc pn two ic ib) rest h) ∙ same_self c c refl in
        let own : (trade_of part).id ≡ n = same_is (trade_of part).id n (was_a c n pc pn two ic ib part ∙ e) in
        rw first (ap (λ (z : ConId). Some z) own)
    step false e p h = rw (not_first rest (once_rest part kids floats rest once) h) (p h)

  -- n was before c, and now it follows
  now_after : (row : Forest) → Once row → before c row ≡ Some n → after c (mapped trade_of row) ≡ Some n
  now_after end once h = cc
  now_after (con part kids floats rest) once h = step (is_id c (first_id rest)) refl (now_after rest (once_rest part kids floats rest once)) h where
    step : (a : Bool) → is_id c (first_id rest) ≡ a → (before c rest ≡ Some n → after c (mapped trade_of rest) ≡ Some n) → cond a (Some part.id) (before c rest) ≡ Some n
        → cond (same (trade_of part).id c) (first_id (mapped trade_of rest)) (after c (mapped trade_of rest)) ≡ Some n
    step true e p h =
        let one : part.id ≡ n = cc in
        rw (was_b c n pc pn two ic ib part ∙ same_self part.id n one) (first_mapped n c (was_a c n pc pn two ic ib) rest (is_first c (first_id rest) e))
    step false e p h =
        let t = neighbour_two Left c n rest (once_rest part kids floats rest once) h in
        let other = (in_rest part kids floats rest once n (has_row n rest t.second)).0 in
        rw (was_b c n pc pn two ic ib part ∙ other) (p h)

  -- the neighbour on one side is now that on the other
  neighbour_back : (d : Dir) (row : Forest) → Once row → neighbour d c row ≡ Some n → neighbour (opposite d) c (mapped trade_of row) ≡ Some n
  neighbour_back Left row once h = now_after row once h
  neighbour_back Right row once h = now_before row once h
  neighbour_back Up row once h = now_after row once h
  neighbour_back Down row once h = now_before row once h

axis_back : (d : Dir) → dir_axis (opposite d) ≡ dir_axis d
axis_back Left = refl
axis_back Right = refl
axis_back Up = refl
axis_back Down = refl

runs_back_con : (d : Dir) (kind : ConKind) → runs_con (opposite d) kind ≡ runs_con d kind
runs_back_con d (Split layout last) = ap (same_axis (axis_of layout)) (axis_back d)
runs_back_con d (Window props owner natural) = refl
runs_back_con d (Placeholder props swallows) = refl

runs_back : (d : Dir) (kind : NodeKind) → runs (opposite d) kind ≡ runs d kind
runs_back d (Root c) = refl
runs_back d (Output o) = refl
runs_back d (Space s) = ap (same_axis (axis_of s.layout)) (axis_back d)
runs_back d (Con c) = runs_back_con d c.kind

-- ---- containers with nothing below them

alone : (c : ConId) (f : Forest) → rest_of (only c f) ≡ end
alone c end = refl
alone c (con part kids floats rest) = step (same part.id c) (has c kids) (has c floats) (alone c kids) (alone c floats) (alone c rest) where
  step : (a k l : Bool) → rest_of (only c kids) ≡ end → rest_of (only c floats) ≡ end → rest_of (only c rest) ≡ end → rest_of (cond a (con part kids floats end) (cond k (only c kids) (cond l (only c floats) (only c rest)))) ≡ end
  step true k l u v w = refl
  step false true l u v w = u
  step false false true u v w = v
  step false false false u v w = w

leaf_of : (c : ConId) (f : Forest) (k : has c f ≡ true) → first_kids (only c f) ≡ end → first_floats (only c f) ≡ end → (p : Part) × (only c f ≡ con p end end end)
leaf_of c f k low up = by (only c f) refl (heads_only c f k) low up (alone c f) where
  by : (g : Forest) → only c f ≡ g → heads c (only c f) ≡ true → first_kids (only c f) ≡ end → first_floats (only c f) ≡ end → rest_of (only c f) ≡ end → (p : Part) × (only c f ≡ con p end end end)
  by end e h low up none = let bad : false ≡ true = rw e at h in cc
  by (con part kids floats rest) e h low up none =
      let a : kids ≡ end = rw e at low in
      let b : floats ≡ end = rw e at up in
      let z : rest ≡ end = rw e at none in
      (part, e ∙ rw (a, b, z) refl)

con_there : (kind : NodeKind) → con_kind kind ≢ None → is_con_kind kind ≡ true
con_there (Root c) h = absurd (h refl)
con_there (Output o) h = absurd (h refl)
con_there (Space s) h = absurd (h refl)
con_there (Con c) h = refl

con_some : (kind : NodeKind) → is_some (con_kind kind) ≡ is_con_kind kind
con_some (Root c) = refl
con_some (Output o) = refl
con_some (Space s) = refl
con_some (Con c) = refl

no_kids : (kind : NodeKind) → tiled_by kind end ≡ end
no_kids (Root c) = refl
no_kids (Output o) = refl
no_kids (Space s) = refl
no_kids (Con c) = refl

same_space_self : (o : Option ConId) → same_space o o ≡ true
same_space_self None = refl
same_space_self (Some c) = same_self c c refl

-- ---- two that change places, each with its share

turn_part : (c n : ConId) (pc pn xc xn : Part) (sc sn : ℕ) → same c n ≡ false → same pc.id c ≡ true → same pn.id n ≡ true → same xc.id c ≡ true → same xn.id n ≡ true
    → record xc { kind = changed (edits.Share sc) xc.kind } ≡ pc → record xn { kind = changed (edits.Share sn) xn.kind } ≡ pn → (r : Part)
    → tuned n (edits.Share sn) (tuned c (edits.Share sc) (traded c xc n xn r)) ≡ traded c pc n pn r
turn_part c n pc pn xc xn sc sn two ipc ipn ixc ixn kc kn r = step (same r.id c) (same r.id n) refl refl where
  step : (u v : Bool) → same r.id c ≡ u → same r.id n ≡ v → tuned n (edits.Share sn) (tuned c (edits.Share sc) (cond u xn (cond v xc r))) ≡ cond u pn (cond v pc r)
  step true v eu ev = rw (not_other xn.id n c (same_sym c n two) ixn, ixn) kn
  step false true eu ev = rw (ixc, not_other xc.id c n two ixc) kc
  step false false eu ev = rw (eu, ev) refl

tuned_ids : (i c : ConId) (s : ℕ) (f : Forest) → tally i (mapped (tuned c (edits.Share s)) f) ≡ tally i f
tuned_ids i c s f = count-mapped (one_of i) (one_of i) (tuned c (edits.Share s)) at_part f where
  at_part : (p : Part) → one_of i (tuned c (edits.Share s) p) ≡ one_of i p
  at_part p = step (same p.id c) where
    step : (b : Bool) → one_of i (cond b (record p { kind = changed (edits.Share s) p.kind }) p) ≡ one_of i p
    step true = refl
    step false = refl

turn_trades : (c n : ConId) (pc pn : Part) (t : TreeValue) → Leaves c n pc pn t.nodes → are_apart t c n ≡ false → turned c n t ≡ record t { nodes = mapped (traded c pc n pn) t.nodes }
turn_trades c n pc pn t l near =
    let f = t.nodes in
    let sc = share_in c f in
    let sn = share_in n f in
    let ec : sc ≡ share_of pc.kind = ap (λ g. share_by (first_part g)) l.first in
    let en : sn ≡ share_of pn.kind = ap (λ g. share_by (first_part g)) l.second in
    let xc : Part = came sn false pc in
    let xn : Part = came sc false pn in
    let one : (exchanged c n t).nodes ≡ mapped (traded c xc n xn) f = ap (λ b. exchanged_nodes c n sc sn b f) near ∙ trade c n pc pn sc sn false f l in
    let l1 = leaves_traded c n xc xn l.two (first_own l) (second_own l) pc pn f l (came_con sn false pc.kind l.first_con) (came_con sc false pn.kind l.second_con) in
    let g : Forest = mapped (traded c xc n xn) f in
    let two : at c kind_changed (edits.Share sc) g ≡ mapped (tuned c (edits.Share sc)) g = edited_mapped c (edits.Share sc) g (l1.once c) in
    let once_n : tally n (mapped (tuned c (edits.Share sc)) g) ≤ 1 = omega (arith, tuned_ids n c sc g, l1.once n) in
    let three = edited_mapped n (edits.Share sn) (mapped (tuned c (edits.Share sc)) g) once_n in
    let kc : record xc { kind = changed (edits.Share sc) xc.kind } ≡ pc = ap (λ z. record xc { kind = changed (edits.Share z) xc.kind }) ec ∙ share_kept sn pc l.first_con in
    let kn : record xn { kind = changed (edits.Share sn) xn.kind } ≡ pn = ap (λ z. record xn { kind = changed (edits.Share z) xn.kind }) en ∙ share_kept sc pn l.second_con in
    let all : mapped (tuned n (edits.Share sn)) (mapped (tuned c (edits.Share sc)) g) ≡ mapped (traded c pc n pn) f =
    ap (mapped (tuned n (edits.Share sn))) (mapped-mapped (tuned c (edits.Share sc)) (traded c xc n xn) f)
    ∙ (mapped-mapped (tuned n (edits.Share sn)) (λ r. tuned c (edits.Share sc) (traded c xc n xn r)) f
    ∙ mapped_all (λ r. tuned n (edits.Share sn) (tuned c (edits.Share sc) (traded c xc n xn r))) (traded c pc n pn) (turn_part c n pc pn xc xn sc sn l.two (first_own l) (second_own l) (first_own l) (second_own l) kc kn) f) in
    ap (λ z. record t { nodes = z }) (ap (λ z. at n kind_changed (edits.Share sn) (at c kind_changed (edits.Share sc) z)) one ∙ (ap (at n kind_changed (edits.Share sn)) two ∙ (three ∙ all)))

-- ---- there and back

-- where a neighbour was on one side it is on the other
below_back : (d : Dir) (p c n : ConId) (pc pn : Part) (g : Forest) → same c n ≡ false → same pc.id c ≡ true → same pn.id n ≡ true → same c p ≡ false → same n p ≡ false → Once g → heads p g ≡ true
    → neighbour_below d c g ≡ Some n → neighbour_below (opposite d) c (mapped (traded c pc n pn) g) ≡ Some n
below_back d p c n pc pn end two ic ib xc xn once first h = cc
below_back d p c n pc pn (con part kids floats rest) two ic ib xc xn once first h = step (runs d part.kind) refl h where
  own : traded c pc n pn part ≡ part
  own = rw (same_sym c part.id (rw (same_is part.id p first) xc), same_sym n part.id (rw (same_is part.id p first) xn)) refl

  step : (b : Bool) → runs d part.kind ≡ b → cond b (neighbour d c kids) None ≡ Some n
      → aimed Beside (opposite d) (rung (traded c pc n pn part).kind (mapped (traded c pc n pn) kids) c) ≡ Some n
  step false e h = cc
  step true e h = rw (own, runs_back d part.kind ∙ e) (neighbour_back c n pc pn two ic ib d kids (once_kids part kids floats rest once) h)

-- a move towards one beside it
moves_once : (c n : ConId) (d : Dir) (px : ℕ) (t : TreeValue) → is_tiled_con t c ≡ true → beside d c t ≡ Some n → is_split_con t n ≡ false → move_dir_tree c d px t ≡ turned c n t
moves_once c n d px t own h split = rw (own, h, split) refl

both_true : (x y : Bool) → x ≡ true → y ≡ true → (x && y) ≡ true
both_true true y e h = h
both_true false y e h = cc

tiled_spot : (o : Option Spot) → is_tiled o ≡ true → is_tiled_spot o ≡ true
tiled_spot None h = cc
tiled_spot (Some s) h = h

pub moves_back : MovesBack
moves_back c n d px t s own h split low_c low_n =
    let f = t.nodes in
    let k = chained (λ (q : ConId). neighbour_below d c (only q f)) (parent t c) n h in
    let p : ConId = k.0 in
    let two = below_two d c n (only p f) (once_only p f s.once) k.2 in
    let kid_c = kid_of p c roots false 0 f s.shaped s.once two.first in
    let kid_n = kid_of p n roots false 0 f s.shaped s.once two.second in
    let leaf_c = leaf_of c f (kid_there false c f kid_c) low_c.0 low_c.1 in
    let leaf_n = leaf_of n f (kid_there false n f kid_n) low_n.0 low_n.1 in
    let pc : Part = leaf_c.0 in
    let pn : Part = leaf_n.0 in
    let l : Leaves c n pc pn f = record {
      once = s.once;
      low = s.low;
      first = leaf_c.1;
      second = leaf_n.1;
      first_con = con_there pc.kind (rw leaf_c.1 at kid_c.0);
      second_con = con_there pn.kind (rw leaf_n.1 at kid_n.0);
      two = two.two;
    } in
    let ic = first_own l in
    let ib = second_own l in
    let swap : Part → Part = traded c pc n pn in
    let alike = kids_alike p c n roots top false 0 f s.shaped s.once two.first two.second in
    let near : are_apart t c n ≡ false = rw alike.spaces (ap not (same_space_self (workspace_of t n))) in
    let t1 : TreeValue = record t { nodes = mapped swap f } in
    let e1 : move_dir_tree c d px t ≡ t1 = moves_once c n d px t own h split ∙ turn_trades c n pc pn t l near in
    let l1 = leaves_traded c n pc pn l.two ic ib pc pn f l l.first_con l.second_con in
    let airy = light c n pc pn f l.first_con l.second_con s.once (λ z. l.first) (λ z. l.second) in
    let spot_c : spot_in top c (mapped swap f) ≡ spot_in top n f = spot_mapped swap c n (was_b c n pc pn l.two ic ib) top f airy in
    let spot_n : spot_in top n (mapped swap f) ≡ spot_in top c f = spot_mapped swap n c (was_a c n pc pn l.two ic ib) top f airy in
    let parent_c : parent t1 c ≡ Some p = ap held spot_c ∙ (sym alike.holders ∙ k.1) in
    let near1 : are_apart t1 c n ≡ false =
    ap (λ z. not (same_space z (workspace_of t1 n))) (ap spaced spot_c) ∙ (ap (λ z. not (same_space (workspace_of t n) z)) (ap spaced spot_n ∙ alike.spaces) ∙ ap not (same_space_self (workspace_of t n))) in
    let not_c = not_holder c c p pc f two.first l.first in
    let not_n = not_holder c n p pn f two.first l.second in
    let only_p : only p (mapped swap f) ≡ mapped swap (only p f) = only_mapped swap p p (was_same c n pc pn l.two ic ib p not_c not_n) f in
    let there_p : has p f ≡ true = holds p f two.first in
    let h1 : beside (opposite d) c t1 ≡ Some n =
    ap (λ o. option_and_then (λ (q : ConId). neighbour_below (opposite d) c (only q t1.nodes)) o) parent_c
    ∙ (ap (neighbour_below (opposite d) c) only_p ∙ below_back d p c n pc pn (only p f) l.two ic ib not_c not_n (once_only p f s.once) (heads_only p f there_p) k.2) in
    let fits = turn_fits d c n t s own h in
    let own1 : is_tiled_con t1 c ≡ true =
    both_true (is_con (first_part (only c t1.nodes))) (is_tiled_spot (spot_in top c t1.nodes)) (ap (λ g. is_con (first_part g)) l1.first ∙ l1.first_con) (ap is_tiled_spot spot_c ∙ tiled_spot (spot_in top n f) (fits.2.1 fits.1).1) in
    let split1 : is_split_con t1 n ≡ false = ap (λ g. is_split_part (kind_by con_kind (first_part g))) (l1.second ∙ sym l.second) ∙ split in
    let e2 : move_dir_tree c (opposite d) px t1 ≡ record t { nodes = mapped swap (mapped swap f) } = moves_once c n (opposite d) px t1 own1 h1 split1 ∙ turn_trades c n pc pn t1 l1 near1 in
    ap (move_dir_tree c (opposite d) px) e1 ∙ (e2 ∙ ap (λ z. record t { nodes = z }) (trade_back c n pc pn pc pn f l ic ib))
  where
    -- a leaf is not the holder of c
    not_holder : (c x p : ConId) (px : Part) (f : Forest) → in_row c (tiled_kids (only p f)) ≡ true → only x f ≡ con px end end end → same x p ≡ false
    not_holder c x p px f h e = by (same x p) refl where
      by : (b : Bool) → same x p ≡ b → same x p ≡ false
      by false z = z
      by true z =
          let g : only p f ≡ con px end end end = ap (λ i. only i f) (sym (same_is x p z)) ∙ e in
          let bad : in_row c (tiled_by px.kind end) ≡ true = rw g at h in
          let none : in_row c (tiled_by px.kind end) ≡ false = ap (in_row c) (no_kids px.kind) in
          absurd (cc)

    holds : (p : ConId) (f : Forest) → in_row c (tiled_kids (only p f)) ≡ true → has p f ≡ true
    holds p f h = by (has p f) refl where
      by : (b : Bool) → has p f ≡ b → has p f ≡ true
      by true e = e
      by false e = let bad : in_row c (tiled_kids end) ≡ true = rw (only_absent p f e) at h in cc

-- ---- twice

named : (n : ConId) (o : Option ConPart) → is_some o ≡ true → con_named n o ≡ Some n
named n None h = cc
named n (Some part) h = refl

swaps_once : (c n : ConId) (t : TreeValue) → is_container t n ≡ true → swap_tree c (swaps.Con n.0) t ≡ exchanged c n t
swaps_once c n t h = ap (λ o. exchanged_with c o t) (named n (kind_of con_kind n t.nodes) h)

pub swaps_back : SwapsBack
swaps_back c n t s con_c con_n two low_c low_n full_c full_n =
    let f = t.nodes in
    let leaf_c = leaf_of c f (container_there t c con_c) low_c.0 low_c.1 in
    let leaf_n = leaf_of n f (container_there t n con_n) low_n.0 low_n.1 in
    let pc : Part = leaf_c.0 in
    let pn : Part = leaf_n.0 in
    let l : Leaves c n pc pn f = record {
      once = s.once;
      low = s.low;
      first = leaf_c.1;
      second = leaf_n.1;
      first_con = sym (con_some pc.kind) ∙ (rw leaf_c.1 at con_c);
      second_con = sym (con_some pn.kind) ∙ (rw leaf_n.1 at con_n);
      two = two;
    } in
    let ic = first_own l in
    let ib = second_own l in
    let sc = share_in c f in
    let sn = share_in n f in
    let away = are_apart t c n in
    let xc : Part = came sn away pc in
    let xn : Part = came sc away pn in
    let f1 : Forest = mapped (traded c xc n xn) f in
    let t1 : TreeValue = record t { nodes = f1 } in
    let e1 : exchanged c n t ≡ t1 = ap (λ z. record t { nodes = z }) (trade c n pc pn sc sn away f l) in
    let cc1 = came_con sn away pc.kind l.first_con in
    let cn1 = came_con sc away pn.kind l.second_con in
    let l1 : Leaves c n xc xn f1 = leaves_traded c n xc xn two ic ib pc pn f l cc1 cn1 in
    let con1 : is_container t1 n ≡ true = ap (λ g. is_some (kind_by con_kind (first_part g))) l1.second ∙ (con_some xn.kind ∙ cn1) in
    let away1 = are_apart t1 c n in
    let share_c : share_in n f1 ≡ share_of pc.kind = ap (λ g. share_by (first_part g)) l1.second ∙ (came_share sc away pn.kind l.second_con ∙ ap (λ g. share_by (first_part g)) l.first) in
    let share_n : share_in c f1 ≡ share_of pn.kind = ap (λ g. share_by (first_part g)) l1.first ∙ (came_share sn away pc.kind l.first_con ∙ ap (λ g. share_by (first_part g)) l.second) in
    let back_c : came (share_in n f1) away1 xc ≡ pc = ap (λ z. came z away1 xc) share_c ∙ came_back sn away away1 pc l.first_con (rw leaf_c.1 at full_c) in
    let back_n : came (share_in c f1) away1 xn ≡ pn = ap (λ z. came z away1 xn) share_n ∙ came_back sc away away1 pn l.second_con (rw leaf_n.1 at full_n) in
    let e2 : exchanged c n t1 ≡ record t { nodes = mapped (traded c pc n pn) f1 } =
    ap (λ z. record t { nodes = z }) (trade c n xc xn (share_in c f1) (share_in n f1) away1 f1 l1 ∙ (ap (λ z. mapped (traded c z n (came (share_in c f1) away1 xn)) f1) back_c ∙ ap (λ z. mapped (traded c pc n z) f1) back_n)) in
    ap (swap_tree c (swaps.Con n.0)) (swaps_once c n t con_n ∙ e1) ∙ (swaps_once c n t1 con1 ∙ (e2 ∙ ap (λ z. record t { nodes = z }) (trade_back c n pc pn xc xn f l ic ib)))
