-- A window that comes from the scratchpad is focused.
use Rattle.std.proofs.Common.{◌≡◌, ◌≢◌, ℕ, ◌≤◌, Bool, true, false, cond, ◌||◌, List, Option, None, Some, refl, ap, ◌∙◌, arith}
use Rattle.law_layouts.proofs.LeafPlaces.{own_workspace}
use Rattle.law_layouts.proofs.MoveLooks.{Led, Moved, has_moved, led}
use Rattle.law_layouts.proofs.RaiseLooks.{end_looks, unfull_looks, unfull_tally}
use Rattle.law_layouts.proofs.Steps.{con_first, listed, no_limit}
use Rattle.law_layouts.proofs.UpperLooks.{focused_is, level, shown_alike, upper, upper_at}
use Rattle.wm_base.specs.declared.geometry.Rect.{Rect}
use Rattle.wm_base.specs.declared.ids.ConId.{ConId}
use Rattle.wm_floats.proofs.FloatLemmas.{coming_goal, hidden_is}
use Rattle.wm_floats.specs.Scratchpad.{brought, brought_refusal, coming_place, middle_on}
use Rattle.wm_forest.proofs.CountLemmas.{count-without}
use Rattle.wm_forest.proofs.LookLemmas.{seen-without}
use Rattle.wm_forest.proofs.OnceLemmas.{in_floats, in_rest}
use Rattle.wm_forest.specs.Change.{append, arriving, at, raised_at, raised_in, to_end, unfull, without}
use Rattle.wm_forest.specs.declared.part.NodeKind.{NodeKind}
use Rattle.wm_forest.specs.declared.part.NodeKind.TheVariants.{Root, Output, Space, Con}
use Rattle.wm_forest.specs.declared.part.Part.{Part}
use Rattle.wm_forest.specs.declared.place.Place.{Place}
use Rattle.wm_forest.specs.declared.place.Place.TheVariants.{Float}
use Rattle.wm_forest.specs.Forest.{Forest, end, con}
use Rattle.wm_forest.specs.Look.{first_part, has, kind_by, kind_of, only, output_kind, same, space_kind}
use Rattle.wm_forest.specs.Place.{put_word}
use Rattle.wm_forest.specs.Recency.{first_held, lists, raised}
use Rattle.wm_forest.specs.SoundRow.{IsNode, IsSoundRow, one_of, outputs, rank_of, ranked, ranks, roots, spaces, tally}
use Rattle.wm_forest.specs.Spot.{room_below, top}
use Rattle.wm_shared.proofs.ShowLemmas.{space_is, workspace_is}
use Rattle.wm_shared.proofs.StandingLemmas.{shown_stands, stands_space}
use Rattle.wm_shared.specs.Rects.{rect_of}
use Rattle.wm_shared.specs.Subject.{IsSubject, is_hidden}
use Rattle.wm_tree.proofs.MoveLemmas.{sound-moved}
use Rattle.wm_tree.proofs.RaiseLemmas.{sound-raised}
use Rattle.wm_tree.specs.Move.{apart, moved, moved_share, passed_by_move}
use Rattle.wm_tree.specs.Sound.{IsSound}
use Rattle.wm_tree.specs.TreeValue.{TreeValue, current, focused, is_con, is_con_kind, or_id, shown, workspace_of}

-- ---- a container that goes is not missed among the outputs and workspaces

module _ (c : ConId) where
  abbrev IsCon : Forest → Type 0
  IsCon f = is_con (first_part (only c f)) ≡ true

  gone_spaces : (b : Bool) (room : ℕ) (f : Forest) → IsSoundRow spaces b room f → IsCon f → upper (without c f) ≡ upper f
  gone_spaces b room end p ok = refl
  gone_spaces b room (con part kids floats rest) p ok = step (same part.id c) (has c kids) (has c floats) ok (gone_spaces b room rest p.4)
    where
      own : (k : NodeKind) → IsNode spaces b room part.id k part.marks kids → is_con_kind k ≡ true → upper rest ≡ level part k (upper kids) (upper rest)
      own (Root d) n h = cc
      own (Output o) n h = cc
      own (Space w) n h = cc
      own (Con d) n h = absurd n

      below : (k : NodeKind) → IsNode spaces b room part.id k part.marks kids → level part k (upper (without c kids)) (upper rest) ≡ level part k (upper kids) (upper rest)
      below (Root d) n = absurd n
      below (Output o) n = absurd n
      below (Space w) n = refl
      below (Con d) n = absurd n

      step : (a k l : Bool) → is_con (first_part (cond a (con part kids floats end) (cond k (only c kids) (cond l (only c floats) (only c rest))))) ≡ true → (IsCon rest → upper (without c rest) ≡ upper rest)
          → upper (cond a rest (cond k (con part (without c kids) floats rest) (cond l (con part kids (without c floats) rest) (con part kids floats (without c rest))))) ≡ level part part.kind (upper kids) (upper rest)
      step true k l ok u = own part.kind p.0 ok
      step false true l ok u = below part.kind p.0
      step false false true ok u = refl
      step false false false ok u = ap (λ z. level part part.kind (upper kids) z) (u ok)

  gone_outputs : (b : Bool) (room : ℕ) (f : Forest) → IsSoundRow outputs b room f → IsCon f → upper (without c f) ≡ upper f
  gone_outputs b room end p ok = refl
  gone_outputs b room (con part kids floats rest) p ok = step (same part.id c) (has c kids) (has c floats) ok (gone_spaces true (room_below room part.kind) kids p.2) (gone_outputs b room rest p.4)
    where
      own : (k : NodeKind) → IsNode outputs b room part.id k part.marks kids → is_con_kind k ≡ true → upper rest ≡ level part k (upper kids) (upper rest)
      own (Root d) n h = cc
      own (Output o) n h = cc
      own (Space w) n h = cc
      own (Con d) n h = absurd n

      step : (a k l : Bool) → is_con (first_part (cond a (con part kids floats end) (cond k (only c kids) (cond l (only c floats) (only c rest))))) ≡ true → (IsCon kids → upper (without c kids) ≡ upper kids) → (IsCon rest → upper (without c rest) ≡ upper rest)
          → upper (cond a rest (cond k (con part (without c kids) floats rest) (cond l (con part kids (without c floats) rest) (con part kids floats (without c rest))))) ≡ level part part.kind (upper kids) (upper rest)
      step true k l ok u v = own part.kind p.0 ok
      step false true l ok u v = ap (λ z. level part part.kind z (upper rest)) (u ok)
      step false false true ok u v = refl
      step false false false ok u v = ap (λ z. level part part.kind (upper kids) z) (v ok)

  gone_roots : (b : Bool) (room : ℕ) (f : Forest) → IsSoundRow roots b room f → IsCon f → upper (without c f) ≡ upper f
  gone_roots b room end p ok = refl
  gone_roots b room (con part kids floats rest) p ok = step (same part.id c) (has c kids) (has c floats) ok (gone_outputs true (room_below room part.kind) kids p.2) (gone_roots b room rest p.4)
    where
      own : (k : NodeKind) → IsNode roots b room part.id k part.marks kids → is_con_kind k ≡ true → upper rest ≡ level part k (upper kids) (upper rest)
      own (Root d) n h = cc
      own (Output o) n h = cc
      own (Space w) n h = cc
      own (Con d) n h = absurd n

      step : (a k l : Bool) → is_con (first_part (cond a (con part kids floats end) (cond k (only c kids) (cond l (only c floats) (only c rest))))) ≡ true → (IsCon kids → upper (without c kids) ≡ upper kids) → (IsCon rest → upper (without c rest) ≡ upper rest)
          → upper (cond a rest (cond k (con part (without c kids) floats rest) (cond l (con part kids (without c floats) rest) (con part kids floats (without c rest))))) ≡ level part part.kind (upper kids) (upper rest)
      step true k l ok u v = own part.kind p.0 ok
      step false true l ok u v = ap (λ z. level part part.kind z (upper rest)) (u ok)
      step false false true ok u v = refl
      step false false false ok u v = ap (λ z. level part part.kind (upper kids) z) (v ok)

-- raising is seen in a workspace alone
raised_upper : (c : ConId) (part : Part) (kids floats rest : Forest) → kind_by space_kind (Some part) ≢ None → upper (raised_in c part kids floats rest) ≡ upper (con part kids floats rest)
raised_upper c part kids floats rest ok = by part.kind ok
  where
    by : (k : NodeKind) → space_kind k ≢ None → level part k (upper (unfull c kids)) (upper rest) ≡ level part k (upper kids) (upper rest)
    by (Root d) ok = absurd (ok refl)
    by (Output o) ok = absurd (ok refl)
    by (Space w) ok = refl
    by (Con d) ok = absurd (ok refl)

-- ---- it is below its workspace

record Under (c w : ConId) (f : Forest) : Type 0 where
  there : has w f ≡ true
  under : has c (only w f) ≡ true

module _ {X : Type 0} (c w : ConId) (f : X → Part → Forest → Forest → Forest → Forest) (x : X) (B : Forest → Type 0)
    (here : (part : Part) (kids floats rest : Forest) → same part.id w ≡ true → B (con part kids floats end) → Under c w (f x part kids floats rest))
  where
    under_at : (g : Forest) → has w g ≡ true → B (only w g) → Under c w (at w f x g)
    under_at end h b = cc
    under_at (con part kids floats rest) h b = step (same part.id w) (has w kids) (has w floats) refl refl refl h b (under_at kids) (under_at floats) (under_at rest)
      where
        step : (a k l : Bool) → same part.id w ≡ a → has w kids ≡ k → has w floats ≡ l → (a || k || l || has w rest) ≡ true → B (cond a (con part kids floats end) (cond k (only w kids) (cond l (only w floats) (only w rest))))
            → (has w kids ≡ true → B (only w kids) → Under c w (at w f x kids)) → (has w floats ≡ true → B (only w floats) → Under c w (at w f x floats)) → (has w rest ≡ true → B (only w rest) → Under c w (at w f x rest))
            → Under c w (cond a (f x part kids floats rest) (cond k (con part (at w f x kids) floats rest) (cond l (con part kids (at w f x floats) rest) (con part kids floats (at w f x rest)))))
        step true k l ea ek el h b u v r = here part kids floats rest ea b
        step false true l ea ek el h b u v r = let g = u ek b in record { there = rw (ea, g.there) refl; under = rw (ea, g.there) g.under }
        step false false true ea ek el h b u v r = let g = v el b in record { there = rw (ea, ek, g.there) refl; under = rw (ea, ek, g.there) g.under }
        step false false false ea ek el h b u v r = let g = r h b in record { there = rw (ea, ek, el, g.there) refl; under = rw (ea, ek, el) g.under }

append_there : (c : ConId) (f row : Forest) → has c row ≡ true → has c (append f row) ≡ true
append_there c end row h = h
append_there c (con part kids floats rest) row h = in_rest c part kids floats (append rest row) (append_there c rest row h)

-- a row with c that comes among the floating windows of w
come_under : (c w : ConId) (r : Rect) (row f : Forest) → has c row ≡ true → has w f ≡ true → Under c w (at w (put_word (Float w r)) row f)
come_under c w r row f h there =
    under_at c w (put_word (Float w r)) row (λ g. Unit {0}) (λ part kids floats rest e b. record { there = rw e refl; under = rw e (in_floats c part kids (append floats row) end (append_there c floats row h)) }) f there tt

-- and is raised there
raise_under : (c w : ConId) (f : Forest) → tally c f ≤ 1 → Under c w f → Under c w (at w raised_in c f)
raise_under c w f once u =
    under_at c w raised_in c (λ g. (has c g ≡ true) × (tally c g ≤ 1)) (λ part kids floats rest e b. record { there = rw e refl; under = rw e (by part kids floats b.0 b.1) }) f u.there (u.under, omega (arith, count-without (one_of c) w f, once))
  where
    by : (part : Part) (kids floats : Forest) → has c (con part kids floats end) ≡ true → tally c (con part kids floats end) ≤ 1 → has c (con part (unfull c kids) (to_end c (unfull c floats)) end) ≡ true
    by part kids floats h few =
        let k : has c (unfull c kids) ≡ has c kids = (unfull_looks c top kids).there in
        let l : has c (to_end c (unfull c floats)) ≡ has c floats = (end_looks c top (unfull c floats) (omega (arith, unfull_tally c floats, few))).there ∙ (unfull_looks c top floats).there in
        rw (k, l) h

-- ---- it is focused

con_ranked : (c : ConId) (f : Forest) → is_con (first_part (only c f)) ≡ true → 1 ≤ ranked c f
con_ranked c end ok = cc
con_ranked c (con part kids floats rest) ok = step (same part.id c) (has c kids) (has c floats) refl ok (con_ranked c kids) (con_ranked c floats) (con_ranked c rest)
  where
    by_kind : (k : NodeKind) → is_con_kind k ≡ true → ranks k ≡ 1
    by_kind (Root d) ok = cc
    by_kind (Output o) ok = cc
    by_kind (Space x) ok = cc
    by_kind (Con d) ok = refl

    step : (a k l : Bool) → same part.id c ≡ a → is_con (first_part (cond a (con part kids floats end) (cond k (only c kids) (cond l (only c floats) (only c rest))))) ≡ true
        → (is_con (first_part (only c kids)) ≡ true → 1 ≤ ranked c kids) → (is_con (first_part (only c floats)) ≡ true → 1 ≤ ranked c floats) → (is_con (first_part (only c rest)) ≡ true → 1 ≤ ranked c rest) → 1 ≤ ranked c (con part kids floats rest)
    step true k l e ok u v z = let one : rank_of c part ≡ 1 = rw e (by_kind part.kind ok) in omega (arith, one)
    step false true l e ok u v z = omega (arith, u ok)
    step false false true e ok u v z = omega (arith, v ok)
    step false false false e ok u v z = omega (arith, z ok)

first_of : (f : Forest) (c d : ConId) (ids : List ConId) → lists c ids ≡ true → has c f ≡ true → or_id (first_held f (raised c ids)) d ≡ c
first_of f c d ids l h = rw (l, h) refl

arriving_has : (c : ConId) (share : ℕ) (rect : Option Rect) (away : Bool) (f : Forest) → has c f ≡ true → has c (arriving share rect away (only c f)) ≡ true
arriving_has c share rect away f there = by (led c f there)
  where
    here : (b : Bool) (part : Part) (kids floats : Forest) → same part.id c ≡ true → has c (arriving share rect b (con part kids floats end)) ≡ true
    here true part kids floats own = rw own refl
    here false part kids floats own = rw own refl

    by : Led c (only c f) → has c (arriving share rect away (only c f)) ≡ true
    by l = ap (λ z. has c (arriving share rect away z)) l.is ∙ here away l.part l.kids l.floats l.own

pub brought_focused : (c : ConId) (t : TreeValue) → IsSubject t c → is_hidden t c ≡ true → brought_refusal c t ≡ None → focused (brought c t) ≡ c
brought_focused c t sub hid fine =
    let s = sub.sound in
    let p : Place = coming_place c t in
    let w : ConId = shown t in
    let u : TreeValue = moved c p t in
    let ok = hidden_is c t sub hid in
    let g = coming_goal c p t refl s ok in
    let fits = no_limit (passed_by_move c p t.nodes) fine in
    let is = con_first (first_part (only c t.nodes)) ok in
    let home : workspace_of t w ≡ Some w = own_workspace w t (space_is w t (stands_space w t s (shown_stands t s))) in
    let m : Moved c p (Some w) t = has_moved c p (Some w) t s g is (record { space = home; con = λ e. cc; tiled = λ e. cc }) in
    let su : IsSound u = sound-moved c p t ok g.0 g.1 (g.2.2 g.0 g.1) g.2.1 fits s in
    let row : Forest = arriving (moved_share c p t.nodes) (Some (middle_on (kind_of output_kind (current t) t.nodes) (rect_of c t))) (apart t c w) (only c t.nodes) in
    let seen = seen-without c w top t.nodes (g.2.2 g.0 g.1) in
    let below : Under c w u.nodes =
    come_under c w (middle_on (kind_of output_kind (current t) t.nodes) (rect_of c t)) row (without c t.nodes) (arriving_has c (moved_share c p t.nodes) (Some (middle_on (kind_of output_kind (current t) t.nodes) (rect_of c t))) (apart t c w) t.nodes g.0) (seen.there ∙ g.1) in
    let here : workspace_of u c ≡ Some w = m.lands.space in
    let nodes : (brought c t).nodes ≡ at w raised_in c u.nodes = ap (λ z. raised_at c z u.nodes) here in
    let sn : IsSound (brought c t) = sound-raised c u su in
    let ok_w = space_is w u (workspace_is c w u su here) in
    let up : upper (brought c t).nodes ≡ upper t.nodes =
    ap upper nodes
    ∙ (upper_at w raised_in c (λ z. kind_by space_kind (first_part z) ≢ None) (λ part kids floats rest b. raised_upper c part kids floats rest b) u.nodes ok_w
    ∙ (upper_at w (put_word (Float w (middle_on (kind_of output_kind (current t) t.nodes) (rect_of c t)))) row (λ z. Unit {0}) (λ part kids floats rest b. refl) (without c t.nodes) tt
    ∙ gone_roots c false 0 t.nodes s.shaped is)) in
    let looks : shown (brought c t) ≡ w = shown_alike t (brought c t) s sn up in
    let raised_below : Under c w (at w raised_in c u.nodes) = raise_under c w u.nodes (su.once c) below in
    let held : has c (only w (brought c t).nodes) ≡ true = ap (λ z. has c (only w z)) nodes ∙ raised_below.under in
    let known : lists c t.recency ≡ true = listed c t.recency (omega (arith, s.known c, con_ranked c t.nodes is)) in
    focused_is (brought c t) sn ∙ (ap (λ z. or_id (first_held (only z (brought c t).nodes) (raised c t.recency)) z) looks ∙ first_of (only w (brought c t).nodes) c w t.recency known held)
