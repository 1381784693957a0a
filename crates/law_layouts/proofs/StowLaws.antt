-- A window hides in the scratchpad, and comes back.
use Rattle.std.proofs.Common.{◌≡◌, ◌≢◌, ℕ, Bool, true, false, cond, ◌&&◌, not, List, [], ◌∷◌, Option, None, Some, refl, ap, sym, ◌∙◌, subst}
use Rattle.std.specs.Prelude.{is_none, is_some, option_and_then}
use Rattle.law_layouts.proofs.LeafPlaces.{own_workspace}
use Rattle.law_layouts.proofs.MoveLooks.{Moved, arrived, has_moved}
use Rattle.law_layouts.proofs.RaiseLooks.{tree_raised}
use Rattle.law_layouts.proofs.BroughtFocus.{brought_focused}
use Rattle.law_layouts.proofs.StateChanges.{restated_is, workspace_kept}
use Rattle.law_layouts.proofs.Steps.{con_first, no_limit, second_none}
use Rattle.law_layouts.specs.Afloat.{IsAfloat}
use Rattle.law_layouts.specs.Stowing.{IsBack, IsStowed, MovesToScratchpad, NoneIsOut, ShowsFirst, ShowsThis, centred}
use Rattle.wm_base.specs.declared.errors.Refusal.{Refusal}
use Rattle.wm_base.specs.declared.geometry.Rect.{Rect}
use Rattle.wm_base.specs.declared.ids.ConId.{ConId}
use Rattle.wm_floats.proofs.FloatLemmas.{coming_goal, hidden_is, hide_goal, window_con, window_is}
use Rattle.wm_floats.proofs.MovedLemmas.{hidden_state, moved_rect}
use Rattle.wm_floats.specs.declared.kinds.Kind.TheVariants as kinds
use Rattle.wm_floats.specs.Floating.{earlier, earlier_in, floating_rect, moved_refusal}
use Rattle.wm_floats.specs.Kinds.{first_of, latest}
use Rattle.wm_floats.specs.Scratchpad.{brought, brought_refusal, coming_place, first_brought, first_brought_refusal, latest_or_first, latest_or_first_refusal, middle_on, put_away, put_away_refusal, show_next_refusal, show_next_tree}
use Rattle.wm_floats.specs.Windows.{flag_set, window_refusal}
use Rattle.wm_forest.proofs.RecencyLemmas.{same_self}
use Rattle.wm_forest.specs.declared.part.ConPart.{ConPart}
use Rattle.wm_forest.specs.declared.part.NodeKind.{NodeKind}
use Rattle.wm_forest.specs.declared.part.NodeKind.TheVariants.{Root, Output, Space, Con}
use Rattle.wm_forest.specs.declared.place.Place.{Place}
use Rattle.wm_forest.specs.declared.place.Place.TheVariants.{Scratchpad}
use Rattle.wm_forest.specs.declared.spot.Spot.{Spot}
use Rattle.wm_forest.specs.Forest.{Forest, end, con}
use Rattle.wm_forest.specs.Look.{con_kind, first_part, in_row, kind_by, kind_of, only, output_kind}
use Rattle.wm_forest.specs.Place.{named, rect_at}
use Rattle.wm_forest.specs.RootId.{root}
use Rattle.wm_forest.specs.SoundRow.{IsNode, IsSoundRow, roots}
use Rattle.wm_forest.specs.Spot.{spot_in, top}
use Rattle.wm_shared.proofs.ShowLemmas.{space_is}
use Rattle.wm_shared.proofs.StandingLemmas.{shown_stands, stands_space}
use Rattle.wm_shared.specs.Rects.{or_nowhere, rect_of, state_rect}
use Rattle.wm_shared.specs.Subject.{IsSubject, is_container, is_hidden}
use Rattle.wm_tree.proofs.MoveLemmas.{sound-moved}
use Rattle.wm_tree.specs.Move.{apart, moved, moved_share, passed_by_move}
use Rattle.wm_tree.specs.Sound.{IsSound}
use Rattle.wm_tree.specs.TreeValue.{TreeValue, current, focused, is_con, is_tiled_con, is_tiled_spot, shown, workspace_of}

-- ---- small steps

con_arrived : (share : ℕ) (rect : Option Rect) (away : Bool) (k : NodeKind) → con_kind k ≢ None → is_some (con_kind (arrived share rect away k)) ≡ true
con_arrived share rect away (Root d) ok = absurd (ok refl)
con_arrived share rect away (Output o) ok = absurd (ok refl)
con_arrived share rect away (Space w) ok = absurd (ok refl)
con_arrived share rect true (Con d) ok = refl
con_arrived share rect false (Con d) ok = refl

and_no : (a b : Bool) → b ≡ false → (a && b) ≡ false
and_no true b h = h
and_no false b h = refl

-- ---- it hides

-- the root is in no workspace
root_apart : (t : TreeValue) → IsSound t → workspace_of t root ≡ None
root_apart t s = by t.nodes s.shaped s.rooted
  where
    by : (f : Forest) → IsSoundRow roots false 0 f → in_row root f ≡ true → option_and_then (λ (z : Spot). z.space) (spot_in top root f) ≡ None
    by end p h = cc
    by (con part kids floats rest) p h = here part.kind refl p.0
      where
        here : (kind : NodeKind) → part.kind ≡ kind → IsNode roots false 0 part.id kind part.marks kids → option_and_then (λ (z : Spot). z.space) (spot_in top root (con part kids floats rest)) ≡ None
        here (Root c) e n = rw (same_self part.id root n.0, e) refl
        here (Output o) e n = absurd n
        here (Space w) e n = absurd n
        here (Con c) e n = absurd n

pub moves_to_scratchpad : MovesToScratchpad
moves_to_scratchpad c t sub fine =
    let s = sub.sound in
    let r : Rect = floating_rect c t in
    let p : Place = Scratchpad r in
    let v : TreeValue = moved c p t in
    let refusals = second_none (window_refusal c t) (moved_refusal c p t) fine in
    let is = window_is c t refusals.0 in
    let ok = window_con c t is.1 in
    let g = hide_goal c r t s ok is.0 in
    let m : Moved c p None t = has_moved c p None t s g (con_first (first_part (only c t.nodes)) ok) (record { space = root_apart t s; con = λ e. cc; tiled = λ e. cc }) in
    let state = hidden_state c r t v (flag_set true c v) refl refl refl s g ok in
    let out : workspace_of (flag_set true c v) c ≡ None =
    ap (λ x. workspace_of x c) (restated_is (λ z. record z { flagged = true }) c v) ∙ (workspace_kept (λ z. record z { flagged = true }) c c v ∙ m.lands.space) in
    record { hidden = ap is_none out; flagged = state.0; rect = state.1 }

-- ---- it comes

rect_is : (c : ConId) (r : Rect) (t : TreeValue) → earlier c t ≡ Some r → rect_of c t ≡ r
rect_is c r t h = by (kind_of con_kind c t.nodes) h
  where
    by : (o : Option ConPart) → earlier_in o ≡ Some r → state_rect o ≡ r
    by None h = cc
    by (Some p) h = ap or_nowhere h

-- what is brought floats on the focused workspace
brings_afloat : (c : ConId) (r : Rect) (t : TreeValue) → IsSubject t c → IsStowed c r t → brought_refusal c t ≡ None → IsAfloat c (shown t) (centred r t) (brought c t)
brings_afloat c r t sub k fine =
    let s = sub.sound in
    let p : Place = coming_place c t in
    let u : TreeValue = moved c p t in
    let ok = hidden_is c t sub k.hidden in
    let g = coming_goal c p t refl s ok in
    let fits = no_limit (passed_by_move c p t.nodes) fine in
    let home : workspace_of t (shown t) ≡ Some (shown t) = own_workspace (shown t) t (space_is (shown t) t (stands_space (shown t) t s (shown_stands t s))) in
    let m : Moved c p (Some (shown t)) t = has_moved c p (Some (shown t)) t s g (con_first (first_part (only c t.nodes)) ok) (record { space = home; con = λ e. cc; tiled = λ e. cc }) in
    let sound : IsSound u = sound-moved c p t ok g.0 g.1 (g.2.2 g.0 g.1) g.2.1 fits s in
    let looks = tree_raised c u sound in
    let was_con : con_kind m.was.kind ≢ None = λ e. ok (ap (kind_by con_kind) m.found ∙ e) in
    let container : is_container (brought c t) c ≡ true = ap (λ o. is_some (kind_by con_kind o)) (looks.part ∙ m.lands.part) ∙ con_arrived (moved_share c p t.nodes) (rect_at p) (apart t c (named p)) m.was.kind was_con in
    let loose : is_tiled_con (brought c t) c ≡ false = and_no (is_con (first_part (only c (brought c t).nodes))) (is_tiled_spot (spot_in top c (brought c t).nodes)) (ap is_tiled_spot looks.spot ∙ m.lands.tiled) in
    record {
      floats = ap (λ z. z && not (is_tiled_con (brought c t) c)) container ∙ ap not loose;
      workspace = ap (λ o. option_and_then (λ (z : Spot). z.space) o) looks.spot ∙ m.lands.space;
      rect = ap (λ o. earlier_in (kind_by con_kind o)) looks.part ∙ (moved_rect c p t s g ok ∙ ap (λ z. Some (middle_on (kind_of output_kind (current t) t.nodes) z)) (rect_is c r t k.rect));
    }

-- and is focused
brings : (c : ConId) (r : Rect) (t : TreeValue) → IsSubject t c → IsStowed c r t → brought_refusal c t ≡ None → IsBack c (shown t) (centred r t) (brought c t)
brings c r t sub k fine = record { afloat = brings_afloat c r t sub k fine; focus = brought_focused c t sub k.hidden fine }

pub shows_this : ShowsThis
shows_this c r t sub k fine = by (is_hidden t c) _ k.hidden fine
  where
    by : (b : Bool) (other : Option Refusal) → b ≡ true → cond b (brought_refusal c t) other ≡ None → IsBack c (shown t) (centred r t) (cond b (brought c t) (put_away c t))
    by true other e fine = brings c r t sub k fine
    by false other e fine = cc

-- ---- the first one comes

none_latest : (t : TreeValue) → NoneIsOut t → (ids : List ConId) → first_of kinds.Flagged (shown t) t ids ≡ None
none_latest t h [] = refl
none_latest t h (id ∷ ids) = rw (h id) (none_latest t h ids)

pub shows_first : ShowsFirst
shows_first c r t sub k first out fine =
    let lone = out (focused t) in
    let late : latest kinds.Flagged (Some (shown t)) t ≡ None = none_latest t out t.recency in
    let tree : show_next_tree t ≡ brought c t =
    ap (λ b. cond b (put_away (focused t) t) (latest_or_first (latest kinds.Flagged (Some (shown t)) t) t)) lone ∙ (ap (λ o. latest_or_first o t) late ∙ ap (λ o. first_brought o t) first) in
    let refusal : show_next_refusal t ≡ brought_refusal c t =
    ap (λ b. cond b (put_away_refusal (focused t) t) (latest_or_first_refusal (latest kinds.Flagged (Some (shown t)) t) t)) lone ∙ (ap (λ o. latest_or_first_refusal o t) late ∙ ap (λ o. first_brought_refusal o t) first) in
    let Afloat : TreeValue → Type 0 = λ x. IsBack c (shown t) (centred r t) x in
    subst Afloat (sym tree) (brings c r t sub k (sym refusal ∙ fine))
