-- Only windows are flagged: changes of states, and windows that hide and are tiled again.
use Rattle.std.proofs.Common.{◌≡◌, ◌≢◌, ℕ, ◌≤◌, Bool, true, false, cond, ◌||◌, not, List, Option, None, Some, refl, ap, sym, ◌∙◌, arith}
use Rattle.std.specs.Option.{option_map}
use Rattle.wm_base.specs.declared.geometry.Rect.{Rect}
use Rattle.wm_base.specs.declared.geometry.Size.{Size}
use Rattle.wm_base.specs.declared.ids.ConId.{ConId}
use Rattle.wm_base.specs.declared.plan.Layout.{Layout}
use Rattle.wm_base.specs.declared.properties.Props.{Props}
use Rattle.wm_floats.specs.Floating.{floating_rect, sink_tree, sunk, tiling_place}
use Rattle.wm_floats.specs.Fullscreen.{fullscreen_tree, others_unfull, unfull_but}
use Rattle.wm_floats.specs.Scratchpad.{to_scratchpad_tree}
use Rattle.wm_floats.specs.Windows.{flag_set, full_set, natural_by, natural_in, natural_of, restated, state_of}
use Rattle.wm_forest.specs.Change.{is_window_kind}
use Rattle.law_lasting.proofs.EachLemmas.{each_arriving, each_at, each_change, each_only, each_put, each_unfull, each_without}
use Rattle.law_lasting.proofs.StowedWords.{HasState}
use Rattle.law_lasting.specs.Changes.{is_plain}
use Rattle.law_lasting.specs.Each.{Each, IsLoose}
use Rattle.law_lasting.specs.Flags.{may_be_flagged}
use Rattle.wm_opens.proofs.OpenLemmas.{IsAt, found_at}
use Rattle.wm_shared.proofs.KidLemmas.{con_there}
use Rattle.wm_forest.proofs.ChangeLemmas.{by_change}
use Rattle.wm_forest.proofs.CountLemmas.{counted, tally-absent}
use Rattle.wm_forest.specs.Change.{arriving, at, placed, unfull_kind, without}
use Rattle.wm_forest.specs.declared.kind.KindEdit.{KindEdit}
use Rattle.wm_forest.specs.declared.kind.KindEdit.TheVariants as edits
use Rattle.wm_forest.specs.declared.part.ConKind.{ConKind}
use Rattle.wm_forest.specs.declared.part.ConKind.TheVariants.{Split, Window, Placeholder}
use Rattle.wm_forest.specs.declared.part.ConPart.{ConPart}
use Rattle.wm_forest.specs.declared.part.ConState.{ConState}
use Rattle.wm_forest.specs.declared.part.NodeKind.{NodeKind}
use Rattle.wm_forest.specs.declared.part.NodeKind.TheVariants.{Root, Output, Space, Con}
use Rattle.wm_forest.specs.declared.part.Part.{Part}
use Rattle.wm_forest.specs.declared.place.Place.{Place}
use Rattle.wm_forest.specs.declared.place.Place.TheVariants.{Scratchpad}
use Rattle.wm_forest.specs.Forest.{Forest, end, con}
use Rattle.wm_forest.specs.Kinds.{changed, filled, kind_changed, laid_out, titled}
use Rattle.wm_forest.specs.Look.{con_kind, first_part, has, kind_by, kind_of, only, same}
use Rattle.wm_tree.specs.Move.{apart, moved, moved_share}
use Rattle.wm_forest.specs.Place.{named, rect_at}
use Rattle.wm_tree.specs.Sound.{IsSound}
use Rattle.wm_forest.specs.SoundRow.{one_of, tally}
use Rattle.wm_tree.specs.TreeValue.{TreeValue, is_tiled_con, workspace_of}

-- the node is flagged only if it is a window
abbrev pub Right : Part → Type 0
Right part = may_be_flagged part.kind ≡ true

-- ---- kinds

right_unfull : (kind : NodeKind) → may_be_flagged kind ≡ true → may_be_flagged (unfull_kind kind) ≡ true
right_unfull (Root c) h = h
right_unfull (Output o) h = h
right_unfull (Space s) h = h
right_unfull (Con c) h = h

right_placed : (share : ℕ) (rect : Option Rect) (kind : NodeKind) → may_be_flagged kind ≡ true → may_be_flagged (placed share rect kind) ≡ true
right_placed share rect (Root c) h = h
right_placed share rect (Output o) h = h
right_placed share rect (Space s) h = h
right_placed share rect (Con c) h = h

pub right_loose : IsLoose Right
right_loose = record { unfulled = λ p h. right_unfull p.kind h; placed = λ share rect p h. right_placed share rect p.kind h; remarked = λ marks p h. h }

laid_window : (l : Layout) (kind : ConKind) → is_window_kind (laid_out l kind) ≡ is_window_kind kind
laid_window l (Split layout last) = refl
laid_window l (Window props owner natural) = refl
laid_window l (Placeholder props swallows) = refl

titled_window : (t : List ℕ) (kind : ConKind) → is_window_kind (titled t kind) ≡ is_window_kind kind
titled_window t (Split layout last) = refl
titled_window t (Window props owner natural) = refl
titled_window t (Placeholder props swallows) = refl

filled_window : (props : Props) (owner : ℕ) (natural : Size) (kind : ConKind) (b : Bool) → (is_window_kind kind || not b) ≡ true → (is_window_kind (filled props owner natural kind) || not b) ≡ true
filled_window props owner natural (Split layout last) b h = h
filled_window props owner natural (Window p o n) b h = refl
filled_window props owner natural (Placeholder p swallows) b h = refl

right_changed : (edit : KindEdit) (kind : NodeKind) → is_plain edit ≡ true → may_be_flagged kind ≡ true → may_be_flagged (changed edit kind) ≡ true
right_changed edit (Root c) plain h = by_edit edit
  where
    by_edit : (e : KindEdit) → may_be_flagged (changed e (Root c)) ≡ true
    by_edit (edits.Current o) = refl
    by_edit other = refl
right_changed edit (Output o) plain h = by_edit edit
  where
    by_edit : (e : KindEdit) → may_be_flagged (changed e (Output o)) ≡ true
    by_edit (edits.Shown w) = refl
    by_edit other = refl
right_changed edit (Space s) plain h = by_edit edit
  where
    by_edit : (e : KindEdit) → may_be_flagged (changed e (Space s)) ≡ true
    by_edit (edits.Name n) = refl
    by_edit other = refl
right_changed edit (Con c) plain h = by_edit edit plain
  where
    by_edit : (e : KindEdit) → is_plain e ≡ true → may_be_flagged (changed e (Con c)) ≡ true
    by_edit (edits.State s) z = cc
    by_edit (edits.Fill props owner natural) z = filled_window props owner natural c.kind c.state.flagged h
    by_edit (edits.Layout l) z = ap (λ b. b || not c.state.flagged) (laid_window l c.kind) ∙ h
    by_edit (edits.Title t) z = ap (λ b. b || not c.state.flagged) (titled_window t c.kind) ∙ h
    by_edit other z = h

-- ---- changes of one node

pub right_edited : (c : ConId) (edit : KindEdit) (f : Forest) → is_plain edit ≡ true → Each Right f → Each Right (at c kind_changed edit f)
right_edited c edit f plain p = each_change Right c kind_changed edit (λ part kids floats rest q. (right_changed edit part.kind plain q.0, q.1, q.2, q.3)) f p

-- the flag stays as it was
pub right_state : (c : ConId) (old now : ConState) (f : Forest) → now.flagged ≡ old.flagged → HasState old (only c f) → Each Right f → Each Right (at c kind_changed (edits.State now) f)
right_state c old now f flag has p =
    each_at Right c kind_changed (edits.State now) (HasState old) (λ part kids floats rest g q. (by_kind part.kind g q.0, q.1, q.2, q.3)) f has p
  where
    by_kind : (kind : NodeKind) → option_map (λ (q : ConPart). q.state) (con_kind kind) ≡ Some old → may_be_flagged kind ≡ true → may_be_flagged (changed (edits.State now) kind) ≡ true
    by_kind (Root d) g h = cc
    by_kind (Output o) g h = cc
    by_kind (Space s) g h = cc
    by_kind (Con d) g h =
        let one : d.state ≡ old = cc in
        let same_flag : now.flagged ≡ d.state.flagged = flag ∙ sym (ap (λ (z : ConState). z.flagged) one) in
        ap (λ b. is_window_kind d.kind || not b) same_flag ∙ h

right_others : (c : ConId) (w : Option ConId) (t : TreeValue) → Each Right t.nodes → Each Right (others_unfull c w t).nodes
right_others c None t p = p
right_others c (Some w) t p = each_change Right w unfull_but c (λ part kids floats rest q. (q.0, each_unfull right_loose c kids q.1, each_unfull right_loose c floats q.2, q.3)) t.nodes p

right_full_set : (on : Bool) (c : ConId) (t : TreeValue) → Each Right t.nodes → Each Right (full_set on c t).nodes
right_full_set on c t p = by (state_of c t) refl
  where
    by : (o : Option ConState) → state_of c t ≡ o → Each Right (restated c (option_map (λ (z : ConState). record z { fullscreen = on }) o) t).nodes
    by None e = p
    by (Some s) e = right_state c s (record s { fullscreen = on }) t.nodes refl e p

pub right_fullscreen : (c : ConId) (on : Bool) (t : TreeValue) → Each Right t.nodes → Each Right (fullscreen_tree c on t).nodes
right_fullscreen c true t p = right_full_set true c (others_unfull c (workspace_of t c) t) (right_others c (workspace_of t c) t p)
right_fullscreen c false t p = right_full_set false c t p

-- ---- moves

-- what holds of each node, whatever its share and rectangle, holds after a move
pub each_moved : {Q : Part → Type 0} → IsLoose Q → (c : ConId) (p : Place) (t : TreeValue) → Each Q t.nodes → Each Q (moved c p t).nodes
each_moved {Q} k c p t q =
    each_put Q p (arriving (moved_share c p t.nodes) (rect_at p) (apart t c (named p)) (only c t.nodes)) (without c t.nodes)
    (each_arriving k (moved_share c p t.nodes) (rect_at p) (apart t c (named p)) (only c t.nodes) (each_only Q c t.nodes q)) (each_without Q c t.nodes q)

pub either_true : (b : Bool) → (b || true) ≡ true
either_true true = refl
either_true false = refl

-- a container that loses the flag
right_unflagged : (c : ConId) (t : TreeValue) → Each Right t.nodes → Each Right (flag_set false c t).nodes
right_unflagged c t p = by (state_of c t)
  where
    by_kind : (s : ConState) (kind : NodeKind) → may_be_flagged kind ≡ true → may_be_flagged (changed (edits.State (record s { flagged = false })) kind) ≡ true
    by_kind s (Root d) h = h
    by_kind s (Output o) h = h
    by_kind s (Space w) h = h
    by_kind s (Con d) h = either_true (is_window_kind d.kind)

    by : (o : Option ConState) → Each Right (restated c (option_map (λ (z : ConState). record z { flagged = false }) o) t).nodes
    by None = p
    by (Some s) = each_change Right c kind_changed (edits.State (record s { flagged = false })) (λ part kids floats rest q. (by_kind s part.kind q.0, q.1, q.2, q.3)) t.nodes p

pub right_sink : (c : ConId) (t : TreeValue) → Each Right t.nodes → Each Right (sink_tree c t).nodes
right_sink c t p = by (workspace_of t c)
  where
    by : (w : Option ConId) → Each Right (sunk c w t).nodes
    by None = p
    by (Some w) = step (is_tiled_con t c)
      where
        step : (b : Bool) → Each Right (cond b t (flag_set false c (moved c (tiling_place w t) t))).nodes
        step true = p
        step false = right_unflagged c (moved c (tiling_place w t) t) (each_moved right_loose c (tiling_place w t) t p)

-- ---- hiding

-- where the node has the id it is a window
abbrev IsWindowAt : ConId → Part → Type 0
IsWindowAt c part = same part.id c ≡ true → natural_in (con_kind part.kind) ≢ None

window_unfull : (kind : NodeKind) → natural_in (con_kind kind) ≢ None → natural_in (con_kind (unfull_kind kind)) ≢ None
window_unfull (Root c) h = h
window_unfull (Output o) h = h
window_unfull (Space s) h = h
window_unfull (Con c) h = h

window_placed : (share : ℕ) (rect : Option Rect) (kind : NodeKind) → natural_in (con_kind kind) ≢ None → natural_in (con_kind (placed share rect kind)) ≢ None
window_placed share rect (Root c) h = h
window_placed share rect (Output o) h = h
window_placed share rect (Space s) h = h
window_placed share rect (Con c) h = h

window_loose : (c : ConId) → IsLoose (IsWindowAt c)
window_loose c = record { unfulled = λ p h e. window_unfull p.kind (h e); placed = λ share rect p h e. window_placed share rect p.kind (h e); remarked = λ marks p h. h }

none_there : (c : ConId) (f : Forest) → tally c f ≤ 0 → Each (IsWindowAt c) f
none_there c end few = tt
none_there c (con part kids floats rest) few = (by (same part.id c) refl, none_there c kids (omega (arith, few)), none_there c floats (omega (arith, few)), none_there c rest (omega (arith, few)))
  where
    by : (b : Bool) → same part.id c ≡ b → same part.id c ≡ true → natural_in (con_kind part.kind) ≢ None
    by true e = let one : one_of c part ≡ 1 = ap (λ b. cond {A = ℕ} b 1 0) e in absurd (omega (arith, few, one))
    by false e = λ h. cc

-- where the id is there once, and is found as a window, each node with it is one
window_there : (c : ConId) (f : Forest) → tally c f ≤ 1 → natural_in (kind_by con_kind (first_part (only c f))) ≢ None → Each (IsWindowAt c) f
window_there c end once ok = tt
window_there c (con part kids floats rest) once ok =
    step (same part.id c) (has c kids) (has c floats) refl refl refl ok (λ h. window_there c kids (omega (arith, once)) h) (λ h. window_there c floats (omega (arith, once)) h) (λ h. window_there c rest (omega (arith, once)) h)
  where
    step : (a k l : Bool) → same part.id c ≡ a → has c kids ≡ k → has c floats ≡ l → natural_in (kind_by con_kind (first_part (cond a (con part kids floats end) (cond k (only c kids) (cond l (only c floats) (only c rest)))))) ≢ None
        → (natural_in (kind_by con_kind (first_part (only c kids))) ≢ None → Each (IsWindowAt c) kids) → (natural_in (kind_by con_kind (first_part (only c floats))) ≢ None → Each (IsWindowAt c) floats)
        → (natural_in (kind_by con_kind (first_part (only c rest))) ≢ None → Each (IsWindowAt c) rest)
        → Each (IsWindowAt c) (con part kids floats rest)
    step true k l e u v z x y w =
        let one : one_of c part ≡ 1 = ap (λ b. cond {A = ℕ} b 1 0) e in
        (λ h. z, none_there c kids (omega (arith, once, one)), none_there c floats (omega (arith, once, one)), none_there c rest (omega (arith, once, one)))
    step false true l e u v z x y w =
        let one : 1 ≤ tally c kids = counted c kids u in
        (λ h. cc, x z, none_there c floats (omega (arith, once, one)), none_there c rest (omega (arith, once, one)))
    step false false true e u v z x y w =
        let one : 1 ≤ tally c floats = counted c floats v in
        (λ h. cc, none_there c kids (omega (arith, once, one)), y z, none_there c rest (omega (arith, once, one)))
    step false false false e u v z x y w =
        (λ h. cc, none_there c kids (omega (arith, tally-absent c kids u)), none_there c floats (omega (arith, tally-absent c floats v)), w z)

flagged_kind : (s : ConState) (kind : NodeKind) → natural_in (con_kind kind) ≢ None → may_be_flagged (changed (edits.State s) kind) ≡ true
flagged_kind s (Root d) ok = refl
flagged_kind s (Output o) ok = refl
flagged_kind s (Space w) ok = refl
flagged_kind s (Con d) ok = by d.kind ok
  where
    by : (kind : ConKind) → natural_by kind ≢ None → (is_window_kind kind || not s.flagged) ≡ true
    by (Split layout last) h = absurd (h refl)
    by (Window props owner natural) h = refl
    by (Placeholder props swallows) h = absurd (h refl)

-- a window may get the flag
right_window : (c : ConId) (s : ConState) (f : Forest) → IsAt c (only c f) → Each Right f → Each (IsWindowAt c) f → Each Right (at c kind_changed (edits.State s) f)
right_window c s =
    by_change c kind_changed (edits.State s) (λ old new found. IsAt c found → Each Right old → Each (IsWindowAt c) old → Each Right new) (λ at p w. p)
    (λ part kids floats rest at p w. (flagged_kind s part.kind (w.0 at.0), p.1, p.2, p.3))
    (λ part kids floats rest new found h at p w. (p.0, h at p.1 w.1, p.2, p.3))
    (λ part kids floats rest new found h at p w. (p.0, p.1, h at p.2 w.2, p.3))
    (λ part kids floats rest new found h at p w. (p.0, p.1, p.2, h at p.3 w.3))

pub right_hidden : (c : ConId) (t : TreeValue) → IsSound t → natural_of c t ≢ None → Each Right t.nodes → Each Right (to_scratchpad_tree c t).nodes
right_hidden c t s ok p = by (kind_of con_kind c away.nodes) refl
  where
    away : TreeValue
    away = moved c (Scratchpad (floating_rect c t)) t

    after : Each Right away.nodes
    after = each_moved right_loose c (Scratchpad (floating_rect c t)) t p

    windows : Each (IsWindowAt c) away.nodes
    windows = each_moved (window_loose c) c (Scratchpad (floating_rect c t)) t (window_there c t.nodes (s.once c) ok)

    by : (o : Option ConPart) → kind_of con_kind c away.nodes ≡ o → Each Right (restated c (option_map (λ (z : ConState). record z { flagged = true }) (option_map (λ (q : ConPart). q.state) o)) away).nodes
    by None e = after
    by (Some q) e =
        let there : has c away.nodes ≡ true = con_there c away.nodes (λ z. cc (z, e)) in
        right_window c (record q.state { flagged = true }) away.nodes (found_at c away.nodes there) after windows
