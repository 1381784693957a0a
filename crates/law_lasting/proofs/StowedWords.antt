-- The scratchpad under changes of states, marks and rows: none of them takes a flag or a rectangle away.
use Rattle.std.proofs.Common.{◌≡◌, ℕ, Bool, true, false, cond, ◌&&◌, List, Option, None, Some, refl, ap, sym, ◌∙◌}
use Rattle.std.specs.Prelude.{is_some}
use Rattle.std.specs.Option.{option_map}
use Rattle.wm_base.specs.declared.ids.ConId.{ConId}
use Rattle.wm_floats.specs.Fullscreen.{fullscreen_tree, others_unfull, unfull_but}
use Rattle.wm_floats.specs.Windows.{full_set, restated, state_of}
use Rattle.wm_focus.specs.Marks.{bare, part_off, taken_off}
use Rattle.law_lasting.proofs.StowedLemmas.{Stowed, stowed_apart, stowed_at}
use Rattle.law_lasting.specs.Changes.{is_plain}
use Rattle.law_lasting.specs.Rows.{AreStowed, is_stowed}
use Rattle.wm_tree.specs.Along.{gone_along, nowhere}
use Rattle.wm_forest.specs.Sticky.{is_sticky, loose, loosened, sticky}
use Rattle.wm_forest.specs.Change.{append, at, is_id, nobody, raised_in, to_end, unfull, unfull_kind, raised_at}
use Rattle.wm_forest.specs.Counts.{but}
use Rattle.wm_forest.specs.declared.kind.KindEdit.{KindEdit}
use Rattle.wm_forest.specs.declared.kind.KindEdit.TheVariants as edits
use Rattle.wm_forest.specs.declared.part.ConPart.{ConPart}
use Rattle.wm_forest.specs.declared.part.ConState.{ConState}
use Rattle.wm_forest.specs.declared.part.NodeKind.{NodeKind}
use Rattle.wm_forest.specs.declared.part.NodeKind.TheVariants.{Root, Output, Space, Con}
use Rattle.wm_forest.specs.declared.part.Part.{Part}
use Rattle.wm_forest.specs.declared.place.Place.TheVariants.{Float}
use Rattle.wm_forest.specs.Forest.{Forest, end, con}
use Rattle.wm_forest.specs.Kinds.{changed, kind_changed}
use Rattle.wm_forest.specs.Look.{con_kind, first_alone, first_floats, first_part, in_row, kind_by, node_in, only, same}
use Rattle.wm_forest.specs.Marks.{marks_word, other_marks, unmark_word}
use Rattle.wm_forest.specs.Place.{put_word}
use Rattle.wm_tree.specs.TreeValue.{TreeValue, workspace_of}
use Rattle.wm_forest.specs.RootId.{root}

-- a change that asks nothing of the node that it finds
module _ {X : Type 0} (c : ConId) (f : X → Part → Forest → Forest → Forest → Forest) (x : X) where
  pub stowed_free : ((part : Part) (kids floats rest : Forest) → is_stowed part.kind ≡ true → AreStowed rest → AreStowed (f x part kids floats rest))
      → ((part : Part) (kids floats rest : Forest) → same part.id root ≡ true → AreStowed floats → Stowed (f x part kids floats rest)) → (forest : Forest) → Stowed forest → Stowed (at c f x forest)
  stowed_free own first forest p = stowed_at c f x (λ g. Unit {0}) (λ q ks fs r g. own q ks fs r) (λ q ks fs r g. first q ks fs r) forest tt p

-- ---- kinds

changed_stowed : (edit : KindEdit) (kind : NodeKind) → is_plain edit ≡ true → is_stowed kind ≡ true → is_stowed (changed edit kind) ≡ true
changed_stowed edit (Root c) plain h = cc
changed_stowed edit (Output o) plain h = cc
changed_stowed edit (Space s) plain h = cc
changed_stowed edit (Con c) plain h = by_edit edit plain
  where
    by_edit : (e : KindEdit) → is_plain e ≡ true → is_stowed (changed e (Con c)) ≡ true
    by_edit (edits.State s) z = cc
    by_edit (edits.Share s) z = h
    by_edit other z = h

pub unfull_stowed : (kind : NodeKind) → is_stowed kind ≡ true → is_stowed (unfull_kind kind) ≡ true
unfull_stowed (Root c) h = h
unfull_stowed (Output o) h = h
unfull_stowed (Space s) h = h
unfull_stowed (Con c) h = h

both : (a b : Bool) → (a && b) ≡ true → (a ≡ true) × (b ≡ true)
both true b h = (refl, h)
both false b h = cc

-- ---- changes of one node

pub stowed_edited : (c : ConId) (edit : KindEdit) (f : Forest) → is_plain edit ≡ true → Stowed f → Stowed (at c kind_changed edit f)
stowed_edited c edit f plain p = stowed_free c kind_changed edit (λ part kids floats rest h r. (changed_stowed edit part.kind plain h, r)) (λ part kids floats rest own h. (own, h)) f p

-- the found container has this state
abbrev pub HasState : ConState → Forest → Type 0
HasState old g = option_map (λ (q : ConPart). q.state) (kind_by con_kind (first_part g)) ≡ Some old

-- the flag stays, and a rectangle where there is one
pub stowed_state : (c : ConId) (old now : ConState) (f : Forest) → now.flagged ≡ old.flagged → (is_some old.rect ≡ true → is_some now.rect ≡ true) → HasState old (only c f) → Stowed f → Stowed (at c kind_changed (edits.State now) f)
stowed_state c old now f flag rect has p =
    stowed_at c kind_changed (edits.State now) (HasState old) (λ part kids floats rest g h r. (by_kind part.kind g h, r)) (λ part kids floats rest g own h. (own, h)) f has p
  where
    by_kind : (kind : NodeKind) → option_map (λ (q : ConPart). q.state) (con_kind kind) ≡ Some old → is_stowed kind ≡ true → is_stowed (changed (edits.State now) kind) ≡ true
    by_kind (Root d) g h = cc
    by_kind (Output o) g h = cc
    by_kind (Space s) g h = cc
    by_kind (Con d) g h =
        let one : d.state ≡ old = cc in
        let two = both d.state.flagged (is_some d.state.rect) h in
        let flagged : now.flagged ≡ true = flag ∙ (sym (ap (λ (z : ConState). z.flagged) one) ∙ two.0) in
        let boxed : is_some now.rect ≡ true = rect (sym (ap (λ (z : ConState). is_some z.rect) one) ∙ two.1) in
        rw (flagged, boxed) refl

pub stowed_marks : (c : ConId) (marks : List (List ℕ)) (f : Forest) → Stowed f → Stowed (at c marks_word marks f)
stowed_marks c marks f p = stowed_free c marks_word marks (λ part kids floats rest h r. (h, r)) (λ part kids floats rest own h. (own, h)) f p

pub stowed_unmarked : (c : ConId) (n : List ℕ) (f : Forest) → Stowed f → Stowed (at c unmark_word n f)
stowed_unmarked c n f p = stowed_free c unmark_word n (λ part kids floats rest h r. (h, r)) (λ part kids floats rest own h. (own, h)) f p

-- ---- marks of all nodes

off_same : (keep : Option ConId) (n : List ℕ) (part : Part) → ((part_off keep n part).kind ≡ part.kind) × ((part_off keep n part).id ≡ part.id)
off_same keep n part = step (is_id part.id keep)
  where
    step : (b : Bool) → ((cond b part (record part { marks = other_marks n part.marks })).kind ≡ part.kind) × ((cond b part (record part { marks = other_marks n part.marks })).id ≡ part.id)
    step true = (refl, refl)
    step false = (refl, refl)

row_taken_off : (keep : Option ConId) (n : List ℕ) (row : Forest) → AreStowed row → AreStowed (taken_off keep n row)
row_taken_off keep n end p = p
row_taken_off keep n (con part kids floats rest) p = (ap is_stowed (off_same keep n part).0 ∙ p.0, row_taken_off keep n rest p.1)

pub stowed_taken_off : (keep : Option ConId) (n : List ℕ) (f : Forest) → Stowed f → Stowed (taken_off keep n f)
stowed_taken_off keep n end p = p
stowed_taken_off keep n (con part kids floats rest) p = (ap (λ i. same i root) (off_same keep n part).1 ∙ p.0, row_taken_off keep n floats p.1)

row_bare : (row : Forest) → AreStowed row → AreStowed (bare row)
row_bare end p = p
row_bare (con part kids floats rest) p = (p.0, row_bare rest p.1)

pub stowed_bare : (f : Forest) → Stowed f → Stowed (bare f)
stowed_bare end p = p
stowed_bare (con part kids floats rest) p = (p.0, row_bare floats p.1)

-- ---- rows

pub row_append : (a b : Forest) → AreStowed a → AreStowed b → AreStowed (append a b)
row_append end b p q = q
row_append (con part kids floats rest) b p q = (p.0, row_append rest b p.1 q)

row_unfull : (c : ConId) (row : Forest) → AreStowed row → AreStowed (unfull c row)
row_unfull c end p = p
row_unfull c (con part kids floats rest) p = (step (same part.id c), row_unfull c rest p.1)
  where
    step : (b : Bool) → is_stowed (cond b part (record part { kind = unfull_kind part.kind })).kind ≡ true
    step true = p.0
    step false = unfull_stowed part.kind p.0

row_but : (c : ConId) (row : Forest) → AreStowed row → AreStowed (but c row)
row_but c end p = p
row_but c (con part kids floats rest) p = step (same part.id c) (row_but c rest p.1)
  where
    step : (b : Bool) → AreStowed (but c rest) → AreStowed (cond b rest (con part kids floats (but c rest)))
    step true q = p.1
    step false q = (p.0, q)

row_node_in : (c : ConId) (row : Forest) → AreStowed row → AreStowed (first_alone (node_in c row))
row_node_in c end p = p
row_node_in c (con part kids floats rest) p = step (same part.id c) (row_node_in c rest p.1)
  where
    step : (b : Bool) → AreStowed (first_alone (node_in c rest)) → AreStowed (first_alone (cond b (con part kids floats rest) (node_in c rest)))
    step true q = (p.0, tt)
    step false q = q

row_to_end : (c : ConId) (row : Forest) → AreStowed row → AreStowed (to_end c row)
row_to_end c row p = step (in_row c row)
  where
    step : (b : Bool) → AreStowed (cond b (append (but c row) (first_alone (node_in c row))) row)
    step true = row_append (but c row) (first_alone (node_in c row)) (row_but c row p) (row_node_in c row p)
    step false = p

pub stowed_raised : (c : ConId) (w : Option ConId) (f : Forest) → Stowed f → Stowed (raised_at c w f)
stowed_raised c None f p = p
stowed_raised c (Some w) f p = stowed_free w raised_in c (λ part kids floats rest h r. (h, r)) (λ part kids floats rest own h. (own, row_to_end c (unfull c floats) (row_unfull c floats h))) f p

-- ---- fullscreen

stowed_others : (c : ConId) (w : Option ConId) (t : TreeValue) → Stowed t.nodes → Stowed (others_unfull c w t).nodes
stowed_others c None t p = p
stowed_others c (Some w) t p = stowed_free w unfull_but c (λ part kids floats rest h r. (h, r)) (λ part kids floats rest own h. (own, row_unfull c floats h)) t.nodes p

stowed_full_set : (on : Bool) (c : ConId) (t : TreeValue) → Stowed t.nodes → Stowed (full_set on c t).nodes
stowed_full_set on c t p = by (state_of c t) refl
  where
    by : (o : Option ConState) → state_of c t ≡ o → Stowed (restated c (option_map (λ (z : ConState). record z { fullscreen = on }) o) t).nodes
    by None e = p
    by (Some s) e = stowed_state c s (record s { fullscreen = on }) t.nodes refl (λ h. h) e p

pub stowed_fullscreen : (c : ConId) (on : Bool) (t : TreeValue) → Stowed t.nodes → Stowed (fullscreen_tree c on t).nodes
stowed_fullscreen c true t p = stowed_full_set true c (others_unfull c (workspace_of t c) t) (stowed_others c (workspace_of t c) t p)
stowed_fullscreen c false t p = stowed_full_set false c t p

-- ---- sticky windows

row_loose : (row : Forest) → AreStowed row → AreStowed (loose row)
row_loose end p = p
row_loose (con part kids floats rest) p = step (is_sticky part.kind) (row_loose rest p.1)
  where
    step : (b : Bool) → AreStowed (loose rest) → AreStowed (cond b (loose rest) (con part kids floats (loose rest)))
    step true q = q
    step false q = (p.0, q)

pub stowed_along : (v w : ConId) (t : TreeValue) → same root w ≡ false → Stowed t.nodes → Stowed (gone_along v w t).nodes
stowed_along v w t low p =
    let left : Stowed (at v loosened end t.nodes) = stowed_free v loosened end (λ part kids floats rest h r. (h, r)) (λ part kids floats rest own h. (own, row_loose floats h)) t.nodes p in
    stowed_apart w (put_word (Float w nowhere)) (unfull nobody (sticky (first_floats (only v t.nodes)))) low (λ part kids floats rest h r. (h, r)) (at v loosened end t.nodes) left
