-- What is shown after a workspace was shown, and what does not change it.
use Rattle.std.proofs.Common.{◌≡◌, ℕ, ◌≤◌, Bool, true, false, cond, ◌||◌, List, Option, None, Some, refl, ap, sym, ◌∙◌, subst, arith}
use Rattle.wm_base.specs.declared.ids.ConId.{ConId}
use Rattle.wm_shared.proofs.ShowLemmas.{sound_current}
use Rattle.wm_shared.specs.Showing.{followed, shown_on, shown_there, with_current}
use Rattle.wm_shared.specs.Subject.{is_space}
use Rattle.wm_spaces.proofs.AsideLemmas.{aside}
use Rattle.wm_spaces.proofs.MoveLemmas.{held_on, on_held}
use Rattle.wm_tree.proofs.AttachLemmas.{has_row}
use Rattle.wm_tree.proofs.FocusLemmas.{outputs_of}
use Rattle.wm_forest.proofs.OnceLemmas.{at_kids}
use Rattle.wm_tree.proofs.OutputLemmas.{yields}
use Rattle.wm_tree.proofs.OutputRows.{by_row}
use Rattle.wm_tree.specs.Along.{gone_along, nowhere}
use Rattle.wm_forest.specs.Sticky.{loosened, sticky}
use Rattle.wm_forest.specs.Change.{at, nobody, raised_in, shown_of, unfull, unfull_kind}
use Rattle.wm_forest.specs.declared.kind.KindEdit.TheVariants as edits
use Rattle.wm_forest.specs.declared.part.NodeKind.{NodeKind}
use Rattle.wm_forest.specs.declared.part.NodeKind.TheVariants.{Root, Output, Space, Con}
use Rattle.wm_forest.specs.declared.part.Part.{Part}
use Rattle.wm_forest.specs.declared.place.Place.TheVariants.{Float}
use Rattle.wm_forest.specs.Forest.{Forest, end, con}
use Rattle.wm_forest.specs.Kinds.{changed, kind_changed}
use Rattle.wm_forest.specs.Look.{first_floats, first_kids, first_part, has, in_row, kind_by, node_in, only, same}
use Rattle.wm_tree.specs.Outputs.{IsOutput}
use Rattle.wm_forest.specs.Place.{put_word}
use Rattle.wm_tree.specs.Sets.{shown_by, with_shown}
use Rattle.wm_forest.specs.SoundRow.{IsNode, IsSoundRow, outputs, roots, tally}
use Rattle.wm_tree.specs.Sound.{IsSound}
use Rattle.wm_tree.specs.TreeValue.{TreeValue, current_in, parent}
use Rattle.wm_forest.specs.RootId.{current_of}
use Rattle.wm_tree.specs.Words.{edited}

-- ---- what is left of a tree without floating windows and fullscreen

-- a part without fullscreen
abbrev pub plain : Part → Part
plain part = record part { kind = unfull_kind part.kind }

-- a forest without its floating rows, and without fullscreen
abbrev pub bare : Forest → Forest
bare end = end
bare (con part kids floats rest) = con (plain part) (bare kids) end (bare rest)

-- a change of one node that is not seen in what is left
module _ {X : Type 0} (c : ConId) (f : X → Part → Forest → Forest → Forest → Forest) (x : X) (here : (part : Part) (kids floats rest : Forest) → bare (f x part kids floats rest) ≡ con (plain part) (bare kids) end (bare rest)) where
  pub bare_at : (g : Forest) → bare (at c f x g) ≡ bare g
  bare_at end = refl
  bare_at (con part kids floats rest) = step (same part.id c) (has c kids) (has c floats) (bare_at kids) (bare_at rest)
    where
      step : (a k l : Bool) → bare (at c f x kids) ≡ bare kids → bare (at c f x rest) ≡ bare rest
          → bare (cond a (f x part kids floats rest) (cond k (con part (at c f x kids) floats rest) (cond l (con part kids (at c f x floats) rest) (con part kids floats (at c f x rest))))) ≡ con (plain part) (bare kids) end (bare rest)
      step true k l u v = here part kids floats rest
      step false true l u v = ap (λ z. con (plain part) z end (bare rest)) u
      step false false true u v = refl
      step false false false u v = ap (λ z. con (plain part) (bare kids) end z) v

bare_along : (v w : ConId) (t : TreeValue) → bare (gone_along v w t).nodes ≡ bare t.nodes
bare_along v w t =
    bare_at w (put_word (Float w nowhere)) (unfull nobody (sticky (first_floats (only v t.nodes)))) (λ part kids floats rest. refl) (at v loosened end t.nodes)
    ∙ bare_at v loosened end (λ part kids floats rest. refl) t.nodes

plain_again : (kind : NodeKind) → unfull_kind (unfull_kind kind) ≡ unfull_kind kind
plain_again (Root c) = refl
plain_again (Output o) = refl
plain_again (Space s) = refl
plain_again (Con c) = refl

bare_unfull : (c : ConId) (f : Forest) → bare (unfull c f) ≡ bare f
bare_unfull c end = refl
bare_unfull c (con part kids floats rest) = step (same part.id c) (bare_unfull c kids) (bare_unfull c rest)
  where
    step : (a : Bool) → bare (unfull c kids) ≡ bare kids → bare (unfull c rest) ≡ bare rest → con (plain (cond a part (plain part))) (bare (unfull c kids)) end (bare (unfull c rest)) ≡ con (plain part) (bare kids) end (bare rest)
    step true u v = ap (λ z. con (plain part) z end (bare (unfull c rest))) u ∙ ap (λ z. con (plain part) (bare kids) end z) v
    step false u v = ap (λ z. con (record part { kind = z }) (bare (unfull c kids)) end (bare (unfull c rest))) (plain_again part.kind) ∙ (ap (λ z. con (plain part) z end (bare (unfull c rest))) u ∙ ap (λ z. con (plain part) (bare kids) end z) v)

-- raising is not seen in what is left
pub bare_raised : (c w : ConId) (f : Forest) → bare (at w raised_in c f) ≡ bare f
bare_raised c w f = bare_at w raised_in c (λ part kids floats rest. ap (λ z. con (plain part) z end (bare rest)) (bare_unfull c kids)) f

bare_kids : (f : Forest) → first_kids (bare f) ≡ bare (first_kids f)
bare_kids end = refl
bare_kids (con part kids floats rest) = refl

bare_current : (f : Forest) → current_in (first_part (bare f)) ≡ current_in (first_part f)
bare_current end = refl
bare_current (con part kids floats rest) = by part.kind
  where
    by : (kind : NodeKind) → current_of (unfull_kind kind) ≡ current_of kind
    by (Root c) = refl
    by (Output o) = refl
    by (Space s) = refl
    by (Con c) = refl

bare_shows : (f : Forest) → kind_by shown_of (first_part (bare f)) ≡ kind_by shown_of (first_part f)
bare_shows end = refl
bare_shows (con part kids floats rest) = by part.kind
  where
    by : (kind : NodeKind) → shown_of (unfull_kind kind) ≡ shown_of kind
    by (Root c) = refl
    by (Output o) = refl
    by (Space s) = refl
    by (Con c) = refl

bare_row : (c : ConId) (f : Forest) → in_row c (bare f) ≡ in_row c f
bare_row c end = refl
bare_row c (con part kids floats rest) = ap (λ z. same part.id c || z) (bare_row c rest)

bare_node : (c : ConId) (f : Forest) → node_in c (bare f) ≡ bare (node_in c f)
bare_node c end = refl
bare_node c (con part kids floats rest) = step (same part.id c) (bare_node c rest)
  where
    step : (b : Bool) → node_in c (bare rest) ≡ bare (node_in c rest) → cond b (con (plain part) (bare kids) end (bare rest)) (node_in c (bare rest)) ≡ bare (cond b (con part kids floats rest) (node_in c rest))
    step true e = refl
    step false e = e

-- ---- what is shown

-- the output o is the current one, and of its workspaces shows w
pub record IsShown (w o : ConId) (f : Forest) : Type 0 where
  pub now : current_in (first_part f) ≡ o
  pub out : in_row o (first_kids f) ≡ true
  pub on : in_row w (first_kids (node_in o (first_kids f))) ≡ true
  pub shows : kind_by shown_of (first_part (node_in o (first_kids f))) ≡ Some w

shown_bare : (w o : ConId) (f : Forest) → IsShown w o f → IsShown w o (bare f)
shown_bare w o f s =
    let kids : first_kids (bare f) ≡ bare (first_kids f) = bare_kids f in
    let node : node_in o (first_kids (bare f)) ≡ bare (node_in o (first_kids f)) = ap (node_in o) kids ∙ bare_node o (first_kids f) in
    record {
      now = bare_current f ∙ s.now;
      out = ap (in_row o) kids ∙ (bare_row o (first_kids f) ∙ s.out);
      on = ap (λ z. in_row w (first_kids z)) node ∙ (ap (in_row w) (bare_kids (node_in o (first_kids f))) ∙ (bare_row w (first_kids (node_in o (first_kids f))) ∙ s.on));
      shows = ap (λ z. kind_by shown_of (first_part z)) node ∙ (bare_shows (node_in o (first_kids f)) ∙ s.shows);
    }

shown_full : (w o : ConId) (f : Forest) → IsShown w o (bare f) → IsShown w o f
shown_full w o f s =
    let kids : first_kids (bare f) ≡ bare (first_kids f) = bare_kids f in
    let node : node_in o (first_kids (bare f)) ≡ bare (node_in o (first_kids f)) = ap (node_in o) kids ∙ bare_node o (first_kids f) in
    record {
      now = sym (bare_current f) ∙ s.now;
      out = sym (bare_row o (first_kids f)) ∙ (ap (in_row o) (sym kids) ∙ s.out);
      on = sym (bare_row w (first_kids (node_in o (first_kids f)))) ∙ (ap (in_row w) (sym (bare_kids (node_in o (first_kids f)))) ∙ (ap (λ z. in_row w (first_kids z)) (sym node) ∙ s.on));
      shows = sym (bare_shows (node_in o (first_kids f))) ∙ (ap (λ z. kind_by shown_of (first_part z)) (sym node) ∙ s.shows);
    }

-- where what is left is the same, so is what is shown
pub shown_alike : (w o : ConId) (f g : Forest) → bare g ≡ bare f → IsShown w o f → IsShown w o g
shown_alike w o f g e s = shown_full w o g (subst (IsShown w o) (sym e) (shown_bare w o f s))

shows_kind : (w id : ConId) (kind : NodeKind) (marks : List (List ℕ)) (kids : Forest) → IsNode outputs true 32 id kind marks kids → shown_of (changed (edits.Shown w) kind) ≡ Some w
shows_kind w id (Root c) marks kids n = absurd n
shows_kind w id (Output o) marks kids n = refl
shows_kind w id (Space s) marks kids n = absurd n
shows_kind w id (Con c) marks kids n = absurd n

shows_row : (o w : ConId) (row : Forest) → in_row o row ≡ true → tally o row ≤ 1 → IsSoundRow outputs true 32 row → kind_by shown_of (first_part (node_in o (at o kind_changed (edits.Shown w) row))) ≡ Some w
shows_row o w row h once =
    by_row o kind_changed (edits.Shown w) (λ old new found. IsSoundRow outputs true 32 old → kind_by shown_of (first_part (node_in o new)) ≡ Some w)
    (λ part kids floats rest e p. rw e (shows_kind w part.id part.kind part.marks kids p.0))
    (λ part kids floats rest new found e g p. rw e (g p.4)) row h once

-- an output shows another workspace
shown_edited : (w o : ConId) (f : Forest) → IsSoundRow roots false 0 f → tally o f ≤ 1 → current_in (first_part f) ≡ o → IsOutput o f → in_row w (first_kids (node_in o (first_kids f))) ≡ true → IsShown w o (at o kind_changed (edits.Shown w) f)
shown_edited w o end s once now out on = cc
shown_edited w o (con part kids floats rest) s once now out on =
    let a = aside o w (con part kids floats rest) once out in
    let e = at_kids o kind_changed (edits.Shown w) part kids floats rest once (has_row o kids out) in
    let shows = shows_row o w kids out (omega (arith, once)) (outputs_of (con part kids floats rest) s) in
    record {
      now = ap (λ z. current_in (first_part z)) e ∙ now;
      out = a.outs o ∙ out;
      on = ap (in_row w) a.row ∙ on;
      shows = ap (λ z. kind_by shown_of (first_part (node_in o (first_kids z)))) e ∙ shows;
    }

shown_followed : (w o : ConId) (v : Option ConId) (t : TreeValue) → IsShown w o t.nodes → IsShown w o (followed v w t).nodes
shown_followed w o None t s = s
shown_followed w o (Some v) t s = step (same v w)
  where
    along : IsShown w o (gone_along v w t).nodes
    along = shown_alike w o t.nodes (gone_along v w t).nodes (bare_along v w t) s

    step : (b : Bool) → IsShown w o (cond b t (gone_along v w t)).nodes
    step true = s
    step false = along

-- after showing it is shown
pub is_shown : (w o : ConId) (t : TreeValue) → IsSound t → is_space t w ≡ true → parent t w ≡ Some o → IsShown w o (shown_there w (Some o) t).nodes
is_shown w o t s h held =
    let at_o = held_on w o t s h held in
    let t1 : TreeValue = with_current o t in
    let s1 = sound_current o t at_o.0 s in
    let y = yields o t.nodes s.shaped s.rooted in
    let out1 : IsOutput o t1.nodes = ap (in_row o) y.row ∙ at_o.0 in
    let on1 : in_row w (first_kids (node_in o (first_kids t1.nodes))) ≡ true = ap (λ z. in_row w (first_kids (node_in o z))) y.row ∙ at_o.1 in
    let held1 : parent t1 w ≡ Some o = on_held w o t1 s1 out1 on1 in
    let m = shown_edited w o t1.nodes s1.shaped (s1.once o) y.now out1 on1 in
    let e : with_shown w t1 ≡ edited o (edits.Shown w) t1 = ap (λ z. shown_by z w t1) held1 in
    let Shown : TreeValue → Type 0 = λ z. IsShown w o z.nodes in
    shown_followed w o (shown_on o t) (with_shown w t1) (subst Shown (sym e) m)
