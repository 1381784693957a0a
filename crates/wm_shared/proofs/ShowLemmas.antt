-- Showing a workspace keeps what holds of every tree.
use Rattle.std.proofs.Common.{◌≡◌, ◌≢◌, Bool, true, false, cond, Option, None, Some, refl, ap, sym, ◌∙◌}
use Rattle.std.specs.Prelude.{is_some, option_and_then}
use Rattle.wm_base.specs.declared.ids.ConId.{ConId}
use Rattle.wm_shared.proofs.SpaceLemmas.{IsSpaceIn, placed, space_of_node}
use Rattle.wm_shared.specs.Outputs.{output_of}
use Rattle.wm_shared.specs.Showing.{current_some, entered, followed, focusing, output_focused, remembering, showing, showing_some, shown_there, space_name, with_current}
use Rattle.wm_shared.specs.Subject.{is_space}
use Rattle.wm_tree.proofs.AlongLemmas.{sound-along}
use Rattle.wm_forest.proofs.EditLemmas.{fits_current}
use Rattle.wm_tree.proofs.FocusLemmas.{root_kids}
use Rattle.wm_tree.proofs.RaiseLemmas.{sound-raised}
use Rattle.wm_tree.proofs.SoundLemmas.{sound-edited, sound-shown}
use Rattle.wm_tree.specs.Along.{gone_along}
use Rattle.wm_forest.specs.Change.{at}
use Rattle.wm_forest.specs.declared.kind.KindEdit.{KindEdit}
use Rattle.wm_forest.specs.declared.kind.KindEdit.TheVariants as edits
use Rattle.wm_forest.specs.declared.part.NodeKind.{NodeKind}
use Rattle.wm_forest.specs.declared.part.NodeKind.TheVariants.{Root, Output, Space, Con}
use Rattle.wm_forest.specs.declared.part.Part.{Part}
use Rattle.wm_forest.specs.declared.part.SpacePart.{SpacePart}
use Rattle.wm_forest.specs.Forest.{Forest, end, con}
use Rattle.wm_forest.specs.Kinds.{changed, kind_changed}
use Rattle.wm_forest.specs.Look.{first_kids, first_part, has, in_row, kind_by, only, same, space_kind}
use Rattle.wm_tree.specs.Sets.{IsShowable, shown_by, with_shown}
use Rattle.wm_tree.specs.Sound.{IsSound}
use Rattle.wm_forest.specs.Spot.{spot_in, top}
use Rattle.wm_tree.specs.TreeValue.{TreeValue, parent, shown, workspace_of}
use Rattle.wm_forest.specs.RootId.{root}

-- ---- edits that leave workspaces as they are

module _ (c w : ConId) (e : KindEdit) where
  has_edited : (f : Forest) → has w (at c kind_changed e f) ≡ has w f
  has_edited end = refl
  has_edited (con part kids floats rest) = step (same part.id c) (has c kids) (has c floats) (has_edited kids) (has_edited floats) (has_edited rest) where
    step : (a k l : Bool) → has w (at c kind_changed e kids) ≡ has w kids → has w (at c kind_changed e floats) ≡ has w floats → has w (at c kind_changed e rest) ≡ has w rest
        → has w (cond a (kind_changed e part kids floats rest) (cond k (con part (at c kind_changed e kids) floats rest) (cond l (con part kids (at c kind_changed e floats) rest) (con part kids floats (at c kind_changed e rest))))) ≡ has w (con part kids floats rest)
    step true k l u v x = refl
    step false true l u v x = rw u refl
    step false false true u v x = rw v refl
    step false false false u v x = rw x refl

  -- what a node is as a workspace
  abbrev space_of : Forest → Option SpacePart
  space_of f = kind_by space_kind (first_part f)

  space_edited : ((k : NodeKind) → space_kind (changed e k) ≡ space_kind k) → (f : Forest) → space_of (only w (at c kind_changed e f)) ≡ space_of (only w f)
  space_edited keeps end = refl
  space_edited keeps (con part kids floats rest) =
      step (same part.id c) (has c kids) (has c floats) (has_edited kids) (has_edited floats) (space_edited keeps kids) (space_edited keeps floats) (space_edited keeps rest)
    where
      found : (a k l : Bool) → (p q : Part) (ks ls rs ks' ls' rs' : Forest) → space_kind p.kind ≡ space_kind q.kind → space_of (only w ks) ≡ space_of (only w ks') → space_of (only w ls) ≡ space_of (only w ls') → space_of (only w rs) ≡ space_of (only w rs')
          → space_of (cond a (con p ks ls end) (cond k (only w ks) (cond l (only w ls) (only w rs)))) ≡ space_of (cond a (con q ks' ls' end) (cond k (only w ks') (cond l (only w ls') (only w rs'))))
      found true k l p q ks ls rs ks' ls' rs' h u v x = h
      found false true l p q ks ls rs ks' ls' rs' h u v x = u
      found false false true p q ks ls rs ks' ls' rs' h u v x = v
      found false false false p q ks ls rs ks' ls' rs' h u v x = x

      step : (a k l : Bool) → has w (at c kind_changed e kids) ≡ has w kids → has w (at c kind_changed e floats) ≡ has w floats
          → space_of (only w (at c kind_changed e kids)) ≡ space_of (only w kids) → space_of (only w (at c kind_changed e floats)) ≡ space_of (only w floats) → space_of (only w (at c kind_changed e rest)) ≡ space_of (only w rest)
          → space_of (only w (cond a (kind_changed e part kids floats rest) (cond k (con part (at c kind_changed e kids) floats rest) (cond l (con part kids (at c kind_changed e floats) rest) (con part kids floats (at c kind_changed e rest))))))
          ≡ space_of (only w (con part kids floats rest))
      step true k l hk hl u v x = found (same part.id w) (has w kids) (has w floats) (record part { kind = changed e part.kind }) part kids floats rest kids floats rest (keeps part.kind) refl refl refl
      step false true l hk hl u v x = rw hk (found (same part.id w) (has w kids) (has w floats) part part (at c kind_changed e kids) floats rest kids floats rest refl u refl refl)
      step false false true hk hl u v x = rw hl (found (same part.id w) (has w kids) (has w floats) part part kids (at c kind_changed e floats) rest kids floats rest refl refl v refl)
      step false false false hk hl u v x = found (same part.id w) (has w kids) (has w floats) part part kids floats (at c kind_changed e rest) kids floats rest refl refl refl x

current_keeps : (o : ConId) (k : NodeKind) → space_kind (changed (edits.Current o) k) ≡ space_kind k
current_keeps o (Root c) = refl
current_keeps o (Output p) = refl
current_keeps o (Space s) = refl
current_keeps o (Con c) = refl

shown_keeps : (w : ConId) (k : NodeKind) → space_kind (changed (edits.Shown w) k) ≡ space_kind k
shown_keeps w (Root c) = refl
shown_keeps w (Output p) = refl
shown_keeps w (Space s) = refl
shown_keeps w (Con c) = refl

-- ---- the steps of showing

pub sound_current : (o : ConId) (t : TreeValue) → in_row o (first_kids t.nodes) ≡ true → IsSound t → IsSound (with_current o t)
sound_current o t h s = sound-edited root (edits.Current o) t (fits_current o (spot_in top root t.nodes) (first_kids (only root t.nodes)) (ap (in_row o) (root_kids t.nodes s.shaped s.rooted) ∙ h)) s

pub sound_remembering : (old new : TreeValue) → IsSound new → IsSound (remembering old new)
sound_remembering old new s = step (same (shown old) (shown new)) where
  step : (b : Bool) → IsSound (cond b new (record new { previous = space_name (shown old) old }))
  step true = s
  step false = record {
    shaped = s.shaped;
    rooted = s.rooted;
    once = s.once;
    fresh = s.fresh;
    low = s.low;
    above = s.above;
    known = s.known;
    few = s.few;
    few_spaces = s.few_spaces;
    few_marks = s.few_marks;
    ids = s.ids;
  }

pub space_is : (w : ConId) (t : TreeValue) → is_space t w ≡ true → IsSpaceIn w t.nodes
space_is w t h = by (kind_by space_kind (first_part (only w t.nodes))) h where
  by : (o : Option SpacePart) → is_some o ≡ true → o ≢ None
  by None h = cc
  by (Some x) h = λ e. cc

shown_space_kept : (v w : ConId) (t : TreeValue) → IsSpaceIn v t.nodes → IsSpaceIn v (with_shown w t).nodes
shown_space_kept v w t ok = by (parent t w) where
  by : (o : Option ConId) → IsSpaceIn v (shown_by o w t).nodes
  by None = ok
  by (Some o) = λ e. ok (sym (space_edited o v (edits.Shown w) (shown_keeps w) t.nodes) ∙ e)

current_space_kept : (v o : ConId) (t : TreeValue) → IsSpaceIn v t.nodes → IsSpaceIn v (with_current o t).nodes
current_space_kept v o t ok = λ e. ok (sym (space_edited root v (edits.Current o) (current_keeps o) t.nodes) ∙ e)

sound_followed : (v w : ConId) (t : TreeValue) → IsSpaceIn v t.nodes → IsSpaceIn w t.nodes → IsSound t → IsSound (followed (Some v) w t)
sound_followed v w t ok_v ok_w s = step (same v w) refl where
  step : (b : Bool) → same v w ≡ b → IsSound (cond b t (gone_along v w t))
  step true e = s
  step false e = sound-along v w t (ok_v, ok_w, e) s

showable : (w : ConId) (t : TreeValue) → IsSound t → IsSpaceIn w t.nodes → IsShowable (parent t w) w t.nodes
showable w t s ok = let p = placed w t s ok in rw p.held_by p.inside

pub sound_there : (w : ConId) (t : TreeValue) → is_space t w ≡ true → IsSound t → IsSound (shown_there w (parent t w) t)
sound_there w t h s =
    let ok = space_is w t h in
    let p = placed w t s ok in
    let t1 : TreeValue = with_current p.output t in
    let s1 = sound_current p.output t p.listed s in
    let ok1 = current_space_kept w p.output t ok in
    let s2 = sound-shown w t1 (showable w t1 s1 ok1) s1 in
    let v2 = shown_space_kept p.now w t1 (current_space_kept p.now p.output t p.now_space) in
    let s3 = sound_followed p.now w (with_shown w t1) v2 (shown_space_kept w w t1 ok1) s2 in
    rw (p.held_by, p.shows) s3

-- the new tree of a call
pub there_by : (w : ConId) (t new : TreeValue) → new ≡ shown_there w (parent t w) t → is_space t w ≡ true → IsSound t → IsSound new
there_by w t new e h s = rw e (sound_there w t h s)

pub sound_showing : (w : ConId) (t : TreeValue) → is_space t w ≡ true → IsSound t → IsSound (showing w t)
sound_showing w t h s = sound_remembering t (shown_there w (parent t w) t) (sound_there w t h s)

pub showing_by : (w : ConId) (t new : TreeValue) → new ≡ showing w t → is_space t w ≡ true → IsSound t → IsSound new
showing_by w t new e h s = rw e (sound_showing w t h s)

pub sound_output : (o : ConId) (t : TreeValue) → in_row o (first_kids t.nodes) ≡ true → IsSound t → IsSound (output_focused o t)
sound_output o t h s = sound_remembering t (with_current o t) (sound_current o t h s)

pub output_by : (o : ConId) (t new : TreeValue) → new ≡ output_focused o t → in_row o (first_kids t.nodes) ≡ true → IsSound t → IsSound new
output_by o t new e h s = rw e (sound_output o t h s)

-- the workspace of a node may be shown
pub workspace_is : (c w : ConId) (t : TreeValue) → IsSound t → workspace_of t c ≡ Some w → is_space t w ≡ true
workspace_is c w t s h = by (kind_by space_kind (first_part (only w t.nodes))) (space_of_node c w t s h) where
  by : (o : Option SpacePart) → o ≢ None → is_some o ≡ true
  by None ok = absurd (ok refl)
  by (Some x) ok = refl

pub sound_focusing : (c : ConId) (t : TreeValue) → IsSound t → IsSound (focusing c t)
sound_focusing c t s = sound-raised c (showing_some (workspace_of t c) t) (by (workspace_of t c) refl) where
  by : (o : Option ConId) → workspace_of t c ≡ o → IsSound (showing_some o t)
  by None e = s
  by (Some w) e = sound_showing w t (workspace_is c w t s e) s

-- ---- the output of a node

-- the output on which a node stands is one of the root's
pub entered_listed : (c o : ConId) (t : TreeValue) → IsSound t → output_of c t ≡ Some o → in_row o (first_kids t.nodes) ≡ true
entered_listed c o t s h = by (workspace_of t c) refl h where
  by : (x : Option ConId) → workspace_of t c ≡ x → option_and_then (parent t) x ≡ Some o → in_row o (first_kids t.nodes) ≡ true
  by None e h = cc
  by (Some w) e h =
      let p = placed w t s (space_of_node c w t s e) in
      let one : p.output ≡ o = let z : Some p.output ≡ Some o = sym p.held_by ∙ h in cc in
      rw (← one) p.listed

pub sound_entered : (c : ConId) (t : TreeValue) → IsSound t → IsSound (entered c t)
sound_entered c t s = by (output_of c t) refl where
  by : (x : Option ConId) → output_of c t ≡ x → IsSound (current_some x t)
  by None e = s
  by (Some o) e = sound_current o t (entered_listed c o t s e) s
