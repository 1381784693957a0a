-- Showing, sending, moving and renaming workspaces keep what lasts.
use Rattle.std.proofs.Common.{◌≡◌, ◌≢◌, ℕ, Bool, true, false, cond, not, List, Option, None, Some, refl, ap, subst, arith}
use Rattle.std.specs.Prelude.{is_some}
use Rattle.wm_base.specs.declared.ids.ConId.{ConId}
use Rattle.wm_floats.specs.Floating.{IsGoal}
use Rattle.law_lasting.proofs.FreeNames.{IsNewGoal, new_name_free}
use Rattle.law_lasting.proofs.LastFloats.{last_moved}
use Rattle.law_lasting.proofs.PlaceLemmas.{sent_floats}
use Rattle.law_lasting.specs.Changes.{stows}
use Rattle.law_lasting.specs.Lasting.{Lasts}
use Rattle.wm_opens.proofs.MeasureLemmas.{cons_kept, kinds_at, kinds_measured}
use Rattle.wm_opens.proofs.SureLemmas.{IsNoCon, not_full, space_no_con}
use Rattle.wm_opens.proofs.SureSpaces.{none_of_two}
use Rattle.wm_opens.proofs.WordLemmas.{count-edited}
use Rattle.wm_opens.specs.Opens.{is_fill}
use Rattle.wm_shared.proofs.ShowLemmas.{sound_showing, space_is, workspace_is}
use Rattle.wm_shared.specs.declared.keys.Key.{Key}
use Rattle.wm_shared.specs.Outputs.{output_of}
use Rattle.wm_shared.specs.Refusing.{full_error}
use Rattle.wm_shared.specs.Showing.{current_some, entered, focusing, followed, output_focused, remembering, showing, showing_some, shown_on, shown_there, space_name, with_current}
use Rattle.wm_shared.specs.Subject.{is_space}
use Rattle.wm_spaces.proofs.KeptLemmas.{con_kept}
use Rattle.wm_spaces.proofs.MoveLemmas.{free_here, freed_by, freed_new_by, held_on, moved_is}
use Rattle.wm_spaces.proofs.SendLemmas.{ready}
use Rattle.wm_shared.proofs.KidLemmas.{con_there}
use Rattle.wm_spaces.proofs.ShowLemmas.{new_is}
use Rattle.wm_spaces.proofs.StandLemmas.{home_output}
use Rattle.wm_spaces.specs.Coming.{free_name}
use Rattle.wm_spaces.specs.declared.targets.Goal.{Goal}
use Rattle.wm_spaces.specs.declared.targets.Goal.TheVariants.{There, Absent, Refused}
use Rattle.wm_spaces.specs.Names.{space_named}
use Rattle.wm_spaces.specs.Moving.{IsFree, aside_refusal, going_refusal, other_refusal, other_space, set_aside, showing_other, space_goes}
use Rattle.wm_spaces.specs.Renaming.{rename_refusal, rename_tree, renamed, renamed_space}
use Rattle.wm_spaces.specs.Sending.{goal_sent, goal_sent_refusal, sent, sent_place, sent_refusal, sent_some, sent_some_refusal, shifted}
use Rattle.wm_shared.specs.Rects.{output_part_of, rect_of}
use Rattle.wm_spaces.specs.Shows.{goal_refusal, goal_shown, then_shown}
use Rattle.wm_spaces.specs.Targets.{IsGoal as IsTarget, home}
use Rattle.wm_forest.proofs.RecencyLemmas.{same_is, same_self}
use Rattle.wm_tree.proofs.SpaceLemmas.{has_output, sound-space_moved, sound-with_space}
use Rattle.wm_tree.specs.Along.{gone_along}
use Rattle.wm_forest.specs.Change.{is_id}
use Rattle.wm_forest.specs.Counts.{one_con}
use Rattle.wm_forest.specs.declared.kind.KindEdit.{KindEdit}
use Rattle.wm_forest.specs.declared.kind.KindEdit.TheVariants as edits
use Rattle.wm_forest.specs.declared.part.NodeKind.{NodeKind}
use Rattle.wm_forest.specs.declared.part.NodeKind.TheVariants.{Root, Output, Space, Con}
use Rattle.wm_forest.specs.declared.place.Place.TheVariants.{After, Last, Float}
use Rattle.wm_forest.specs.Forest.{Forest, end, con}
use Rattle.wm_forest.specs.Look.{con_kind, first_part, in_row, kind_by, kind_of, only, same, space_kind}
use Rattle.wm_tree.specs.Move.{apart, moved, passed_by_move}
use Rattle.wm_tree.specs.Outputs.{IsOutput, passed_by_space, space_moved, with_space}
use Rattle.wm_tree.specs.Sets.{shown_by, with_shown}
use Rattle.wm_forest.specs.SoundRow.{IsNode, IsSoundRow, roots}
use Rattle.wm_tree.specs.Sound.{IsSound}
use Rattle.wm_tree.specs.TreeValue.{TreeValue, is_tiled_con, leaf, or_id, parent, shown, workspace_of}
use Rattle.wm_forest.specs.RootId.{id, root}
use Rattle.wm_tree.specs.Words.{edited, with_raised}

-- ---- the root

root_no_space : (t : TreeValue) → IsSound t → kind_of space_kind root t.nodes ≡ None
root_no_space t s = by t.nodes s.shaped s.rooted
  where
    by : (f : Forest) → IsSoundRow roots false 0 f → in_row root f ≡ true → kind_by space_kind (first_part (only root f)) ≡ None
    by end p h = cc
    by (con part kids floats rest) p h = here part.kind refl p.0
      where
        here : (kind : NodeKind) → part.kind ≡ kind → IsNode roots false 0 part.id kind part.marks kids → kind_by space_kind (first_part (only root (con part kids floats rest))) ≡ None
        here (Root c) e n = rw (same_self part.id root n.0, e) refl
        here (Output o) e n = absurd n
        here (Space w) e n = absurd n
        here (Con c) e n = absurd n

-- a workspace is not the root
pub space_not_root : (w : ConId) (t : TreeValue) → IsSound t → is_space t w ≡ true → same root w ≡ false
space_not_root w t s h = by (same root w) refl
  where
    by : (b : Bool) → same root w ≡ b → b ≡ false
    by false e = refl
    by true e =
        let one : root ≡ w = same_is root w e in
        let none : is_space t w ≡ false = subst (λ v. is_space t v ≡ false) one (ap is_some (root_no_space t s)) in
        cc

-- a change of a node makes no container
no_con_edited : (w c : ConId) (edit : KindEdit) (t : TreeValue) → is_fill edit ≡ false → IsNoCon w t.nodes → IsNoCon w (edited c edit t).nodes
no_con_edited w c edit t h none = omega (arith, none, count-edited (kinds_at one_con w) (kinds_measured one_con w cons_kept) c edit t h)

no_con_shown : (o : Option ConId) (v w : ConId) (t : TreeValue) → IsNoCon v t.nodes → IsNoCon v (shown_by o w t).nodes
no_con_shown None v w t none = none
no_con_shown (Some o) v w t none = no_con_edited v o (edits.Shown w) t refl none

-- no place to which containers are sent is in the scratchpad
sent_out : (c w : ConId) (t : TreeValue) → stows (sent_place c w t) ≡ false
sent_out c w t = step (is_tiled_con t c) (is_tiled_con t (or_id (leaf t w) w))
  where
    step : (a b : Bool) → stows (cond (not a) (Float w (shifted (output_part_of c t) (output_part_of w t) (rect_of c t))) (cond b (After (or_id (leaf t w) w)) (Last w))) ≡ false
    step false b = refl
    step true true = refl
    step true false = refl

module _ {P : TreeValue → Type 0} (k : Lasts P) where
  -- ---- showing

  -- a tree that keeps the name of the workspace that was focused
  pub last_remembering : (old new : TreeValue) → P new → P (remembering old new)
  last_remembering old new p = step (same (shown old) (shown new))
    where
      step : (b : Bool) → P (cond b new (record new { previous = space_name (shown old) old }))
      step true = p
      step false = k.alike new (record new { previous = space_name (shown old) old }) refl refl refl refl p

  last_shown : (o : Option ConId) (w : ConId) (t : TreeValue) → P t → P (shown_by o w t)
  last_shown None w t p = p
  last_shown (Some o) w t p = k.editing o (edits.Shown w) t refl tt p

  last_followed : (v : Option ConId) (w : ConId) (t : TreeValue) → same root w ≡ false → IsNoCon w t.nodes → P t → P (followed v w t)
  last_followed None w t low none p = p
  last_followed (Some v) w t low none p = step (same v w)
    where
      step : (b : Bool) → P (cond b t (gone_along v w t))
      step true = p
      step false = k.going_along v w t low none p

  last_shown_there : (w : ConId) (o : Option ConId) (t : TreeValue) → same root w ≡ false → IsNoCon w t.nodes → P t → P (shown_there w o t)
  last_shown_there w None t low none p = p
  last_shown_there w (Some o) t low none p =
      let now : TreeValue = with_current o t in
      let none_now : IsNoCon w now.nodes = no_con_edited w root (edits.Current o) t refl none in
      last_followed (shown_on o t) w (with_shown w now) low (no_con_shown (parent now w) w w now none_now) (last_shown (parent now w) w now (k.editing root (edits.Current o) t refl tt p))

  pub last_there : (w : ConId) (t : TreeValue) → is_space t w ≡ true → IsSound t → P t → P (shown_there w (parent t w) t)
  last_there w t h s p = last_shown_there w (parent t w) t (space_not_root w t s h) (space_no_con w t s (space_is w t h)) p

  pub last_showing : (w : ConId) (t : TreeValue) → is_space t w ≡ true → IsSound t → P t → P (showing w t)
  last_showing w t h s p = last_remembering t (shown_there w (parent t w) t) (last_there w t h s p)

  pub last_current : (o : ConId) (t : TreeValue) → P t → P (with_current o t)
  last_current o t p = k.editing root (edits.Current o) t refl tt p

  pub last_output : (o : ConId) (t : TreeValue) → P t → P (output_focused o t)
  last_output o t p = last_remembering t (with_current o t) (last_current o t p)

  pub last_entered : (c : ConId) (t : TreeValue) → P t → P (entered c t)
  last_entered c t p = by (output_of c t)
    where
      by : (x : Option ConId) → P (current_some x t)
      by None = p
      by (Some o) = last_current o t p

  pub last_focusing : (c : ConId) (t : TreeValue) → IsSound t → P t → P (focusing c t)
  last_focusing c t s p = by (workspace_of t c) refl
    where
      by : (o : Option ConId) → workspace_of t c ≡ o → P (with_raised c (showing_some o t))
      by None e = k.raising c t s p
      by (Some w) e = let ok = workspace_is c w t s e in k.raising c (showing w t) (sound_showing w t ok s) (last_showing w t ok s p)

  last_then_shown : (w : ConId) (t new : TreeValue) → IsSound new → is_space new w ≡ true → P new → P (then_shown w t new)
  last_then_shown w t new s ok p = last_remembering t (shown_there w (parent new w) new) (last_there w new ok s p)

  pub last_renamed : (was : Option (List ℕ)) (name : List ℕ) (t : TreeValue) → IsSound t → rename_refusal was name t ≡ None → P t → P (rename_tree was name t)
  last_renamed was name t s fits p = by (renamed_space was t) refl
    where
      by : (o : Option ConId) → renamed_space was t ≡ o → P (renamed o name t)
      by None e = p
      by (Some w) e = k.renaming was name w t s fits e p

  -- ---- new workspaces

  sound_made : (o : ConId) (n : List ℕ) (t : TreeValue) → IsSound t → IsOutput o t.nodes → full_error (passed_by_space t.nodes t.next_id) ≡ None → IsSound (with_space o n t)
  sound_made o n t s out fits = sound-with_space o n t (has_output o t.nodes out) out (not_full (passed_by_space t.nodes t.next_id) fits) s

  last_made : (o : ConId) (n : List ℕ) (t : TreeValue) → IsSound t → IsOutput o t.nodes → full_error (passed_by_space t.nodes t.next_id) ≡ None → space_named n t ≡ None → P t → P (with_space o n t)
  last_made o n t s out fits free p = k.space_coming o n t s out (sound_made o n t s out fits) free p

  pub last_goal_shown : (g : Goal) (homes : List (List ℕ × List ℕ)) (t : TreeValue) → IsSound t → IsTarget g t → IsNewGoal g t → goal_refusal g t ≡ None → P t → P (goal_shown g homes t)
  last_goal_shown (There w) homes t s ok free fits p = last_showing w t ok s p
  last_goal_shown (Absent n) homes t s ok free fits p =
      let o : ConId = home n homes t in
      let out : IsOutput (home n homes t) t.nodes = home_output n homes t s in
      let made : IsSound (with_space (home n homes t) n t) = sound_made o n t s out fits in
      last_then_shown (id t.next_id) t (with_space (home n homes t) n t) made (new_is o (id t.next_id) n t (with_space (home n homes t) n t) refl refl made s out) (last_made o n t s out fits free p)
  last_goal_shown (Refused text) homes t s ok free fits p = p

  -- ---- sending

  pub last_sent : (c w : ConId) (t : TreeValue) → IsSound t → kind_of con_kind c t.nodes ≢ None → is_space t w ≡ true → sent_refusal c w t ≡ None → P t → P (sent c w t)
  last_sent c w t s is_con ok fits p = by_test (apart t c w) refl fits
    where
      by_test : (b : Bool) → apart t c w ≡ b → cond b (full_error (passed_by_move c (sent_place c w t) t.nodes)) None ≡ None → P (cond b (moved c (sent_place c w t) t) t)
      by_test false e j = p
      by_test true e j =
          let r = ready c w t s is_con (space_is w t ok) e in
          let goal : IsGoal c (sent_place c w t) t = (con_there c t.nodes is_con, r.there, (λ h. is_con, r.fits, λ h z. r.outside)) in
          last_moved k c (sent_place c w t) t s goal (sent_out c w t) (sent_floats c w t) j p

  pub last_sent_some : (w : Option ConId) (c : ConId) (t : TreeValue) → IsSound t → kind_of con_kind c t.nodes ≢ None → ((v : ConId) → w ≡ Some v → is_space t v ≡ true) → sent_some_refusal w c t ≡ None → P t → P (sent_some w c t)
  last_sent_some None c t s is_con ok fits p = p
  last_sent_some (Some w) c t s is_con ok fits p = last_sent c w t s is_con (ok w refl) fits p

  pub last_goal_sent : (g : Goal) (c : ConId) (homes : List (List ℕ × List ℕ)) (t : TreeValue) → IsSound t → kind_of con_kind c t.nodes ≢ None → IsTarget g t → IsNewGoal g t → goal_sent_refusal g c homes t ≡ None → P t → P (goal_sent g c homes t)
  last_goal_sent (There w) c homes t s is_con ok free fits p = last_sent c w t s is_con ok fits p
  last_goal_sent (Absent n) c homes t s is_con ok free fits p =
      let o : ConId = home n homes t in
      let both = none_of_two (full_error (passed_by_space t.nodes t.next_id)) (sent_refusal c (id t.next_id) (with_space (home n homes t) n t)) fits in
      let out : IsOutput (home n homes t) t.nodes = home_output n homes t s in
      let made : IsSound (with_space (home n homes t) n t) = sound_made o n t s out both.0 in
      let still : kind_of con_kind c (with_space (home n homes t) n t).nodes ≢ None = con_kept c o n t (with_space (home n homes t) n t) refl s (con_there c t.nodes is_con) is_con in
      last_sent c (id t.next_id) (with_space (home n homes t) n t) made still (new_is o (id t.next_id) n t (with_space (home n homes t) n t) refl refl made s out) both.1 (last_made o n t s out both.0 free p)
  last_goal_sent (Refused text) c homes t s is_con ok free fits p = p

  -- ---- moving a workspace

  last_aside_other : (j : Option Key) (w q : ConId) (t : TreeValue) → other_space w q t ≡ j → IsSound t → is_space t w ≡ true → parent t w ≡ Some q → other_refusal j t ≡ None → P t
      → P (showing_other j q t) × IsFree w t (showing_other j q t)
  last_aside_other (Some j) w q t found s ok held fits p = (last_shown (parent t j.id) j.id t p, freed_by w q j t (with_shown j.id t) refl found s ok held)
  last_aside_other None w q t found s ok held fits p =
      let out = (held_on w q t s ok held).0 in
      let n : List ℕ = free_name t in
      let new : TreeValue = with_space q (free_name t) t in
      let made : IsSound (with_space q (free_name t) t) = sound_made q n t s out fits in (
        last_shown (parent new (id t.next_id)) (id t.next_id) new (last_made q n t s out fits (new_name_free t s) p),
        freed_new_by w q (id t.next_id) n t new (with_shown (id t.next_id) (with_space q (free_name t) t)) refl refl refl made s ok held,
      )

  last_aside : (w q : ConId) (t : TreeValue) → IsSound t → is_space t w ≡ true → parent t w ≡ Some q → aside_refusal w q t ≡ None → P t → P (set_aside w q t) × IsFree w t (set_aside w q t)
  last_aside w q t s ok held fits p = by_test (is_id w (shown_on q t)) refl fits
    where
      by_test : (b : Bool) → is_id w (shown_on q t) ≡ b → cond b (other_refusal (other_space w q t) t) None ≡ None
          → P (cond b (showing_other (other_space w q t) q t) t) × IsFree w t (cond b (showing_other (other_space w q t) q t) t)
      by_test true e j = last_aside_other (other_space w q t) w q t refl s ok held j p
      by_test false e j = (p, free_here w q t s ok held e)

  pub last_space_goes : (q : Option ConId) (w o : ConId) (t : TreeValue) → parent t w ≡ q → IsSound t → is_space t w ≡ true → IsOutput o t.nodes → going_refusal q w o t ≡ None → P t → P (space_goes q w o t)
  last_space_goes None w o t held s ok out fits p = p
  last_space_goes (Some q) w o t held s ok out fits p = by_test (same q o) fits
    where
      by_test : (b : Bool) → cond b None (aside_refusal w q t) ≡ None → P (cond b t (then_shown w t (space_moved w o (set_aside w q t))))
      by_test true j = p
      by_test false j =
          let a = last_aside w q t s ok held j p in
          let free : IsFree w t (set_aside w q t) = a.1 in
          let aside : TreeValue = set_aside w q t in
          let put : IsSound (space_moved w o (set_aside w q t)) = sound-space_moved w o aside free.sound (space_is w aside free.space) free.hidden (free.outs o out) in
          last_then_shown w t (space_moved w o aside) put (moved_is w o aside free.sound free.space (free.outs o out) free.hidden)
          (k.space_moving w o aside free.sound free.space (free.outs o out) put a.0)
