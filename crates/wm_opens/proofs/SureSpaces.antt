-- Showing, sending and moving workspaces keep a sound tree sound, what is known, and containers without floating windows.
use Rattle.std.proofs.Common.{◌≡◌, ◌≢◌, ℕ, Bool, true, false, cond, List, Option, None, Some, refl, arith}
use Rattle.std.specs.Option.{option_or}
use Rattle.wm_base.specs.declared.ids.ConId.{ConId}
use Rattle.wm_opens.proofs.KeptLemmas.{kept_refl}
use Rattle.wm_opens.proofs.MeasureLemmas.{cons_kept, kinds_at, kinds_measured}
use Rattle.wm_opens.proofs.ShowingLemmas.{kept_remembering, kept_there, kept_with_shown}
use Rattle.wm_opens.proofs.SureLemmas.{IsNoCon, Sure, not_full, space_no_con, sure_by, sure_edited, sure_moved, sure_raised, sure_refl, sure_space_moved, sure_trans, sure_with_space, tidy_along}
use Rattle.wm_opens.proofs.TidyLemmas.{tidy_edited}
use Rattle.wm_opens.proofs.WordLemmas.{count-edited}
use Rattle.wm_opens.specs.Opens.{IsTidy}
use Rattle.wm_shared.proofs.RiseLemmas.{remembered_same, there_same}
use Rattle.wm_shared.proofs.ShowLemmas.{entered_listed, sound_current, sound_remembering, sound_there, space_is, workspace_is}
use Rattle.wm_shared.specs.declared.keys.Key.{Key}
use Rattle.wm_shared.specs.Outputs.{output_of}
use Rattle.wm_shared.specs.Refusing.{full_error}
use Rattle.wm_shared.specs.Showing.{current_some, entered, focusing, followed, output_focused, remembering, showing, showing_some, shown_on, shown_there, space_name, with_current}
use Rattle.wm_shared.specs.Subject.{is_space}
use Rattle.wm_spaces.proofs.KeptLemmas.{con_kept}
use Rattle.wm_spaces.proofs.MoveLemmas.{free_here, freed_by, freed_new_by, held_on, moved_is}
use Rattle.wm_spaces.proofs.SendLemmas.{ready}
use Rattle.wm_shared.proofs.KidLemmas.{con_there}
use Rattle.wm_spaces.proofs.ShowLemmas.{new_is}
use Rattle.wm_spaces.proofs.StandLemmas.{home_output}
use Rattle.wm_spaces.specs.Coming.{free_name}
use Rattle.wm_spaces.specs.declared.targets.Goal.{Goal}
use Rattle.wm_spaces.specs.declared.targets.Goal.TheVariants.{There, Absent, Refused}
use Rattle.wm_spaces.specs.Moving.{IsFree, aside_refusal, going_refusal, other_refusal, other_space, set_aside, showing_other, space_goes}
use Rattle.wm_spaces.specs.Renaming.{renamed}
use Rattle.wm_spaces.specs.Sending.{goal_sent, goal_sent_refusal, sent, sent_new, sent_place, sent_refusal, sent_some, sent_some_refusal}
use Rattle.wm_spaces.specs.Shows.{goal_refusal, goal_shown, then_shown}
use Rattle.wm_spaces.specs.Targets.{IsGoal, home}
use Rattle.wm_forest.proofs.EditLemmas.{FitsEdit, FitsEditAt}
use Rattle.wm_tree.proofs.SoundLemmas.{sound-edited}
use Rattle.wm_tree.proofs.SpaceLemmas.{has_output, sound-space_moved, sound-with_space}
use Rattle.wm_tree.specs.Along.{gone_along}
use Rattle.wm_forest.specs.Change.{is_id}
use Rattle.wm_forest.specs.Counts.{one_con}
use Rattle.wm_forest.specs.declared.kind.KindEdit.{KindEdit}
use Rattle.wm_forest.specs.declared.kind.KindEdit.TheVariants as edits
use Rattle.wm_forest.specs.declared.spot.Spot.{Spot}
use Rattle.wm_forest.specs.Forest.{Forest}
use Rattle.wm_forest.specs.Look.{con_kind, first_kids, in_row, kind_of, only, same}
use Rattle.wm_tree.specs.Move.{apart, moved, passed_by_move}
use Rattle.wm_tree.specs.Outputs.{IsOutput, passed_by_space, space_moved, with_space}
use Rattle.wm_tree.specs.Sets.{shown_by, with_shown}
use Rattle.wm_tree.specs.Sound.{IsSound}
use Rattle.wm_forest.specs.Spot.{spot_in, top}
use Rattle.wm_tree.specs.TreeValue.{TreeValue, parent, shown, workspace_of}
use Rattle.wm_forest.specs.RootId.{id, root}
use Rattle.wm_tree.specs.Words.{with_raised}

-- ---- showing

-- a tree that keeps the name of the workspace that was focused
pub sure_remembering : (old t new : TreeValue) → Sure t new → Sure t (remembering old new)
sure_remembering old t new h =
    sure_trans t new (remembering old new) h
    (sure_by new (remembering old new) (sound_remembering old new h.sound) (kept_remembering old new new (kept_refl new)) (remembered_same (shown old) (space_name (shown old) old) new).recency (λ p. step (same (shown old) (shown new)) p))
  where
    step : (b : Bool) → IsTidy new.nodes → IsTidy (cond b new (record new { previous = space_name (shown old) old })).nodes
    step true p = p
    step false p = p

no_con_shown : (o : Option ConId) (v w : ConId) (t : TreeValue) → IsNoCon v t.nodes → IsNoCon v (shown_by o w t).nodes
no_con_shown None v w t none = none
no_con_shown (Some o) v w t none = omega (arith, none, count-edited (kinds_at one_con v) (kinds_measured one_con v cons_kept) o (edits.Shown w) t refl)

tidy_shown : (o : Option ConId) (w : ConId) (t : TreeValue) → IsTidy t.nodes → IsTidy (shown_by o w t).nodes
tidy_shown None w t h = h
tidy_shown (Some o) w t h = tidy_edited o (edits.Shown w) t.nodes h

tidy_followed : (v : Option ConId) (w : ConId) (t : TreeValue) → IsNoCon w t.nodes → IsTidy t.nodes → IsTidy (followed v w t).nodes
tidy_followed None w t none h = h
tidy_followed (Some v) w t none h = step (same v w)
  where
    step : (b : Bool) → IsTidy (cond b t (gone_along v w t)).nodes
    step true = h
    step false = tidy_along v w t none h

tidy_there : (w : ConId) (o : Option ConId) (t : TreeValue) → IsNoCon w t.nodes → IsTidy t.nodes → IsTidy (shown_there w o t).nodes
tidy_there w None t none h = h
tidy_there w (Some o) t none h =
    let now : TreeValue = with_current o t in
    let none_now : IsNoCon w now.nodes = omega (arith, none, count-edited (kinds_at one_con w) (kinds_measured one_con w cons_kept) root (edits.Current o) t refl) in
    tidy_followed (shown_on o t) w (with_shown w now) (no_con_shown (parent now w) w w now none_now) (tidy_shown (parent now w) w now (tidy_edited root (edits.Current o) t.nodes h))

pub sure_there : (w : ConId) (t : TreeValue) → is_space t w ≡ true → IsSound t → Sure t (shown_there w (parent t w) t)
sure_there w t h s =
    sure_by t (shown_there w (parent t w) t) (sound_there w t h s) (kept_there w (parent t w) t) (there_same w (parent t w) t).recency (tidy_there w (parent t w) t (space_no_con w t s (space_is w t h)))

pub sure_showing : (w : ConId) (t : TreeValue) → is_space t w ≡ true → IsSound t → Sure t (showing w t)
sure_showing w t h s = sure_remembering t t (shown_there w (parent t w) t) (sure_there w t h s)

pub sure_current : (o : ConId) (t : TreeValue) → in_row o (first_kids t.nodes) ≡ true → IsSound t → Sure t (with_current o t)
sure_current o t h s = sure_edited root (edits.Current o) t refl (sound_current o t h s)

pub sure_output : (o : ConId) (t : TreeValue) → in_row o (first_kids t.nodes) ≡ true → IsSound t → Sure t (output_focused o t)
sure_output o t h s = sure_remembering t t (with_current o t) (sure_current o t h s)

pub sure_entered : (c : ConId) (t : TreeValue) → IsSound t → Sure t (entered c t)
sure_entered c t s = by (output_of c t) refl
  where
    by : (x : Option ConId) → output_of c t ≡ x → Sure t (current_some x t)
    by None e = sure_refl t s
    by (Some o) e = sure_current o t (entered_listed c o t s e) s

pub sure_focusing : (c : ConId) (t : TreeValue) → IsSound t → Sure t (focusing c t)
sure_focusing c t s = by (workspace_of t c) refl
  where
    by : (o : Option ConId) → workspace_of t c ≡ o → Sure t (with_raised c (showing_some o t))
    by None e = sure_raised c t s
    by (Some w) e =
        let seen : Sure t (showing w t) = sure_showing w t (workspace_is c w t s e) s in
        sure_trans t (showing w t) (with_raised c (showing w t)) seen (sure_raised c (showing w t) seen.sound)

pub sure_then_shown : (w : ConId) (t new : TreeValue) → Sure t new → is_space new w ≡ true → Sure t (then_shown w t new)
sure_then_shown w t new h ok = sure_remembering t t (shown_there w (parent new w) new) (sure_trans t new (shown_there w (parent new w) new) h (sure_there w new ok h.sound))

-- ---- changes that fit every node

pub fits_all : (edit : KindEdit) → ((b : Bool) (kids : Forest) → FitsEdit edit b kids) → (spot : Option Spot) (kids : Forest) → FitsEditAt edit spot kids
fits_all edit fits None kids = tt
fits_all edit fits (Some s) kids = fits s.tiled kids

pub sure_renamed : (w : Option ConId) (name : List ℕ) (t : TreeValue) → IsSound t → Sure t (renamed w name t)
sure_renamed None name t s = sure_refl t s
sure_renamed (Some w) name t s = sure_edited w (edits.Name name) t refl (sound-edited w (edits.Name name) t (fits_all (edits.Name name) (λ b kids. tt) (spot_in top w t.nodes) (first_kids (only w t.nodes))) s)

-- ---- new workspaces

sure_made : (o : ConId) (n : List ℕ) (t : TreeValue) → IsSound t → IsOutput o t.nodes → full_error (passed_by_space t.nodes t.next_id) ≡ None → Sure t (with_space o n t)
sure_made o n t s out fits = sure_with_space o n t (sound-with_space o n t (has_output o t.nodes out) out (not_full (passed_by_space t.nodes t.next_id) fits) s)

pub sure_goal_shown : (g : Goal) (homes : List (List ℕ × List ℕ)) (t : TreeValue) → IsSound t → IsGoal g t → goal_refusal g t ≡ None → Sure t (goal_shown g homes t)
sure_goal_shown (There w) homes t s ok fits = sure_showing w t ok s
sure_goal_shown (Absent n) homes t s ok fits =
    let o : ConId = home n homes t in
    let out : IsOutput (home n homes t) t.nodes = home_output n homes t s in
    let made : Sure t (with_space (home n homes t) n t) = sure_made o n t s out fits in
    sure_then_shown (id t.next_id) t (with_space (home n homes t) n t) made (new_is o (id t.next_id) n t (with_space (home n homes t) n t) refl refl made.sound s out)
sure_goal_shown (Refused text) homes t s ok fits = sure_refl t s

-- ---- sending

pub sure_sent : (c w : ConId) (t : TreeValue) → IsSound t → kind_of con_kind c t.nodes ≢ None → is_space t w ≡ true → sent_refusal c w t ≡ None → Sure t (sent c w t)
sure_sent c w t s is_con ok fits = by_test (apart t c w) refl fits
  where
    by_test : (b : Bool) → apart t c w ≡ b → cond b (full_error (passed_by_move c (sent_place c w t) t.nodes)) None ≡ None → Sure t (cond b (moved c (sent_place c w t) t) t)
    by_test false e k = sure_refl t s
    by_test true e k =
        let r = ready c w t s is_con (space_is w t ok) e in
        sure_moved c (sent_place c w t) t s (record { is_con = is_con; here = con_there c t.nodes is_con; there = r.there; outside = r.outside; fits = r.fits }) k

pub sure_sent_some : (w : Option ConId) (c : ConId) (t : TreeValue) → IsSound t → kind_of con_kind c t.nodes ≢ None → ((v : ConId) → w ≡ Some v → is_space t v ≡ true) → sent_some_refusal w c t ≡ None → Sure t (sent_some w c t)
sure_sent_some None c t s is_con ok fits = sure_refl t s
sure_sent_some (Some w) c t s is_con ok fits = sure_sent c w t s is_con (ok w refl) fits

pub none_of_two : {A : Type 0} (a b : Option A) → option_or a b ≡ None → (a ≡ None) × (b ≡ None)
none_of_two None b h = (refl, h)
none_of_two (Some x) b h = cc

pub sure_goal_sent : (g : Goal) (c : ConId) (homes : List (List ℕ × List ℕ)) (t : TreeValue) → IsSound t → kind_of con_kind c t.nodes ≢ None → IsGoal g t → goal_sent_refusal g c homes t ≡ None → Sure t (goal_sent g c homes t)
sure_goal_sent (There w) c homes t s is_con ok fits = sure_sent c w t s is_con ok fits
sure_goal_sent (Absent n) c homes t s is_con ok fits =
    let o : ConId = home n homes t in
    let both = none_of_two (full_error (passed_by_space t.nodes t.next_id)) (sent_refusal c (id t.next_id) (with_space (home n homes t) n t)) fits in
    let out : IsOutput (home n homes t) t.nodes = home_output n homes t s in
    let made : Sure t (with_space (home n homes t) n t) = sure_made o n t s out both.0 in
    let new : TreeValue = with_space (home n homes t) n t in
    let still : kind_of con_kind c (with_space (home n homes t) n t).nodes ≢ None = con_kept c o n t (with_space (home n homes t) n t) refl s (con_there c t.nodes is_con) is_con in
    sure_trans t new (sent_new c (home n homes t) n t) made
    (sure_sent c (id t.next_id) new made.sound still (new_is o (id t.next_id) n t (with_space (home n homes t) n t) refl refl made.sound s out) both.1)
sure_goal_sent (Refused text) c homes t s is_con ok fits = sure_refl t s

-- ---- moving a workspace

-- a workspace that its output has put aside
record Aside (w : ConId) (t new : TreeValue) : Type 0 where
  sure : Sure t new
  free : IsFree w t new

shown_recency : (o : Option ConId) (w : ConId) (t : TreeValue) → (shown_by o w t).recency ≡ t.recency
shown_recency None w t = refl
shown_recency (Some o) w t = refl

sure_shown : (v w : ConId) (t : TreeValue) → IsFree w t (with_shown v t) → Sure t (with_shown v t)
sure_shown v w t f = sure_by t (with_shown v t) f.sound (kept_with_shown v t) (shown_recency (parent t v) v t) (tidy_shown (parent t v) v t)

other_aside : (k : Option Key) (w p : ConId) (t : TreeValue) → other_space w p t ≡ k → IsSound t → is_space t w ≡ true → parent t w ≡ Some p → other_refusal k t ≡ None → Aside w t (showing_other k p t)
other_aside (Some k) w p t found s ok held fits =
    let free : IsFree w t (with_shown k.id t) = freed_by w p k t (with_shown k.id t) refl found s ok held in
    record { sure = sure_shown k.id w t free; free = free }
other_aside None w p t found s ok held fits =
    let out = (held_on w p t s ok held).0 in
    let n : List ℕ = free_name t in
    let made : Sure t (with_space p (free_name t) t) = sure_made p n t s out fits in
    let new : TreeValue = with_space p (free_name t) t in
    let free : IsFree w t (with_shown (id t.next_id) (with_space p (free_name t) t)) =
    freed_new_by w p (id t.next_id) n t new (with_shown (id t.next_id) (with_space p (free_name t) t)) refl refl refl made.sound s ok held in
    let seen : Sure (with_space p (free_name t) t) (with_shown (id t.next_id) (with_space p (free_name t) t)) =
    sure_by new (with_shown (id t.next_id) new) free.sound (kept_with_shown (id t.next_id) new) (shown_recency (parent new (id t.next_id)) (id t.next_id) new) (tidy_shown (parent new (id t.next_id)) (id t.next_id) new) in
    record { sure = sure_trans t new (with_shown (id t.next_id) new) made seen; free = free }

aside_of : (w p : ConId) (t : TreeValue) → IsSound t → is_space t w ≡ true → parent t w ≡ Some p → aside_refusal w p t ≡ None → Aside w t (set_aside w p t)
aside_of w p t s ok held fits = by_test (is_id w (shown_on p t)) refl fits
  where
    by_test : (b : Bool) → is_id w (shown_on p t) ≡ b → cond b (other_refusal (other_space w p t) t) None ≡ None → Aside w t (cond b (showing_other (other_space w p t) p t) t)
    by_test true e k = other_aside (other_space w p t) w p t refl s ok held k
    by_test false e k = record { sure = sure_refl t s; free = free_here w p t s ok held e }

pub sure_space_goes : (p : Option ConId) (w o : ConId) (t : TreeValue) → parent t w ≡ p → IsSound t → is_space t w ≡ true → IsOutput o t.nodes → going_refusal p w o t ≡ None → Sure t (space_goes p w o t)
sure_space_goes None w o t held s ok out fits = sure_refl t s
sure_space_goes (Some p) w o t held s ok out fits = by_test (same p o) fits
  where
    by_test : (b : Bool) → cond b None (aside_refusal w p t) ≡ None → Sure t (cond b t (then_shown w t (space_moved w o (set_aside w p t))))
    by_test true k = sure_refl t s
    by_test false k =
        let a : Aside w t (set_aside w p t) = aside_of w p t s ok held k in
        let aside : TreeValue = set_aside w p t in
        let put : IsSound (space_moved w o (set_aside w p t)) = sound-space_moved w o aside a.free.sound (space_is w aside a.free.space) a.free.hidden (a.free.outs o out) in
        sure_then_shown w t (space_moved w o aside) (sure_trans t aside (space_moved w o aside) a.sure (sure_space_moved w o aside put))
        (moved_is w o aside a.free.sound a.free.space (a.free.outs o out) a.free.hidden)
