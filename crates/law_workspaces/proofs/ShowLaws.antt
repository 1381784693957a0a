-- A workspace that is shown is the focused one, on the current output, and what was focused is remembered.
use Rattle.std.proofs.Common.{◌≡◌, Bool, true, false, cond, Option, None, Some, refl, ap, sym, ◌∙◌, subst}
use Rattle.wm_base.specs.declared.ids.ConId.{ConId}
use Rattle.law_commands.proofs.ShownLemmas.{IsShown, is_shown}
use Rattle.law_workspaces.specs.Shown.{IsOnShow, IsRemembered, ShowsIt}
use Rattle.wm_shared.proofs.ShowLemmas.{sound_showing}
use Rattle.wm_shared.specs.Showing.{followed, remembering, showing, shown_on, shown_there, space_name, with_current}
use Rattle.wm_shared.specs.Subject.{is_space}
use Rattle.wm_spaces.proofs.AsideLemmas.{found_only}
use Rattle.wm_spaces.proofs.MoveLemmas.{on_held}
use Rattle.wm_spaces.proofs.StandLemmas.{goal_by}
use Rattle.wm_spaces.specs.Shows.{goal_shown}
use Rattle.wm_spaces.specs.Targets.{IsGoal, goal_of}
use Rattle.wm_forest.proofs.RecencyLemmas.{same_is, same_self}
use Rattle.wm_tree.specs.Along.{gone_along}
use Rattle.wm_forest.specs.Change.{shown_of}
use Rattle.wm_forest.specs.Look.{first_kids, first_part, kind_by, node_in, same}
use Rattle.wm_tree.specs.Sets.{shown_by, with_shown}
use Rattle.wm_tree.specs.Sound.{IsSound}
use Rattle.wm_tree.specs.TreeValue.{TreeValue, or_id, parent, shown}

-- ---- the previous name

pub previous_by : (p : Option ConId) (w : ConId) (t : TreeValue) → (shown_by p w t).previous ≡ t.previous
previous_by None w t = refl
previous_by (Some o) w t = refl

previous_followed : (v : Option ConId) (w : ConId) (t : TreeValue) → (followed v w t).previous ≡ t.previous
previous_followed None w t = refl
previous_followed (Some v) w t = step (same v w)
  where
    step : (b : Bool) → (cond b t (gone_along v w t)).previous ≡ t.previous
    step true = refl
    step false = refl

pub previous_there : (w : ConId) (o : Option ConId) (t : TreeValue) → (shown_there w o t).previous ≡ t.previous
previous_there w None t = refl
previous_there w (Some o) t =
    let t1 : TreeValue = with_current o t in
    previous_followed (shown_on o t) w (with_shown w t1) ∙ previous_by (parent t1 w) w t1

-- ---- what is shown

pub remembering_nodes : (old new : TreeValue) → (remembering old new).nodes ≡ new.nodes
remembering_nodes old new = step (same (shown old) (shown new))
  where
    step : (b : Bool) → (cond b new (record new { previous = space_name (shown old) old })).nodes ≡ new.nodes
    step true = refl
    step false = refl

-- what is focused in a tree of these nodes
pub shown_in : (w o : ConId) (t : TreeValue) → IsShown w o t.nodes → shown t ≡ w
shown_in w o t s = ap (λ z. or_id (kind_by shown_of (first_part (node_in z (first_kids t.nodes)))) z) s.now ∙ ap (λ z. or_id z o) s.shows

-- the same in the words of the law
pub on_show : (w o : ConId) (t : TreeValue) → IsSound t → IsShown w o t.nodes → IsOnShow w o t
on_show w o t s h = record {
  own = on_held w o t s h.out h.on;
  shows = ap (kind_by shown_of) (found_only o t.nodes (s.once o) h.out).1 ∙ h.shows;
  now = h.now;
  focused = shown_in w o t h;
}

-- after showing, the nodes show it
pub shows_nodes : (w o : ConId) (t : TreeValue) → IsSound t → is_space t w ≡ true → parent t w ≡ Some o → IsShown w o (showing w t).nodes
shows_nodes w o t s h held =
    let nodes : (showing w t).nodes ≡ (shown_there w (Some o) t).nodes = remembering_nodes t (shown_there w (parent t w) t) ∙ ap (λ z. (shown_there w z t).nodes) held in
    subst (IsShown w o) (sym nodes) (is_shown w o t s h held)

pub remembers : (w o : ConId) (t new : TreeValue) → shown new ≡ w → new.previous ≡ t.previous → IsRemembered w t (remembering t new)
remembers w o t new e p = step (same (shown t) (shown new)) refl
  where
    step : (b : Bool) → same (shown t) (shown new) ≡ b → IsRemembered w t (cond b new (record new { previous = space_name (shown t) t }))
    step true d = record { other = λ ne. absurd (ne (same_is (shown t) (shown new) d ∙ e)); stays = λ one. p }
    step false d = record { other = λ ne. refl; stays = λ one. let yes : same (shown t) (shown new) ≡ true = same_self (shown t) (shown new) (one ∙ sym e) in cc }

-- ---- the law

showing_it : (w o : ConId) (t : TreeValue) → IsSound t → is_space t w ≡ true → parent t w ≡ Some o → IsOnShow w o (showing w t) × IsRemembered w t (showing w t)
showing_it w o t s h held =
    let new : TreeValue = shown_there w (parent t w) t in
    let there : IsShown w o new.nodes = subst (λ z. IsShown w o (shown_there w z t).nodes) (sym held) (is_shown w o t s h held) in
    (on_show w o (showing w t) (sound_showing w t h s) (shows_nodes w o t s h held), remembers w o t new (shown_in w o new there) (previous_there w (parent t w) t))

pub shows_it : ShowsIt
shows_it target homes w o t s e held =
    let ok : is_space t w ≡ true = subst (λ g. IsGoal g t) e (goal_by target t (goal_of target t) refl s) in
    subst (λ g. IsOnShow w o (goal_shown g homes t) × IsRemembered w t (goal_shown g homes t)) (sym e) (showing_it w o t s ok held)
