-- A workspace that moves comes last on its new output, which shows it, and the one that it left shows one of its own.
use Rattle.std.proofs.Common.{◌≡◌, ◌≢◌, ◌≤◌, Bool, true, false, cond, [], ◌∷◌, ◌++◌, Option, None, Some, refl, ap, sym, ◌∙◌, subst, arith}
use Rattle.wm_base.specs.declared.errors.Limit.{Limit}
use Rattle.wm_base.specs.declared.ids.ConId.{ConId}
use Rattle.law_workspaces.proofs.OutlineLemmas.{ids_alike, outline, outline_shown, outline_there, outs_alike}
use Rattle.law_workspaces.proofs.RowLemmas.{come_elsewhere, come_ids, in_ids, left_elsewhere, not_output, on, only_ids, shows_own}
use Rattle.law_workspaces.proofs.ShowLaws.{on_show, previous_by, previous_there, remembering_nodes, remembers, shown_in}
use Rattle.law_commands.proofs.ShownLemmas.{IsShown, is_shown}
use Rattle.law_workspaces.specs.Moved.{HasMoved, MovesSpace, row_ids}
use Rattle.wm_shared.proofs.ShowLemmas.{sound_remembering, sound_there, space_is}
use Rattle.wm_shared.proofs.SpaceLemmas.{placed}
use Rattle.wm_shared.proofs.StandingLemmas.{of_output, stands_has}
use Rattle.wm_shared.specs.declared.keys.Key.{Key}
use Rattle.wm_shared.specs.Refusing.{full_error}
use Rattle.wm_shared.specs.Showing.{shown_on, shown_there}
use Rattle.wm_shared.specs.Subject.{is_space}
use Rattle.wm_spaces.proofs.MoveLemmas.{Added, added, freed_by, freed_new, free_here, held_on, moved_is, on_held}
use Rattle.wm_spaces.specs.Coming.{free_name}
use Rattle.wm_spaces.specs.Moving.{IsFree, aside_refusal, going_refusal, other_refusal, other_space, set_aside, showing_other, space_goes}
use Rattle.wm_spaces.specs.Shows.{then_shown}
use Rattle.wm_tree.proofs.SpaceLemmas.{has_output, sound-space_moved, sound-with_space}
use Rattle.wm_tree.proofs.SpaceRows.{LeftTree, sound-left}
use Rattle.wm_forest.proofs.CountLemmas.{count-without}
use Rattle.wm_forest.proofs.RecencyLemmas.{same_is, same_self}
use Rattle.wm_tree.proofs.AlongLemmas.{space_there}
use Rattle.wm_forest.specs.Change.{is_id, without}
use Rattle.wm_forest.specs.Look.{first_kids, has, in_row, only, same}
use Rattle.wm_forest.specs.Recency.{lists}
use Rattle.wm_forest.specs.RootId.{id}
use Rattle.wm_forest.specs.SoundRow.{one_of, tally}
use Rattle.wm_tree.specs.Outputs.{IsOutput, new_space, passed_by_space, space_moved, with_space}
use Rattle.wm_tree.specs.Sets.{with_shown}
use Rattle.wm_tree.specs.Sound.{IsSound}
use Rattle.wm_tree.specs.TreeValue.{TreeValue, parent}

-- ---- the output that it leaves shows another one

-- w is free to leave, another output o has the workspaces that it had, and the previous name is as it was
record Leaves (w o : ConId) (old new : TreeValue) : Type 0 where
  free : IsFree w old new
  ids : row_ids (on o new.nodes) ≡ row_ids (on o old.nodes)
  name : new.previous ≡ old.previous

fits : (o : Option Limit) → full_error o ≡ None → o ≡ None
fits None e = refl
fits (Some limit) e = cc

leaves : (w p o : ConId) (t : TreeValue) → IsSound t → is_space t w ≡ true → parent t w ≡ Some p → same p o ≡ false → aside_refusal w p t ≡ None → Leaves w o t (set_aside w p t)
leaves w p o t s h held other fine = by (is_id w (shown_on p t)) refl (other_space w p t) refl fine
  where
    by : (b : Bool) → is_id w (shown_on p t) ≡ b → (k : Option Key) → other_space w p t ≡ k → cond b (other_refusal k t) None ≡ None → Leaves w o t (cond b (showing_other k p t) t)
    by false e k d fine = record { free = free_here w p t s h held e; ids = refl; name = refl }
    by true e (Some k) d fine = record { free = freed_by w p k t (with_shown k.id t) refl d s h held; ids = ids_alike o t.nodes (with_shown k.id t).nodes (outline_shown k.id t); name = previous_by (parent t k.id) k.id t }
    by true e None d fine =
        let at_p = held_on w p t s h held in
        let made : TreeValue = with_space p (free_name t) t in
        let none : passed_by_space t.nodes t.next_id ≡ None = fits (passed_by_space t.nodes t.next_id) fine in
        let s_made : IsSound (with_space p (free_name t) t) = sound-with_space p (free_name t) t (has_output p t.nodes at_p.0) at_p.0 none s in
        record {
          free = freed_new w p (free_name t) t s s_made at_p.0 at_p.1;
          ids = ids_alike o (with_space p (free_name t) t).nodes (with_shown (id t.next_id) (with_space p (free_name t) t)).nodes (outline_shown (id t.next_id) (with_space p (free_name t) t))
              ∙ ap row_ids (come_elsewhere p (new_space (id t.next_id) (free_name t) t) o other t.nodes (s.once p) at_p.0);
          name = previous_by (parent (with_space p (free_name t) t) (id t.next_id)) (id t.next_id) (with_space p (free_name t) t);
        }

-- ---- it comes to the other output

module _ (w p o : ConId) (t u : TreeValue) (s : IsSound t) (h : is_space t w ≡ true) (out : IsOutput o t.nodes) (held : parent t w ≡ Some p) (other : same p o ≡ false) (l : Leaves w o t u) where
  su : IsSound u
  su = l.free.sound

  out_u : IsOutput o u.nodes
  out_u = l.free.outs o out

  has_u : has w u.nodes ≡ true
  has_u = space_there w u.nodes (space_is w u l.free.space)

  below_u : has w (first_kids u.nodes) ≡ true
  below_u =
      let q = placed w u su (space_is w u l.free.space) in
      let held_u = held_on w q.output u su l.free.space q.held_by in
      stands_has w (first_kids u.nodes) (of_output w q.output (first_kids u.nodes) held_u.1)

  -- it does not stand on o
  not_there : in_row w (on o t.nodes) ≡ false
  not_there = by (in_row w (on o t.nodes)) refl
    where
      by : (b : Bool) → in_row w (on o t.nodes) ≡ b → in_row w (on o t.nodes) ≡ false
      by false e = e
      by true e =
          let both : Some p ≡ Some o = sym held ∙ on_held w o t s out e in
          let one : p ≡ o = cc in
          let yes : same p o ≡ true = same_self p o one in
          absurd (cc (yes, other))

  not_on : in_row w (on o u.nodes) ≡ false
  not_on = in_ids w (on o u.nodes) ∙ (ap (lists w) l.ids ∙ (sym (in_ids w (on o t.nodes)) ∙ not_there))

  left : LeftTree u.nodes (without w u.nodes)
  left = sound-left w u.nodes (space_is w u l.free.space) l.free.hidden su.shaped

  once_left : tally o (without w u.nodes) ≤ 1
  once_left = omega (arith, su.once o, count-without (one_of o) w u.nodes)

  out_left : IsOutput o (without w u.nodes)
  out_left = left.outs o out_u

  alone : in_row w (only w u.nodes) ≡ true
  alone = in_ids w (only w u.nodes) ∙ (ap (lists w) (only_ids w u.nodes has_u) ∙ rw (same_self w w refl) refl)

  come : Added o w (without w u.nodes) (space_moved w o u).nodes
  come = added o w (only w u.nodes) (without w u.nodes) alone once_left out_left

  s2 : IsSound (space_moved w o u)
  s2 = sound-space_moved w o u su (space_is w u l.free.space) l.free.hidden out_u

  space2 : is_space (space_moved w o u) w ≡ true
  space2 = moved_is w o u su l.free.space out_u l.free.hidden

  held2 : parent (space_moved w o u) w ≡ Some o
  held2 = on_held w o (space_moved w o u) s2 (come.outs o ∙ out_left) come.there

  ids2 : row_ids (on o (space_moved w o u).nodes) ≡ row_ids (on o t.nodes) ++ w ∷ []
  ids2 =
      come_ids o (only w u.nodes) (without w u.nodes) once_left out_left
      ∙ (ap (λ z. z ++ row_ids (only w u.nodes)) (left_elsewhere w o u.nodes (su.once w) below_u (not_output w u su l.free.space) not_on ∙ l.ids)
      ∙ ap (λ z. row_ids (on o t.nodes) ++ z) (only_ids w u.nodes has_u))

  -- and is shown there
  goes : HasMoved w p o t (then_shown w t (space_moved w o u))
  goes =
      let there : TreeValue = shown_there w (parent (space_moved w o u) w) (space_moved w o u) in
      let nodes : (then_shown w t (space_moved w o u)).nodes ≡ (shown_there w (parent (space_moved w o u) w) (space_moved w o u)).nodes = remembering_nodes t there in
      let seen : outline (then_shown w t (space_moved w o u)).nodes ≡ outline (space_moved w o u).nodes = ap outline nodes ∙ outline_there w (parent (space_moved w o u) w) (space_moved w o u) in
      let s_new : IsSound (then_shown w t (space_moved w o u)) = sound_remembering t there (sound_there w (space_moved w o u) space2 s2) in
      let shows : IsShown w o (shown_there w (parent (space_moved w o u) w) (space_moved w o u)).nodes =
      subst (λ z. IsShown w o (shown_there w z (space_moved w o u)).nodes) (sym held2) (is_shown w o (space_moved w o u) s2 space2 held2) in
      let own : IsOutput p t.nodes = (held_on w p t s h held).0 in
      let still : IsOutput p (then_shown w t (space_moved w o u)).nodes = outs_alike p (space_moved w o u).nodes (then_shown w t (space_moved w o u)).nodes seen ∙ (come.outs p ∙ left.outs p (l.free.outs p own)) in
      record {
        last = ids_alike o (space_moved w o u).nodes (then_shown w t (space_moved w o u)).nodes seen ∙ ids2;
        shown = on_show w o (then_shown w t (space_moved w o u)) s_new (subst (IsShown w o) (sym nodes) shows);
        remembered = remembers w o t there (shown_in w o there shows) (previous_there w (parent (space_moved w o u) w) (space_moved w o u) ∙ l.name);
        left = shows_own p (then_shown w t (space_moved w o u)) s_new still;
        each = λ q k. shows_own q (then_shown w t (space_moved w o u)) s_new k;
      }

-- ---- the law

not_same : (p o : ConId) → p ≢ o → same p o ≡ false
not_same p o ne = by (same p o) refl
  where
    by : (b : Bool) → same p o ≡ b → same p o ≡ false
    by false e = e
    by true e = absurd (ne (same_is p o e))

pub moves_space : MovesSpace
moves_space w p o t s h out held ne fine =
    let other = not_same p o ne in
    let going : going_refusal (Some p) w o t ≡ None = subst (λ z. going_refusal z w o t ≡ None) held fine in
    let aside : aside_refusal w p t ≡ None = sym (ap (λ b. cond b None (aside_refusal w p t)) other) ∙ going in
    let l = leaves w p o t s h held other aside in
    let e : space_goes (parent t w) w o t ≡ then_shown w t (space_moved w o (set_aside w p t)) = ap (λ z. space_goes z w o t) held ∙ ap (λ b. cond b t (then_shown w t (space_moved w o (set_aside w p t)))) other in
    subst (λ z. HasMoved w p o t z) (sym e) (goes w p o t (set_aside w p t) s h out held other l)
