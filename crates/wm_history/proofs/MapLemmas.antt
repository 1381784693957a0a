-- A window that is mapped: what follows the tree before it, in the place of a newcomer or in that of a placeholder.
use Rattle.std.proofs.Common.{◌≡◌, ℕ, Bool, true, false, cond, Option, None, Some, unwrap_or, refl, ap, subst}
use Rattle.wm_base.specs.declared.ids.Buffer.{Buffer}
use Rattle.wm_base.specs.declared.ids.ConId.{ConId}
use Rattle.wm_base.specs.declared.properties.Props.{Props}
use Rattle.wm_floats.specs.Fullscreen.{fills_alone}
use Rattle.wm_forest.specs.declared.kind.KindEdit.TheVariants as edits
use Rattle.wm_forest.specs.declared.place.NewCon.TheVariants as new
use Rattle.wm_forest.specs.RootId.{id}
use Rattle.wm_layouts.specs.declared.plan.Env.{Env}
use Rattle.wm_opens.proofs.CommandLemmas.{kept_outcome}
use Rattle.wm_opens.proofs.KeptLemmas.{Kept, kept_raised, kept_refl, kept_settled, kept_trans}
use Rattle.wm_opens.proofs.PlaceholderLemmas.{opens_edited}
use Rattle.wm_opens.proofs.SwallowLemmas.{fills_swallowed}
use Rattle.wm_opens.specs.Opens.{Fills}
use Rattle.wm_swallow.specs.Swallowing.{filled_at, swallower}
use Rattle.wm_tree.proofs.AttachLemmas.{sound-attached}
use Rattle.wm_tree.proofs.PlaceLemmas.{place_fits}
use Rattle.wm_tree.specs.Sound.{IsSound}
use Rattle.wm_tree.specs.TreeValue.{TreeValue, newcomer_place, workspace_of}
use Rattle.wm_tree.specs.Words.{attached, edited, settled, with_raised}
use Rattle.wm_history.specs.Act.{CommandText}
use Rattle.wm_history.specs.Follows.{Follows}
use Rattle.wm_history.specs.Effect.{come_to, limit_at, limit_of, mapped, mapped_id, raised_unless_full, then_outcome}
use Rattle.wm_history.proofs.FollowLemmas.{follows_attached, follows_filled, follows_then}

kept_newcomer : (i : ConId) (t : TreeValue) → Kept t (raised_unless_full i t)
kept_newcomer i t = by_test (fills_alone i (workspace_of t i) t)
  where
    by_test : (b : Bool) → Kept t (cond b (with_raised i t) t)
    by_test true = kept_raised i t
    by_test false = kept_refl t

kept_in_place : (i : ConId) (t : TreeValue) → Kept t (settled (raised_unless_full i t))
kept_in_place i t = kept_trans t (raised_unless_full i t) (settled (raised_unless_full i t)) (kept_newcomer i t) (kept_settled (raised_unless_full i t))

follows_come : (t : TreeValue) (who : ℕ) (props : Props) (buffer : Buffer) (o : Option ConId) → IsSound t → swallower props t ≡ o → limit_at o t ≡ None
    → IsSound (settled (raised_unless_full (unwrap_or o (id t.next_id)) (come_to o t who props buffer.size)))
    → Follows t (settled (raised_unless_full (unwrap_or o (id t.next_id)) (come_to o t who props buffer.size))) (Some (unwrap_or o (id t.next_id), buffer))
follows_come t who props buffer None s e room sound =
    let there : TreeValue = attached (newcomer_place t) (new.Window props who buffer.size) t in
    let fit = place_fits t s in
    let sound_there : IsSound there = sound-attached (newcomer_place t) (new.Window props who buffer.size) t fit.0 fit.1 room s in
    follows_then t there (settled (raised_unless_full (id t.next_id) there)) (Some (id t.next_id, buffer)) sound_there sound (follows_attached props who buffer.size buffer t s sound_there) (kept_in_place (id t.next_id) there)
follows_come t who props buffer (Some c) s e room sound =
    let there : TreeValue = edited c (edits.Fill props who buffer.size) t in
    let fills : Fills c who t there = subst (λ z. Fills c who t z) (ap (λ o. filled_at o props who buffer.size t) e) (fills_swallowed props who buffer.size t c s e) in
    follows_then t there (settled (raised_unless_full c there)) (Some (c, buffer)) fills.sound sound (follows_filled c who buffer t there fills (opens_edited c (edits.Fill props who buffer.size) t)) (kept_in_place c there)

-- the window that is mapped is the fresh one
pub follows_window : (t : TreeValue) (who : ℕ) (props : Props) (buffer : Buffer) → IsSound t → limit_of props t ≡ None → IsSound (mapped t who props buffer.size)
    → Follows t (mapped t who props buffer.size) (Some (mapped_id props t, buffer))
follows_window t who props buffer s room sound = follows_come t who props buffer (swallower props t) s refl room sound

-- the text that a map brings opens no other window
pub kept_then : (env : Env) (text : Option CommandText) (c : ConId) (t : TreeValue) → Kept t (then_outcome env text c t).tree
kept_then env None c t = kept_refl t
kept_then env (Some text) c t = kept_outcome env text.verdict (Some c) t
