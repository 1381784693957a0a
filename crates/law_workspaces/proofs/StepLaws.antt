-- A step to the next workspace and a step back come to the workspace where one was.
use Rattle.std.proofs.Common.{◌≡◌, ℕ, Bool, true, false, List, Option, None, Some, refl, ap, sym, ◌∙◌, subst}
use Rattle.std.specs.Prelude.{not}
use Rattle.wm_base.specs.declared.ids.ConId.{ConId}
use Rattle.law_workspaces.proofs.BestLemmas.{In, beside, comes_back, steps}
use Rattle.law_workspaces.proofs.OutlineLemmas.{all_alike, keys_alike, outline, outline_there}
use Rattle.law_workspaces.proofs.ShowLaws.{remembering_nodes, shown_in, shows_nodes}
use Rattle.law_workspaces.proofs.StepKeys.{focused_listed, focused_own, goes, keys_at, listed}
use Rattle.law_workspaces.specs.Stepped.{StepsBack, step}
use Rattle.wm_shared.proofs.ShowLemmas.{sound_showing, space_is}
use Rattle.wm_shared.proofs.SpaceLemmas.{placed}
use Rattle.wm_shared.specs.declared.keys.Key.{Key}
use Rattle.wm_shared.specs.Showing.{showing, shown_there}
use Rattle.wm_shared.specs.Subject.{is_space}
use Rattle.wm_spaces.proofs.MoveLemmas.{on_held}
use Rattle.wm_spaces.proofs.StandLemmas.{goal_by}
use Rattle.wm_spaces.specs.declared.order.Pick.TheVariants as picking
use Rattle.wm_spaces.specs.declared.targets.Goal.TheVariants.{There}
use Rattle.wm_spaces.specs.Order.{keys_in}
use Rattle.wm_spaces.specs.Shows.{goal_shown, show_tree}
use Rattle.wm_spaces.specs.Targets.{IsGoal, focused_key, goal_of, key_id, neighbour, own_key, spaces_of}
use Rattle.wm_tree.proofs.FocusLemmas.{current_there}
use Rattle.wm_forest.specs.declared.part.SpacePart.{SpacePart}
use Rattle.wm_forest.specs.Look.{kind_of, space_kind}
use Rattle.wm_tree.specs.Sound.{IsSound}
use Rattle.wm_tree.specs.TreeValue.{TreeValue, current, parent, shown}

step_goal : (here back : Bool) (t : TreeValue) → goal_of (step here back) t ≡ There (neighbour here back t)
step_goal false false t = refl
step_goal false true t = refl
step_goal true false t = refl
step_goal true true t = refl

pub outline_showing : (w : ConId) (t : TreeValue) → outline (showing w t).nodes ≡ outline t.nodes
outline_showing w t = ap outline (remembering_nodes t (shown_there w (parent t w) t)) ∙ outline_there w (parent t w) t

pub own_id : (w : ConId) (o : Option SpacePart) → (own_key w o).id ≡ w
own_id w None = refl
own_id w (Some s) = refl

-- showing one of the keys' workspaces keeps the keys, and comes to it
pub record Comes (here : Bool) (k : Key) (t new : TreeValue) : Type 0 where
  pub keys : keys_at here new ≡ keys_at here t
  pub now : shown new ≡ k.id
  pub stays : here ≡ true → current new ≡ current t

pub comes : (here : Bool) (k : Key) (t : TreeValue) → IsSound t → is_space t k.id ≡ true → In k (keys_at here t) → Comes here k t (showing k.id t)
comes true k t s h i =
    let held : parent t k.id ≡ Some (current t) = on_held k.id (current t) t s (current_there t.nodes s.shaped s.rooted) (listed k (spaces_of (current t) t) i) in
    let shows = shows_nodes k.id (current t) t s h held in
    record {
      keys = ap (λ z. keys_in picking.All (spaces_of z (showing k.id t))) shows.now ∙ keys_alike picking.All (current t) t.nodes (showing k.id t).nodes (outline_showing k.id t);
      now = shown_in k.id (current t) (showing k.id t) shows;
      stays = λ one. shows.now;
    }
comes false k t s h i =
    let p = placed k.id t s (space_is k.id t h) in
    record {
      keys = all_alike picking.All t.nodes (showing k.id t).nodes (outline_showing k.id t);
      now = shown_in k.id p.output (showing k.id t) (shows_nodes k.id p.output t s h p.held_by);
      stays = λ one. cc;
    }

module _ (here back : Bool) (t : TreeValue) (s : IsSound t) where
  pub is : is_space t (neighbour here back t) ≡ true
  is = subst (λ g. IsGoal g t) (step_goal here back t) (goal_by (step here back) t (goal_of (step here back) t) refl s)

  comes_to : (k : Key) → In k (keys_at here t) → beside back (focused_key t) (keys_at here t) ≡ Some k → neighbour here (not back) (showing k.id t) ≡ shown t
  comes_to k i e =
      let at_k : neighbour here back t ≡ k.id = goes here back t ∙ ap (λ z. key_id z (shown t)) e in
      let ok : is_space t k.id ≡ true = subst (λ z. is_space t z ≡ true) at_k is in
      let s_new : IsSound (showing k.id t) = sound_showing k.id t ok s in
      let c = comes here k t s ok i in
      let own : focused_key (showing k.id t) ≡ k = focused_own k here (showing k.id t) s_new (subst (In k) (sym c.keys) i) c.now in
      let back_to = comes_back back (focused_key t) (keys_at here t) (focused_listed here t s) k e in
      goes here (not back) (showing k.id t)
      ∙ (ap (λ z. key_id (beside (not back) z (keys_at here (showing k.id t))) (shown (showing k.id t))) own
      ∙ (ap (λ z. key_id (beside (not back) k z) (shown (showing k.id t))) c.keys
      ∙ (ap (λ z. key_id z (shown (showing k.id t))) back_to ∙ own_id (shown t) (kind_of space_kind (shown t) t.nodes))))

  there_and_back : neighbour here (not back) (showing (neighbour here back t) t) ≡ shown t
  there_and_back =
      let r = steps back (focused_key t) (keys_at here t) (focused_listed here t s) in
      let at_r : neighbour here back t ≡ r.key.id = goes here back t ∙ ap (λ z. key_id z (shown t)) r.is in
      subst (λ z. neighbour here (not back) (showing z t) ≡ shown t) (sym at_r) (comes_to r.key r.listed r.is)

-- what is focused after a step
pub stepped : (here back : Bool) (homes : List (List ℕ × List ℕ)) (t : TreeValue) → IsSound t → IsSound (show_tree (step here back) homes t) × (show_tree (step here back) homes t ≡ showing (neighbour here back t) t) × (shown (show_tree (step here back) homes t) ≡ neighbour here back t)
stepped here back homes t s =
    let ok = is here back t s in
    let p = placed (neighbour here back t) t s (space_is (neighbour here back t) t ok) in
    let e : show_tree (step here back) homes t ≡ showing (neighbour here back t) t = ap (λ g. goal_shown g homes t) (step_goal here back t) in
    let now : shown (showing (neighbour here back t) t) ≡ neighbour here back t = shown_in (neighbour here back t) p.output (showing (neighbour here back t) t) (shows_nodes (neighbour here back t) p.output t s ok p.held_by) in
    (subst IsSound (sym e) (sound_showing (neighbour here back t) t ok s), e, ap shown e ∙ now)

pub steps_back : StepsBack
steps_back here back homes t s =
    let one = stepped here back homes t s in
    let two = stepped here (not back) homes (show_tree (step here back) homes t) one.0 in
    two.2 ∙ (ap (neighbour here (not back)) one.1 ∙ there_and_back here back t s)
