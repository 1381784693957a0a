-- A step, the tree settled behind it, and a step back come to the workspace where one was, if that is still there.
use Rattle.std.proofs.Common.{◌≡◌, ◌≤◌, Bool, true, false, cond, ◌⊎◌, inl, inr, List, ◌++◌, Option, None, Some, refl, ap, sym, ◌∙◌, subst, arith}
use Rattle.std.specs.Prelude.{not}
use Rattle.wm_base.specs.declared.ids.ConId.{ConId}
use Rattle.law_workspaces.proofs.BestLemmas.{In, beside, comes_back_in, in_either, in_left, in_right, steps}
use Rattle.law_workspaces.proofs.OutlineLemmas.{all_alike, keys_alike, keys_on}
use Rattle.law_workspaces.proofs.SettledShows.{current_settled, out_stays, outs_settled, shown_settled}
use Rattle.law_workspaces.proofs.StepKeys.{focused_listed, goes, here_all, keys_at, listed, node_all, node_key, same_key}
use Rattle.law_workspaces.proofs.StepLaws.{comes, is, outline_showing, own_id, stepped}
use Rattle.law_workspaces.specs.Settled.{StepsBackSettled}
use Rattle.law_workspaces.specs.Stepped.{step}
use Rattle.wm_shared.proofs.ShowLemmas.{sound_showing, space_is}
use Rattle.wm_shared.proofs.SpaceLemmas.{placed}
use Rattle.wm_shared.proofs.StandingLemmas.{shown_row}
use Rattle.wm_shared.specs.declared.keys.Key.{Key}
use Rattle.wm_shared.specs.Keys.{with_key}
use Rattle.wm_shared.specs.Showing.{showing}
use Rattle.wm_shared.specs.Subject.{is_space}
use Rattle.wm_spaces.proofs.AsideLemmas.{one_output}
use Rattle.wm_spaces.proofs.MoveLemmas.{held_on}
use Rattle.wm_spaces.specs.declared.order.Pick.TheVariants as picking
use Rattle.wm_spaces.specs.Order.{key_if, keys_in}
use Rattle.wm_spaces.specs.Shows.{show_tree}
use Rattle.wm_spaces.specs.Targets.{focused_key, key_id, neighbour, spaces_of}
use Rattle.wm_tree.proofs.FocusLemmas.{current_there, outputs_of}
use Rattle.wm_tree.proofs.SettleLemmas.{sound-settled}
use Rattle.wm_forest.specs.Change.{is_vacant, settled_row, shown_of}
use Rattle.wm_forest.specs.Forest.{Forest, end, con}
use Rattle.wm_forest.specs.Look.{first_kids, in_row, kind_of, node_in, same, space_kind}
use Rattle.wm_forest.specs.SoundRow.{IsSoundRow, outputs, tally}
use Rattle.wm_tree.specs.Sound.{IsSound}
use Rattle.wm_tree.specs.TreeValue.{TreeValue, current, shown}
use Rattle.wm_tree.specs.Words.{settled}

-- ---- settling makes no key

module _ (k : Key) where
  widen : (o : Option Key) (ks : List Key) → In k ks → In k (with_key o ks)
  widen None ks i = i
  widen (Some j) ks i = inr i

  carry : (o : Option Key) (xs ys : List Key) → (In k xs → In k ys) → In k (with_key o xs) → In k (with_key o ys)
  carry None xs ys f i = f i
  carry (Some j) xs ys f (inl e) = inl e
  carry (Some j) xs ys f (inr i) = inr (f i)

  row_less : (w : Option ConId) (row : Forest) → In k (keys_in picking.All (settled_row w row)) → In k (keys_in picking.All row)
  row_less w end i = i
  row_less w (con part kids floats rest) i = step (is_vacant w part.id part.kind (settled_row (shown_of part.kind) kids) floats) i (row_less w rest)
    where
      step : (b : Bool) → In k (keys_in picking.All (cond b (settled_row w rest) (con part (settled_row (shown_of part.kind) kids) floats (settled_row w rest)))) → (In k (keys_in picking.All (settled_row w rest)) → In k (keys_in picking.All rest))
          → In k (with_key (key_if picking.All part.id (space_kind part.kind)) (keys_in picking.All rest))
      step true i ih = widen (key_if picking.All part.id (space_kind part.kind)) (keys_in picking.All rest) (ih i)
      step false i ih = carry (key_if picking.All part.id (space_kind part.kind)) (keys_in picking.All (settled_row w rest)) (keys_in picking.All rest) ih i

  outs_less : (w : Option ConId) (row : Forest) → In k (keys_on picking.All (settled_row w row)) → In k (keys_on picking.All row)
  outs_less w end i = i
  outs_less w (con part kids floats rest) i = step (is_vacant w part.id part.kind (settled_row (shown_of part.kind) kids) floats) i (outs_less w rest)
    where
      both : In k (keys_in picking.All (settled_row (shown_of part.kind) kids)) ⊎ In k (keys_on picking.All (settled_row w rest)) → (In k (keys_on picking.All (settled_row w rest)) → In k (keys_on picking.All rest))
          → In k (keys_in picking.All kids ++ keys_on picking.All rest)
      both (inl i) ih = in_left k (keys_in picking.All kids) (keys_on picking.All rest) (row_less (shown_of part.kind) kids i)
      both (inr i) ih = in_right k (keys_in picking.All kids) (keys_on picking.All rest) (ih i)

      step : (b : Bool) → In k (keys_on picking.All (cond b (settled_row w rest) (con part (settled_row (shown_of part.kind) kids) floats (settled_row w rest)))) → (In k (keys_on picking.All (settled_row w rest)) → In k (keys_on picking.All rest))
          → In k (keys_in picking.All kids ++ keys_on picking.All rest)
      step true i ih = in_right k (keys_in picking.All kids) (keys_on picking.All rest) (ih i)
      step false i ih = both (in_either k (keys_in picking.All (settled_row (shown_of part.kind) kids)) (keys_on picking.All (settled_row w rest)) i) ih

  node_less : (o : ConId) (row : Forest) → IsSoundRow outputs true 32 row → In k (keys_in picking.All (first_kids (node_in o (settled_row None row)))) → In k (keys_in picking.All (first_kids (node_in o row)))
  node_less o end p i = i
  node_less o (con part kids floats rest) p i =
      outer (is_vacant None part.id part.kind (settled_row (shown_of part.kind) kids) floats) (out_stays part.id part.kind part.marks kids (settled_row (shown_of part.kind) kids) floats p.0) i (node_less o rest p.4)
    where
      inner : (x : Bool) → In k (keys_in picking.All (first_kids (cond x (con part (settled_row (shown_of part.kind) kids) floats (settled_row None rest)) (node_in o (settled_row None rest)))))
          → (In k (keys_in picking.All (first_kids (node_in o (settled_row None rest)))) → In k (keys_in picking.All (first_kids (node_in o rest)))) → In k (keys_in picking.All (first_kids (cond x (con part kids floats rest) (node_in o rest))))
      inner true i ih = row_less (shown_of part.kind) kids i
      inner false i ih = ih i

      outer : (v : Bool) → v ≡ false → In k (keys_in picking.All (first_kids (node_in o (cond v (settled_row None rest) (con part (settled_row (shown_of part.kind) kids) floats (settled_row None rest))))))
          → (In k (keys_in picking.All (first_kids (node_in o (settled_row None rest)))) → In k (keys_in picking.All (first_kids (node_in o rest)))) → In k (keys_in picking.All (first_kids (cond (same part.id o) (con part kids floats rest) (node_in o rest))))
      outer true e i ih = cc
      outer false e i ih = inner (same part.id o) i ih

  -- a key of the workspaces on an output
  on_less : (o : ConId) (t : TreeValue) → IsSound t → In k (keys_in picking.All (spaces_of o (settled t))) → In k (keys_in picking.All (spaces_of o t))
  on_less o t s i = node_less o (first_kids t.nodes) (outputs_of t.nodes s.shaped) (subst (λ z. In k (keys_in picking.All (first_kids (node_in o z)))) (outs_settled t s) i)

  at_less : (here : Bool) (t : TreeValue) → IsSound t → In k (keys_at here (settled t)) → In k (keys_at here t)
  at_less true t s i = on_less (current t) t s (subst (λ z. In k (keys_in picking.All (spaces_of z (settled t)))) (current_settled t s) i)
  at_less false t s i = outs_less None (first_kids t.nodes) (subst (λ z. In k (keys_on picking.All z)) (outs_settled t s) i)

-- ---- both keys are still there

once_below : (w : ConId) (f : Forest) → tally w f ≤ 1 → tally w (first_kids f) ≤ 1
once_below w end once = omega arith
once_below w (con part kids floats rest) once = omega (arith, once)

-- from k to m, and settled
module _ (here : Bool) (m : Key) (t : TreeValue) (s : IsSound t) (ok : is_space t m.id ≡ true) (i : In m (keys_at here t)) where
  s_show : IsSound (showing m.id t)
  s_show = sound_showing m.id t ok s

  s_new : IsSound (settled (showing m.id t))
  s_new = sound-settled (showing m.id t) s_show

  in_show : In m (keys_at here (showing m.id t))
  in_show = subst (In m) (sym (comes here m t s ok i).keys) i

  -- it comes to m
  comes_to : focused_key (settled (showing m.id t)) ≡ m
  comes_to =
      let there : In (focused_key (settled (showing m.id t))) (keys_at here (showing m.id t)) = at_less (focused_key (settled (showing m.id t))) here (showing m.id t) s_show (focused_listed here (settled (showing m.id t)) s_new) in
      let one : (focused_key (settled (showing m.id t))).id ≡ m.id =
      own_id (shown (settled (showing m.id t))) (kind_of space_kind (shown (settled (showing m.id t))) (settled (showing m.id t)).nodes) ∙ (shown_settled (showing m.id t) s_show ∙ (comes here m t s ok i).now) in
      same_key (focused_key (settled (showing m.id t))) m (showing m.id t) s_show (here_all (focused_key (settled (showing m.id t))) here (showing m.id t) there) (here_all m here (showing m.id t) in_show) one

  m_there : In m (keys_at here (settled (showing m.id t)))
  m_there = subst (λ z. In z (keys_at here (settled (showing m.id t)))) comes_to (focused_listed here (settled (showing m.id t)) s_new)

  -- where the workspace that was focused is still there, so is its key
  module _ (still : is_space (settled (showing m.id t)) (shown t) ≡ true) where
    record Still : Type 0 where
      output : ConId
      on : In (focused_key t) (keys_in picking.All (spaces_of output (settled (showing m.id t))))
      all : In (focused_key t) (keys_on picking.All (first_kids (settled (showing m.id t)).nodes))

    is_still : Still
    is_still =
        let q = placed (shown t) (settled (showing m.id t)) s_new (space_is (shown t) (settled (showing m.id t)) still) in
        let on = (held_on (shown t) q.output (settled (showing m.id t)) s_new still q.held_by).1 in
        let h = node_key (shown t) q.output (first_kids (settled (showing m.id t)).nodes) (outputs_of (settled (showing m.id t)).nodes s_new.shaped) on in
        let all_h : In h.key (keys_at false (settled (showing m.id t))) = node_all h.key q.output (first_kids (settled (showing m.id t)).nodes) h.there in
        let in_h : In h.key (keys_at false (showing m.id t)) = at_less h.key false (showing m.id t) s_show all_h in
        let in_k : In (focused_key t) (keys_at false (showing m.id t)) =
        subst (In (focused_key t)) (sym (all_alike picking.All t.nodes (showing m.id t).nodes (outline_showing m.id t))) (focused_listed false t s) in
        let ids : h.key.id ≡ (focused_key t).id = h.is ∙ sym (own_id (shown t) (kind_of space_kind (shown t) t.nodes)) in
        let one : h.key ≡ focused_key t = same_key h.key (focused_key t) (showing m.id t) s_show in_h in_k ids in
        record {
          output = q.output;
          on = subst (λ z. In z (keys_in picking.All (spaces_of q.output (settled (showing m.id t))))) one h.there;
          all = subst (λ z. In z (keys_at false (settled (showing m.id t)))) one all_h;
        }

    -- it stands on the output where it stood
    where_still : (r : Still) → r.output ≡ current t
    where_still r =
        let in_show_r : In (focused_key t) (keys_in picking.All (spaces_of r.output (showing m.id t))) = on_less (focused_key t) r.output (showing m.id t) s_show r.on in
        let in_old : In (focused_key t) (keys_in picking.All (spaces_of r.output t)) = subst (In (focused_key t)) (keys_alike picking.All r.output t.nodes (showing m.id t).nodes (outline_showing m.id t)) in_show_r in
        let on_r : in_row (shown t) (spaces_of r.output t) ≡ true = subst (λ z. in_row z (spaces_of r.output t) ≡ true) (own_id (shown t) (kind_of space_kind (shown t) t.nodes)) (listed (focused_key t) (spaces_of r.output t) in_old) in
        let on_current : in_row (shown t) (spaces_of (current t) t) ≡ true = shown_row (current t) (first_kids t.nodes) (outputs_of t.nodes s.shaped) (current_there t.nodes s.shaped s.rooted) in
        one_output r.output (current t) (shown t) (first_kids t.nodes) (once_below (shown t) t.nodes (s.once (shown t))) on_r on_current

    k_there : (b : Bool) → here ≡ b → In (focused_key t) (keys_at b (settled (showing m.id t)))
    k_there false e = is_still.all
    k_there true e =
        let now : is_still.output ≡ current (settled (showing m.id t)) = where_still is_still ∙ sym (current_settled (showing m.id t) s_show ∙ (comes here m t s ok i).stays e) in
        subst (λ z. In (focused_key t) (keys_in picking.All (spaces_of z (settled (showing m.id t))))) now is_still.on

-- ---- the law

module _ (here back : Bool) (t : TreeValue) (s : IsSound t) where
  back_to : (m : Key) → (i : In m (keys_at here t)) → beside back (focused_key t) (keys_at here t) ≡ Some m → is_space (settled (showing m.id t)) (shown t) ≡ true → neighbour here (not back) (settled (showing m.id t)) ≡ shown t
  back_to m i e still =
      let at_m : neighbour here back t ≡ m.id = goes here back t ∙ ap (λ z. key_id z (shown t)) e in
      let ok : is_space t m.id ≡ true = subst (λ z. is_space t z ≡ true) at_m (is here back t s) in
      let less : (j : Key) → In j (keys_at here (settled (showing m.id t))) → In j (keys_at here t) =
      λ j x. subst (In j) (comes here m t s ok i).keys (at_less j here (showing m.id t) (s_show here m t s ok i) x) in
      let returned : beside (not back) m (keys_at here (settled (showing m.id t))) ≡ Some (focused_key t) =
      comes_back_in back (focused_key t) (keys_at here t) (focused_listed here t s) m e (keys_at here (settled (showing m.id t))) less (k_there here m t s ok i still here refl) (m_there here m t s ok i) in
      goes here (not back) (settled (showing m.id t))
      ∙ (ap (λ z. key_id (beside (not back) z (keys_at here (settled (showing m.id t)))) (shown (settled (showing m.id t)))) (comes_to here m t s ok i)
      ∙ (ap (λ z. key_id z (shown (settled (showing m.id t)))) returned ∙ own_id (shown t) (kind_of space_kind (shown t) t.nodes)))

  there_and_back : is_space (settled (showing (neighbour here back t) t)) (shown t) ≡ true → neighbour here (not back) (settled (showing (neighbour here back t) t)) ≡ shown t
  there_and_back still =
      let r = steps back (focused_key t) (keys_at here t) (focused_listed here t s) in
      let at_r : neighbour here back t ≡ r.key.id = goes here back t ∙ ap (λ z. key_id z (shown t)) r.is in
      let Back : ConId → Type 0 = λ z. is_space (settled (showing z t)) (shown t) ≡ true → neighbour here (not back) (settled (showing z t)) ≡ shown t in
      subst Back (sym at_r) (back_to r.key r.listed r.is) still

pub steps_back_settled : StepsBackSettled
steps_back_settled here back homes t s still =
    let one = stepped here back homes t s in
    let two = stepped here (not back) homes (settled (show_tree (step here back) homes t)) (sound-settled (show_tree (step here back) homes t) one.0) in
    let Back : TreeValue → Type 0 = λ z. is_space (settled z) (shown t) ≡ true → neighbour here (not back) (settled z) ≡ shown t in
    two.2 ∙ subst Back (sym one.1) (there_and_back here back t s) still
