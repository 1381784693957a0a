-- The scratchpad has only flagged containers with a rectangle: each word keeps that.
use Rattle.std.proofs.Common.{◌≡◌, ℕ, ◌+◌, Bool, true, false, cond, List, [], Option, None, Some, refl, ap, sym, subst}
use Rattle.wm_base.specs.declared.geometry.Size.{Size}
use Rattle.wm_base.specs.declared.ids.ConId.{ConId}
use Rattle.wm_base.specs.declared.plan.Layout.{Layout}
use Rattle.wm_base.specs.declared.plan.OutputPlan.{OutputPlan}
use Rattle.wm_base.specs.declared.properties.Props.{Props}
use Rattle.wm_floats.proofs.FloatLemmas.{flagged_is, hide_goal}
use Rattle.wm_floats.specs.declared.kinds.Kind.TheVariants as kinds
use Rattle.wm_floats.specs.Kinds.{is_of_space}
use Rattle.wm_floats.specs.Scratchpad.{put_away, put_away_refusal}
use Rattle.wm_focus.proofs.SubjectLemmas.{tiled_is}
use Rattle.wm_focus.specs.Moves.{IsTurn}
use Rattle.law_lasting.proofs.CalmLemmas.{calm_plain}
use Rattle.law_lasting.proofs.LastFloats.{sound_moved}
use Rattle.law_lasting.proofs.LastSpaces.{space_not_root}
use Rattle.law_lasting.proofs.StowedHiding.{stowed_hidden, stowed_moved, stowed_put_away, stowed_sink}
use Rattle.law_lasting.proofs.StowedLemmas.{Stowed, stowed_apart, stowed_deep}
use Rattle.law_lasting.proofs.StowedMoves.{con_not_root, nobody_out, output_not_root, place_low, place_outside, stowed_exchanged, stowed_put, stowed_without, tiled_apart}
use Rattle.law_lasting.proofs.StowedWords.{stowed_along, stowed_bare, stowed_edited, stowed_free, stowed_fullscreen, stowed_marks, stowed_raised, stowed_state, stowed_taken_off, stowed_unmarked}
use Rattle.law_lasting.specs.Lasting.{Lasts}
use Rattle.wm_shared.specs.Subject.{is_space}
use Rattle.wm_spaces.proofs.ComingLemmas.{heir_output}
use Rattle.wm_spaces.specs.Coming.{free_name}
use Rattle.wm_shared.specs.Rects.{rect_of}
use Rattle.wm_tree.proofs.PlaceLemmas.{place_fits}
use Rattle.wm_forest.specs.Change.{is_vacant, settled_row, shown_of, without}
use Rattle.wm_forest.specs.declared.kind.KindEdit.TheVariants as edits
use Rattle.wm_forest.specs.declared.part.NodeKind.{NodeKind}
use Rattle.wm_forest.specs.declared.part.NodeKind.TheVariants.{Root, Output, Space, Con}
use Rattle.wm_forest.specs.declared.part.Part.{Part}
use Rattle.wm_forest.specs.declared.place.NewCon.TheVariants as new
use Rattle.wm_forest.specs.declared.place.Place.{Place}
use Rattle.wm_forest.specs.declared.place.Place.TheVariants.{After, Last, Scratchpad}
use Rattle.wm_forest.specs.Forest.{Forest, end, con}
use Rattle.wm_forest.specs.Look.{only, same}
use Rattle.wm_tree.specs.Move.{apart, exchanged, share_in, wrap_word, wrapped}
use Rattle.wm_tree.specs.Outputs.{IsOutput, left_to, new_output, new_space, space_moved, with_output, with_space, without_output, yielded}
use Rattle.wm_forest.specs.Taking.{heir, taking_in}
use Rattle.wm_forest.specs.Place.{new_part, put_word, rect_at, share_at}
use Rattle.wm_forest.specs.SoundRow.{IsNode, IsSoundRow, roots}
use Rattle.wm_tree.specs.Sound.{IsSound}
use Rattle.wm_tree.specs.TreeValue.{TreeValue, current, is_tiled_con, leaf, newcomer_place, or_id, shown, focused}
use Rattle.wm_forest.specs.RootId.{id, root}
use Rattle.wm_tree.specs.Words.{attached, edited, settled}
use Rattle.law_lasting.specs.Changes.{stows}

-- the tree begins with the root, and its second row is in order
abbrev pub Holds : TreeValue → Type 0
Holds t = Stowed t.nodes

-- ---- nodes that come

newcomer_out : (t : TreeValue) → stows (newcomer_place t) ≡ false
newcomer_out t = step (same (focused t) (shown t)) (is_tiled_con t (focused t)) (is_tiled_con t (or_id (leaf t (shown t)) (shown t)))
  where
    step : (a b d : Bool) → stows (cond a (Last (shown t)) (cond b (After (focused t)) (cond d (After (or_id (leaf t (shown t)) (shown t))) (Last (shown t))))) ≡ false
    step true b d = refl
    step false true d = refl
    step false false true = refl
    step false false false = refl

holds_attached : (who : ℕ) (props : Props) (natural : Size) (t : TreeValue) → IsSound t → Holds t → Holds (attached (newcomer_place t) (new.Window props who natural) t)
holds_attached who props natural t s q =
    let p : Place = newcomer_place t in
    let part : Part = new_part (id t.next_id) (share_at p t.nodes) t.border (rect_at p) (new.Window props who natural) in
    let fit = place_fits t s in
    stowed_put (newcomer_place t) (con part end end end) t.nodes (place_low (newcomer_place t) t s fit.0 fit.1 (newcomer_out t)) (place_outside (newcomer_place t) t s q fit.0 fit.1 (newcomer_out t)) q

holds_wrapped : (c : ConId) (layout : Layout) (t : TreeValue) → IsSound t → is_tiled_con t c ≡ true → Holds t → Holds (wrapped c layout t)
holds_wrapped c layout t s own q =
    let is = tiled_is t c own in
    stowed_deep c wrap_word (new_part (id t.next_id) (share_in c t.nodes) t.border None (new.Split layout)) (con_not_root c t s is.0) t.nodes (tiled_apart c t s q is) q

holds_with_space : (o : ConId) (name : List ℕ) (t : TreeValue) → IsSound t → IsOutput o t.nodes → Holds t → Holds (with_space o name t)
holds_with_space o name t s out q = stowed_put (Last o) (new_space (id t.next_id) name t) t.nodes (output_not_root o t s out) tt q

pub holds_with_output : (plan : OutputPlan) (name : List ℕ) (t : TreeValue) → Holds t → Holds (with_output plan name t)
holds_with_output plan name t q =
    stowed_free root (put_word (Last root)) (new_output (id t.next_id) plan (id (t.next_id + 1)) name t) (λ part kids floats rest h r. (h, r)) (λ part kids floats rest own h. (own, h)) t.nodes q

-- ---- nodes that change places

holds_exchanged : (a b : ConId) (t : TreeValue) → IsSound t → IsTurn a b t → Holds t → Holds (exchanged a b t)
holds_exchanged a b t s g q =
    let tiled_a = g.2.0 g.0 in
    let tiled_b = g.2.1 g.1 in
    stowed_exchanged a b (share_in a t.nodes) (share_in b t.nodes) (apart t a b) t.nodes (con_not_root a t s tiled_a.0) (con_not_root b t s tiled_b.0) (tiled_apart a t s q tiled_a) (tiled_apart b t s q tiled_b) (nobody_out t s) q

holds_space_moved : (w o : ConId) (t : TreeValue) → IsSound t → is_space t w ≡ true → IsOutput o t.nodes → Holds t → Holds (space_moved w o t)
holds_space_moved w o t s ok out q = stowed_put (Last o) (only w t.nodes) (without w t.nodes) (output_not_root o t s out) tt (stowed_without w t.nodes (space_not_root w t s ok) q)

holds_put_away : (w c : ConId) (t : TreeValue) → IsSound t → is_of_space kinds.Flagged w t c ≡ true → put_away_refusal c t ≡ None → Holds t → Holds (put_away c t)
holds_put_away w c t s on fits q =
    let is = flagged_is w c t on in
    stowed_put_away w c t s on (sound_moved c (Scratchpad (rect_of c t)) t s (hide_goal c (rect_of c t) t s is.0 is.1) fits) q

-- ---- nodes that go

holds_settled : (t : TreeValue) → IsSound t → Holds t → Holds (settled t)
holds_settled t s q = by t.nodes s.shaped q
  where
    by : (f : Forest) → IsSoundRow roots false 0 f → Stowed f → Stowed (settled_row None f)
    by end p r = tt
    by (con part kids floats rest) p r = here part.kind refl p.0
      where
        step : (b : Bool) → b ≡ false → Stowed (cond b (settled_row None rest) (con part (settled_row (shown_of part.kind) kids) floats (settled_row None rest)))
        step true e = cc
        step false e = r

        here : (kind : NodeKind) → part.kind ≡ kind → IsNode roots false 0 part.id kind part.marks kids → Stowed (settled_row None (con part kids floats rest))
        here (Root d) e n = step (is_vacant None part.id part.kind (settled_row (shown_of part.kind) kids) floats) (ap (λ z. is_vacant None part.id z (settled_row (shown_of part.kind) kids) floats) e)
        here (Output o) e n = absurd n
        here (Space w) e n = absurd n
        here (Con c) e n = absurd n

holds_without_output : (o : ConId) (t : TreeValue) → IsSound t → IsOutput o t.nodes → Holds t → Holds (without_output o t)
holds_without_output o t s out q = by (heir o t.nodes) refl
  where
    yields : (h : ConId) → Stowed (yielded o h t).nodes
    yields h = step (same (current t) o)
      where
        step : (b : Bool) → Stowed (cond b (edited root (edits.Current h) t) t).nodes
        step true = stowed_edited root (edits.Current h) t.nodes refl q
        step false = q

    by : (h : Option ConId) → heir o t.nodes ≡ h → Holds (left_to h o t)
    by None e = q
    by (Some h) e =
        stowed_apart h taking_in (only o (yielded o h t).nodes) (output_not_root h t s (heir_output o h t e)) (λ part kids floats rest k r. (k, r)) (without o (yielded o h t).nodes)
        (stowed_without o (yielded o h t).nodes (output_not_root o t s out) (yields h))

-- ---- the whole

pub stowed_lasts : Lasts Holds
stowed_lasts = record {
  alike = λ t now e f g h q. subst Stowed (sym e) q;
  editing = λ c edit t calm gives q. stowed_edited c edit t.nodes (calm_plain edit calm) q;
  renaming = λ was name w t s fits is q. stowed_edited w (edits.Name name) t.nodes refl q;
  restating = λ c old now t has keeps rects q. stowed_state c old now t.nodes keeps.1 keeps.2 has q;
  filling = λ c on t s fits q. stowed_fullscreen c on t q;
  stripping = λ c t q. stowed_marks c [] t.nodes q;
  unmarking = λ c mark t q. stowed_unmarked c mark t.nodes q;
  giving = λ c mark add t s q. stowed_taken_off (Some c) mark _ (stowed_marks c _ t.nodes q);
  taking_off = λ keep mark t q. stowed_taken_off keep mark t.nodes q;
  baring = λ t q. stowed_bare t.nodes q;
  urging = λ v t s win new q. q;
  calming = λ v t q. q;
  raising = λ c t s q. stowed_raised c _ t.nodes q;
  moving = λ c p t s goal out floats after q. stowed_moved c p t s goal out q;
  exchanging = λ a b t s g after q. holds_exchanged a b t s g q;
  space_moving = λ w o t s ok out after q. holds_space_moved w o t s ok out q;
  going_along = λ v w t low none q. stowed_along v w t low q;
  hiding = λ c t s fits q. stowed_hidden c t s fits q;
  putting_away = λ w c t s on fits q. holds_put_away w c t s on fits q;
  sinking = λ c t s fits q. stowed_sink c t s fits q;
  attaching = λ who props natural t s fits q. holds_attached who props natural t s q;
  joining = λ p newcomer t s room q.
      stowed_put (Last p) (con (new_part (id t.next_id) (share_at (Last p) t.nodes) t.border (rect_at (Last p)) newcomer) end end end) t.nodes (place_low (Last p) t s room.there room.place refl) tt q;
  wrapping = λ c layout t s own after q. holds_wrapped c layout t s own q;
  space_coming = λ o name t s out after free q. holds_with_space o name t s out q;
  output_coming = λ plan t s fine after q. holds_with_output plan (free_name t) t q;
  detaching = λ c t s ok q. stowed_without c t.nodes (con_not_root c t s ok) q;
  settling = λ t s q. holds_settled t s q;
  output_going = λ o t s out q. holds_without_output o t s out q;
}
