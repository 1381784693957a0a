-- Only windows are flagged: each word keeps that.
use Rattle.std.proofs.Common.{◌≡◌, ℕ, ◌+◌, Bool, true, false, cond, List, [], ◌∷◌, Option, None, Some, refl, ap, sym, subst, ◌∙◌}
use Rattle.wm_base.specs.declared.ids.ConId.{ConId}
use Rattle.wm_base.specs.declared.plan.Border.{Border}
use Rattle.wm_base.specs.declared.plan.OutputPlan.{OutputPlan}
use Rattle.wm_floats.proofs.FloatLemmas.{window_is}
use Rattle.wm_floats.specs.Floating.{floating_rect}
use Rattle.wm_floats.specs.Windows.{window_refusal}
use Rattle.wm_focus.specs.Marks.{bare, part_off, taken_off}
use Rattle.wm_forest.specs.Change.{is_window_kind}
use Rattle.law_lasting.proofs.CalmLemmas.{calm_plain}
use Rattle.law_lasting.proofs.EachLemmas.{each_along, each_change, each_exchanged, each_only, each_put, each_raised, each_settled, each_taking, each_without}
use Rattle.law_lasting.proofs.FlagLemmas.{Right, each_moved, either_true, right_edited, right_fullscreen, right_hidden, right_loose, right_sink, right_state}
use Rattle.law_lasting.specs.Each.{Each}
use Rattle.law_lasting.specs.Flags.{FlagsOnlyWindows, may_be_flagged}
use Rattle.law_lasting.specs.Lasting.{Lasts}
use Rattle.wm_opens.proofs.SureSpaces.{none_of_two}
use Rattle.wm_shared.specs.Refusing.{full_error}
use Rattle.wm_shared.specs.Rects.{rect_of}
use Rattle.wm_spaces.specs.Coming.{free_name, output_added_tree}
use Rattle.wm_forest.specs.Change.{at, is_id, without}
use Rattle.wm_forest.specs.declared.kind.KindEdit.TheVariants as edits
use Rattle.wm_forest.specs.declared.part.NodeKind.{NodeKind}
use Rattle.wm_forest.specs.declared.part.NodeKind.TheVariants.{Root, Output, Space, Con}
use Rattle.wm_forest.specs.declared.part.Part.{Part}
use Rattle.wm_forest.specs.declared.place.NewCon.TheVariants as new
use Rattle.wm_forest.specs.declared.place.Place.TheVariants.{Last, Scratchpad}
use Rattle.wm_forest.specs.Forest.{Forest, end, con}
use Rattle.wm_forest.specs.Kinds.{changed}
use Rattle.wm_forest.specs.Look.{only, same}
use Rattle.wm_tree.specs.Move.{apart, passed_by_move, share_in, wrap_word}
use Rattle.wm_forest.specs.Marks.{marks_word, other_marks, unmark_word}
use Rattle.wm_forest.specs.Taking.{heir}
use Rattle.wm_tree.specs.Outputs.{left_to, new_output, new_space, without_output, yielded}
use Rattle.wm_forest.specs.Place.{new_kind, new_part, rect_at, share_at}
use Rattle.wm_tree.specs.TreeValue.{TreeValue, current, newcomer_place, opening, opening_outputs, workspace_of}
use Rattle.wm_forest.specs.RootId.{id, root}
use Rattle.wm_tree.specs.Words.{edited}

-- ---- marks

off_kind : (keep : Option ConId) (n : List ℕ) (part : Part) → (part_off keep n part).kind ≡ part.kind
off_kind keep n part = step (is_id part.id keep)
  where
    step : (b : Bool) → (cond b part (record part { marks = other_marks n part.marks })).kind ≡ part.kind
    step true = refl
    step false = refl

right_taken_off : (keep : Option ConId) (n : List ℕ) (f : Forest) → Each Right f → Each Right (taken_off keep n f)
right_taken_off keep n end p = p
right_taken_off keep n (con part kids floats rest) p = (ap may_be_flagged (off_kind keep n part) ∙ p.0, right_taken_off keep n kids p.1, right_taken_off keep n floats p.2, right_taken_off keep n rest p.3)

right_bare : (f : Forest) → Each Right f → Each Right (bare f)
right_bare end p = p
right_bare (con part kids floats rest) p = (p.0, right_bare kids p.1, right_bare floats p.2, right_bare rest p.3)

-- ---- splits

shared : (kind : NodeKind) → may_be_flagged kind ≡ true → may_be_flagged (changed (edits.Share 65536) kind) ≡ true
shared (Root d) h = h
shared (Output o) h = h
shared (Space w) h = h
shared (Con d) h = h

-- ---- outputs

right_without_output : (o : ConId) (t : TreeValue) → FlagsOnlyWindows t → FlagsOnlyWindows (without_output o t)
right_without_output o t p = by (heir o t.nodes)
  where
    yields : (h : ConId) → Each Right (yielded o h t).nodes
    yields h = step (same (current t) o)
      where
        step : (b : Bool) → Each Right (cond b (edited root (edits.Current h) t) t).nodes
        step true = right_edited root (edits.Current h) t.nodes refl p
        step false = p

    by : (h : Option ConId) → Each Right (left_to h o t).nodes
    by None = p
    by (Some h) = each_taking Right h (only o (yielded o h t).nodes) (without o (yielded o h t).nodes) (each_only Right o (yielded o h t).nodes (yields h)) (each_without Right o (yielded o h t).nodes (yields h))

right_outputs : (k last inner outer : ℕ) (plans : List OutputPlan) → Each Right (opening_outputs k last inner outer plans)
right_outputs k last inner outer [] = tt
right_outputs k last inner outer (plan ∷ plans) = (refl, (refl, tt, tt, tt), tt, right_outputs (k + 1) last inner outer plans)

pub flags_opening : (plans : List OutputPlan) (border : Border) (inner outer : ℕ) → FlagsOnlyWindows (opening plans border inner outer)
flags_opening plans border inner outer = (refl, right_outputs 1 _ inner outer plans, tt, tt)

pub flags_added : (plan : OutputPlan) (t : TreeValue) → FlagsOnlyWindows t → FlagsOnlyWindows (output_added_tree plan t)
flags_added plan t q = each_put Right (Last root) (new_output (id t.next_id) plan (id (t.next_id + 1)) (free_name t) t) t.nodes (refl, (refl, tt, tt, tt), tt, tt) q

-- ---- marks

right_marks : (c : ConId) (marks : List (List ℕ)) (f : Forest) → Each Right f → Each Right (at c marks_word marks f)
right_marks c marks f q = each_change Right c marks_word marks (λ part kids floats rest p. p) f q

-- ---- the whole

pub flags_last : Lasts FlagsOnlyWindows
flags_last = record {
  alike = λ t now e f g h q. subst (Each Right) (sym e) q;
  editing = λ c edit t calm gives q. right_edited c edit t.nodes (calm_plain edit calm) q;
  renaming = λ was name w t s fits is q. right_edited w (edits.Name name) t.nodes refl q;
  restating = λ c old now t has keeps rects q. right_state c old now t.nodes keeps.1 has q;
  filling = λ c on t s fits q. right_fullscreen c on t q;
  stripping = λ c t q. right_marks c [] t.nodes q;
  unmarking = λ c mark t q. each_change Right c unmark_word mark (λ part kids floats rest p. p) t.nodes q;
  giving = λ c mark add t s q. right_taken_off (Some c) mark _ (right_marks c _ t.nodes q);
  taking_off = λ keep mark t q. right_taken_off keep mark t.nodes q;
  baring = λ t q. right_bare t.nodes q;
  urging = λ v t s win new q. q;
  calming = λ v t q. q;
  raising = λ c t s q. each_raised right_loose c (workspace_of t c) t.nodes q;
  moving = λ c p t s goal out floats after q. each_moved right_loose c p t q;
  exchanging = λ a b t s g after q. each_exchanged right_loose (refl, tt, tt, tt) a b (share_in a t.nodes) (share_in b t.nodes) (apart t a b) t.nodes q;
  space_moving = λ w o t s ok out after q. each_put Right (Last o) (only w t.nodes) (without w t.nodes) (each_only Right w t.nodes q) (each_without Right w t.nodes q);
  going_along = λ v w t low none q. each_along right_loose v w t q;
  hiding = λ c t s fits q.
      let two = none_of_two (window_refusal c t) (full_error (passed_by_move c (Scratchpad (floating_rect c t)) t.nodes)) fits in
      right_hidden c t s (window_is c t two.0).1 q;
  putting_away = λ w c t s on fits q. each_moved right_loose c (Scratchpad (rect_of c t)) t q;
  sinking = λ c t s fits q. right_sink c t q;
  attaching = λ who props natural t s fits q. each_put Right (newcomer_place t) (con (new_part (id t.next_id) (share_at (newcomer_place t) t.nodes) t.border (rect_at (newcomer_place t)) (new.Window props who natural)) end end end) t.nodes (refl, tt, tt, tt) q;
  joining = λ p newcomer t s room q.
      each_put Right (Last p) (con (new_part (id t.next_id) (share_at (Last p) t.nodes) t.border (rect_at (Last p)) newcomer) end end end) t.nodes (either_true (is_window_kind (new_kind newcomer)), tt, tt, tt) q;
  wrapping = λ c layout t s own after q.
      each_change Right c wrap_word (new_part (id t.next_id) (share_in c t.nodes) t.border None (new.Split layout)) (λ part kids floats rest p. (refl, (shared part.kind p.0, p.1, p.2, tt), tt, p.3)) t.nodes q;
  space_coming = λ o name t s out after free q. each_put Right (Last o) (new_space (id t.next_id) name t) t.nodes (refl, tt, tt, tt) q;
  output_coming = λ plan t s fine after q. flags_added plan t q;
  detaching = λ c t s ok q. each_without Right c t.nodes q;
  settling = λ t s q. each_settled Right None t.nodes q;
  output_going = λ o t s out q. right_without_output o t q;
}
