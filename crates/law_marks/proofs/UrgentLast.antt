-- Urgent ids are windows, each urgent once: each word keeps that.
use Rattle.std.proofs.Common.{ℕ, ◌+◌, Bool, true, false, cond, List, [], ◌∷◌, Option, Some, refl, sym, subst, arith}
use Rattle.wm_base.specs.declared.ids.ConId.{ConId}
use Rattle.wm_base.specs.declared.plan.Border.{Border}
use Rattle.wm_base.specs.declared.plan.OutputPlan.{OutputPlan}
use Rattle.law_lasting.specs.Lasting.{Lasts}
use Rattle.law_marks.proofs.UrgentFacts.{Urgents, same_lists, same_urgent}
use Rattle.law_marks.proofs.UrgentWords.{fullscreen_lists, hidden_lists, sunk_lists, urgent_attached, urgent_detached, urgent_edited, urgent_fewer, urgent_more, urgent_raised, urgent_settled}
use Rattle.wm_floats.specs.Floating.{sink_tree}
use Rattle.wm_floats.specs.Fullscreen.{fullscreen_tree}
use Rattle.wm_floats.specs.Scratchpad.{put_away, to_scratchpad_tree}
use Rattle.wm_focus.specs.Marks.{bare, given_mark, kept_marks, taken_off, with_mark}
use Rattle.wm_opens.proofs.FloatLemmas.{kept_fullscreen, kept_hidden, kept_sunk}
use Rattle.wm_opens.proofs.KeptLemmas.{Kept, kept_along, kept_count, kept_exchanged, kept_given, kept_moved, kept_nodes, kept_space_moved, kept_unmarked, kept_with_marks, kept_with_output, kept_with_space, kept_without_output, kept_wrapped}
use Rattle.wm_opens.proofs.OutputLemmas.{tidy_opening}
use Rattle.wm_opens.proofs.SureFloats.{sure_fullscreen, sure_hidden, sure_sink}
use Rattle.wm_opens.proofs.SureLemmas.{sure_raised, sure_space_moved, sure_with_space, sure_wrapped, tidy_along}
use Rattle.wm_opens.proofs.TidyLemmas.{IsFreeAt, tidy_bare, tidy_exchanged, tidy_put, tidy_taken_off, tidy_unmarked, tidy_with_marks}
use Rattle.wm_opens.proofs.WordLemmas.{count-bare, count-taken_off}
use Rattle.wm_opens.specs.Opens.{IsTidy}
use Rattle.wm_spaces.specs.Coming.{free_name, output_added_tree}
use Rattle.law_marks.proofs.TidyMoves.{tidy_moved, tidy_stowed, tidy_without_output, without_output_lists}
use Rattle.wm_forest.proofs.TimesLemmas.{times-append}
use Rattle.wm_forest.specs.declared.kind.KindEdit.TheVariants as edits
use Rattle.wm_forest.specs.declared.place.NewCon.TheVariants as new
use Rattle.wm_forest.specs.declared.place.Place.TheVariants.{After, Last, Scratchpad}
use Rattle.wm_forest.specs.Look.{same}
use Rattle.wm_forest.specs.RootId.{id, root}
use Rattle.wm_tree.specs.Along.{gone_along}
use Rattle.wm_tree.specs.Move.{apart, exchanged, marks_in, moved, share_in, unmarked, with_marks, wrapped}
use Rattle.wm_tree.specs.Outputs.{new_output, space_moved, with_space, without_output}
use Rattle.wm_tree.specs.Sound.{IsSound}
use Rattle.wm_shared.specs.Rects.{rect_of}
use Rattle.wm_tree.specs.TreeValue.{TreeValue, focused, is_tiled_con, leaf, newcomer_place, opening, or_id, shown, workspace_of}

-- the place of a newcomer is not among floating windows
newcomer_free : (t : TreeValue) → IsFreeAt (newcomer_place t) t.nodes
newcomer_free t = step (same (focused t) (shown t)) (is_tiled_con t (focused t)) (is_tiled_con t (or_id (leaf t (shown t)) (shown t)))
  where
    step : (a b d : Bool) → IsFreeAt (cond a (Last (shown t)) (cond b (After (focused t)) (cond d (After (or_id (leaf t (shown t)) (shown t))) (Last (shown t))))) t.nodes
    step true b d = tt
    step false true d = tt
    step false false true = tt
    step false false false = tt

given_keeps : (c : ConId) (n : List ℕ) (add : Bool) (t : TreeValue) → Urgents t → Urgents (given_mark c n add t)
given_keeps c n add t p =
    let marks : List (List ℕ) = with_mark n (kept_marks n add (marks_in c t.nodes)) in
    same_lists t (given_mark c n add t) (kept_given c n add t) (λ h. tidy_taken_off (Some c) n (with_marks c marks t).nodes (tidy_with_marks c marks t.nodes h)) refl refl p

off_keeps : (keep : Option ConId) (n : List ℕ) (t : TreeValue) → Urgents t → Urgents (record t { nodes = taken_off keep n t.nodes })
off_keeps keep n t p =
    let new : TreeValue = record t { nodes = taken_off keep n t.nodes } in
    same_lists t new (kept_count t new refl (λ m k. omega (arith, count-taken_off m k keep n t.nodes))) (tidy_taken_off keep n t.nodes) refl refl p

bare_keeps : (t : TreeValue) → Urgents t → Urgents (record t { nodes = bare t.nodes })
bare_keeps t p =
    let new : TreeValue = record t { nodes = bare t.nodes } in
    same_lists t new (kept_count t new refl (λ m k. omega (arith, count-bare m k t.nodes))) (tidy_bare t.nodes) refl refl p

filled_keeps : (c : ConId) (on : Bool) (t : TreeValue) → IsSound t → Urgents t → Urgents (fullscreen_tree c on t)
filled_keeps c on t s p =
    let lists = fullscreen_lists c on t in
    same_lists t (fullscreen_tree c on t) (kept_fullscreen c on t) (sure_fullscreen c on t s).tidy lists.urgent lists.recency p

exchange_keeps : (a b : ConId) (t : TreeValue) → IsSound t → (kept : Kept t (exchanged a b t)) → Urgents t → Urgents (exchanged a b t)
exchange_keeps a b t s kept p = same_lists t (exchanged a b t) kept (tidy_exchanged a b (share_in a t.nodes) (share_in b t.nodes) (apart t a b) t.nodes) refl refl p

pub urgent_last : Lasts Urgents
urgent_last = record {
  alike = λ t now e f g h p. same_lists t now (kept_nodes t now (record { next = h; nodes = e })) (λ q. subst IsTidy (sym e) q) f g p;
  editing = λ c edit t calm gives p. urgent_edited c edit t p;
  renaming = λ was name w t s fits is p. urgent_edited w (edits.Name name) t p;
  restating = λ c old now t has keeps rects p. urgent_edited c (edits.State now) t p;
  filling = λ c on t s fits p. filled_keeps c on t s p;
  stripping = λ c t p. same_lists t (with_marks c [] t) (kept_with_marks c [] t) (tidy_with_marks c [] t.nodes) refl refl p;
  unmarking = λ c mark t p. same_lists t (unmarked c mark t) (kept_unmarked c mark t) (tidy_unmarked c mark t.nodes) refl refl p;
  giving = λ c mark add t s p. given_keeps c mark add t p;
  taking_off = λ keep mark t p. off_keeps keep mark t p;
  baring = λ t p. bare_keeps t p;
  urging = λ v t s window new p. urgent_more v t s window new p;
  calming = λ v t p. urgent_fewer v t p;
  raising = λ c t s p. urgent_raised c t (sure_raised c t s).tidy p;
  moving = λ c at t s goal out floats after p. same_lists t (moved c at t) (kept_moved c at t) (tidy_moved c at t s goal) refl refl p;
  exchanging = λ a b t s turn after p. exchange_keeps a b t s (kept_exchanged a b t turn.0) p;
  space_moving = λ v o t s ok out after p. same_lists t (space_moved v o t) (kept_space_moved v o t) (sure_space_moved v o t after).tidy refl refl p;
  going_along = λ u v t low none p. same_lists t (gone_along u v t) (kept_along u v t) (tidy_along u v t none) refl refl p;
  hiding = λ c t s fits p.
      let lists = hidden_lists c t in
      same_lists t (to_scratchpad_tree c t) (kept_hidden c t) (sure_hidden c t s fits).tidy lists.urgent lists.recency p;
  putting_away = λ v c t s on fits p. same_lists t (put_away c t) (kept_moved c (Scratchpad (rect_of c t)) t) (tidy_stowed c t s) refl refl p;
  sinking = λ c t s fits p.
      let lists = sunk_lists c (workspace_of t c) t in
      same_lists t (sink_tree c t) (kept_sunk c (workspace_of t c) t) (sure_sink c t s fits).tidy lists.urgent lists.recency p;
  attaching = λ who props natural t s fits p. urgent_attached (newcomer_place t) (new.Window props who natural) t (newcomer_free t) p;
  joining = λ c newcomer t s room p. urgent_attached (Last c) newcomer t tt p;
  wrapping = λ c layout t s own after p. same_urgent t (wrapped c layout t) (kept_wrapped c layout t) (sure_wrapped c layout t after).tidy refl (λ v. omega (arith, times-append v t.recency (id t.next_id ∷ []))) p;
  space_coming = λ o name t s out after free p.
      same_urgent t (with_space o name t) (kept_with_space o name t) (sure_with_space o name t after).tidy refl (λ v. omega (arith, times-append v t.recency (id t.next_id ∷ []))) p;
  output_coming = λ plan t s fine after p.
      same_urgent t (output_added_tree plan t) (kept_with_output plan (free_name t) t) (tidy_put (Last root) (new_output (id t.next_id) plan (id (t.next_id + 1)) (free_name t) t) t.nodes tt (tt, (tt, tt, tt, tt), tt, tt)) refl
      (λ v. omega (arith, times-append v t.recency (id (t.next_id + 1) ∷ []))) p;
  detaching = λ c t s ok p. urgent_detached c t p;
  settling = λ t s p. urgent_settled t s p;
  output_going = λ o t s out p.
      let lists = without_output_lists o t in
      same_lists t (without_output o t) (kept_without_output o t) (tidy_without_output o t s) lists.urgent lists.recency p;
}

-- ---- the opening tree

pub opening_urgent : (plans : List OutputPlan) (border : Border) (inner outer : ℕ) → Urgents (opening plans border inner outer)
opening_urgent plans border inner outer = record { each = λ v h. absurd (omega (arith, h)); once = λ v. omega arith; tidy = tidy_opening plans border inner outer }
