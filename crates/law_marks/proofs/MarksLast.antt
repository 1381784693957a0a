-- Marks differ: each word keeps that.
use Rattle.std.proofs.Common.{◌≡◌, ℕ, ◌+◌, ◌≤◌, List, [], ◌∷◌, length, refl, ap, arith}
use Rattle.wm_base.specs.declared.plan.Border.{Border}
use Rattle.wm_base.specs.declared.plan.OutputPlan.{OutputPlan}
use Rattle.law_lasting.specs.Lasting.{IsOfNodes, Lasts}
use Rattle.law_marks.proofs.MarkGiving.{bare_times, fewer_times, given_differ, taken_times, unmarked_times}
use Rattle.law_marks.proofs.MarkWords.{along_times, attached_times, detached_times, exchanged_times, hidden_times, moved_times, output_times, put_away_times, settled_times, sink_times, space_moved_times, space_times, times-edited, times-fullscreen, times-with_raised, times-wrapped, without_output_times}
use Rattle.law_marks.specs.Marks.{MarksDiffer, times_on}
use Rattle.wm_floats.specs.Floating.{sink_tree}
use Rattle.wm_floats.specs.Fullscreen.{fullscreen_tree}
use Rattle.wm_floats.specs.Scratchpad.{put_away, to_scratchpad_tree}
use Rattle.wm_focus.specs.Marks.{bare, taken_off}
use Rattle.wm_spaces.specs.Coming.{output_added_tree}
use Rattle.wm_forest.specs.Counts.{count}
use Rattle.wm_forest.specs.declared.kind.KindEdit.TheVariants as edits
use Rattle.wm_forest.specs.declared.place.NewCon.TheVariants as new
use Rattle.wm_forest.specs.declared.place.Place.TheVariants.{Last}
use Rattle.wm_tree.specs.Along.{gone_along}
use Rattle.wm_tree.specs.Move.{exchanged, moved, unmarked, with_marks, wrapped}
use Rattle.wm_tree.specs.Outputs.{space_moved, with_space, without_output}
use Rattle.wm_tree.specs.Words.{attached, detached, edited, settled, with_raised}
use Rattle.wm_tree.specs.TreeValue.{TreeValue, newcomer_place, opening, opening_outputs}

less : (t new : TreeValue) → ((n : List ℕ) → count (times_on n) new.nodes ≤ count (times_on n) t.nodes) → MarksDiffer t → MarksDiffer new
less t new h p n = omega (arith, h n, p n)

alike : (t new : TreeValue) → ((n : List ℕ) → count (times_on n) new.nodes ≡ count (times_on n) t.nodes) → MarksDiffer t → MarksDiffer new
alike t new h p n = omega (arith, h n, p n)

pub marks_nodes : IsOfNodes MarksDiffer
marks_nodes t new e p = alike t new (λ n. ap (count (times_on n)) e) p

pub marks_last : Lasts MarksDiffer
marks_last = record {
  alike = λ t new e f g h p. alike t new (λ n. ap (count (times_on n)) e) p;
  editing = λ c edit t calm gives p. alike t (edited c edit t) (λ n. times-edited n c edit t) p;
  renaming = λ was name w t s fits is p. alike t (edited w (edits.Name name) t) (λ n. times-edited n w (edits.Name name) t) p;
  restating = λ c old now t has keeps rects p. alike t (edited c (edits.State now) t) (λ n. times-edited n c (edits.State now) t) p;
  filling = λ c on t s fits p. alike t (fullscreen_tree c on t) (λ n. times-fullscreen n c on t) p;
  stripping = λ c t p. less t (with_marks c [] t) (λ n. fewer_times n c [] t.nodes (omega arith)) p;
  unmarking = λ c mark t p. less t (unmarked c mark t) (λ n. unmarked_times n c mark t.nodes) p;
  giving = λ c mark add t s p. given_differ c mark add t s p;
  taking_off = λ keep mark t p. less t (record t { nodes = taken_off keep mark t.nodes }) (λ n. taken_times n keep mark t.nodes) p;
  baring = λ t p. less t (record t { nodes = bare t.nodes }) (λ n. bare_times n t.nodes) p;
  urging = λ v t s win new p. p;
  calming = λ v t p. p;
  raising = λ c t s p. alike t (with_raised c t) (λ n. times-with_raised n c t) p;
  moving = λ c at t s goal out floats after p. less t (moved c at t) (λ n. moved_times n c at t) p;
  exchanging = λ a b t s turn after p. less t (exchanged a b t) (λ n. exchanged_times n a b t turn.0) p;
  space_moving = λ v o t s ok out after p. less t (space_moved v o t) (λ n. space_moved_times n v o t) p;
  going_along = λ u v t low none p. less t (gone_along u v t) (λ n. along_times n u v t) p;
  hiding = λ c t s fits p. less t (to_scratchpad_tree c t) (λ n. hidden_times n c t) p;
  putting_away = λ v c t s on fits p. less t (put_away c t) (λ n. put_away_times n c t) p;
  sinking = λ c t s fits p. less t (sink_tree c t) (λ n. sink_times n c t) p;
  attaching = λ who props natural t s fits p. less t (attached (newcomer_place t) (new.Window props who natural) t) (λ n. attached_times n (newcomer_place t) (new.Window props who natural) t) p;
  joining = λ c newcomer t s room p. less t (attached (Last c) newcomer t) (λ n. attached_times n (Last c) newcomer t) p;
  wrapping = λ c layout t s own after p. alike t (wrapped c layout t) (λ n. times-wrapped n c layout t) p;
  space_coming = λ o name t s out after free p. less t (with_space o name t) (λ n. space_times n o name t) p;
  output_coming = λ plan t s fine after p. less t (output_added_tree plan t) (λ n. output_times n plan t) p;
  detaching = λ c t s ok p. less t (detached c t) (λ n. detached_times n c t) p;
  settling = λ t s p. less t (settled t) (λ n. settled_times n t) p;
  output_going = λ o t s out p. less t (without_output o t) (λ n. without_output_times n o t) p;
}

-- ---- the opening tree

none_open : (n : List ℕ) (k last inner outer : ℕ) (plans : List OutputPlan) → count (times_on n) (opening_outputs k last inner outer plans) ≡ 0
none_open n k last inner outer [] = refl
none_open n k last inner outer (plan ∷ plans) = omega (arith, none_open n (k + 1) last inner outer plans)

pub opening_differs : (plans : List OutputPlan) (border : Border) (inner outer : ℕ) → MarksDiffer (opening plans border inner outer)
opening_differs plans border inner outer n = omega (arith, none_open n 1 (1 + length plans) inner outer plans)
