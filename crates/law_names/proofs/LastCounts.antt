-- At most one output or workspace is counted of each name: each word keeps that, where a new name and a new workspace do.
use Rattle.std.proofs.Common.{◌≡◌, ℕ, ◌≤◌, true, false, List, [], ◌∷◌, ◌++◌, Option, None, Some, refl, ap, ◌∙◌, arith}
use Rattle.wm_base.specs.declared.ids.ConId.{ConId}
use Rattle.wm_base.specs.declared.plan.OutputPlan.{OutputPlan}
use Rattle.law_names.proofs.WordCounts.{IsOfPlaces, along_most, attached_most, by_kind, count-bare, count-edited, count-fullscreen, count-marks, count-taken_off, count-unmarked, count-with_raised, count-wrapped, detached_most, exchanged_most, hidden_most, is_name, moved_most, put_away_most, settled_most, sink_most, space_moved_most, without_output_most}
use Rattle.law_lasting.specs.Changes.{is_calm}
use Rattle.law_lasting.specs.Lasting.{IsOfNodes, Lasts}
use Rattle.wm_floats.specs.Fullscreen.{fullscreen_tree}
use Rattle.wm_floats.specs.Floating.{sink_tree}
use Rattle.wm_floats.specs.Scratchpad.{put_away, to_scratchpad_tree}
use Rattle.wm_focus.specs.Marks.{bare, given_mark, kept_marks, taken_off, with_mark}
use Rattle.wm_spaces.specs.Coming.{output_added_refusal, output_added_tree}
use Rattle.wm_spaces.specs.Names.{space_named}
use Rattle.wm_spaces.specs.Renaming.{rename_refusal, renamed_space}
use Rattle.wm_forest.specs.Counts.{count}
use Rattle.wm_forest.specs.declared.kind.KindEdit.{KindEdit}
use Rattle.wm_forest.specs.declared.kind.KindEdit.TheVariants as edits
use Rattle.wm_forest.specs.declared.part.NodeKind.{NodeKind}
use Rattle.wm_forest.specs.declared.place.NewCon.TheVariants as new
use Rattle.wm_forest.specs.declared.place.Place.TheVariants.{Last}
use Rattle.wm_tree.specs.Along.{gone_along}
use Rattle.wm_forest.specs.Recency.{without_id}
use Rattle.wm_tree.specs.Move.{exchanged, marks_in, moved, unmarked, with_marks, wrapped}
use Rattle.wm_tree.specs.Outputs.{IsOutput, space_moved, with_space, without_output}
use Rattle.wm_tree.specs.Sound.{IsSound}
use Rattle.wm_tree.specs.TreeValue.{TreeValue, newcomer_place}
use Rattle.wm_tree.specs.Words.{attached, detached, edited, settled, with_raised}

-- of each name at most one is counted
pub record AtMostOne (w : List ℕ → NodeKind → ℕ) (t : TreeValue) : Type 0 where
  pub one : (n : List ℕ) → count (by_kind (w n)) t.nodes ≤ 1

-- a new name that no other workspace has keeps P
abbrev pub NewNamesKeep : (TreeValue → Type 0) → Type 0
NewNamesKeep P =
    (was : Option (List ℕ)) (name : List ℕ) (w : ConId) (t : TreeValue) → IsSound t → rename_refusal was name t ≡ None → renamed_space was t ≡ Some w → P t → P (edited w (edits.Name name) t)

-- a new workspace of a name that none has keeps P
abbrev pub NewSpacesKeep : (TreeValue → Type 0) → Type 0
NewSpacesKeep P = (o : ConId) (name : List ℕ) (t : TreeValue) → IsSound t → IsOutput o t.nodes → IsSound (with_space o name t) → space_named name t ≡ None → P t → P (with_space o name t)

-- a new output of a name that none has keeps P
abbrev pub NewOutputsKeep : (TreeValue → Type 0) → Type 0
NewOutputsKeep P = (plan : OutputPlan) (t : TreeValue) → IsSound t → output_added_refusal plan t ≡ None → IsSound (output_added_tree plan t) → P t → P (output_added_tree plan t)

calm_name : (edit : KindEdit) → is_calm edit ≡ true → is_name edit ≡ false
calm_name (edits.Name n) h = cc
calm_name other h = refl

module _ (w : List ℕ → NodeKind → ℕ) (k : (n : List ℕ) → IsOfPlaces (w n)) where
  pub less : (t new : TreeValue) → ((n : List ℕ) → count (by_kind (w n)) new.nodes ≤ count (by_kind (w n)) t.nodes) → AtMostOne w t → AtMostOne w new
  less t new h p = record { one = λ n. omega (arith, h n, p.one n) }

  pub alike : (t new : TreeValue) → ((n : List ℕ) → count (by_kind (w n)) new.nodes ≡ count (by_kind (w n)) t.nodes) → AtMostOne w t → AtMostOne w new
  alike t new h p = record { one = λ n. omega (arith, h n, p.one n) }

  pub of_nodes : IsOfNodes (AtMostOne w)
  of_nodes t new e p = alike t new (λ n. ap (count (by_kind (w n))) e) p

  pub counts_last : NewNamesKeep (AtMostOne w) → NewSpacesKeep (AtMostOne w) → NewOutputsKeep (AtMostOne w) → Lasts (AtMostOne w)
  counts_last named coming outputs = record {
    alike = λ t now e f g h p. alike t now (λ n. ap (count (by_kind (w n))) e) p;
    editing = λ c edit t calm gives p. alike t (edited c edit t) (λ n. count-edited (w n) (k n) c edit t (calm_name edit calm)) p;
    renaming = named;
    restating = λ c old now t has keeps rects p. alike t (edited c (edits.State now) t) (λ n. count-edited (w n) (k n) c (edits.State now) t refl) p;
    filling = λ c on t s fits p. alike t (fullscreen_tree c on t) (λ n. count-fullscreen (w n) (k n) c on t) p;
    stripping = λ c t p. alike t (with_marks c [] t) (λ n. count-marks (w n) (k n) c [] t) p;
    unmarking = λ c mark t p. alike t (unmarked c mark t) (λ n. count-unmarked (w n) (k n) c mark t) p;
    giving = λ c mark add t s p.
        let marks : List (List ℕ) = with_mark mark (kept_marks mark add (marks_in c t.nodes)) in
        alike t (given_mark c mark add t) (λ n. count-taken_off (w n) (k n) (Some c) mark (with_marks c marks t).nodes ∙ count-marks (w n) (k n) c marks t) p;
    taking_off = λ keep mark t p. alike t (record t { nodes = taken_off keep mark t.nodes }) (λ n. count-taken_off (w n) (k n) keep mark t.nodes) p;
    baring = λ t p. alike t (record t { nodes = bare t.nodes }) (λ n. count-bare (w n) (k n) t.nodes) p;
    urging = λ v t s win new p. alike t (record t { urgent = t.urgent ++ v ∷ [] }) (λ n. refl) p;
    calming = λ v t p. alike t (record t { urgent = without_id v t.urgent }) (λ n. refl) p;
    raising = λ c t s p. alike t (with_raised c t) (λ n. count-with_raised (w n) (k n) c t) p;
    moving = λ c at t s goal out floats after p. less t (moved c at t) (λ n. moved_most (w n) (k n) c at t) p;
    exchanging = λ a b t s turn after p. less t (exchanged a b t) (λ n. exchanged_most (w n) (k n) a b t turn.0) p;
    space_moving = λ v o t s ok out after p. less t (space_moved v o t) (λ n. space_moved_most (w n) (k n) v o t) p;
    going_along = λ u v t low none p. less t (gone_along u v t) (λ n. along_most (w n) (k n) u v t) p;
    hiding = λ c t s fits p. less t (to_scratchpad_tree c t) (λ n. hidden_most (w n) (k n) c t) p;
    putting_away = λ v c t s on fits p. less t (put_away c t) (λ n. put_away_most (w n) (k n) c t) p;
    sinking = λ c t s fits p. less t (sink_tree c t) (λ n. sink_most (w n) (k n) c t) p;
    attaching = λ who props natural t s fits p. less t (attached (newcomer_place t) (new.Window props who natural) t) (λ n. attached_most (w n) (k n) (newcomer_place t) (new.Window props who natural) t) p;
    joining = λ c newcomer t s room p. less t (attached (Last c) newcomer t) (λ n. attached_most (w n) (k n) (Last c) newcomer t) p;
    wrapping = λ c layout t s own after p. alike t (wrapped c layout t) (λ n. count-wrapped (w n) (k n) c layout t) p;
    space_coming = coming;
    output_coming = outputs;
    detaching = λ c t s ok p. less t (detached c t) (λ n. detached_most (w n) (k n) c t) p;
    settling = λ t s p. less t (settled t) (λ n. settled_most (w n) (k n) t) p;
    output_going = λ o t s out p. less t (without_output o t) (λ n. without_output_most (w n) (k n) o t) p;
  }
