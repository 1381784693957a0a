-- What lasts is kept by each text and each other step, also where it is said otherwise of sound trees.
use Rattle.std.proofs.Common.{◌≡◌, ◌≢◌, ℕ, Bool, cond, List, Option, None}
use Rattle.wm_apply.specs.Batches.{outcome}
use Rattle.wm_base.specs.declared.geometry.Edges.{Edges}
use Rattle.wm_base.specs.declared.geometry.Size.{Size}
use Rattle.wm_base.specs.declared.ids.ConId.{ConId}
use Rattle.wm_base.specs.declared.plan.OutputPlan.{OutputPlan}
use Rattle.wm_base.specs.declared.properties.Props.{Props}
use Rattle.wm_criteria.specs.declared.verdict.Verdict.{Verdict}
use Rattle.law_lasting.proofs.LastSteps.{has_added, has_closed, has_mapped, has_removed, has_reserved, has_swallowed, has_titled, has_urgent}
use Rattle.law_lasting.proofs.LastTexts.{HasLast, has_outcome, has_settled}
use Rattle.law_lasting.specs.Lasting.{IsOfNodes, Lasts}
use Rattle.wm_layouts.specs.declared.plan.Env.{Env}
use Rattle.wm_spaces.specs.Coming.{output_added_refusal, output_added_tree, output_removed_tree}
use Rattle.wm_forest.specs.declared.kind.KindEdit.TheVariants as edits
use Rattle.wm_forest.specs.declared.place.NewCon.TheVariants as new
use Rattle.wm_forest.specs.Look.{con_kind, kind_of}
use Rattle.wm_forest.specs.Place.{passed_limit}
use Rattle.wm_swallow.specs.Swallowing.{swallowed}
use Rattle.wm_tree.specs.Sound.{IsSound}
use Rattle.wm_tree.specs.TreeValue.{TreeValue, newcomer_place}
use Rattle.wm_tree.specs.Words.{attached, detached, edited, settled, with_raised}

module _ {P Q : TreeValue → Type 0} (k : Lasts P) (from : (t : TreeValue) → IsSound t → Q t → P t) (back : (t : TreeValue) → IsSound t → P t → Q t) where
  before : (t : TreeValue) → IsSound t → Q t → HasLast P t
  before t s q = record { sound = s; held = from t s q }

  after : (t : TreeValue) → HasLast P t → Q t
  after t g = back t g.sound g.held

  pub texts_keep : (env : Env) (verdict : Verdict) (subject : Option ConId) (t : TreeValue) → IsSound t → Q t → Q (outcome env verdict subject t).tree
  texts_keep env verdict subject t s q = after (outcome env verdict subject t).tree (has_outcome k env verdict subject t (before t s q))

  pub settling_keeps : (t : TreeValue) → IsSound t → Q t → Q (settled t)
  settling_keeps t s q = after (settled t) (has_settled k t (before t s q))

  pub mapping_keeps : (who : ℕ) (props : Props) (natural : Size) (raises : Bool) (c : ConId) (t : TreeValue) → IsSound t → Q t → passed_limit (newcomer_place t) t.nodes t.next_id ≡ None
      → Q (settled (cond raises (with_raised c (attached (newcomer_place t) (new.Window props who natural) t)) (attached (newcomer_place t) (new.Window props who natural) t)))
  mapping_keeps who props natural raises c t s q fits =
      let there : TreeValue = attached (newcomer_place t) (new.Window props who natural) t in
      after (settled (cond raises (with_raised c there) there)) (has_mapped k who props natural raises c t (before t s q) fits)

  pub swallowing_keeps : (props : Props) (owner : ℕ) (natural : Size) (raises : Bool) (c : ConId) (t : TreeValue) → IsSound t → Q t
      → Q (settled (cond raises (with_raised c (swallowed props owner natural t)) (swallowed props owner natural t)))
  swallowing_keeps props owner natural raises c t s q =
      let there : TreeValue = swallowed props owner natural t in
      after (settled (cond raises (with_raised c there) there)) (has_swallowed k props owner natural raises c t (before t s q))

  pub closing_keeps : (c : ConId) (t : TreeValue) → IsSound t → Q t → kind_of con_kind c t.nodes ≢ None → Q (settled (detached c t))
  closing_keeps c t s q ok = after (settled (detached c t)) (has_closed k c t (before t s q) ok)

  pub retitling_keeps : (c : ConId) (title : List ℕ) (t : TreeValue) → IsSound t → Q t → Q (settled (edited c (edits.Title title) t))
  retitling_keeps c title t s q = after (settled (edited c (edits.Title title) t)) (has_settled k (edited c (edits.Title title) t) (has_titled k c title t (before t s q)))

  pub urgency_keeps : IsOfNodes P → (urgent : List ConId) (t : TreeValue) → IsSound t → Q t → Q (settled (record t { urgent = urgent }))
  urgency_keeps alone urgent t s q = after (settled (record t { urgent = urgent })) (has_settled k (record t { urgent = urgent }) (has_urgent alone urgent t (before t s q)))

  pub reserving_keeps : (o : ConId) (edges : Edges) (t : TreeValue) → IsSound t → Q t → Q (settled (edited o (edits.Reserved edges) t))
  reserving_keeps o edges t s q = after (settled (edited o (edits.Reserved edges) t)) (has_settled k (edited o (edits.Reserved edges) t) (has_reserved k o edges t (before t s q)))

  pub added_outputs_keep : (plan : OutputPlan) (t : TreeValue) → IsSound t → Q t → output_added_refusal plan t ≡ None → IsSound (output_added_tree plan t) → Q (settled (output_added_tree plan t))
  added_outputs_keep plan t s q fine sound = after (settled (output_added_tree plan t)) (has_settled k (output_added_tree plan t) (has_added k plan t (before t s q) fine sound))

  pub removed_outputs_keep : (name : List ℕ) (t : TreeValue) → IsSound t → Q t → Q (settled (output_removed_tree name t))
  removed_outputs_keep name t s q = after (settled (output_removed_tree name t)) (has_settled k (output_removed_tree name t) (has_removed k name t (before t s q)))
