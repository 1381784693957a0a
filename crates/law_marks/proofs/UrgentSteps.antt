-- Windows that become urgent, and are so no longer, keep that the urgent ids are windows.
use Rattle.std.proofs.Common.{◌≡◌, ℕ, true, false, List, [], ◌∷◌, ◌++◌, refl}
use Rattle.wm_base.specs.declared.ids.ConId.{ConId}
use Rattle.wm_base.specs.declared.plan.Border.{Border}
use Rattle.wm_base.specs.declared.plan.OutputPlan.{OutputPlan}
use Rattle.law_lasting.proofs.LastSteps.{has_calmed, has_urged}
use Rattle.law_lasting.proofs.LastTexts.{HasLast, has_settled}
use Rattle.law_marks.proofs.UrgentFacts.{Urgents, back, from}
use Rattle.law_marks.proofs.UrgentLast.{opening_urgent, urgent_last}
use Rattle.law_marks.specs.Urgent.{UrgentAreWindows}
use Rattle.wm_opens.specs.Opens.{IsGood, is_window_of}
use Rattle.wm_forest.specs.Recency.{lists, without_id}
use Rattle.wm_tree.specs.TreeValue.{TreeValue, opening}
use Rattle.wm_tree.specs.Words.{settled}

before : (t : TreeValue) → IsGood t → UrgentAreWindows t → HasLast Urgents t
before t g u = record { sound = g.sound; held = from t g.sound (g.tidy, u) }

after : (t : TreeValue) → HasLast Urgents t → UrgentAreWindows t
after t h = (back t h.sound h.held).1

pub urging_keeps : (v : ConId) (t : TreeValue) → IsGood t → UrgentAreWindows t → is_window_of t v ≡ true → lists v t.urgent ≡ false → UrgentAreWindows (settled (record t { urgent = t.urgent ++ v ∷ [] }))
urging_keeps v t g u window new =
    let there : TreeValue = record t { urgent = t.urgent ++ v ∷ [] } in
    after (settled there) (has_settled urgent_last there (has_urged urgent_last v t (before t g u) window new))

pub calming_keeps : (v : ConId) (t : TreeValue) → IsGood t → UrgentAreWindows t → UrgentAreWindows (settled (record t { urgent = without_id v t.urgent }))
calming_keeps v t g u =
    let there : TreeValue = record t { urgent = without_id v t.urgent } in
    after (settled there) (has_settled urgent_last there (has_calmed urgent_last v t (before t g u)))

pub openings_urgent : (plans : List OutputPlan) (border : Border) (inner outer : ℕ) → ((opening plans border inner outer).urgent ≡ []) × UrgentAreWindows (opening plans border inner outer)
openings_urgent plans border inner outer = (refl, record { windows = λ v h. cc; once = (opening_urgent plans border inner outer).once })
