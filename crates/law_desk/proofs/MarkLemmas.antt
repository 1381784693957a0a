-- No mark is there twice, and each urgent id, and all that floats, is a window, after each history.
use Rattle.std.proofs.Common.{List}
use Rattle.wm_history.specs.History.{Entry, opening_of, tree}
use Rattle.law_desk.proofs.LastingLemmas.{has_history}
use Rattle.law_desk.proofs.NamingLemmas.{sound}
use Rattle.law_lasting.proofs.LastTexts.{HasLast}
use Rattle.law_marks.proofs.AfloatLast.{AllRight, afloat_last, opening_right}
use Rattle.law_marks.proofs.AfloatRows.{float_back}
use Rattle.law_marks.proofs.MarksLast.{marks_last, opening_differs}
use Rattle.law_marks.proofs.UrgentFacts.{Urgents, back}
use Rattle.law_marks.proofs.UrgentLast.{opening_urgent, urgent_last}
use Rattle.law_marks.specs.Afloat.{WindowsFloat}
use Rattle.law_marks.specs.Marks.{MarksDiffer}
use Rattle.law_marks.specs.Urgent.{UrgentAreWindows}
use Rattle.wm_layouts.specs.declared.plan.Plan.{Plan}
use Rattle.wm_layouts.specs.Plan.{IsSound as IsSoundPlan}

pub marks_apart : (plan : Plan) (history : List Entry) → IsSoundPlan plan → MarksDiffer (tree (opening_of plan) history)
marks_apart plan history p =
    let first : MarksDiffer (opening_of plan).opened = opening_differs plan.outputs plan.border plan.inner plan.outer in
    let last : HasLast MarksDiffer (tree (opening_of plan) history) = has_history marks_last (opening_of plan) history (record { sound = sound plan p; held = first }) in
    last.held

pub urgent_windows : (plan : Plan) (history : List Entry) → IsSoundPlan plan → UrgentAreWindows (tree (opening_of plan) history)
urgent_windows plan history p =
    let first : Urgents (opening_of plan).opened = opening_urgent plan.outputs plan.border plan.inner plan.outer in
    let last : HasLast Urgents (tree (opening_of plan) history) = has_history urgent_last (opening_of plan) history (record { sound = sound plan p; held = first }) in
    (back (tree (opening_of plan) history) last.sound last.held).1

pub windows_afloat : (plan : Plan) (history : List Entry) → IsSoundPlan plan → WindowsFloat (tree (opening_of plan) history)
windows_afloat plan history p =
    let first : AllRight (opening_of plan).opened = opening_right plan.outputs plan.border plan.inner plan.outer in
    let last : HasLast AllRight (tree (opening_of plan) history) = has_history afloat_last (opening_of plan) history (record { sound = sound plan p; held = first }) in
    float_back (tree (opening_of plan) history) last.sound last.held
