-- The names of workspaces and of outputs differ after each history.
use Rattle.std.proofs.Common.{List, refl}
use Rattle.wm_core.proofs.OpeningLemmas.{fit_plans}
use Rattle.wm_history.specs.History.{Entry, opening_of, tree}
use Rattle.law_desk.proofs.LastingLemmas.{has_history}
use Rattle.law_lasting.proofs.FreeNames.{spaces_called}
use Rattle.law_lasting.proofs.LastTexts.{HasLast}
use Rattle.law_names.proofs.LastCounts.{AtMostOne}
use Rattle.law_names.proofs.OutputNames as outputs
use Rattle.law_names.proofs.SpaceNames as spaces
use Rattle.law_workspaces.specs.Added.{OutputNamesDiffer}
use Rattle.law_workspaces.specs.Renamed.{SpaceNamesDiffer}
use Rattle.wm_layouts.specs.declared.plan.Plan.{Plan}
use Rattle.wm_layouts.specs.Plan.{IsSound as IsSoundPlan}
use Rattle.wm_tree.proofs.StartLemmas.{sound-opening}
use Rattle.wm_tree.specs.Sound.{IsSound}

pub sound : (plan : Plan) → IsSoundPlan plan → IsSound (opening_of plan).opened
sound plan p = sound-opening plan.outputs plan.border plan.inner plan.outer p.some p.few (fit_plans plan.outputs plan.outputs refl p.fit)

pub space_names : (plan : Plan) (history : List Entry) → IsSoundPlan plan → SpaceNamesDiffer (tree (opening_of plan) history)
space_names plan history p =
    let s : IsSound (opening_of plan).opened = sound plan p in
    let first : AtMostOne spaces_called (opening_of plan).opened = spaces.once_of (opening_of plan).opened s (spaces.opening_differs plan.outputs plan.border plan.inner plan.outer) in
    let last : HasLast (AtMostOne spaces_called) (tree (opening_of plan) history) = has_history spaces.spaces_last (opening_of plan) history (record { sound = s; held = first }) in
    spaces.differ_of (tree (opening_of plan) history) last.held

pub output_names : (plan : Plan) (history : List Entry) → IsSoundPlan plan → OutputNamesDiffer (tree (opening_of plan) history)
output_names plan history p =
    let s : IsSound (opening_of plan).opened = sound plan p in
    let first : AtMostOne outputs.outputs_called (opening_of plan).opened = outputs.once_of (opening_of plan).opened s (outputs.opening_differs plan.outputs plan.border plan.inner plan.outer p.names) in
    let last : HasLast (AtMostOne outputs.outputs_called) (tree (opening_of plan) history) = has_history outputs.outputs_last (opening_of plan) history (record { sound = s; held = first }) in
    outputs.differ_of (tree (opening_of plan) history) last.sound last.held
