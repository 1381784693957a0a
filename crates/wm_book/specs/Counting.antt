-- A step in the form of a history says the same, and as many entries stand in what they give.
use Rattle.std.specs.Prelude.{◌≡◌, List, [], ◌∷◌, Option, None, Some, length, map, refl}
use Rattle.std.proofs.Common.{◌∙◌, ap}
use Rattle.std.proofs.lemmas.List.{length-map}
use Rattle.wm_history.specs.Act.{Key, Map, act_of, choice_of, text_if_some}
use Rattle.wm_core.specs.DeskValue.{DeskValue, Stands}
use Rattle.wm_core.specs.Entries.{bare_choice, bare_if_some, bare_step, desk_entry, history_of}
use Rattle.wm_history.specs.declared.step.Choice.{Choice}
use Rattle.wm_history.specs.declared.step.Step.{Step}
use Rattle.wm_criteria.specs.declared.prepared.Prepared.{Prepared}
use Rattle.wm_history.specs.declared.step.Step.TheVariants as step
use Rattle.wm_turn.specs.declared.view.Entry.{Entry}

-- a text counts the same without its built patterns
text_form : (then : Option Prepared) → text_if_some (bare_if_some then) ≡ text_if_some then
text_form None = refl
text_form (Some p) = refl

choices_form : (choices : List Choice) → map choice_of (map bare_choice choices) ≡ map choice_of choices
choices_form [] = refl
choices_form (choice ∷ choices) = ap (λ cs. choice_of choice ∷ cs) (choices_form choices)

-- the form of a step says the same to the history
pub says_form : (s : Step) → act_of (bare_step s) ≡ act_of s
says_form (step.Run p) = refl
says_form (step.Map props buffer then) = ap (Map props buffer) (text_form then)
says_form (step.Close con) = refl
says_form (step.Retitle con title) = refl
says_form (step.Urgent con on) = refl
says_form step.Gone = refl
says_form (step.OutputAdd plan) = refl
says_form (step.OutputRemove name) = refl
says_form (step.Reserve name edges) = refl
says_form (step.Client s) = refl
says_form (step.Key chord choices) = ap (Key chord) (choices_form choices)
says_form (step.Tick payload) = refl

-- a desk has counted the entries
pub counts : (desk : DeskValue) (entries : List (Entry Step)) → Stands desk (history_of entries) → desk.steps ≡ length entries
counts desk entries s = s.counted ∙ length-map entries desk_entry
