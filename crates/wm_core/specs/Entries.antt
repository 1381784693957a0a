-- Steps as they stand in a history that a desk shares with a turnstile.
use Rattle.std.specs.Prelude.{List, map, Option, None, Some}
use Rattle.std.proofs.lemmas.Option.{none-some}
use Rattle.wm_criteria.specs.declared.prepared.Prepared.{Prepared}
use Rattle.wm_history.specs.Act.{act_of}
use Rattle.wm_history.specs.History as desk
use Rattle.wm_history.specs.declared.step.Choice.{Choice}
use Rattle.wm_history.specs.declared.step.Step.{Step}
use Rattle.wm_history.specs.declared.step.Step.TheVariants as step
use Rattle.wm_turn.specs.declared.view.Entry.{Entry}

-- a prepared text without its built patterns
abbrev pub bare : Prepared → Prepared
bare p = record { text = p.text; verdict = p.verdict; forms = None; meant = p.meant; fitting = λ forms none. absurd (none-some forms none) }

abbrev pub bare_if_some : Option Prepared → Option Prepared
bare_if_some None = None
bare_if_some (Some p) = Some (bare p)

abbrev pub bare_choice : Choice → Choice
bare_choice choice = record { mode = choice.mode; prepared = bare choice.prepared }

-- the form in which a step counts in a history: its texts have no built patterns
abbrev pub bare_step : Step → Step
bare_step (step.Run p) = step.Run (bare p)
bare_step (step.Map props buffer then) = step.Map props buffer (bare_if_some then)
bare_step (step.Key chord choices) = step.Key chord (map bare_choice choices)
bare_step other = other

-- an entry as the desk counts it
abbrev pub desk_entry : Entry Step → desk.Entry
desk_entry entry = record { who = entry.who; act = act_of entry.step }

-- the history that entries give
abbrev pub history_of : List (Entry Step) → desk.History
history_of entries = map desk_entry entries
