-- What lines of a script do on a desk, and what is written for them.
use Rattle.std.specs.Prelude.{ℕ, Bool, ◌&&◌, if◌then◌else◌, List, [], ◌∷◌, ◌++◌, length, Option, None, Some, Result, Ok, Err, codes}
use Rattle.std.specs.List.{flat_map}
use Rattle.std.specs.Str.{bytes_eq}
use Rattle.wm_binds.specs.declared.config.Bind.{Bind}
use Rattle.wm_history.specs.Act.{Act, CommandText, KeyChoice, act_of}
use Rattle.wm_history.specs.Act as acts
use Rattle.wm_history.specs.Frame.{frame}
use Rattle.wm_history.specs.History.{Entry, History, Start, answer, mode, opening_of}
use Rattle.wm_history.specs.Look.{look}
use Rattle.wm_history.specs.declared.look.Query.{Query}
use Rattle.wm_history.specs.declared.look.View.{View}
use Rattle.wm_history.specs.declared.look.View.TheVariants as view
use Rattle.wm_history.specs.declared.step.Step.{Step}
use Rattle.wm_history.specs.declared.step.Step.TheVariants as step
use Rattle.wm_grammar.specs.Reading.{batch_of}
use Rattle.wm_lines.specs.Told.{answer_text, want_text}
use Rattle.wm_paint.specs.FrameText.{frame_text, new_line}
use Rattle.wm_script.specs.Lines.{or}
use Rattle.wm_script.specs.Refusals.{refusal_at, verdict_by}
use Rattle.wm_script.specs.Script.{script}
use Rattle.wm_script.specs.declared.line.Deed.{Deed}
use Rattle.wm_script.specs.declared.line.Deed.TheVariants as deed
use Rattle.wm_script.specs.declared.line.Line.{Line}
use Rattle.wm_script.specs.declared.refused.Refused.{Refused}
use Rattle.wm_script.specs.declared.script.Script.{Script}
use Rattle.wm_talk.specs.Told.{view_json}

-- ---- steps

-- a step of the caller of this number
abbrev pub entry_of : ℕ → Act → Entry
entry_of who act = record { who = who; act = act }

-- a text as it counts in a history, where this pattern of it was refused, or none
abbrev pub text_with : Option ℕ → List ℕ → CommandText
text_with refusal text = record { text = text; verdict = verdict_by (batch_of text) refusal text }

-- the step of a caller that runs a text
abbrev pub run_with : ℕ → Option ℕ → List ℕ → Entry
run_with who refusal text = entry_of who (acts.Run (text_with refusal text))

-- a binding is of this mode and this chord
abbrev pub is_of : List ℕ → List ℕ → Bind → Bool
is_of mode chord b = bytes_eq b.mode mode && bytes_eq b.chord chord

abbrev pub where_of : List ℕ → List ℕ → Bind → Option Bind
where_of mode chord b = if is_of mode chord b then Some b else None

-- the last binding of the chord in the mode
abbrev pub last_bind : List ℕ → List ℕ → List Bind → Option Bind
last_bind mode chord [] = None
last_bind mode chord (b ∷ binds) = or (last_bind mode chord binds) (where_of mode chord b)

-- what a key does in a mode: it runs the text of a binding, where there is one
abbrev pub choices_with : Option ℕ → Option Bind → List KeyChoice
choices_with refusal None = []
choices_with refusal (Some b) = record { mode = b.mode; text = text_with refusal b.text } ∷ []

-- the step of a caller that presses a chord in a mode
abbrev pub key_with : List Bind → ℕ → Option ℕ → List ℕ → List ℕ → Entry
key_with binds who refusal mode chord = entry_of who (acts.Key chord (choices_with refusal (last_bind mode chord binds)))

-- what a step says to the history; the text that a window brings is prepared anew
abbrev pub act_with : Option ℕ → Step → Act
act_with refusal (step.Map props buffer (Some p)) = acts.Map props buffer (Some (text_with refusal p.text))
act_with refusal other = act_of other

-- ---- what comes of a line

-- it takes a step, paints the frame, or shows a caller something
pub data Effect : Type 0 where
  Takes : Entry → Effect
  Paints : Effect
  Looks : ℕ → Query → Effect

-- what comes of what a caller does after a history, where this pattern of its text was refused, or none
abbrev pub effect_with : Start → List Bind → ℕ → Option ℕ → History → Deed → Effect
effect_with start binds who refusal history (deed.Run text) = Takes (run_with who refusal text)
effect_with start binds who refusal history (deed.Do s) = Takes (entry_of who (act_with refusal s))
effect_with start binds who refusal history (deed.Key chord) = Takes (key_with binds who refusal (mode start history) chord)
effect_with start binds who refusal history deed.Paint = Paints
effect_with start binds who refusal history (deed.Look q) = Looks who q

abbrev pub after_effect : Effect → History → History
after_effect (Takes entry) history = entry ∷ history
after_effect Paints history = history
after_effect (Looks who q) history = history

-- the lines that tell a view
abbrev pub view_text : View → List ℕ
view_text (view.Wants wants) = flat_map want_text wants ++ (codes "end" ++ new_line)
view_text other = view_json other ++ new_line

-- the answer of a step, the frame, or what the caller sees
abbrev pub effect_text : Start → History → Effect → List ℕ
effect_text start history (Takes entry) = answer_text (answer start history entry)
effect_text start history Paints = frame_text (frame start history)
effect_text start history (Looks who q) = view_text (look start history who q)

-- ---- the text that a line runs

abbrev pub text_of_step : Step → Option (List ℕ)
text_of_step (step.Map props buffer (Some p)) = Some p.text
text_of_step other = None

-- the text of a binding
abbrev pub bound_text : Option Bind → Option (List ℕ)
bound_text None = None
bound_text (Some b) = Some b.text

-- the text that is prepared for what a caller does after a history
abbrev pub text_run : Start → List Bind → History → Deed → Option (List ℕ)
text_run start binds history (deed.Run text) = Some text
text_run start binds history (deed.Do s) = text_of_step s
text_run start binds history (deed.Key chord) = bound_text (last_bind (mode start history) chord binds)
text_run start binds history deed.Paint = None
text_run start binds history (deed.Look q) = None

-- how many steps it takes: one or none
abbrev pub steps_of : Deed → ℕ
steps_of (deed.Run text) = 1
steps_of (deed.Do s) = 1
steps_of (deed.Key chord) = 1
steps_of deed.Paint = 0
steps_of (deed.Look q) = 0

-- the steps that it takes, each with the text that it runs, where it runs one
abbrev pub texts_run : Start → List Bind → History → Deed → List (Option (List ℕ))
texts_run start binds history (deed.Run text) = Some text ∷ []
texts_run start binds history (deed.Do s) = text_of_step s ∷ []
texts_run start binds history (deed.Key chord) = bound_text (last_bind (mode start history) chord binds) ∷ []
texts_run start binds history deed.Paint = []
texts_run start binds history (deed.Look q) = []

-- ---- one line after another

-- what comes of a line after a history, given which patterns were refused
abbrev pub effect_of : Start → List Bind → Line → List Refused → History → Effect
effect_of start binds l refused history = effect_with start binds l.who (refusal_at (length history) refused) history l.deed

-- the history after a line
abbrev pub after : Start → List Bind → Line → List Refused → History → History
after start binds l refused history = after_effect (effect_of start binds l refused history) history

-- what a line tells after a history
abbrev pub told : Start → List Bind → Line → List Refused → History → List ℕ
told start binds l refused history = effect_text start history (effect_of start binds l refused history)

-- what is written for the lines after a history, given which patterns were refused
abbrev pub out_from : Start → List Bind → List Line → List Refused → History → List ℕ
out_from start binds [] refused history = []
out_from start binds (l ∷ lines) refused history = told start binds l refused history ++ out_from start binds lines refused (after start binds l refused history)

-- the history that lines leave after one
abbrev pub history_from : Start → List Bind → List Line → List Refused → History → History
history_from start binds [] refused history = history
history_from start binds (l ∷ lines) refused history = history_from start binds lines refused (after start binds l refused history)

-- the steps of lines after a history, each with the text that it runs, where it runs one
abbrev pub texts_from : Start → List Bind → List Line → List Refused → History → List (Option (List ℕ))
texts_from start binds [] refused history = []
texts_from start binds (l ∷ lines) refused history = texts_run start binds history l.deed ++ texts_from start binds lines refused (after start binds l refused history)

-- ---- a script

abbrev pub script_out : Script → List Refused → List ℕ
script_out s refused = out_from (opening_of s.plan) s.binds s.lines refused []

-- the steps of a script, each with the text that it runs, where it runs one
abbrev pub script_texts : Script → List Refused → List (Option (List ℕ))
script_texts s refused = texts_from (opening_of s.plan) s.binds s.lines refused []

-- what is written for the bytes of a script; nothing where a line is outside the grammar
abbrev pub out_of : Result Script ℕ → List Refused → List ℕ
out_of (Ok s) refused = script_out s refused
out_of (Err line) refused = []

abbrev pub out : List ℕ → List Refused → List ℕ
out bytes refused = out_of (script bytes) refused

abbrev pub texts_of : Result Script ℕ → List Refused → List (Option (List ℕ))
texts_of (Ok s) refused = script_texts s refused
texts_of (Err line) refused = []

-- the steps of the bytes of a script, each with the text that it runs, where it runs one
abbrev pub texts_in : List ℕ → List Refused → List (Option (List ℕ))
texts_in bytes refused = texts_of (script bytes) refused
