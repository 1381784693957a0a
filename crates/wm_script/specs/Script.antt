-- The script: its lines in their order, and the plan, the bindings and the lines of callers that they give.
use Rattle.std.specs.Prelude.{◌≡◌, ℕ, ◌+◌, ◌&&◌, ◌||◌, ◌≤◌, Bool, true, false, is_some, if◌then◌else◌, List, [], ◌∷◌, ◌++◌, length, Option, None, Some, Result, Ok, Err}
use Rattle.std.specs.List.{AllByRecursion, list_any}
use Rattle.std.specs.Str.{bytes_eq}
use Rattle.wm_base.specs.declared.errors.NoMemory.{NoMemory}
use Rattle.wm_base.specs.declared.plan.Border.TheVariants as border
use Rattle.wm_base.specs.declared.plan.OutputPlan.{OutputPlan}
use Rattle.wm_binds.specs.Blocks.{blank_draft, bound, default_mode, listed, with_output}
use Rattle.wm_binds.specs.Fit.{IsFitDraft}
use Rattle.wm_binds.specs.declared.config.Bind.{Bind}
use Rattle.wm_binds.specs.declared.draft.Draft.{Draft}
use Rattle.wm_binds.specs.declared.draft.LineRefusal.{LineRefusal}
use Rattle.wm_fields.specs.Split.{lines_of}
use Rattle.wm_grammar.specs.Reading.{batch_of}
use Rattle.wm_layouts.specs.Plan.{IsSound, default_outputs}
use Rattle.wm_layouts.specs.declared.plan.Env.{Env}
use Rattle.wm_layouts.specs.declared.plan.Plan.{Plan}
use Rattle.wm_script.specs.Lines.{IsFitDeed, said_of}
use Rattle.wm_script.specs.declared.line.Line.{Line}
use Rattle.wm_script.specs.declared.reading.Reading.{Reading}
use Rattle.wm_script.specs.declared.said.Said.{Said}
use Rattle.wm_script.specs.declared.said.Said.TheVariants.{Nothing, Version, Output, Border, Inner, Outer, Mode, Bind as Binds, Layout, Does}
use Rattle.wm_script.specs.declared.script.Script.{Script}
use Rattle.wm_script.specs.declared.script.ScriptRefusal.{ScriptRefusal}
use Rattle.wm_script.specs.declared.script.ScriptRefusal.TheVariants as refusals

-- ---- the plan

-- before the first line: no borders, no gaps, and no outputs of its own
abbrev pub first_draft : Draft
first_draft = record blank_draft { border = border.Bare }

-- without an output of its own: DP-1 of 1000x800 at 0,0
abbrev pub or_standard : List OutputPlan → List OutputPlan
or_standard [] = default_outputs
or_standard (o ∷ outputs) = o ∷ outputs

abbrev pub env_of : Draft → Env
env_of draft = record { modes = draft.modes; layouts = draft.layouts; homes = draft.homes }

abbrev pub plan_of : Draft → Plan
plan_of draft = record {
  outputs = or_standard draft.outputs;
  border = draft.border;
  inner = draft.inner;
  outer = draft.outer;
  env = env_of draft;
  config = [];
}

-- ---- what a line adds to the plan

abbrev pub where_done : Result Draft LineRefusal → Option Draft
where_done (Ok draft) = Some draft
where_done (Err e) = None

-- the mode is the default one, or was listed before
abbrev pub is_mode : Draft → List ℕ → Bool
is_mode draft mode = bytes_eq mode default_mode || list_any (bytes_eq mode) draft.modes

-- a command that reads, in a mode that is there, is bound to the chord
abbrev pub bound_in : Draft → List ℕ → List ℕ → List ℕ → Option Draft
bound_in draft mode chord text = if is_mode draft mode && is_some (batch_of text) then Some (bound draft mode chord text) else None

-- what the lines gave the plan, with one more line of the plan, where that may be
abbrev pub drafted : Draft → Said → Option Draft
drafted draft (Output o) = where_done (with_output draft o)
drafted draft (Border b) = Some (record draft { border = b })
drafted draft (Inner n) = Some (record draft { inner = n })
drafted draft (Outer n) = Some (record draft { outer = n })
drafted draft (Mode name) = Some (listed draft name)
drafted draft (Binds mode chord text) = bound_in draft mode chord text
drafted draft (Layout name layout) = Some (record draft { layouts = draft.layouts ++ (name, layout) ∷ [] })
drafted draft other = None

-- ---- the order of lines

-- before the first line
abbrev pub at_first : Reading
at_first = record { opened = false; begun = false; draft = first_draft; lines = [] }

-- the plan with one more line, which stands before what callers do
abbrev pub planned : Reading → Option Draft → Option Reading
planned reading None = None
planned reading (Some draft) = if reading.begun then None else Some (record reading { opened = true; draft = draft })

-- what was read with one more line, where that may stand there: the version is the first that says something, and the plan comes before what callers do
abbrev pub with_said : Reading → Said → Option Reading
with_said reading Nothing = Some reading
with_said reading Version = if reading.opened then None else Some (record reading { opened = true })
with_said reading (Does line) = Some (record reading { opened = true; begun = true; lines = reading.lines ++ line ∷ [] })
with_said reading other = planned reading (drafted reading.draft other)

-- a line was taken where it may stand there, and else it was not
abbrev pub IsTaken : {A : Type 0} → Option A → A → Result Bool NoMemory → Type 0
IsTaken d new (Ok true) = d ≡ Some new
IsTaken d new (Ok false) = d ≡ None
IsTaken d new (Err e) = Unit {0}

abbrev pub with_text_said : Reading → Option Said → Option Reading
with_text_said reading None = None
with_text_said reading (Some said) = with_said reading said

-- what was read with a line of this text; None where the line is outside the grammar
abbrev pub with_text : Reading → List ℕ → Option Reading
with_text reading text = with_text_said reading (said_of text)

-- ---- the script

abbrev pub script_of : Reading → Script
script_of reading = record { plan = plan_of reading.draft; binds = reading.draft.binds; lines = reading.lines }

abbrev pub go_on : ℕ → Option Reading → (Reading → Result Script ℕ) → Result Script ℕ
go_on line None rest = Err line
go_on line (Some reading) rest = rest reading

-- what is read of texts behind so many lines, or the number of the first of them outside the grammar
abbrev pub script_from : ℕ → Reading → List (List ℕ) → Result Script ℕ
script_from count reading [] = Ok (script_of reading)
script_from count reading (text ∷ texts) = go_on (count + 1) (with_text reading text) (λ next. script_from (count + 1) next texts)

-- the script that bytes are, or the number of the first line outside the grammar, counted from 1
abbrev pub script : List ℕ → Result Script ℕ
script bytes = script_from 0 at_first (lines_of bytes)

-- why bytes are no script
abbrev pub IsRefused : List ℕ → ScriptRefusal → Type 0
IsRefused bytes (refusals.BadLine line) = script bytes ≡ Err line
IsRefused bytes refusals.NoMemory = Unit {0}

-- ---- limits

abbrev pub IsFitLine : Line → Type 0
IsFitLine line = IsFitDeed line.deed

abbrev pub IsFitBind : Bind → Type 0
IsFitBind bind = length bind.text ≤ 16777216

-- the plan is sound, and the texts and steps are within the limits
pub record IsFitScript (s : Script) : Type 0 where
  pub plan : IsSound s.plan
  pub binds : AllByRecursion IsFitBind s.binds
  pub lines : AllByRecursion IsFitLine s.lines

-- so it is of what was read so far
pub record IsFitReading (r : Reading) : Type 0 where
  pub draft : IsFitDraft r.draft
  pub binds : AllByRecursion IsFitBind r.draft.binds
  pub lines : AllByRecursion IsFitLine r.lines

-- ---- the first bad line

abbrev pub reading_on : Option Reading → (Reading → Option Reading) → Option Reading
reading_on None rest = None
reading_on (Some reading) rest = rest reading

-- what is read of texts; None where one is outside the grammar
abbrev pub reading_from : Reading → List (List ℕ) → Option Reading
reading_from reading [] = Some reading
reading_from reading (text ∷ texts) = reading_on (with_text reading text) (λ next. reading_from next texts)

-- the line of this number, counted from 1, is the first of these outside the grammar: those before it are a script, and behind
-- them it says nothing that may stand there
pub record IsFirstBad (texts : List (List ℕ)) (line : ℕ) : Type 0 where
  pub before : List (List ℕ)
  pub text : List ℕ
  pub later : List (List ℕ)
  pub whole : texts ≡ before ++ text ∷ later
  pub counted : line ≡ length before + 1
  pub reading : Reading
  pub said : reading_from at_first before ≡ Some reading
  pub bad : with_text reading text ≡ None

-- the fact, where a line was taken
abbrev pub OnTaken : Result Bool NoMemory → Type 0 → Type 0
OnTaken (Ok true) fact = fact
OnTaken (Ok false) fact = Unit {0}
OnTaken (Err e) fact = Unit {0}
