-- Which readings the first word of a caller's line leaves.
use Rattle.std.proofs.Common.{◌≡◌, ◌∙◌, refl, ap, sym, subst, arith, false, ℕ, List, [], ◌++◌, None, codes}
use Rattle.std.specs.Option.{option_map}
use Rattle.wm_history.specs.declared.client.ClientStep.TheVariants.{Ack, Buffer as Give, Deadline}
use Rattle.wm_history.specs.declared.look.Query.TheVariants as query
use Rattle.wm_history.specs.declared.step.Step.{Step}
use Rattle.wm_history.specs.declared.step.Step.TheVariants.{Map, Retitle, Urgent, Close, Gone, Client, Tick, OutputAdd, OutputRemove, Reserve}
use Rattle.wm_fields.specs.Fields.{behind, word_then}
use Rattle.wm_lines.specs.Lines.{step_line_of}
use Rattle.wm_script.specs.Lines.{deed_of, plan_line_of, says_nothing}
use Rattle.wm_script.specs.declared.line.Deed.{Deed}
use Rattle.wm_script.specs.declared.line.Deed.TheVariants.{Run, Do, Key, Paint, Look}
use Rattle.law_script.proofs.WordLemmas.{Starts}
use Rattle.law_script.specs.Deeds.{SaysDeed}
use Rattle.law_script.specs.Steps.{SaysStep}

-- ---- the first word of a line that takes a step

data StepWord : Type 0 where
  Maps Titles Urges Closes Goes Acks Buffers Times Adds Removes Reserves Ticks : StepWord

abbrev step_word : StepWord → List ℕ
step_word Maps = codes "map"
step_word Titles = codes "title"
step_word Urges = codes "urgent"
step_word Closes = codes "close"
step_word Goes = codes "gone"
step_word Acks = codes "ack"
step_word Buffers = codes "buffer"
step_word Times = codes "deadline"
step_word Adds = codes "output-add"
step_word Removes = codes "output-remove"
step_word Reserves = codes "reserve"
step_word Ticks = codes "tick"

record BeginsStep (text : List ℕ) : Type 0 where
  pub word : StepWord
  pub rest : List ℕ
  pub whole : text ≡ step_word word ++ rest

step_begins : (text : List ℕ) (step : Step) → SaysStep text step → BeginsStep text
step_begins text (Map props buffer None) says = record { word = Maps; rest = says.words.gap ++ says.words.later; whole = says.words.whole }
step_begins text (Retitle con title) says = record { word = Titles; rest = says.words.gap ++ says.words.later; whole = says.words.whole }
step_begins text (Urgent con on) says = record { word = Urges; rest = says.words.gap ++ says.words.later; whole = says.words.whole }
step_begins text (Close con) says = record { word = Closes; rest = says.words.gap ++ says.words.later; whole = says.words.whole }
step_begins text Gone says = record { word = Goes; rest = []; whole = says }
step_begins text (Client (Ack con serial)) says = record { word = Acks; rest = says.words.gap ++ says.words.later; whole = says.words.whole }
step_begins text (Client (Give con buffer)) says = record { word = Buffers; rest = says.words.gap ++ says.words.later; whole = says.words.whole }
step_begins text (Client (Deadline number)) says = record { word = Times; rest = says.words.gap ++ says.words.later; whole = says.words.whole }
step_begins text (OutputAdd o) says = record { word = Adds; rest = says.words.gap ++ says.words.later; whole = says.words.whole }
step_begins text (OutputRemove name) says = record { word = Removes; rest = says.words.gap ++ says.words.later; whole = says.words.whole }
step_begins text (Reserve name edges) says = record { word = Reserves; rest = says.words.gap ++ says.words.later; whole = says.words.whole }
step_begins text (Tick said) says = record { word = Ticks; rest = says.words.gap ++ says.words.later; whole = says.words.whole }
step_begins text other says = absurd says

step_deed : (word : StepWord) (rest : List ℕ) → deed_of (step_word word ++ rest) ≡ option_map Do (step_line_of (step_word word ++ rest))
step_deed Maps rest = refl
step_deed Titles rest = refl
step_deed Urges rest = refl
step_deed Closes rest = refl
step_deed Goes rest = refl
step_deed Acks rest = refl
step_deed Buffers rest = refl
step_deed Times rest = refl
step_deed Adds rest = refl
step_deed Removes rest = refl
step_deed Reserves rest = refl
step_deed Ticks rest = refl

-- a line that takes a step does nothing else
pub deed_is_step : (text : List ℕ) (step : Step) → SaysStep text step → deed_of text ≡ option_map Do (step_line_of text)
deed_is_step text step says =
    let begins : BeginsStep text = step_begins text step says in
    ap deed_of begins.whole ∙ (step_deed begins.word begins.rest ∙ sym (ap (λ t. option_map Do (step_line_of t)) begins.whole))

-- ---- the first word of what a caller does

data DeedWord : Type 0 where
  Steps : StepWord → DeedWord
  Runs Keys Paints Trees Spaces Outs Marks Wants : DeedWord

abbrev deed_word : DeedWord → List ℕ
deed_word (Steps word) = step_word word
deed_word Runs = codes "run"
deed_word Keys = codes "key"
deed_word Paints = codes "paint"
deed_word Trees = codes "tree"
deed_word Spaces = codes "workspaces"
deed_word Outs = codes "outputs"
deed_word Marks = codes "marks"
deed_word Wants = codes "wants"

record BeginsDeed (text : List ℕ) : Type 0 where
  pub word : DeedWord
  pub rest : List ℕ
  pub whole : text ≡ deed_word word ++ rest

deed_begins : (text : List ℕ) (deed : Deed) → SaysDeed text deed → BeginsDeed text
deed_begins text (Run commands) says = record { word = Runs; rest = says.words.gap ++ says.words.later; whole = says.words.whole }
deed_begins text (Do step) says = let begins : BeginsStep text = step_begins text step says in record { word = Steps begins.word; rest = begins.rest; whole = begins.whole }
deed_begins text (Key chord) says = record { word = Keys; rest = says.words.gap ++ says.words.later; whole = says.words.whole }
deed_begins text Paint says = record { word = Paints; rest = []; whole = says }
deed_begins text (Look query.Tree) says = record { word = Trees; rest = []; whole = says }
deed_begins text (Look query.Workspaces) says = record { word = Spaces; rest = []; whole = says }
deed_begins text (Look query.Outputs) says = record { word = Outs; rest = []; whole = says }
deed_begins text (Look query.Marks) says = record { word = Marks; rest = []; whole = says }
deed_begins text (Look (query.Wants serial kill)) says = record { word = Wants; rest = says.words.gap ++ says.words.later; whole = says.words.whole }
deed_begins text other says = absurd says

-- it is no line of another kind
pub record IsDeedText (text : List ℕ) : Type 0 where
  pub version : word_then (codes "version") text ≡ None
  pub who : behind (codes "@") text ≡ None
  pub plan : plan_line_of text ≡ None
  pub something : says_nothing text ≡ false
  pub starts : Starts text

deed_text : (word : DeedWord) (rest : List ℕ) → IsDeedText (deed_word word ++ rest)
deed_text (Steps Maps) rest = record { version = refl; who = refl; plan = refl; something = refl; starts = λ e. absurd (omega (arith, e)) }
deed_text (Steps Titles) rest = record { version = refl; who = refl; plan = refl; something = refl; starts = λ e. absurd (omega (arith, e)) }
deed_text (Steps Urges) rest = record { version = refl; who = refl; plan = refl; something = refl; starts = λ e. absurd (omega (arith, e)) }
deed_text (Steps Closes) rest = record { version = refl; who = refl; plan = refl; something = refl; starts = λ e. absurd (omega (arith, e)) }
deed_text (Steps Goes) rest = record { version = refl; who = refl; plan = refl; something = refl; starts = λ e. absurd (omega (arith, e)) }
deed_text (Steps Acks) rest = record { version = refl; who = refl; plan = refl; something = refl; starts = λ e. absurd (omega (arith, e)) }
deed_text (Steps Buffers) rest = record { version = refl; who = refl; plan = refl; something = refl; starts = λ e. absurd (omega (arith, e)) }
deed_text (Steps Times) rest = record { version = refl; who = refl; plan = refl; something = refl; starts = λ e. absurd (omega (arith, e)) }
deed_text (Steps Adds) rest = record { version = refl; who = refl; plan = refl; something = refl; starts = λ e. absurd (omega (arith, e)) }
deed_text (Steps Removes) rest = record { version = refl; who = refl; plan = refl; something = refl; starts = λ e. absurd (omega (arith, e)) }
deed_text (Steps Reserves) rest = record { version = refl; who = refl; plan = refl; something = refl; starts = λ e. absurd (omega (arith, e)) }
deed_text (Steps Ticks) rest = record { version = refl; who = refl; plan = refl; something = refl; starts = λ e. absurd (omega (arith, e)) }
deed_text Runs rest = record { version = refl; who = refl; plan = refl; something = refl; starts = λ e. absurd (omega (arith, e)) }
deed_text Keys rest = record { version = refl; who = refl; plan = refl; something = refl; starts = λ e. absurd (omega (arith, e)) }
deed_text Paints rest = record { version = refl; who = refl; plan = refl; something = refl; starts = λ e. absurd (omega (arith, e)) }
deed_text Trees rest = record { version = refl; who = refl; plan = refl; something = refl; starts = λ e. absurd (omega (arith, e)) }
deed_text Spaces rest = record { version = refl; who = refl; plan = refl; something = refl; starts = λ e. absurd (omega (arith, e)) }
deed_text Outs rest = record { version = refl; who = refl; plan = refl; something = refl; starts = λ e. absurd (omega (arith, e)) }
deed_text Marks rest = record { version = refl; who = refl; plan = refl; something = refl; starts = λ e. absurd (omega (arith, e)) }
deed_text Wants rest = record { version = refl; who = refl; plan = refl; something = refl; starts = λ e. absurd (omega (arith, e)) }

-- what a caller does is told by no line of another kind
pub deed_alone : (text : List ℕ) (deed : Deed) → SaysDeed text deed → IsDeedText text
deed_alone text deed says =
    let begins : BeginsDeed text = deed_begins text deed says in
    subst IsDeedText (sym begins.whole) (deed_text begins.word begins.rest)
