-- The configuration: its lines in their order, and the plan and the bindings that they give.
use Rattle.std.specs.Prelude.{◌≡◌, ℕ, ◌+◌, ◌-◌, nat_le, if◌then◌else◌, List, [], ◌∷◌, Option, None, Some, Result, Ok, Err, codes, length, pos}
use Rattle.std.specs.Str.{is_utf8}
use Rattle.wm_base.specs.declared.errors.Limit.TheVariants as limits
use Rattle.wm_base.specs.declared.plan.OutputPlan.{OutputPlan}
use Rattle.wm_layouts.specs.declared.plan.Env.{Env}
use Rattle.wm_layouts.specs.declared.plan.Plan.{Plan}
use Rattle.wm_fields.specs.Fields.{rect_of, size_of}
use Rattle.wm_fields.specs.Fields.{output_of}
use Rattle.wm_fields.specs.Split.{lines_of}
use Rattle.wm_binds.specs.Blocks.{at_top, blank_draft, in_bar, in_mode}
use Rattle.wm_binds.specs.Lines.{entry_of}
use Rattle.wm_binds.specs.Naming.{longest, replaced, set_at, set_line}
use Rattle.wm_binds.specs.declared.config.Config.{Config}
use Rattle.wm_binds.specs.declared.config.ConfigRefusal.{ConfigRefusal}
use Rattle.wm_binds.specs.declared.config.ConfigRefusal.TheVariants as refusals
use Rattle.wm_binds.specs.declared.draft.Block.{Block}
use Rattle.wm_binds.specs.declared.draft.Block.TheVariants as block
use Rattle.wm_binds.specs.declared.draft.Draft.{Draft}
use Rattle.wm_binds.specs.declared.draft.LineRefusal.{LineRefusal}
use Rattle.wm_binds.specs.declared.draft.LineRefusal.TheVariants as faults
use Rattle.wm_binds.specs.declared.naming.Name.{Name}
use Rattle.wm_binds.specs.declared.entry.Entry.{Entry}

-- ---- one line

-- a line of the grammar does its part; one outside it is refused
abbrev pub or_outside : {A B : Type 0} → Option A → (A → Result B LineRefusal) → Result B LineRefusal
or_outside None f = Err faults.Outside
or_outside (Some x) f = f x

-- a text is read where there is room for it, and takes that room; one for which there is none is outside
abbrev pub read_in : {A : Type 0} → Draft → List ℕ → (Draft → Result A LineRefusal) → Result A LineRefusal
read_in draft text go = if nat_le (length text) draft.room then go (record draft { room = draft.room - length text }) else Err faults.Outside

-- what a line that sets no name adds, in the block in which it stands
abbrev pub entered : Draft → Block → Entry → Result Draft LineRefusal
entered draft block.Top entry = at_top draft entry
entered draft (block.Mode name) entry = in_mode draft name entry
entered draft block.Bar entry = Ok draft

-- names stand at the top alone; of a line that sets one its value is read
abbrev pub names_after : List Name → Draft → Block → List ℕ → Result (List Name × Draft) LineRefusal
names_after names draft block.Top text = or_outside (set_at (longest names) text) (λ n. read_in draft n.value (λ d. Ok (n ∷ names, d)))
names_after names draft other text = Err faults.Outside

abbrev pub with_draft : {N : Type 0} → N → Result Draft LineRefusal → Result (N × Draft) LineRefusal
with_draft names (Ok draft) = Ok (names, draft)
with_draft names (Err e) = Err e

-- a line outside blocks of bars: it sets a name, or its own names are replaced and it says something
abbrev pub set_or_entered : List Name → Draft → List ℕ → Option (List ℕ) → Result (List Name × Draft) LineRefusal
set_or_entered names draft text None = with_draft names (read_in draft (replaced (longest names) text) (λ d. or_outside (entry_of (replaced (longest names) text)) (entered d d.block)))
set_or_entered names draft text (Some rest) = names_after names draft draft.block rest

-- the names and the draft after a line that is UTF-8
abbrev pub after_text : List Name → Draft → Block → List ℕ → Result (List Name × Draft) LineRefusal
after_text names draft block.Bar text = Ok (names, in_bar draft text)
after_text names draft other text = set_or_entered names draft text (set_line text)

-- the names and the draft after a line
abbrev pub after_line : List Name → Draft → List ℕ → Result (List Name × Draft) LineRefusal
after_line names draft text = if is_utf8 text then after_text names draft draft.block text else Err faults.Outside

-- ---- all lines

-- the refusal of the line of this number
abbrev pub refusal_at : ℕ → LineRefusal → ConfigRefusal
refusal_at line faults.Outside = refusals.BadLine line
refusal_at line faults.Full = refusals.Full line limits.Outputs
refusal_at line faults.NoMemory = refusals.NoMemory

-- where the text ends no block is open; where one is, the last line is outside
abbrev pub at_end : ℕ → Draft → Block → Result Draft ConfigRefusal
at_end last draft block.Top = Ok draft
at_end last draft other = Err (refusals.BadLine last)

abbrev pub go_on : {N : Type 0} → ℕ → Result (N × Draft) LineRefusal → (N → Draft → Result Draft ConfigRefusal) → Result Draft ConfigRefusal
go_on line (Ok after) rest = rest after.0 after.1
go_on line (Err e) rest = Err (refusal_at line e)

-- what is read of texts behind so many lines, which set these names and gave this draft; or the refusal of the first of them that has one
abbrev pub read_from : ℕ → List Name → Draft → List (List ℕ) → Result Draft ConfigRefusal
read_from count names draft [] = at_end count draft draft.block
read_from count names draft (text ∷ texts) = go_on (count + 1) (after_line names draft text) (λ names draft. read_from (count + 1) names draft texts)

-- ---- the configuration

-- without an output of its own: DP-1 of 1920x1080 at 0,0
abbrev pub or_one_output : List OutputPlan → List OutputPlan
or_one_output [] = output_of (codes "DP-1") (rect_of (pos 0) (pos 0) (size_of 1920 1080)) ∷ []
or_one_output (o ∷ outputs) = o ∷ outputs

abbrev pub env_of : Draft → Env
env_of draft = record { modes = draft.modes; layouts = draft.layouts; homes = draft.homes }

abbrev pub plan_of : List ℕ → Draft → Plan
plan_of text draft = record {
  outputs = or_one_output draft.outputs;
  border = draft.border;
  inner = draft.inner;
  outer = draft.outer;
  env = env_of draft;
  config = text;
}

abbrev pub config_of : List ℕ → Draft → Config
config_of text draft = record { plan = plan_of text draft; binds = draft.binds }

abbrev pub finished : List ℕ → Result Draft ConfigRefusal → Result Config ConfigRefusal
finished text (Ok draft) = Ok (config_of text draft)
finished text (Err e) = Err e

-- the configuration that a text is, or the refusal of its first line that has one
abbrev pub config : List ℕ → Result Config ConfigRefusal
config text = finished text (read_from 0 [] blank_draft (lines_of text))

-- what was read is what the definition reads, or want of memory
abbrev pub IsRead : {A : Type 0} → Result A ConfigRefusal → Result A ConfigRefusal → Type 0
IsRead d (Ok x) = d ≡ Ok x
IsRead d (Err e) = (e ≡ refusals.NoMemory → ⊥) → d ≡ Err e
