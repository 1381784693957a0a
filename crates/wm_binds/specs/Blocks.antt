-- What a line adds to what was read before it: at the top, in a block of a mode, and in one of a bar.
use Rattle.std.specs.Prelude.{◌≡◌, nat_lt, if◌then◌else◌, ℕ, List, [], ◌∷◌, ◌++◌, length, Result, Ok, Err, codes}
use Rattle.std.specs.List.{list_any}
use Rattle.std.specs.Str.{bytes_eq}
use Rattle.wm_base.specs.declared.plan.Border.TheVariants as border
use Rattle.wm_base.specs.declared.plan.OutputPlan.{OutputPlan}
use Rattle.wm_layouts.specs.Plan.{is_taken}
use Rattle.wm_binds.specs.Binds.{bind_of, with_bind}
use Rattle.wm_binds.specs.Words.{past_blanks}
use Rattle.wm_binds.specs.declared.draft.Block.{Block}
use Rattle.wm_binds.specs.declared.draft.Block.TheVariants as block
use Rattle.wm_binds.specs.declared.draft.Draft.{Draft}
use Rattle.wm_binds.specs.declared.draft.LineRefusal.{LineRefusal}
use Rattle.wm_binds.specs.declared.draft.LineRefusal.TheVariants.{Outside, Full, NoMemory}
use Rattle.wm_binds.specs.declared.entry.Entry.{Entry}
use Rattle.wm_binds.specs.declared.entry.Entry.TheVariants.{Nothing, Passed, Bar, Mode, Close, Key, Border, Inner, Outer, Home, Output, Layout}

-- before the first line: no outputs yet, a normal border of 2, no gaps, no modes, no homes, no layouts and no bindings, and room for
-- as many bytes as an input may have
abbrev pub blank_draft : Draft
blank_draft = record {
  outputs = [];
  border = border.Normal 2;
  inner = 0;
  outer = 0;
  modes = [];
  homes = [];
  layouts = [];
  binds = [];
  block = block.Top;
  room = 16777216;
}

abbrev pub default_mode : List ℕ
default_mode = codes "default"

-- a name comes last, unless it is there already
abbrev pub with_name : List ℕ → List (List ℕ) → List (List ℕ)
with_name name names = if list_any (bytes_eq name) names then names else names ++ name ∷ []

-- a mode is listed once, and the default one never
abbrev pub with_mode : List ℕ → List (List ℕ) → List (List ℕ)
with_mode name modes = if bytes_eq name default_mode then modes else with_name name modes

abbrev pub at_block : Draft → Block → Draft
at_block draft b = record draft { block = b }

abbrev pub bound : Draft → List ℕ → List ℕ → List ℕ → Draft
bound draft mode chord text = record draft { binds = with_bind (bind_of mode chord text) draft.binds }

-- there is this mode
abbrev pub listed : Draft → List ℕ → Draft
listed draft name = record draft { modes = with_mode name draft.modes }

-- the block of a mode begins
abbrev pub opened : Draft → List ℕ → Draft
opened draft name = at_block (listed draft name) (block.Mode name)

-- an output with a name of its own; a ninth one passes the limit
abbrev pub with_output : Draft → OutputPlan → Result Draft LineRefusal
with_output draft o =
    if is_taken o.name draft.outputs then Err Outside
    else if nat_lt (length draft.outputs) 8 then Ok (record draft { outputs = draft.outputs ++ o ∷ [] })
    else Err Full

-- a line at the top
abbrev pub at_top : Draft → Entry → Result Draft LineRefusal
at_top draft Nothing = Ok draft
at_top draft Passed = Ok draft
at_top draft Bar = Ok (at_block draft block.Bar)
at_top draft (Mode name) = Ok (opened draft name)
at_top draft Close = Err Outside
at_top draft (Key chord text) = Ok (bound draft default_mode chord text)
at_top draft (Border b) = Ok (record draft { border = b })
at_top draft (Inner n) = Ok (record draft { inner = n })
at_top draft (Outer n) = Ok (record draft { outer = n })
at_top draft (Home name output) = Ok (record draft { homes = draft.homes ++ (name, output) ∷ [] })
at_top draft (Output o) = with_output draft o
at_top draft (Layout name layout) = Ok (record draft { layouts = draft.layouts ++ (name, layout) ∷ [] })

-- a line in the block of a mode: bindings, lines that say nothing, and its end
abbrev pub in_mode : Draft → List ℕ → Entry → Result Draft LineRefusal
in_mode draft mode Nothing = Ok draft
in_mode draft mode (Key chord text) = Ok (bound draft mode chord text)
in_mode draft mode Close = Ok (at_block draft block.Top)
in_mode draft mode other = Err Outside

-- a line in the block of a bar: all are passed over up to its end
abbrev pub in_bar : Draft → List ℕ → Draft
in_bar draft text = if bytes_eq (past_blanks text) (codes "}") then at_block draft block.Top else draft

-- what was done is what the definition does, or want of memory
abbrev pub IsStep : Result Draft LineRefusal → Draft → Result Unit LineRefusal → Type 0
IsStep d new (Ok done) = d ≡ Ok new
IsStep d new (Err e) = (e ≡ NoMemory → ⊥) → d ≡ Err e
