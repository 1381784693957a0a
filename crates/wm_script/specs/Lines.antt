-- What a line of a script says.
use Rattle.std.specs.Prelude.{ℕ, ◌==◌, nat_eq, ◌≤◌, ◌&&◌, ◌||◌, Bool, true, if◌then◌else◌, List, [], ◌∷◌, length, Option, None, Some, codes}
use Rattle.std.specs.List.{starts_with}
use Rattle.std.specs.Option.{option_map}
use Rattle.std.specs.Str.{is_utf8}
use Rattle.wm_base.specs.declared.plan.Border.TheVariants as border
use Rattle.wm_binds.specs.Fit.{IsFitLayout}
use Rattle.wm_binds.specs.Lines.{layout_of}
use Rattle.wm_binds.specs.Words.{text_of}
use Rattle.wm_history.specs.declared.look.Query.TheVariants as query
use Rattle.wm_fields.specs.Fields.{behind, gap_at, if_end, number_at, or_else, or_none, serial_at, word_then}
use Rattle.wm_fields.specs.Quoted.{name_at}
use Rattle.wm_layouts.specs.Plan.{IsFitBorder, IsFitOutput, is_fit_rect}
use Rattle.wm_lines.specs.Lines.{IsFitLine, output_at, step_line_of}
use Rattle.wm_script.specs.declared.line.Deed.{Deed}
use Rattle.wm_script.specs.declared.line.Deed.TheVariants.{Run, Do, Key, Paint, Look}
use Rattle.wm_script.specs.declared.line.Line.{Line}
use Rattle.wm_script.specs.declared.said.Said.{Said}
use Rattle.wm_script.specs.declared.said.Said.TheVariants.{Nothing, Version, Output, Border, Inner, Outer, Mode, Bind, Layout, Does}

-- one reading, or else another
abbrev pub or : {A : Type 0} → Option A → Option A → Option A
or None other = other
or (Some x) other = Some x

-- ---- the plan

-- an output of the plan, `NAME X,Y WxH`, whose rectangle is within the limits
abbrev pub planned_at : List ℕ → Option Said
planned_at text = or_none (output_at text) (λ o. if is_fit_rect o.rect then Some (Output o) else None)

-- a number of at most `most`, to the end of the line, of which something is said
abbrev pub sized : ℕ → (ℕ → Said) → List ℕ → Option Said
sized most said text = or_none (number_at most text) (λ n. if_end (said n.0) n.1)

-- the default border: `none`, or `pixel` or `normal` with a width of at most 64
abbrev pub border_at : List ℕ → Option Said
border_at text =
    or_else (word_then (codes "pixel") text) (sized 64 (λ n. Border (border.Pixel n)))
    (or_else (word_then (codes "normal") text) (sized 64 (λ n. Border (border.Normal n)))
    (or_else (behind (codes "none") text) (if_end (Border border.Bare)) None))

-- a default gap: `inner` or `outer` with a width of at most 1,000
abbrev pub gaps_at : List ℕ → Option Said
gaps_at text =
    or_else (word_then (codes "inner") text) (sized 1000 Inner)
    (or_else (word_then (codes "outer") text) (sized 1000 Outer) None)

-- `NAME`, to the end of the line
abbrev pub mode_at : List ℕ → Option Said
mode_at text = or_none (name_at text) (λ name. if_end (Mode name.0) name.1)

-- a command: all to the end of the line, and something
abbrev pub command_in : List ℕ → Option (List ℕ)
command_in [] = None
command_in (c ∷ cs) = text_of (c ∷ cs)

-- `COMMAND`
abbrev pub command_of : List ℕ → List ℕ → List ℕ → Option Said
command_of mode chord text = or_none (command_in text) (λ command. Some (Bind mode chord command))

-- `CHORD COMMAND` in a mode
abbrev pub chord_at : List ℕ → List ℕ → Option Said
chord_at mode text = or_none (name_at text) (λ chord. or_none (gap_at chord.1) (command_of mode chord.0))

-- `MODE CHORD COMMAND`
abbrev pub bind_at : List ℕ → Option Said
bind_at text = or_none (name_at text) (λ mode. or_none (gap_at mode.1) (chord_at mode.0))

-- the layout of this name that a JSON text describes
abbrev pub layout_in : List ℕ → List ℕ → Option Said
layout_in name text = or_none (layout_of text) (λ layout. Some (Layout name layout))

-- `NAME JSON`, where the JSON describes a layout
abbrev pub layout_at : List ℕ → Option Said
layout_at text = or_none (name_at text) (λ name. or_none (gap_at name.1) (layout_in name.0))

-- what a line says of borders and gaps: `border none`, `border pixel N` or `normal N`, `gaps inner N` or `outer N`
abbrev pub set_line_of : List ℕ → Option Said
set_line_of text = or_else (word_then (codes "border") text) border_at (or_else (word_then (codes "gaps") text) gaps_at None)

-- what a line says of the plan: `output NAME X,Y WxH`, `mode NAME`, `bind MODE CHORD COMMAND`, `layout NAME JSON`, or something
-- of borders and gaps
abbrev pub plan_line_of : List ℕ → Option Said
plan_line_of text =
    or_else (word_then (codes "output") text) planned_at
    (or_else (word_then (codes "mode") text) mode_at
    (or_else (word_then (codes "bind") text) bind_at
    (or_else (word_then (codes "layout") text) layout_at (set_line_of text))))

-- ---- what callers do

-- a text of commands, to the end of the line
abbrev pub run_at : List ℕ → Option Deed
run_at text = option_map Run (text_of text)

-- `CHORD`, to the end of the line
abbrev pub key_at : List ℕ → Option Deed
key_at text = or_none (name_at text) (λ chord. if_end (Key chord.0) chord.1)

-- `SERIAL KILL`, to the end of the line
abbrev pub wants_at : List ℕ → Option Deed
wants_at text =
    or_none (serial_at text) (λ serial. or_none (gap_at serial.1) (λ rest. or_none (serial_at rest) (λ kill. if_end (Look (query.Wants serial.0 kill.0)) kill.1)))

-- what a line looks at: `tree`, `workspaces`, `outputs`, `marks`, and `wants SERIAL KILL`
abbrev pub look_line_of : List ℕ → Option Deed
look_line_of text =
    or_else (behind (codes "tree") text) (if_end (Look query.Tree))
    (or_else (behind (codes "workspaces") text) (if_end (Look query.Workspaces))
    (or_else (behind (codes "outputs") text) (if_end (Look query.Outputs))
    (or_else (behind (codes "marks") text) (if_end (Look query.Marks))
    (or_else (word_then (codes "wants") text) wants_at None))))

-- a step of another kind
abbrev pub other_deed_of : List ℕ → Option Deed
other_deed_of text = option_map Do (step_line_of text)

-- what a line does: `run TEXT`, `key CHORD`, `paint`, a look, or a step of another kind
abbrev pub deed_of : List ℕ → Option Deed
deed_of text =
    or_else (word_then (codes "run") text) run_at
    (or_else (word_then (codes "key") text) key_at
    (or_else (behind (codes "paint") text) (if_end Paint)
    (or (look_line_of text) (other_deed_of text))))

-- ---- who speaks

abbrev pub by_caller : ℕ → Deed → Line
by_caller who deed = record { who = who; deed = deed }

-- what the caller of this number does
abbrev pub said_by : ℕ → List ℕ → Option Said
said_by who text = option_map (λ deed. Does (by_caller who deed)) (deed_of text)

-- `WHO `, and then what the caller of this number does
abbrev pub spoken_at : List ℕ → Option Said
spoken_at text = or_none (number_at 4294967295 text) (λ who. or_none (gap_at who.1) (said_by who.0))

-- ---- all lines

-- spaces alone
abbrev pub is_blank : List ℕ → Bool
is_blank [] = true
is_blank (c ∷ cs) = c == 32 && is_blank cs

-- spaces alone, or a comment, which begins with `#`
abbrev pub says_nothing : List ℕ → Bool
says_nothing text = is_blank text || starts_with nat_eq text (codes "#")

-- `1`, to the end of the line
abbrev pub version_at : List ℕ → Option Said
version_at text = or_none (behind (codes "1") text) (if_end Version)

-- what a line says that says something: the version of scripts, something of the plan, what the caller does that it names
-- behind `@`, or else what caller 0 does
abbrev pub something_of : List ℕ → Option Said
something_of text =
    or_else (word_then (codes "version") text) version_at
    (or_else (behind (codes "@") text) spoken_at
    (or (plan_line_of text) (said_by 0 text)))

-- what a line says; None where it is outside the grammar
abbrev pub said_of : List ℕ → Option Said
said_of text = if is_utf8 text then (if says_nothing text then Some Nothing else something_of text) else None

-- ---- limits

-- a text of commands is within the size of an input, and a step is as a desk takes it
abbrev pub IsFitDeed : Deed → Type 0
IsFitDeed (Run text) = length text ≤ 16777216
IsFitDeed (Do step) = IsFitLine step
IsFitDeed other = Unit {0}

-- what a line says is within the limits
abbrev pub IsFitSaid : Said → Type 0
IsFitSaid (Output o) = IsFitOutput o
IsFitSaid (Border b) = IsFitBorder b
IsFitSaid (Inner n) = n ≤ 1000
IsFitSaid (Outer n) = n ≤ 1000
IsFitSaid (Bind mode chord text) = length text ≤ 16777216
IsFitSaid (Layout name layout) = IsFitLayout layout
IsFitSaid (Does line) = IsFitDeed line.deed
IsFitSaid other = Unit {0}
