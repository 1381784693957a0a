-- The steps that lines take.
use Rattle.std.specs.Prelude.{ℕ, Bool, true, false, if◌then◌else◌, List, Option, None, Some, codes}
use Rattle.std.specs.Option.{option_map}
use Rattle.wm_base.specs.declared.ids.ConId.{ConId}
use Rattle.wm_base.specs.declared.plan.OutputPlan.{OutputPlan}
use Rattle.wm_history.specs.Act.{Act, act_of}
use Rattle.wm_history.specs.Sizes.{IsFitStep}
use Rattle.wm_history.specs.declared.client.ClientStep.TheVariants.{Ack, Buffer, Deadline}
use Rattle.wm_history.specs.declared.step.Step.{Step}
use Rattle.wm_history.specs.declared.step.Step.TheVariants.{Map, Retitle, Urgent, Close, Gone, Client, Tick, OutputAdd, OutputRemove, Reserve}
use Rattle.wm_fields.specs.Fields.{behind, buffer_at, edges_at, gap_at, if_end, number_at, or_else, or_none, output_of, rect_at, serial_at, word_then}
use Rattle.wm_fields.specs.Properties.{window_at}
use Rattle.wm_fields.specs.Quoted.{name_at, quoted_at, quoted_within}

-- ---- windows

abbrev pub con_of : ℕ → ConId
con_of id = record { 0 = id }

-- the id of a container, and what is behind it
abbrev pub con_at : List ℕ → Option (ConId × List ℕ)
con_at text = or_none (number_at 4294967295 text) (λ id. Some (con_of id.0, id.1))

-- the id of a container, and what is behind it and spaces
abbrev pub con_then_at : List ℕ → Option (ConId × List ℕ)
con_then_at text = or_none (con_at text) (λ con. or_none (gap_at con.1) (λ rest. Some (con.0, rest)))

-- the id of a container, spaces, and what is said of it
abbrev pub of_con : List ℕ → (ConId → List ℕ → Option Step) → Option Step
of_con text said = or_none (con_then_at text) (λ con. said con.0 con.1)

-- `INK WxH` and properties, to the end of the line
abbrev pub map_at : List ℕ → Option Step
map_at text = or_none (buffer_at text) (λ found. or_none (window_at found.1) (λ props. Some (Map props found.0 None)))

-- `"T"`, to the end of the line: the window's new title
abbrev pub title_at : ConId → List ℕ → Option Step
title_at con text = or_none (quoted_at text) (λ title. if_end (Retitle con title.0) title.1)

-- `on` or `off`, to the end of the line
abbrev pub switch_at : List ℕ → Option Bool
switch_at text = or_else (behind (codes "on") text) (if_end true) (or_else (behind (codes "off") text) (if_end false) None)

-- `on` or `off`, to the end of the line: whether the window is urgent
abbrev pub urgent_at : ConId → List ℕ → Option Step
urgent_at con text = option_map (Urgent con) (switch_at text)

-- `ID`, to the end of the line: the window closes
abbrev pub close_at : List ℕ → Option Step
close_at text = or_none (con_at text) (λ con. if_end (Close con.0) con.1)

-- what a line says of windows that are open
abbrev pub other_line_of : List ℕ → Option Step
other_line_of text =
    or_else (word_then (codes "urgent") text) (λ rest. of_con rest urgent_at)
    (or_else (word_then (codes "close") text) close_at
    (or_else (behind (codes "gone") text) (if_end Gone) None))

-- what a line says of windows: `map INK WxH` and properties, `title ID "T"`, `urgent ID on` or `off`, `close ID`, and `gone`
abbrev pub window_line_of : List ℕ → Option Step
window_line_of text =
    or_else (word_then (codes "map") text) map_at
    (or_else (word_then (codes "title") text) (λ rest. of_con rest title_at) (other_line_of text))

-- ---- clients and the timer

-- `SERIAL`, to the end of the line: the configure of the window that is acknowledged
abbrev pub ack_at : ConId → List ℕ → Option Step
ack_at con text = or_none (serial_at text) (λ serial. if_end (Client (Ack con serial.0)) serial.1)

-- `INK WxH`, to the end of the line: the window's next buffer
abbrev pub given_at : ConId → List ℕ → Option Step
given_at con text = or_none (buffer_at text) (λ buffer. if_end (Client (Buffer con buffer.0)) buffer.1)

-- `NUMBER`, to the end of the line: the time of the transaction of this number is over
abbrev pub deadline_at : List ℕ → Option Step
deadline_at text = or_none (serial_at text) (λ n. if_end (Client (Deadline n.0)) n.1)

-- what a line says for a client or the timer: `ack ID SERIAL`, `buffer ID INK WxH`, and `deadline NUMBER`
abbrev pub client_line_of : List ℕ → Option Step
client_line_of text =
    or_else (word_then (codes "ack") text) (λ rest. of_con rest ack_at)
    (or_else (word_then (codes "buffer") text) (λ rest. of_con rest given_at)
    (or_else (word_then (codes "deadline") text) deadline_at None))

-- ---- outputs, and what all are told

-- an output with its place and size, `NAME X,Y WxH`, to the end of the line
abbrev pub output_at : List ℕ → Option OutputPlan
output_at text =
    or_none (name_at text) (λ name. or_none (gap_at name.1) (λ rest. or_none (rect_at rest) (λ rect. if_end (output_of name.0 rect.0) rect.1)))

-- an output to be added, whose rectangle may be any
abbrev pub added_at : List ℕ → Option Step
added_at text = option_map OutputAdd (output_at text)

-- `NAME`, to the end of the line
abbrev pub removed_at : List ℕ → Option Step
removed_at text = or_none (name_at text) (λ name. if_end (OutputRemove name.0) name.1)

-- `NAME TOP RIGHT BOTTOM LEFT`, to the end of the line
abbrev pub reserved_at : List ℕ → Option Step
reserved_at text = or_none (name_at text) (λ name. or_none (edges_at name.1) (λ edges. if_end (Reserve name.0 edges.0) edges.1))

-- `"T"`, a text of at most 4,096 bytes, to the end of the line
abbrev pub tick_at : List ℕ → Option Step
tick_at text = or_none (quoted_within 4096 text) (λ said. if_end (Tick said.0) said.1)

-- what a line says of outputs, or tells all: `output-add NAME X,Y WxH`, `output-remove NAME`, `reserve NAME TOP RIGHT BOTTOM LEFT`, and `tick "T"`
abbrev pub output_line_of : List ℕ → Option Step
output_line_of text =
    or_else (word_then (codes "output-add") text) added_at
    (or_else (word_then (codes "output-remove") text) removed_at
    (or_else (word_then (codes "reserve") text) reserved_at
    (or_else (word_then (codes "tick") text) tick_at None)))

-- ---- all lines that take a step and run no text

-- one reading of a line, or else another
abbrev pub or_step : Option Step → Option Step → Option Step
or_step None other = other
or_step (Some step) other = Some step

-- the step of a line; None where it is outside the grammar
abbrev pub step_line_of : List ℕ → Option Step
step_line_of text = or_step (window_line_of text) (or_step (client_line_of text) (output_line_of text))

-- a step is as a desk takes it, and a window that it opens runs no text
abbrev pub IsFitLine : Step → Type 0
IsFitLine (Map props buffer (Some text)) = ⊥
IsFitLine other = IsFitStep other

-- ---- what a client says on its link

-- a step that a client may take; a window that it opens runs no text
abbrev pub is_client_step : Step → Bool
is_client_step (Map props buffer None) = true
is_client_step (Retitle con title) = true
is_client_step (Urgent con on) = true
is_client_step (Close con) = true
is_client_step (Client (Ack con serial)) = true
is_client_step (Client (Buffer con buffer)) = true
is_client_step other = false

-- the step of a client's line; None where it is outside the grammar
abbrev pub client_step_of : List ℕ → Option Step
client_step_of text = or_none (step_line_of text) (λ step. if is_client_step step then Some step else None)

-- what the step of a client's line says to the history
abbrev pub client_act : List ℕ → Option Act
client_act text = option_map act_of (client_step_of text)
