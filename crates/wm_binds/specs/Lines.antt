-- Which text is which line.
use Rattle.std.specs.Prelude.{ℕ, nat_eq, Bool, false, true, ◌||◌, if◌then◌else◌, List, [], ◌∷◌, Option, None, Some, Result, Ok, Err, codes, not, take_while}
use Rattle.std.specs.List.{list_any, starts_with}
use Rattle.std.specs.Str.{bytes_eq}
use Rattle.serde_json.specs.Read.{read as read_text}
use Rattle.wm_base.specs.declared.geometry.Rect.{Rect}
use Rattle.wm_base.specs.declared.plan.Border.TheVariants as border
use Rattle.wm_layouts.specs.Plan.{is_fit_rect}
use Rattle.wm_saved.specs.Limits as saved
use Rattle.wm_saved.specs.declared.refusal.LayoutRefusal.{LayoutRefusal}
use Rattle.wm_saved.specs.declared.saved.SavedLayout.{SavedLayout}
use Rattle.wm_fields.specs.Fields.{behind, coordinate_at, if_end, number_at, or_else, or_none, rect_of, size_at}
use Rattle.wm_fields.specs.Fields.{output_of}
use Rattle.wm_fields.specs.Quoted.{quoted_at}
use Rattle.wm_binds.specs.Words.{command_word_at, gap_at, is_blank, name_at, passed_word, past_blanks, text_of, word_then}
use Rattle.wm_binds.specs.declared.entry.Entry.{Entry}
use Rattle.wm_binds.specs.declared.entry.Entry.TheVariants.{Nothing, Passed, Bar, Mode, Close, Key, Border, Inner, Outer, Home, Output, Layout}

-- ---- bindings and modes

-- a command: all to the end of the line, and something
abbrev pub command_of : List ℕ → List ℕ → Option Entry
command_of chord [] = None
command_of chord (c ∷ cs) = or_none (text_of (c ∷ cs)) (λ text. Some (Key chord text))

-- `CHORD COMMAND`, where `--release` before either counts for nothing
abbrev pub bind_at : List ℕ → Option Entry
bind_at text =
    or_none (name_at (passed_word (codes "--release") text)) (λ chord. or_none (gap_at chord.1) (λ rest.
    command_of chord.0 (passed_word (codes "--release") rest)))

-- the block of the mode begins, where ` {` is all that is left of the line
abbrev pub opened_at : List ℕ → List ℕ → Option Entry
opened_at name text = or_none (gap_at text) (λ rest. or_none (behind (codes "{") rest) (if_end (Mode name)))

-- `"NAME" {`, where `--pango_markup` before it counts for nothing
abbrev pub mode_at : List ℕ → Option Entry
mode_at text = or_none (quoted_at (passed_word (codes "--pango_markup") text)) (λ name. opened_at name.0 name.1)

-- ---- the plan

-- a number of at most `most`, to the end of the line
abbrev pub last_number : ℕ → List ℕ → Option ℕ
last_number most text = or_none (number_at most text) (λ n. if_end n.0 n.1)

-- a width of at most 64 behind blanks, or 2 where the line ends
abbrev pub width_at : List ℕ → Option ℕ
width_at [] = Some 2
width_at (c ∷ cs) = or_none (gap_at (c ∷ cs)) (last_number 64)

-- the default border: `none`, or `pixel` or `normal` with a width or without
abbrev pub border_at : List ℕ → Option Entry
border_at text =
    or_else (behind (codes "none") text) (if_end (Border border.Bare))
    (or_else (behind (codes "pixel") text) (λ rest. or_none (width_at rest) (λ n. Some (Border (border.Pixel n))))
    (or_else (behind (codes "normal") text) (λ rest. or_none (width_at rest) (λ n. Some (Border (border.Normal n)))) None))

-- a default gap: `inner` or `outer` with a width of at most 1,000
abbrev pub gaps_at : List ℕ → Option Entry
gaps_at text =
    or_else (word_then (codes "inner") text) (λ rest. or_none (last_number 1000 rest) (λ n. Some (Inner n)))
    (or_else (word_then (codes "outer") text) (λ rest. or_none (last_number 1000 rest) (λ n. Some (Outer n))) None)

-- what is behind ` output `
abbrev pub on_output : List ℕ → Option (List ℕ)
on_output text = or_none (gap_at text) (word_then (codes "output"))

-- `OUTPUT`, to the end of the line, on which the workspace of this name is made
abbrev pub home_on : List ℕ → List ℕ → Option Entry
home_on name text = or_none (command_word_at text) (λ output. if_end (Home name output.0) output.1)

-- `WORKSPACE output OUTPUT`
abbrev pub home_at : List ℕ → Option Entry
home_at text = or_none (command_word_at text) (λ name. or_none (on_output name.1) (home_on name.0))

-- a place and a size, `X,Y WxH`, and what is behind them
abbrev pub rect_at : List ℕ → Option (Rect × List ℕ)
rect_at text =
    or_none (coordinate_at text) (λ x. or_none (behind (codes ",") x.1) (λ down. or_none (coordinate_at down) (λ y.
    or_none (gap_at y.1) (λ rest. or_none (size_at rest) (λ size. Some (rect_of x.0 y.0 size.0, size.1))))))

-- ` X,Y WxH`, to the end of the line: an output of this name, whose rectangle is within the limits
abbrev pub output_in : List ℕ → List ℕ → Option Entry
output_in name text =
    or_none (gap_at text) (λ place. or_none (rect_at place) (λ rect. if is_fit_rect rect.0 then if_end (Output (output_of name rect.0)) rect.1 else None))

-- `NAME X,Y WxH`, to the end of the line
abbrev pub output_at : List ℕ → Option Entry
output_at text = or_none (name_at text) (λ name. output_in name.0 name.1)

abbrev pub if_read : Result SavedLayout LayoutRefusal → Option SavedLayout
if_read (Ok layout) = Some layout
if_read (Err e) = None

-- a layout: a JSON text that reads as one
abbrev pub layout_of : List ℕ → Option SavedLayout
layout_of text = or_none (text_of text) (λ t. or_none (read_text t) (λ value. if_read (saved.layout_at value)))

-- a layout of this name, whose JSON stands behind blanks, to the end of the line
abbrev pub layout_in : List ℕ → List ℕ → Option Entry
layout_in name text = or_none (gap_at text) (λ rest. or_none (layout_of rest) (λ layout. Some (Layout name layout)))

-- `NAME JSON`
abbrev pub layout_at : List ℕ → Option Entry
layout_at text = or_none (name_at text) (λ name. layout_in name.0 name.1)

-- ---- all lines

-- words of i3 that start programs and rules, and name files
abbrev pub is_other_program : List ℕ → Bool
is_other_program word = list_any (bytes_eq word) (codes "exec" ∷ codes "exec_always" ∷ codes "include" ∷ codes "ipc-socket" ∷ codes "for_window" ∷ codes "assign" ∷ codes "no_focus" ∷ codes "bindcode" ∷ [])

-- words of i3 for what windows and bars look like
abbrev pub is_other_look : List ℕ → Bool
is_other_look word =
    list_any (bytes_eq word) (codes "font" ∷ codes "title_align" ∷ codes "show_marks" ∷ codes "hide_edge_borders" ∷ codes "smart_borders" ∷ codes "smart_gaps" ∷ codes "default_floating_border" ∷ [])

-- words of i3 for how windows and workspaces behave
abbrev pub is_other_habit : List ℕ → Bool
is_other_habit word =
    list_any (bytes_eq word)
    (codes "floating_modifier" ∷ codes "tiling_drag" ∷ codes "focus_follows_mouse" ∷ codes "focus_wrapping" ∷ codes "focus_on_window_activation" ∷ codes "mouse_warping"
    ∷ codes "popup_during_fullscreen" ∷ codes "workspace_layout" ∷ codes "default_orientation" ∷ codes "workspace_auto_back_and_forth" ∷ codes "force_display_urgency_hint" ∷ [])

-- a first word with which a line is passed over
abbrev pub is_passed : List ℕ → Bool
is_passed word = is_other_program word || is_other_look word || is_other_habit word || starts_with nat_eq word (codes "client.")

-- the line's first word
abbrev pub first_word : List ℕ → List ℕ
first_word text = take_while (λ c. not (is_blank c)) text

abbrev pub is_brace : Option (List ℕ) → Bool
is_brace None = false
is_brace (Some rest) = bytes_eq rest (codes "{")

-- `bar {`
abbrev pub is_bar : List ℕ → Bool
is_bar text = is_brace (word_then (codes "bar") text)

-- the end of a block, or what is passed over
abbrev pub other_of : List ℕ → Option Entry
other_of text =
    if bytes_eq text (codes "}") then Some Close
    else if is_bar text then Some Bar
    else if is_passed (first_word text) then Some Passed
    else None

-- a line of the plan, or another one
abbrev pub plan_of : List ℕ → Option Entry
plan_of text =
    or_else (word_then (codes "default_border") text) border_at
    (or_else (word_then (codes "gaps") text) gaps_at
    (or_else (word_then (codes "workspace") text) home_at
    (or_else (word_then (codes "output") text) output_at (other_of text))))

-- what a line of this text says
abbrev pub said_of : List ℕ → Option Entry
said_of text =
    or_else (word_then (codes "bindsym") text) bind_at
    (or_else (word_then (codes "mode") text) mode_at
    (or_else (word_then (codes "saved_layout") text) layout_at (plan_of text)))

-- nothing but blanks, or a comment, which begins with `#`
abbrev pub says_nothing : List ℕ → Bool
says_nothing [] = true
says_nothing (c ∷ cs) = nat_eq c 35

-- what a line says, behind the blanks at its front; None where it is outside the grammar
abbrev pub entry_of : List ℕ → Option Entry
entry_of text = if says_nothing (past_blanks text) then Some Nothing else said_of (past_blanks text)
