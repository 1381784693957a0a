-- The steps that drawn numbers give on a desk, and the history that they make.
use Rattle.std.specs.Prelude.{ℕ, ◌+◌, ◌/◌, ◌%◌, ◌==◌, nat_lt, if◌then◌else◌, List, [], ◌∷◌, Option, None, Some, codes}
use Rattle.wm_base.specs.declared.geometry.Size.{Size}
use Rattle.wm_base.specs.declared.ids.Buffer.{Buffer}
use Rattle.wm_base.specs.declared.ids.ConId.{ConId}
use Rattle.wm_base.specs.declared.properties.Props.{Props}
use Rattle.wm_history.specs.Act.{Act, CommandText}
use Rattle.wm_history.specs.Act as acts
use Rattle.wm_history.specs.History.{Entry, History, Start}
use Rattle.wm_history.specs.Look as look
use Rattle.wm_history.specs.Look.{state}
use Rattle.wm_forest.specs.RootId.{id}
use Rattle.wm_txn.specs.declared.answers.Waiting.{Waiting}
use Rattle.wm_generate.specs.Texts.{ready, text_by}

-- ---- what a window is asked

-- a size in pixels
abbrev pub sized : ℕ → ℕ → Size
sized w h = record { w = w; h = h }

-- the size of a configure; no pixels where there is none
abbrev pub size_of : Option (ℕ × Size) → Size
size_of None = sized 0 0
size_of (Some configure) = configure.1

-- the size that is asked of v
abbrev pub asked : Start → History → ConId → Size
asked start history v = size_of (look.asked start history v)

-- ---- the steps

-- a buffer of this ink and this size
abbrev pub buffer_of : ℕ → Size → Buffer
buffer_of ink size = record { ink = record { 0 = ink }; size = size }

-- the answer of the least window that is awaited and has not answered: it acknowledges the transaction, and then gives a
-- buffer of the size that is asked; a tick of no text where no transaction waits
abbrev pub answer_of : (ConId → Size) → Option Waiting → Act
answer_of asked None = acts.Tick []
answer_of asked (Some w) = if w.acked then acts.Give w.least (buffer_of 0x123456 (asked w.least)) else acts.Ack w.least w.number

-- the number of the transaction that waits, or 1
abbrev pub number_or_one : Option Waiting → ℕ
number_or_one None = 1
number_or_one (Some w) = w.number

-- the properties of a window that has the title w and no others
abbrev pub titled : Props
titled = record { class = []; instance = []; role = []; kind = codes "normal"; machine = []; title = codes "w" }

-- a window of 640x480 pixels is opened, with the ink of the number's lowest 24 bits
abbrev pub mapped : ℕ → Act
mapped r = acts.Map titled (buffer_of (r % 16777216) (sized 640 480)) None

-- the text that is run, by a number, with what reading it says
abbrev pub command_by : ℕ → CommandText
command_by q = record { text = text_by q; verdict = ready (text_by q) }

-- the step that a drawn number gives after a history
abbrev pub step_of : Start → History → ℕ → Act
step_of start history r =
    if nat_lt (r % 8) 3 then answer_of (asked start history) (state start history).waiting
    else if r % 8 == 3 then acts.Run (command_by (r / 8))
    else if r % 8 == 4 then acts.Close (id (4 + r / 8 % 64))
    else if r % 8 == 5 then acts.Deadline (number_or_one (state start history).waiting)
    else mapped r

-- this step of caller 0
abbrev pub entry_of : Start → History → ℕ → Entry
entry_of start history r = record { who = 0; act = step_of start history r }

-- the history after the steps that drawn numbers give, one after the other
abbrev pub history_of : Start → List ℕ → History → History
history_of start [] history = history
history_of start (r ∷ drawn) history = history_of start drawn (entry_of start history r ∷ history)
