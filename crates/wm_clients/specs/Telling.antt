-- What is sent on a client's link, and what that leaves.
use Rattle.std.specs.Prelude.{◌≡◌, ℕ, ◌<◌, ◌≤◌, ◌^◌, length, List, Some, None, Result, Ok, Err}
use Rattle.wm_history.specs.Act.{act_of}
use Rattle.wm_history.specs.Sizes.{IsFitStep}
use Rattle.wm_history.specs.declared.look.View.{View}
use Rattle.wm_core.specs.declared.refusals.ActRefusal.{ActRefusal}
use Rattle.wm_core.specs.declared.refusals.ActRefusal.TheVariants as refusal
use Rattle.wm_history.specs.declared.step.Step.{Step}
use Rattle.wm_history.specs.declared.step.Step.TheVariants as step
use Rattle.wm_history.specs.History.{History}
use Rattle.wm_defs.specs.Counts.{Rose}
use Rattle.wm_ports.specs.Linking.{SendsAll, SendsPart}
use Rattle.wm_session.specs.Telling.{Wire}
use Rattle.wm_clients.specs.Lines.{LONGEST, line_act}
use Rattle.wm_clients.specs.Wanted.{after_wants, wants_in, wants_text}
use Rattle.wm_clients.specs.declared.ending.ClientEnd.{ClientEnd}
use Rattle.wm_clients.specs.declared.ending.ClientEnd.TheVariants as end
use Rattle.wm_clients.specs.declared.sent.Sent.{Sent}

-- an end that sending brings about: the link's count of faults rose, or there was no memory
abbrev pub IsSendEnd : ClientEnd → ℕ → ℕ → Type 0
IsSendEnd end.LinkFault old new = Rose old new
IsSendEnd end.NoMemory old new = old ≤ new
IsSendEnd other old new = ⊥

-- all of the bytes were sent, or a first part of them, and why
abbrev pub Sends : {A : Type 0} → Wire → Wire → List ℕ → Result A ClientEnd → Type 0
Sends old new bytes (Ok x) = SendsAll old.link new.link bytes × (old.faults ≤ new.faults)
Sends old new bytes (Err e) = SendsPart old.link new.link bytes × (old.faults ≤ new.faults) × IsSendEnd e old.faults new.faults

-- the lines of a view were sent, and the greatest numbers sent are these
abbrev pub Tells : {A : Type 0} → View → Sent → Sent → Wire → Wire → Result A ClientEnd → Type 0
Tells {A = A} v sent after old new (Ok x) = (after ≡ after_wants (wants_in v) sent) × Sends {A = A} old new (wants_text (wants_in v)) (Ok x)
Tells {A = A} v sent after old new (Err e) = Sends {A = A} old new (wants_text (wants_in v)) (Err e)

-- the step of the line of this number, or why it has none
abbrev pub IsReadAs : List ℕ → ℕ → Result Step ClientEnd → Type 0
IsReadAs line number (Ok step) = (line_act line ≡ Some (act_of step)) × IsFitStep step
IsReadAs line number (Err (end.BadLine bad)) = (line_act line ≡ None) × (bad ≡ number)
IsReadAs line number (Err end.NoMemory) = Unit {0}
IsReadAs line number (Err other) = ⊥

-- the bytes behind the last line feed are no bad line yet, or they are the line of this number
abbrev pub IsChecked : {A : Type 0} → List ℕ → ℕ → Result A ClientEnd → Type 0
IsChecked rest number (Ok x) = length rest ≤ LONGEST
IsChecked rest number (Err e) = (LONGEST < length rest) × (e ≡ end.BadLine number)

-- no more lines were answered than steps stand in the history, which are 2^48 at most: so the next line has a number
abbrev pub AreFew : ℕ → History → Type 0
AreFew lines seen = (lines ≤ 2 ^ 48) × (lines ≤ length seen)

-- a step of a client that takes no memory is not refused for want of it
abbrev pub IsTakenAlways : {A : Type 0} → Step → Result A ActRefusal → Type 0
IsTakenAlways (step.Client s) (Err refusal.NoMemory) = ⊥
IsTakenAlways s taken = Unit {0}
