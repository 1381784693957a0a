-- What is sent on a link, and what that leaves.
use Rattle.std.specs.Prelude.{◌≡◌, ℕ, ◌≤◌, List, Option, None, Some, Result, Ok, Err}
use Rattle.wm_history.specs.declared.look.View.{View}
use Rattle.wm_defs.specs.Counts.{Rose}
use Rattle.wm_frames.specs.declared.message.Message.{Message}
use Rattle.wm_ports.specs.Linking.{LinkTold, SendsAll, SendsPart}
use Rattle.wm_talk.specs.Frames.{frames}
use Rattle.wm_talk.specs.Talking.{after_events, after_reply}
use Rattle.wm_talk.specs.Told.{replied, told}
use Rattle.wm_talk.specs.declared.got.Got.{Got}
use Rattle.wm_talk.specs.declared.talk.Talk.{Talk}
use Rattle.wm_session.specs.Walk.{missed}
use Rattle.wm_session.specs.declared.ending.SessionEnd.{SessionEnd}
use Rattle.wm_session.specs.declared.ending.SessionEnd.TheVariants as end

-- an end that sending brings about: the link's count of faults rose, or there was no memory
abbrev pub IsSendEnd : SessionEnd → ℕ → ℕ → Type 0
IsSendEnd end.LinkFault old new = Rose old new
IsSendEnd end.NoMemory old new = old ≤ new
IsSendEnd other old new = ⊥

-- a link, with its count of faults
pub record Wire : Type 0 where
  pub link : Option LinkTold
  pub faults : ℕ

abbrev pub wire : Option LinkTold → ℕ → Wire
wire link faults = record { link = link; faults = faults }

-- all of the bytes were sent, or a first part of them, and why
abbrev pub Sends : {A : Type 0} → Wire → Wire → List ℕ → Result A SessionEnd → Type 0
Sends old new bytes (Ok x) = SendsAll old.link new.link bytes × (old.faults ≤ new.faults)
Sends old new bytes (Err e) = SendsPart old.link new.link bytes × (old.faults ≤ new.faults) × IsSendEnd e old.faults new.faults

-- the reply to a message was sent
abbrev pub Replies : {A : Type 0} → Message → Got → Talk → Talk → Wire → Wire → Result A SessionEnd → Type 0
Replies {A = A} m g t after old new (Ok x) = (after ≡ after_reply m g t) × Sends {A = A} old new (frames (replied t m g)) (Ok x)
Replies {A = A} m g t after old new (Err e) = Sends {A = A} old new (frames (replied t m g)) (Err e)

-- the events of a reading were sent, or some were missed
abbrev pub Tells : {A : Type 0} → View → Talk → Talk → Wire → Wire → Result A SessionEnd → Type 0
Tells {A = A} v t after old new (Ok x) = (after ≡ after_events v t) × (missed v ≡ None) × Sends {A = A} old new (frames (told t v)) (Ok x)
Tells {A = A} v t after old new (Err (end.Lagged oldest)) = (missed v ≡ Some oldest) × (new ≡ old)
Tells {A = A} v t after old new (Err e) = Sends {A = A} old new (frames (told t v)) (Err e)
