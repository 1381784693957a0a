-- The one reading of some bytes: the messages whose frames stand one after another from the start, and how the bytes end.
use Rattle.std.specs.Prelude.{◌≡◌, ℕ, zero, suc, ◌+◌, ◌-◌, ◌++◌, List, [], ◌∷◌, length, take, drop, ◌<◌, slice_index}
use Rattle.std.specs.List.{flat_map, AllByRecursion}
use Rattle.wm_frames.specs.Frame.{frame, IsShort}
use Rattle.wm_frames.specs.Front.{front_of, kind_field}
use Rattle.wm_frames.specs.declared.message.Message.{Message}
use Rattle.wm_frames.specs.declared.front.Front.{Front}
use Rattle.wm_frames.specs.declared.front.Front.TheVariants.{Whole, Part, Wrong, Long}

-- the messages that stand one after another, and the bytes after the last whole frame
pub record Reading : Type 0 where
  pub messages : List Message
  pub tail : List ℕ

-- the message of the frame at the front, whose payload has this many bytes
abbrev pub message_at : ℕ → List ℕ → Message
message_at len bytes = record { kind = kind_field bytes; payload = take len (drop 14 bytes) }

-- a reading with a message before it
abbrev pub with_first : Message → Reading → Reading
with_first m r = record { messages = m ∷ r.messages; tail = r.tail }

-- nothing was read
abbrev pub unread : List ℕ → Reading
unread bytes = record { messages = []; tail = bytes }

-- takes the frame at the front where it is whole, and reads on
abbrev pub taken : List ℕ → (List ℕ → Reading) → Front → Reading
taken bytes again (Whole len) = with_first (message_at len bytes) (again (drop (14 + len) bytes))
taken bytes again Part = unread bytes
taken bytes again Wrong = unread bytes
taken bytes again (Long len) = unread bytes

-- the reading of at most so many messages
abbrev pub read_up_to : ℕ → List ℕ → Reading
read_up_to zero bytes = unread bytes
read_up_to (suc count) bytes = taken bytes (λ after. read_up_to count after) (front_of bytes)

-- the reading; no message has fewer bytes than one
unfoldable pub reading : List ℕ → Reading
reading bytes = read_up_to (length bytes) bytes

-- the messages of the bytes
abbrev pub messages : List ℕ → List Message
messages bytes = (reading bytes).messages

-- the bytes after the last whole frame
abbrev pub tail : List ℕ → List ℕ
tail bytes = (reading bytes).tail

-- where they begin
abbrev pub place : List ℕ → ℕ
place bytes = length bytes - length (tail bytes)

-- how bytes end: a rest of so many bytes, or a wrong magic or a length above the limit at a place
pub data Ending : Type 0 where
  rest : ℕ → Ending
  magic : ℕ → Ending
  too_long : ℕ → ℕ → Ending

abbrev pub ending_at : ℕ → ℕ → Front → Ending
ending_at at count (Whole len) = rest count
ending_at at count Part = rest count
ending_at at count Wrong = magic at
ending_at at count (Long len) = too_long at len

abbrev pub ending : List ℕ → Ending
ending bytes = ending_at (place bytes) (length (tail bytes)) (front_of (tail bytes))

-- ---- the same said as a relation

-- each is a byte
abbrev pub AreBytes : List ℕ → Type 0
AreBytes bytes = (i : ℕ) → slice_index bytes i < 256

-- no short message's frame stands at the front
abbrev pub HasNoFrame : List ℕ → Type 0
HasNoFrame bytes = (m : Message) → (more : List ℕ) → IsShort m → bytes ≡ frame m ++ more → ⊥

-- the bytes are the frames of these messages, and then bytes with no frame at their front
pub record Splits (bytes : List ℕ) (messages : List Message) (tail : List ℕ) : Type 0 where
  pub whole : bytes ≡ flat_map frame messages ++ tail
  pub short : AllByRecursion IsShort messages
  pub none : HasNoFrame tail
