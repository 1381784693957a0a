-- How a run on frames ends, from what a decoder says of them.
use Rattle.std.proofs.Common.{◌≡◌, ◌∙◌, refl, ap, sym, ℕ, zero, suc, ◌+◌, ◌≤◌, List, [], Option, None, Some, length, drop, arith}
use Rattle.wm_frames.specs.declared.message.FrameFault.{FrameFault}
use Rattle.wm_frames.specs.declared.message.FrameFault.TheVariants.{Magic, TooLong}
use Rattle.wm_frames.specs.declared.front.Front.{Front}
use Rattle.wm_frames.specs.declared.front.Front.TheVariants.{Whole, Part, Wrong, Long}
use Rattle.wm_frames.specs.Decoding.{Decoding, Stands, capped, fault_of, rest_of}
use Rattle.wm_frames.specs.Front.{front_of}
use Rattle.wm_frames.specs.Reading.{Ending, Reading, rest, magic, too_long, ending, ending_at, messages, place, read_up_to, reading, tail, taken}
use Rattle.wm_tool.specs.declared.words.Command.TheVariants.{Ipc}
use Rattle.wm_tool.specs.declared.run.FramesEnd.{FramesEnd}
use Rattle.wm_tool.specs.declared.run.FramesEnd.TheVariants as end
use Rattle.wm_tool.specs.declared.status.Status.{Status}
use Rattle.wm_tool.specs.declared.status.Status.TheVariants as status
use Rattle.wm_tool.specs.Ending.{IsRefused, ends, frames_ending, frames_status, rest_ending}

-- ---- there are no more messages than bytes

few_taken : (n : ℕ) (bytes : List ℕ) (again : List ℕ → Reading) → ((after : List ℕ) → length (again after).messages ≤ n) → (front : Front) → length (taken bytes again front).messages ≤ suc n
few_taken n bytes again few (Whole len) = omega (arith, few (drop (14 + len) bytes))
few_taken n bytes again few Part = omega arith
few_taken n bytes again few Wrong = omega arith
few_taken n bytes again few (Long len) = omega arith

few_read : (n : ℕ) (bytes : List ℕ) → length (read_up_to n bytes).messages ≤ n
few_read zero bytes = omega arith
few_read (suc n) bytes = few_taken n bytes (λ after. read_up_to n after) (few_read n) (front_of bytes)

pub few_messages : (bytes : List ℕ) → length (messages bytes) ≤ length bytes
unfolding reading
few_messages bytes = few_read (length bytes) bytes

-- ---- the end of the frames

left_ends : (at count : ℕ) (front : Front) (tail left : List ℕ) → count ≡ length tail → left ≡ rest_of (ending_at at count front) tail → fault_of (ending_at at count front) ≡ None
    → rest_ending (length left) ≡ frames_ending (ending_at at count front)
left_ends at count (Whole len) tail left counted is none = ap (λ bytes. rest_ending (length bytes)) is ∙ ap rest_ending (sym counted)
left_ends at count Part tail left counted is none = ap (λ bytes. rest_ending (length bytes)) is ∙ ap rest_ending (sym counted)
left_ends at count Wrong tail left counted is none = cc
left_ends at count (Long len) tail left counted is none = cc

-- what a decoder has left is where the frames end
pub fed_left : (bytes : List ℕ) (d : Decoding) → Stands bytes [] d → d.fault ≡ None → rest_ending (length d.rest) ≡ ends Ipc bytes
fed_left bytes d s none = left_ends (place bytes) (length (tail bytes)) (front_of (tail bytes)) (tail bytes) d.rest refl s.left (sym s.fault ∙ none)

abbrev place_of : Option FrameFault → ℕ
place_of (Some (Magic at)) = at
place_of (Some (TooLong at len)) = at
place_of other = 0

uncapped : (at : ℕ) → at ≤ 16777216 → capped at ≡ at
uncapped at small = omega (arith, small)

magic_ends : (at count there : ℕ) (front : Front) → at ≤ 16777216 → fault_of (ending_at at count front) ≡ Some (Magic there) → status.BadFrames there ≡ frames_ending (ending_at at count front)
magic_ends at count there (Whole len) small e = cc
magic_ends at count there Part small e = cc
magic_ends at count there Wrong small e = ap (λ n. status.BadFrames n) (sym (ap place_of e) ∙ uncapped at small)
magic_ends at count there (Long len) small e = cc

long_ends : (at count there len : ℕ) (front : Front) → at ≤ 16777216 → fault_of (ending_at at count front) ≡ Some (TooLong there len) → status.BadFrames there ≡ frames_ending (ending_at at count front)
long_ends at count there len (Whole n) small e = cc
long_ends at count there len Part small e = cc
long_ends at count there len Wrong small e = cc
long_ends at count there len (Long n) small e = ap (λ n. status.BadFrames n) (sym (ap place_of e) ∙ uncapped at small)

small_place : (bytes : List ℕ) → length bytes ≤ 16777216 → place bytes ≤ 16777216
small_place bytes small = omega (arith, small)

-- the fault that a decoder answers is where the frames end
pub fed_magic : (bytes : List ℕ) (d : Decoding) (at : ℕ) → Stands bytes [] d → length bytes ≤ 16777216 → d.fault ≡ Some (Magic at) → status.BadFrames at ≡ ends Ipc bytes
fed_magic bytes d at s small e = magic_ends (place bytes) (length (tail bytes)) at (front_of (tail bytes)) (small_place bytes small) (sym s.fault ∙ e)

pub fed_long : (bytes : List ℕ) (d : Decoding) (at len : ℕ) → Stands bytes [] d → length bytes ≤ 16777216 → d.fault ≡ Some (TooLong at len) → status.BadFrames at ≡ ends Ipc bytes
fed_long bytes d at len s small e = long_ends (place bytes) (length (tail bytes)) at len (front_of (tail bytes)) (small_place bytes small) (sym s.fault ∙ e)

-- ---- what follows from the end

-- the end of frames as a status tells what the status of a run may be
abbrev pub IsEnd : List ℕ → FramesEnd → Type 0
IsEnd bytes end.Whole = ends Ipc bytes ≡ status.Done []
IsEnd bytes (end.Bad at) = ends Ipc bytes ≡ status.BadFrames at
IsEnd bytes (end.Cut count) = ends Ipc bytes ≡ status.Truncated count

pub frames_ended : (bytes : List ℕ) (e : FramesEnd) → frames_status e ≡ ends Ipc bytes → IsEnd bytes e
frames_ended bytes end.Whole e = sym e
frames_ended bytes (end.Bad at) e = sym e
frames_ended bytes (end.Cut count) e = sym e

by_frames : (P : Status → Type 0) → P (status.Done []) → ((count : ℕ) → P (status.Truncated count)) → ((at : ℕ) → P (status.BadFrames at)) → (e : Ending) → P (frames_ending e)
by_frames P done truncated bad (rest zero) = done
by_frames P done truncated bad (rest (suc n)) = truncated (suc n)
by_frames P done truncated bad (magic at) = bad at
by_frames P done truncated bad (too_long at len) = bad at

-- frames are not refused before they are run
pub frames_are_run : (bytes : List ℕ) → IsRefused (ends Ipc bytes) → ⊥
frames_are_run bytes = by_frames (λ z. IsRefused z → ⊥) (λ r. r) (λ count r. r) (λ at r. r) (ending bytes)
