-- Frames and the reading: a frame is read whatever follows it, and what is read are frames.
use Rattle.std.proofs.Common.{◌≡◌, ℕ, zero, suc, Bool, false, ◌&&◌, ◌+◌, ◌<◌, ◌≤◌, ◌^◌, true, List, [], ◌∷◌, ◌++◌, length, take, drop, get_or, refl, sym, ◌∙◌, ap, subst, arith, append_assoc, length-append, length-drop, append-nil}
use Rattle.std.proofs.lemmas.List.{take-append-drop, length-take, get_or-drop, drop-drop}
use Rattle.std.proofs.lemmas.Bool.Decides.{nat_tests}
use Rattle.std.proofs.lemmas.Nat.{le_bytes_4, from_le_bytes-to_le_bytes_4}
use Rattle.std.proofs.Math.Seq.{take-append_seam, drop-append_seam, drop-append-add}
use Rattle.std.specs.List.{flat_map, AllByRecursion}
use Rattle.std.specs.Prelude.{◌==◌}
use Rattle.std.specs.Int.{w32, to_le_bytes, from_le_bytes}
use Rattle.wm_frames.specs.Frame.{MAGIC, frame, IsFramed, IsShort}
use Rattle.wm_frames.specs.Front.{agrees, front_of, length_field, kind_field}
use Rattle.wm_frames.specs.Reading.{Reading, message_at, with_first, reading, messages, tail, AreBytes, HasNoFrame, Splits}
use Rattle.wm_frames.specs.declared.message.Message.{Message}
use Rattle.wm_frames.specs.declared.front.Front.{Front}
use Rattle.wm_frames.specs.declared.front.Front.TheVariants.{Whole, Part, Wrong, Long}
use Rattle.wm_frames.proofs.FrontLemmas.{front_is, front_of-whole, whole_facts}
use Rattle.wm_frames.proofs.ReadingLemmas.{NotWhole, reading-whole, reading-not_whole, whole-length, tail-not_whole}

-- ---- a frame at the front

-- the fourteen bytes before the payload
abbrev pub head_of : Message → List ℕ
head_of m = MAGIC ++ to_le_bytes w32 (length m.payload) ++ to_le_bytes w32 m.kind

framed : (m : Message) (more : List ℕ) → frame m ++ more ≡ head_of m ++ (m.payload ++ more)
framed m more = append_assoc (head_of m) m.payload more

frame-length_field : (m : Message) (more : List ℕ) → length m.payload < 2 ^ 32 → length_field (frame m ++ more) ≡ length m.payload
frame-length_field m more h = from_le_bytes-to_le_bytes_4 (length m.payload) h

frame-kind_field : (m : Message) (more : List ℕ) → m.kind < 2 ^ 32 → kind_field (frame m ++ more) ≡ m.kind
frame-kind_field m more h = from_le_bytes-to_le_bytes_4 m.kind h

frame-drop : (m : Message) (more : List ℕ) → drop 14 (frame m ++ more) ≡ m.payload ++ more
frame-drop m more = refl

frame-after : (m : Message) (more : List ℕ) → drop (14 + length m.payload) (frame m ++ more) ≡ more
frame-after m more =
    ap (drop (14 + length m.payload)) (framed m more) ∙ drop-append-add (head_of m) (m.payload ++ more) (length m.payload) ∙ drop-append_seam m.payload more

frame-length : (m : Message) (more : List ℕ) → length (frame m ++ more) ≡ 14 + (length m.payload + length more)
frame-length m more = ap length (framed m more) ∙ length-append (head_of m) (m.payload ++ more) ∙ ap (λ n. 14 + n) (length-append m.payload more)

pub frame-front : (m : Message) (more : List ℕ) → IsShort m → front_of (frame m ++ more) ≡ Whole (length m.payload)
frame-front m more s =
    let f : length_field (frame m ++ more) ≡ length m.payload = frame-length_field m more (let p : length m.payload ≤ 262144 = s.payload in omega arith) in
    let l : length (frame m ++ more) ≡ 14 + (length m.payload + length more) = frame-length m more in
    let p : length m.payload ≤ 262144 = s.payload in
    front_of-whole (frame m ++ more) refl (omega arith) (omega arith) ∙ ap (λ n. Whole n) f

frame-message : (m : Message) (more : List ℕ) → m.kind < 2 ^ 32 → message_at (length m.payload) (frame m ++ more) ≡ m
frame-message m more h =
    let make : ℕ → List ℕ → Message = λ kind payload. record { kind = kind; payload = payload } in
    ap (λ kind. make kind (take (length m.payload) (drop 14 (frame m ++ more)))) (frame-kind_field m more h)
    ∙ ap (make m.kind) (take-append_seam m.payload more)

-- a short message's frame is read, whatever follows it
pub reading-frame : (m : Message) (more : List ℕ) → IsShort m → reading (frame m ++ more) ≡ with_first m (reading more)
reading-frame m more s =
    reading-whole (frame m ++ more) (length m.payload) (frame-front m more s)
    ∙ ap (λ x. with_first x (reading (drop (14 + length m.payload) (frame m ++ more)))) (frame-message m more s.kind)
    ∙ ap (λ xs. with_first m (reading xs)) (frame-after m more)

-- messages before a reading
abbrev pub with_all : List Message → Reading → Reading
with_all ms r = record { messages = ms ++ r.messages; tail = r.tail }

pub reading-frames : (ms : List Message) (more : List ℕ) → AllByRecursion IsShort ms → reading (flat_map frame ms ++ more) ≡ with_all ms (reading more)
reading-frames [] more s = refl
reading-frames (m ∷ ms) more s =
    ap reading (append_assoc (frame m) (flat_map frame ms) more)
    ∙ reading-frame m (flat_map frame ms ++ more) s.0
    ∙ ap (with_first m) (reading-frames ms more s.1)

-- ---- no frame begins another

pub one_frame : (m n : Message) (x y : List ℕ) → IsFramed m → IsFramed n → frame m ++ x ≡ frame n ++ y → (m ≡ n) × (x ≡ y)
one_frame m n x y hm hn e =
    let l : length m.payload ≡ length n.payload = sym (frame-length_field m x hm.payload) ∙ ap length_field e ∙ frame-length_field n y hn.payload in (
      sym (frame-message m x hm.kind) ∙ ap (λ k. message_at k (frame m ++ x)) l ∙ ap (message_at (length n.payload)) e ∙ frame-message n y hn.kind,
      sym (frame-after m x) ∙ ap (λ k. drop (14 + k) (frame m ++ x)) l ∙ ap (drop (14 + length n.payload)) e ∙ frame-after n y,
    )

-- ---- what is read are frames

bytes-drop : (n : ℕ) (bytes : List ℕ) → AreBytes bytes → AreBytes (drop n bytes)
bytes-drop n bytes h i = let k : get_or (drop n bytes) i 0 ≡ get_or bytes (n + i) 0 = get_or-drop n bytes i 0 in let b : get_or bytes (n + i) 0 < 256 = h (n + i) in omega arith

bytes-take : (n : ℕ) (bytes : List ℕ) → AreBytes bytes → AreBytes (take n bytes)
bytes-take zero bytes h i = omega arith
bytes-take (suc n) [] h i = omega arith
bytes-take (suc n) (b ∷ bytes) h zero = h 0
bytes-take (suc n) (b ∷ bytes) h (suc i) = bytes-take n bytes (λ j. h (suc j)) i

bytes-after : (first more : List ℕ) → AreBytes (first ++ more) → AreBytes more
bytes-after first more h = let P : List ℕ → Type 0 = λ xs. AreBytes xs in subst P (drop-append_seam first more) (bytes-drop (length first) (first ++ more) h)

both_true : (b c : Bool) → (b && c) ≡ true → (b ≡ true) × (c ≡ true)
both_true true c h = (refl, h)
both_true false c h = absurd (cc)

agrees-take : (xs ys : List ℕ) → agrees xs ys ≡ true → length xs ≤ length ys → take (length xs) ys ≡ xs
agrees-take [] ys h l = refl
agrees-take (x ∷ xs) [] h l = absurd (omega arith)
agrees-take (x ∷ xs) (y ∷ ys) h l =
    let k : ((x == y) ≡ true) × (agrees xs ys ≡ true) = both_true (x == y) (agrees xs ys) h in
    let e : x ≡ y = grind (arith, nat_tests, k.0) in
    let t : take (length xs) ys ≡ xs = agrees-take xs ys k.1 (omega arith) in
    cc

four_more : (at : ℕ) (bytes : List ℕ) → drop at bytes ≡ take 4 (drop at bytes) ++ drop (at + 4) bytes
four_more at bytes = sym (take-append-drop 4 (drop at bytes)) ∙ ap (λ xs. take 4 (drop at bytes) ++ xs) (drop-drop 4 at bytes)

five_parts : (all a b c d e a' b' c' : List ℕ) → all ≡ a' ++ (b' ++ (c' ++ (d ++ e))) → a' ≡ a → b' ≡ b → c' ≡ c → all ≡ (((a ++ b) ++ c) ++ d) ++ e
five_parts all a b c d e a' b' c' h p q r =
    h ∙ ap (λ xs. xs ++ (b' ++ (c' ++ (d ++ e)))) p ∙ ap (λ xs. a ++ (xs ++ (c' ++ (d ++ e)))) q ∙ ap (λ xs. a ++ (b ++ (xs ++ (d ++ e)))) r
    ∙ sym (append_assoc a b (c ++ (d ++ e)))
    ∙ sym (append_assoc (a ++ b) c (d ++ e))
    ∙ sym (append_assoc ((a ++ b) ++ c) d e)

field_bytes : (at n : ℕ) (bytes : List ℕ) → AreBytes bytes → at + 4 ≤ length bytes → n ≡ from_le_bytes w32 (take 4 (drop at bytes)) → to_le_bytes w32 n ≡ take 4 (drop at bytes)
field_bytes at n bytes small h e =
    le_bytes_4 (take 4 (drop at bytes)) n (omega (arith, length-take 4 (drop at bytes), length-drop at bytes)) (bytes-take 4 (drop at bytes) (bytes-drop at bytes small)) e

kind_fits : (bytes : List ℕ) → AreBytes bytes → kind_field bytes < 2 ^ 32
kind_fits bytes small =
    let f : AreBytes (take 4 (drop 10 bytes)) = bytes-take 4 (drop 10 bytes) (bytes-drop 10 bytes small) in
    omega (arith, f 0, f 1, f 2, f 3)

-- the bytes of a whole frame are the frame of its message
pub whole-frame : (bytes : List ℕ) (n : ℕ) → AreBytes bytes → front_of bytes ≡ Whole n → (bytes ≡ frame (message_at n bytes) ++ drop (14 + n) bytes) × IsShort (message_at n bytes)
whole-frame bytes n small w =
    let facts : (n ≡ length_field bytes) × (agrees MAGIC bytes ≡ true) × (n ≤ 262144) × (14 + n ≤ length bytes) = whole_facts bytes (front_of bytes) n (front_is bytes) w in
    let long : 14 + n ≤ length bytes = facts.3 in
    let payload : List ℕ = take n (drop 14 bytes) in
    let l : length payload ≡ n = omega (arith, length-take n (drop 14 bytes), length-drop 14 bytes) in
    let all : bytes ≡ take 6 bytes ++ (take 4 (drop 6 bytes) ++ (take 4 (drop 10 bytes) ++ (payload ++ drop (14 + n) bytes))) =
    sym (take-append-drop 6 bytes)
    ∙ ap (λ xs. take 6 bytes ++ xs) (four_more 6 bytes)
    ∙ ap (λ xs. take 6 bytes ++ (take 4 (drop 6 bytes) ++ xs)) (four_more 10 bytes)
    ∙ ap (λ xs. take 6 bytes ++ (take 4 (drop 6 bytes) ++ (take 4 (drop 10 bytes) ++ xs))) (sym (take-append-drop n (drop 14 bytes)) ∙ ap (λ xs. payload ++ xs) (drop-drop n 14 bytes)) in (
      five_parts bytes MAGIC (to_le_bytes w32 (length payload)) (to_le_bytes w32 (kind_field bytes)) payload (drop (14 + n) bytes) (take 6 bytes) (take 4 (drop 6 bytes)) (take 4 (drop 10 bytes)) all
          (agrees-take MAGIC bytes facts.1 (omega arith))
          (sym (field_bytes 6 (length payload) bytes small (omega arith) (l ∙ facts.0)))
          (sym (field_bytes 10 (kind_field bytes) bytes small (omega arith) refl)),
      record { kind = kind_fits bytes small; payload = let m : n ≤ 262144 = facts.2 in omega arith },
    )

-- ---- the one reading

splits_unread : (bytes : List ℕ) → NotWhole (front_of bytes) → (bytes ≡ flat_map frame (messages bytes) ++ tail bytes) × AllByRecursion IsShort (messages bytes)
splits_unread bytes h =
    let P : Reading → Type 0 = λ r. (bytes ≡ flat_map frame r.messages ++ r.tail) × AllByRecursion IsShort r.messages in
    subst P (sym (reading-not_whole bytes h)) (refl, tt)

splits_up_to : (c : ℕ) (bytes : List ℕ) → length bytes ≤ c → AreBytes bytes → (f : Front) → front_of bytes ≡ f → (bytes ≡ flat_map frame (messages bytes) ++ tail bytes) × AllByRecursion IsShort (messages bytes)
splits_up_to zero bytes h small (Whole n) e = absurd (let w : 14 + n ≤ length bytes = whole-length bytes n e in omega arith)
splits_up_to (suc c) bytes h small (Whole n) e =
    let w : 14 + n ≤ length bytes = whole-length bytes n e in
    let after : List ℕ = drop (14 + n) bytes in
    let m : Message = message_at n bytes in
    let f : (bytes ≡ frame m ++ after) × IsShort m = whole-frame bytes n small e in
    let k : (after ≡ flat_map frame (messages after) ++ tail after) × AllByRecursion IsShort (messages after) =
    splits_up_to c after (omega (arith, length-drop (14 + n) bytes)) (bytes-drop (14 + n) bytes small) (front_of after) refl in
    let P : Reading → Type 0 = λ r. (bytes ≡ flat_map frame r.messages ++ r.tail) × AllByRecursion IsShort r.messages in
    subst P (sym (reading-whole bytes n e))
    (f.0 ∙ ap (λ xs. frame m ++ xs) k.0 ∙ sym (append_assoc (frame m) (flat_map frame (messages after)) (tail after)), (f.1, k.1))
splits_up_to c bytes h small Part e = splits_unread bytes (λ n k. cc)
splits_up_to c bytes h small Wrong e = splits_unread bytes (λ n k. cc)
splits_up_to c bytes h small (Long m) e = splits_unread bytes (λ n k. cc)

-- where no whole frame stands at the front, no frame does
pub none-not_whole : (bytes : List ℕ) → NotWhole (front_of bytes) → HasNoFrame bytes
none-not_whole bytes h m more s e = h (length m.payload) (ap front_of e ∙ frame-front m more s)

pub not_whole-none : (bytes : List ℕ) → AreBytes bytes → HasNoFrame bytes → NotWhole (front_of bytes)
not_whole-none bytes small h n e = let f : (bytes ≡ frame (message_at n bytes) ++ drop (14 + n) bytes) × IsShort (message_at n bytes) = whole-frame bytes n small e in
    h (message_at n bytes) (drop (14 + n) bytes) f.1 f.0

pub reading_splits : (bytes : List ℕ) → AreBytes bytes → Splits bytes (messages bytes) (tail bytes)
reading_splits bytes small =
    let k : (bytes ≡ flat_map frame (messages bytes) ++ tail bytes) × AllByRecursion IsShort (messages bytes) = splits_up_to (length bytes) bytes (omega arith) small (front_of bytes) refl in
    record { whole = k.0; short = k.1; none = none-not_whole (tail bytes) (tail-not_whole bytes) }

pub one_reading : (bytes tail' : List ℕ) (ms : List Message) → AreBytes bytes → Splits bytes ms tail' → reading bytes ≡ record { messages = ms; tail = tail' }
one_reading bytes tail' ms small s =
    let P : List ℕ → Type 0 = λ xs. AreBytes xs in
    let t : AreBytes tail' = bytes-after (flat_map frame ms) tail' (subst P s.whole small) in
    ap reading s.whole ∙ reading-frames ms tail' s.short
    ∙ ap (with_all ms) (reading-not_whole tail' (not_whole-none tail' t s.none))
    ∙ ap (λ xs. record { messages = xs; tail = tail' }) (append-nil ms)
