-- Laws of the reading: one frame more, more bytes, and what the tail is.
use Rattle.std.proofs.Common.{◌≡◌, ℕ, zero, suc, ◌+◌, ◌≤◌, List, ◌++◌, length, take, drop, refl, sym, ◌∙◌, ap, subst, arith, length-append, length-drop}
use Rattle.std.proofs.lemmas.List.{take-append-le, drop-append-le}
use Rattle.wm_frames.specs.Front.{front_of, kind_field}
use Rattle.wm_frames.specs.Reading.{Reading, message_at, with_first, unread, taken, read_up_to, reading, messages, tail, place}
use Rattle.wm_frames.specs.declared.message.Message.{Message}
use Rattle.wm_frames.specs.declared.front.Front.{Front}
use Rattle.wm_frames.specs.declared.front.Front.TheVariants.{Whole, Part, Wrong, Long}
use Rattle.wm_frames.proofs.FrontLemmas.{front_is, whole_facts, front_stays, Stays, kind_field-append}

-- no whole frame stands at the front
abbrev pub NotWhole : Front → Type 0
NotWhole f = (n : ℕ) → f ≡ Whole n → ⊥

-- ---- enough is enough

again_alike : (bytes : List ℕ) (f : Front) (again again' : List ℕ → Reading) → ((n : ℕ) → f ≡ Whole n → again (drop (14 + n) bytes) ≡ again' (drop (14 + n) bytes)) → taken bytes again f ≡ taken bytes again' f
again_alike bytes (Whole n) again again' h = ap (with_first (message_at n bytes)) (h n refl)
again_alike bytes Part again again' h = refl
again_alike bytes Wrong again again' h = refl
again_alike bytes (Long n) again again' h = refl

taken-not_whole : (bytes : List ℕ) (f : Front) (again : List ℕ → Reading) → NotWhole f → taken bytes again f ≡ unread bytes
taken-not_whole bytes (Whole n) again h = absurd (h n refl)
taken-not_whole bytes Part again h = refl
taken-not_whole bytes Wrong again h = refl
taken-not_whole bytes (Long n) again h = refl

-- a whole frame has fourteen bytes or more
pub whole-length : (bytes : List ℕ) (n : ℕ) → front_of bytes ≡ Whole n → 14 + n ≤ length bytes
whole-length bytes n e = (whole_facts bytes (front_of bytes) n (front_is bytes) e).3

empty_not_whole : (bytes : List ℕ) → length bytes ≤ 0 → NotWhole (front_of bytes)
empty_not_whole bytes h n e = let k : 14 + n ≤ length bytes = whole-length bytes n e in omega arith

pub enough : (c d : ℕ) (bytes : List ℕ) → length bytes ≤ c → length bytes ≤ d → read_up_to c bytes ≡ read_up_to d bytes
enough zero zero bytes h k = refl
enough zero (suc d) bytes h k = sym (taken-not_whole bytes (front_of bytes) (λ after. read_up_to d after) (empty_not_whole bytes h))
enough (suc c) zero bytes h k = taken-not_whole bytes (front_of bytes) (λ after. read_up_to c after) (empty_not_whole bytes k)
enough (suc c) (suc d) bytes h k = again_alike bytes (front_of bytes) (λ after. read_up_to c after) (λ after. read_up_to d after)
    (λ n e. let w : 14 + n ≤ length bytes = whole-length bytes n e in
    enough c d (drop (14 + n) bytes) (omega (arith, length-drop (14 + n) bytes)) (omega (arith, length-drop (14 + n) bytes)))

-- the reading by its first step
pub reading-step : (bytes : List ℕ) → reading bytes ≡ taken bytes reading (front_of bytes)
unfolding reading
reading-step bytes = enough (length bytes) (suc (length bytes)) bytes (omega arith) (omega arith)
    ∙ again_alike bytes (front_of bytes) (λ after. read_up_to (length bytes) after) reading
    (λ n e. let w : 14 + n ≤ length bytes = whole-length bytes n e in
    enough (length bytes) (length (drop (14 + n) bytes)) (drop (14 + n) bytes) (omega (arith, length-drop (14 + n) bytes)) (omega arith))

pub reading-whole : (bytes : List ℕ) (n : ℕ) → front_of bytes ≡ Whole n → reading bytes ≡ with_first (message_at n bytes) (reading (drop (14 + n) bytes))
reading-whole bytes n e = reading-step bytes ∙ ap (taken bytes reading) e

pub reading-not_whole : (bytes : List ℕ) → NotWhole (front_of bytes) → reading bytes ≡ unread bytes
reading-not_whole bytes h = reading-step bytes ∙ taken-not_whole bytes (front_of bytes) reading h

-- ---- more bytes

-- a reading, and then the reading of its tail with more bytes
abbrev pub then_more : Reading → List ℕ → Reading
then_more r more = record { messages = r.messages ++ messages (r.tail ++ more); tail = tail (r.tail ++ more) }

pub whole-append : (bytes more : List ℕ) (n : ℕ) → front_of bytes ≡ Whole n → front_of (bytes ++ more) ≡ Whole n
whole-append bytes more n e = (let P : Front → Type 0 = λ f. Stays bytes f (front_of (bytes ++ more)) in subst P e (front_stays bytes more)).0

message_at-append : (n : ℕ) (bytes more : List ℕ) → 14 + n ≤ length bytes → message_at n (bytes ++ more) ≡ message_at n bytes
message_at-append n bytes more h =
    let k : kind_field (bytes ++ more) ≡ kind_field bytes = kind_field-append bytes more (omega arith) in
    let p : take n (drop 14 (bytes ++ more)) ≡ take n (drop 14 bytes) =
    ap (take n) (drop-append-le 14 bytes more (omega arith)) ∙ take-append-le n (drop 14 bytes) more (omega (arith, length-drop 14 bytes)) in
    let make : ℕ → List ℕ → Message = λ kind payload. record { kind = kind; payload = payload } in
    ap (λ kind. make kind (take n (drop 14 (bytes ++ more)))) k ∙ ap (make (kind_field bytes)) p

cut_not_whole : (bytes more : List ℕ) → NotWhole (front_of bytes) → reading (bytes ++ more) ≡ then_more (reading bytes) more
cut_not_whole bytes more h = sym (ap (λ r. then_more r more) (reading-not_whole bytes h))

cut_up_to : (c : ℕ) (bytes more : List ℕ) → length bytes ≤ c → (f : Front) → front_of bytes ≡ f → reading (bytes ++ more) ≡ then_more (reading bytes) more
cut_up_to zero bytes more h (Whole n) e = absurd (let w : 14 + n ≤ length bytes = whole-length bytes n e in omega arith)
cut_up_to (suc c) bytes more h (Whole n) e =
    let w : 14 + n ≤ length bytes = whole-length bytes n e in
    let after : List ℕ = drop (14 + n) bytes in
    reading-whole (bytes ++ more) n (whole-append bytes more n e)
    ∙ ap (λ m. with_first m (reading (drop (14 + n) (bytes ++ more)))) (message_at-append n bytes more w)
    ∙ ap (λ xs. with_first (message_at n bytes) (reading xs)) (drop-append-le (14 + n) bytes more w)
    ∙ ap (with_first (message_at n bytes)) (cut_up_to c after more (omega (arith, length-drop (14 + n) bytes)) (front_of after) refl)
    ∙ sym (ap (λ r. then_more r more) (reading-whole bytes n e))
cut_up_to c bytes more h Part e = cut_not_whole bytes more (λ n k. cc)
cut_up_to c bytes more h Wrong e = cut_not_whole bytes more (λ n k. cc)
cut_up_to c bytes more h (Long m) e = cut_not_whole bytes more (λ n k. cc)

-- Bytes that come in two pieces are read as one: the second goes on where the first ended.
pub reading-append : (bytes more : List ℕ) → reading (bytes ++ more) ≡ then_more (reading bytes) more
reading-append bytes more = cut_up_to (length bytes) bytes more (omega arith) (front_of bytes) refl

-- ---- the tail

unread_tail : (bytes : List ℕ) → NotWhole (front_of bytes) → (length (tail bytes) ≤ length bytes) × NotWhole (front_of (tail bytes))
unread_tail bytes h =
    let P : List ℕ → Type 0 = λ xs. (length xs ≤ length bytes) × NotWhole (front_of xs) in
    subst P (sym (ap (λ r. r.tail) (reading-not_whole bytes h))) (omega arith, h)

tail_up_to : (c : ℕ) (bytes : List ℕ) → length bytes ≤ c → (f : Front) → front_of bytes ≡ f → (length (tail bytes) ≤ length bytes) × NotWhole (front_of (tail bytes))
tail_up_to zero bytes h (Whole n) e = absurd (let w : 14 + n ≤ length bytes = whole-length bytes n e in omega arith)
tail_up_to (suc c) bytes h (Whole n) e =
    let w : 14 + n ≤ length bytes = whole-length bytes n e in
    let after : List ℕ = drop (14 + n) bytes in
    let t : tail bytes ≡ tail after = ap (λ r. r.tail) (reading-whole bytes n e) in
    let k : (length (tail after) ≤ length after) × NotWhole (front_of (tail after)) = tail_up_to c after (omega (arith, length-drop (14 + n) bytes)) (front_of after) refl in
    let P : List ℕ → Type 0 = λ xs. (length xs ≤ length bytes) × NotWhole (front_of xs) in
    subst P (sym t) (omega (arith, k.0, length-drop (14 + n) bytes), k.1)
tail_up_to c bytes h Part e = unread_tail bytes (λ n k. cc)
tail_up_to c bytes h Wrong e = unread_tail bytes (λ n k. cc)
tail_up_to c bytes h (Long m) e = unread_tail bytes (λ n k. cc)

-- the tail is no longer than the bytes
pub tail-length : (bytes : List ℕ) → length (tail bytes) ≤ length bytes
tail-length bytes = (tail_up_to (length bytes) bytes (omega arith) (front_of bytes) refl).0

-- no whole frame stands at the front of the tail
pub tail-not_whole : (bytes : List ℕ) → NotWhole (front_of (tail bytes))
tail-not_whole bytes = (tail_up_to (length bytes) bytes (omega arith) (front_of bytes) refl).1

-- where the tail of two pieces begins
pub place-append : (bytes more : List ℕ) → place (bytes ++ more) ≡ place bytes + place (tail bytes ++ more)
place-append bytes more =
    let t : tail (bytes ++ more) ≡ tail (tail bytes ++ more) = ap (λ r. r.tail) (reading-append bytes more) in
    let l : length (tail (bytes ++ more)) ≡ length (tail (tail bytes ++ more)) = ap length t in
    omega (arith, l, length-append bytes more, length-append (tail bytes) more, tail-length bytes, tail-length (tail bytes ++ more))
