-- One piece, on the three ways that it goes: a fault, a part of a frame, a whole frame.
use Rattle.std.proofs.Common.{◌≡◌, ℕ, zero, suc, ◌+◌, ◌-◌, ◌<◌, ◌≤◌, ◌^◌, min, Some, None, List, [], ◌∷◌, ◌++◌, length, take, drop, refl, sym, ◌∙◌, ap, subst, arith, length-append, append-nil}
use Rattle.std.proofs.Math.Seq.{take-append-add, drop-append-add}
use Rattle.wm_frames.specs.Front.{front_of, length_field, kind_field}
use Rattle.wm_frames.specs.Reading.{message_at, messages, tail}
use Rattle.wm_frames.specs.Decoding.{Decoding, capped}
use Rattle.wm_frames.specs.Step.{fault_at, kept, Takes}
use Rattle.wm_frames.specs.Partial.{IsPartial}
use Rattle.wm_frames.specs.declared.message.Message.{Message}
use Rattle.wm_frames.specs.declared.message.FrameFault.{FrameFault}
use Rattle.wm_frames.specs.declared.front.Front.{Front}
use Rattle.wm_frames.specs.declared.front.Front.TheVariants.{Whole, Part}
use Rattle.wm_frames.proofs.FrontLemmas.{front_stays, kind_field-append}
use Rattle.wm_frames.proofs.DecodingLemmas.{IsFault, some_fault, fault_stays, fault-not_whole, unread_takes, whole_takes}
use Rattle.wm_frames.proofs.PartialLemmas.{filled, no_fault, part_goes_on, whole_goes_on, body_short, kept_fault}

-- A part of a frame whose head was filled from the piece.
pub record Began (head body piece full : List ℕ) (taken : ℕ) : Type 0 where
  pub partial : IsPartial head body
  pub count : taken ≡ min (14 - length head) (length piece)
  pub bytes : full ≡ head ++ take taken piece
  pub short : length full ≤ 14

pub began : (inside head body piece full seen : List ℕ) (taken : ℕ) → IsPartial inside body → head ≡ inside → taken ≡ min (14 - length head) (length piece) → full ≡ head ++ take taken piece → seen ≡ full → length seen ≤ 14 → Began inside body piece full taken
began inside head body piece full seen taken p h count bytes s short = record {
  partial = p;
  count = count ∙ ap (λ xs. min (14 - length xs) (length piece)) h;
  bytes = bytes ∙ ap (λ xs. xs ++ take taken piece) h;
  short = let l : length seen ≡ length full = ap length s in omega arith;
}

-- the old rest and the piece
all_bytes : (old : Decoding) (head body piece full after : List ℕ) (taken : ℕ) → Began head body piece full taken → old.rest ≡ head ++ body → after ≡ drop taken piece → old.rest ++ piece ≡ full ++ (body ++ after)
all_bytes old head body piece full after taken b r a =
    ap (λ xs. xs ++ piece) r ∙ (filled head body piece full taken b.partial.head_first b.count b.bytes).0 ∙ ap (λ xs. full ++ (body ++ xs)) (sym a)

nothing_more : (head body piece full after : List ℕ) (taken : ℕ) → Began head body piece full taken → after ≡ drop taken piece → length full < 14 → body ++ after ≡ []
nothing_more head body piece full after taken b a h =
    ap (λ xs. body ++ xs) a ∙ (filled head body piece full taken b.partial.head_first b.count b.bytes).1 h

-- ---- a fault

pub fault_takes : (old new : Decoding) (head body piece full : List ℕ) (taken : ℕ) (x : FrameFault) → Began head body piece full taken → old.rest ≡ head ++ body → old.place < 2 ^ 64
    → fault_at old.place (front_of full) ≡ Some x → new.queue ≡ old.queue → new.rest ≡ [] → new.place ≡ old.place → new.fault ≡ Some x → Takes old piece new
fault_takes old new head body piece full taken x b r range f nq nr np nf =
    let after : List ℕ = drop taken piece in
    let bytes : List ℕ = full ++ (body ++ after) in
    let is : IsFault (front_of full) = some_fault old.place (front_of full) x f in
    let s : front_of full ≡ front_of bytes = fault_stays full (front_of full) (front_of bytes) is (front_stays full (body ++ after)) in
    let P : Front → Type 0 = λ g. IsFault g in
    let g : fault_at old.place (front_of bytes) ≡ Some x = ap (fault_at old.place) (sym s) ∙ f in
    unread_takes old new piece bytes (all_bytes old head body piece full after taken b r refl)
    (fault-not_whole (front_of bytes) (subst P s is)) (omega arith) nq
    (nr ∙ sym (kept_fault old.place bytes (front_of bytes) x g)) np (nf ∙ sym g)

-- ---- a part

-- how many bytes are missing
pub record Misses (full body : List ℕ) (missing : ℕ) : Type 0 where
  pub of_head : length full < 14 → missing ≡ 14 - length full
  pub of_body : 14 ≤ length full → missing + length body ≡ length_field full

pub still_part : (at : ℕ) (head body piece full after : List ℕ) (taken missing : ℕ) → Began head body piece full taken → after ≡ drop taken piece → fault_at at (front_of full) ≡ None
    → Misses full body missing → length after < missing → IsPartial full (body ++ after)
still_part at head body piece full after taken missing b a f m h =
    part_goes_on at full (body ++ after) f b.short (nothing_more head body piece full after taken b a)
    (λ k. let e : missing + length body ≡ length_field full = m.of_body k in omega (arith, length-append body after))

part_not_whole : (n : ℕ) → Part ≡ Whole n → ⊥
part_not_whole n e = cc

pub part_takes : (old new : Decoding) (head body piece full after : List ℕ) (taken : ℕ) → Began head body piece full taken → old.rest ≡ head ++ body → old.place < 2 ^ 64 → after ≡ drop taken piece
    → IsPartial full (body ++ after) → new.queue ≡ old.queue → new.rest ≡ full ++ (body ++ after) → new.place ≡ old.place → new.fault ≡ None → Takes old piece new
part_takes old new head body piece full after taken b r range a p nq nr np nf =
    let bytes : List ℕ = full ++ (body ++ after) in
    unread_takes old new piece bytes (all_bytes old head body piece full after taken b r a)
    (λ n e. part_not_whole n (sym p.part ∙ e)) (omega arith) nq
    (nr ∙ ap (kept bytes) (sym p.part)) np (nf ∙ ap (fault_at old.place) (sym p.part))

-- ---- a whole frame

-- the head is whole where no byte of the frame is missing
pub head_whole : (head body piece full after : List ℕ) (taken missing : ℕ) → Began head body piece full taken → after ≡ drop taken piece → Misses full body missing → missing ≤ length after → length full ≡ 14
head_whole head body piece full after taken missing b a m h = go (14 - length full) refl
  where
    go : (k : ℕ) → k ≡ 14 - length full → length full ≡ 14
    go zero e = let s : length full ≤ 14 = b.short in omega arith
    go (suc k) e =
        let l : length full < 14 = omega arith in
        let n : length (body ++ after) ≡ 0 = ap length (nothing_more head body piece full after taken b a l) in
        let q : missing ≡ 14 - length full = m.of_head l in
        absurd (omega (arith, length-append body after))

message_is : (full body after : List ℕ) (missing n : ℕ) → length full ≡ 14 → length body + missing ≡ n → message_at n (full ++ (body ++ after)) ≡ record { kind = kind_field full; payload = body ++ take missing after }
message_is full body after missing n l e =
    let make : ℕ → List ℕ → Message = λ kind payload. record { kind = kind; payload = payload } in
    let d : drop 14 (full ++ (body ++ after)) ≡ body ++ after =
    (let l0 : 14 ≡ length full + 0 = omega arith in ap (λ k. drop k (full ++ (body ++ after))) l0) ∙ drop-append-add full (body ++ after) 0 in
    let p : take n (drop 14 (full ++ (body ++ after))) ≡ body ++ take missing after =
    ap (take n) d ∙ ap (λ k. take k (body ++ after)) (sym e) ∙ take-append-add body after missing in
    ap (λ kind. make kind (take n (drop 14 (full ++ (body ++ after))))) (kind_field-append full (body ++ after) (omega arith))
    ∙ ap (make (kind_field full)) p

later_is : (full body after : List ℕ) (missing n : ℕ) → length full ≡ 14 → length body + missing ≡ n → drop (14 + n) (full ++ (body ++ after)) ≡ drop missing after
later_is full body after missing n l e =
    (let l0 : 14 + n ≡ length full + n = omega arith in ap (λ k. drop k (full ++ (body ++ after))) l0) ∙ drop-append-add full (body ++ after) n
    ∙ ap (λ k. drop k (body ++ after)) (sym e) ∙ drop-append-add body after missing

pub frame_takes : (old new : Decoding) (head body piece full after ends later : List ℕ) (fresh : List Message) (taken missing : ℕ) → Began head body piece full taken → old.rest ≡ head ++ body → after ≡ drop taken piece
    → fault_at old.place (front_of full) ≡ None → Misses full body missing → missing ≤ length after → ends ≡ take missing after → later ≡ drop missing after → fresh ≡ messages later
    → new.queue ≡ old.queue ++ (record { kind = kind_field full; payload = body ++ ends } ∷ fresh)
    → new.rest ≡ kept (tail later) (front_of (tail later))
    → new.place ≡ capped (old.place + (14 + length body + missing + (length later - length (tail later)))) → new.fault ≡ fault_at new.place (front_of (tail later)) → Takes old piece new
frame_takes old new head body piece full after ends later fresh taken missing b r a f m h e l g nq nr np nf =
    let w : length full ≡ 14 = head_whole head body piece full after taken missing b a m h in
    let n : ℕ = length_field full in
    let k : missing + length body ≡ n = m.of_body (omega arith) in
    let k' : length body + missing ≡ n = omega arith in
    let bytes : List ℕ = full ++ (body ++ after) in
    let whole : front_of bytes ≡ Whole n = whole_goes_on old.place full (body ++ after) f w (omega (arith, length-append body after)) in
    let named : List ℕ → List Message → List Message = λ payload rest. record { kind = kind_field full; payload = payload } ∷ rest in
    whole_takes old new piece bytes later n (all_bytes old head body piece full after taken b r a) whole
    (later_is full body after missing n w k' ∙ sym l)
    (nq ∙ ap (λ xs. old.queue ++ named (body ++ xs) fresh) e ∙ ap (λ xs. old.queue ++ named (body ++ take missing after) xs) g
    ∙ ap (λ x. old.queue ++ (x ∷ messages later)) (sym (message_is full body after missing n w k')))
    nr (np ∙ (let sum : 14 + length body + missing + (length later - length (tail later)) ≡ 14 + n + (length later - length (tail later)) = omega arith in ap (λ x. capped (old.place + x)) sum)) nf

-- ---- what the code has at hand

pub from_view : (inside old new : Decoding) (piece : List ℕ) → inside ≡ old → Takes inside piece new → Takes old piece new
from_view inside old new piece e t = let P : Decoding → Type 0 = λ d. Takes d piece new in subst P e t

-- the body has no more bytes than the payload
body_fits_by : (k : ℕ) (head body piece full : List ℕ) (taken : ℕ) → k ≡ 14 - length head → Began head body piece full taken → length body ≤ length_field full
body_fits_by zero head body piece full taken e b =
    let t : taken ≡ 0 = let n : taken ≡ min (14 - length head) (length piece) = b.count in omega arith in
    let f : full ≡ head = b.bytes ∙ ap (λ k. head ++ take k piece) t ∙ append-nil head in
    let l : length full ≡ length head = ap length f in
    let s : length full ≤ 14 = b.short in
    let h : length body < length_field head = body_short head body b.partial (omega arith) in
    let g : length_field full ≡ length_field head = ap length_field f in
    omega arith
body_fits_by (suc k) head body piece full taken e b =
    let n : length body ≡ 0 = ap length (b.partial.head_first (omega arith)) in omega arith

pub body_fits : (head body piece full seen : List ℕ) (taken : ℕ) → Began head body piece full taken → seen ≡ full → length body ≤ length_field seen
body_fits head body piece full seen taken b s =
    let f : length body ≤ length_field full = body_fits_by (14 - length head) head body piece full taken refl b in
    let g : length_field seen ≡ length_field full = ap length_field s in
    omega arith

pub misses : (seen full body : List ℕ) (missing count : ℕ) → seen ≡ full → count ≡ length body → (length seen < 14 → missing ≡ 14 - length seen) → (14 ≤ length seen → missing + count ≡ length_field seen) → Misses full body missing
misses seen full body missing count s n h k =
    let l : length seen ≡ length full = ap length s in
    let g : length_field seen ≡ length_field full = ap length_field s in
    record {
      of_head = λ m. let e : missing ≡ 14 - length seen = h (omega arith) in omega arith;
      of_body = λ m. let e : missing + count ≡ length_field seen = k (omega arith) in omega arith;
    }

pub partial_by : (head body head' body' : List ℕ) → head' ≡ head → body' ≡ body → IsPartial head body → IsPartial head' body'
partial_by head body head' body' e f p =
    let P : List ℕ → Type 0 = λ xs. IsPartial xs body in
    let Q : List ℕ → Type 0 = λ xs. IsPartial head' xs in
    subst Q (sym f) (subst P (sym e) p)

-- what is at hand is within 64 bits
pub frame_size : (head body piece full after : List ℕ) (at taken missing : ℕ) → Began head body piece full taken → after ≡ drop taken piece → Misses full body missing → missing ≤ length after → fault_at at (front_of full) ≡ None → length body + missing ≤ 262144
frame_size head body piece full after at taken missing b a m h f =
    let w : length full ≡ 14 = head_whole head body piece full after taken missing b a m h in
    let k : missing + length body ≡ length_field full = m.of_body (omega arith) in
    let l : length_field full ≤ 262144 = (no_fault at full f).1 (omega arith) in
    omega arith
