-- A decoder that stands for the bytes fed stands for them and the next piece.
use Rattle.std.proofs.Common.{◌≡◌, ℕ, ◌+◌, ◌-◌, ◌≤◌, Some, None, List, [], ◌∷◌, ◌++◌, drop, length, refl, sym, ◌∙◌, ap, subst, arith, append_assoc, length-drop, append-nil, add-zero}
use Rattle.wm_frames.specs.Front.{front_of}
use Rattle.wm_frames.specs.Reading.{Reading, message_at, with_first, unread, reading, messages, tail, place, ending_at, ending, rest}
use Rattle.wm_frames.specs.Decoding.{Decoding, capped, fault_of, rest_of, Stands}
use Rattle.wm_frames.specs.Step.{fault_at, kept, Takes}
use Rattle.wm_frames.specs.declared.message.Message.{Message}
use Rattle.wm_frames.specs.declared.message.FrameFault.{FrameFault}
use Rattle.wm_frames.specs.declared.front.Front.{Front}
use Rattle.wm_frames.specs.declared.front.Front.TheVariants.{Whole, Part, Wrong, Long}
use Rattle.wm_frames.proofs.FrontLemmas.{front_stays, Stays}
use Rattle.wm_frames.proofs.ReadingLemmas.{NotWhole, reading-whole, whole-length, tail-length, reading-append, reading-not_whole, place-append}

-- with no fault all of the tail is kept
kept-all : (at : ℕ) (bytes : List ℕ) (f : Front) → fault_at at f ≡ None → kept bytes f ≡ bytes
kept-all at bytes (Whole n) h = refl
kept-all at bytes Part h = refl
kept-all at bytes Wrong h = absurd (cc)
kept-all at bytes (Long n) h = absurd (cc)

-- the ending by what stands at the front of the tail
fault_of-ending : (at count : ℕ) (f : Front) → fault_of (ending_at at count f) ≡ fault_at at f
fault_of-ending at count (Whole n) = refl
fault_of-ending at count Part = refl
fault_of-ending at count Wrong = refl
fault_of-ending at count (Long n) = refl

rest_of-ending : (at count : ℕ) (f : Front) (bytes : List ℕ) → rest_of (ending_at at count f) bytes ≡ kept bytes f
rest_of-ending at count (Whole n) bytes = refl
rest_of-ending at count Part bytes = refl
rest_of-ending at count Wrong bytes = refl
rest_of-ending at count (Long n) bytes = refl

rest_at : (at count : ℕ) (f : Front) → fault_of (ending_at at count f) ≡ None → ending_at at count f ≡ rest count
rest_at at count (Whole n) h = refl
rest_at at count Part h = refl
rest_at at count Wrong h = absurd (cc)
rest_at at count (Long n) h = absurd (cc)

-- without a fault the tail is the rest
pub ending-rest : (bytes : List ℕ) → fault_of (ending bytes) ≡ None → ending bytes ≡ rest (length (tail bytes))
ending-rest bytes h = rest_at (place bytes) (length (tail bytes)) (front_of (tail bytes)) h

-- standing for bytes, by what stands at the front of their tail
record StandsAt (fed : List ℕ) (given : List Message) (d : Decoding) : Type 0 where
  each : messages fed ≡ given ++ d.queue
  rest : d.rest ≡ kept (tail fed) (front_of (tail fed))
  at : d.place ≡ capped (place fed)
  fault : d.fault ≡ fault_at (place fed) (front_of (tail fed))

front_stands : (fed : List ℕ) (given : List Message) (d : Decoding) → Stands fed given d → StandsAt fed given d
front_stands fed given d s = record {
  each = s.each;
  rest = s.left ∙ rest_of-ending (place fed) (length (tail fed)) (front_of (tail fed)) (tail fed);
  at = s.at;
  fault = s.fault ∙ fault_of-ending (place fed) (length (tail fed)) (front_of (tail fed));
}

stands_by : (fed : List ℕ) (given : List Message) (d : Decoding) → StandsAt fed given d → Stands fed given d
stands_by fed given d s = record {
  each = s.each;
  left = s.rest ∙ sym (rest_of-ending (place fed) (length (tail fed)) (front_of (tail fed)) (tail fed));
  at = s.at;
  fault = s.fault ∙ sym (fault_of-ending (place fed) (length (tail fed)) (front_of (tail fed)));
}

-- capping once more changes nothing
pub capped-add : (a b : ℕ) → capped (capped a + b) ≡ capped (a + b)
capped-add a b = omega arith

fault_at-capped : (a b : ℕ) (f : Front) → capped a ≡ capped b → fault_at a f ≡ fault_at b f
fault_at-capped a b (Whole n) h = refl
fault_at-capped a b Part h = refl
fault_at-capped a b Wrong h = cc
fault_at-capped a b (Long n) h = cc

takes_stands_at : (fed piece : List ℕ) (given : List Message) (old new : Decoding) → StandsAt fed given old → old.fault ≡ None → Takes old piece new → StandsAt (fed ++ piece) given new
takes_stands_at fed piece given old new s none t =
    let r : old.rest ≡ tail fed = s.rest ∙ kept-all (place fed) (tail fed) (front_of (tail fed)) (sym s.fault ∙ none) in
    let e : reading (fed ++ piece) ≡ record { messages = messages fed ++ messages (tail fed ++ piece); tail = tail (tail fed ++ piece) } = reading-append fed piece in
    let k : tail (old.rest ++ piece) ≡ tail (fed ++ piece) = ap (λ xs. tail (xs ++ piece)) r ∙ sym (ap (λ x. x.tail) e) in
    let p : old.place + place (old.rest ++ piece) ≡ capped (place fed) + place (tail fed ++ piece) = ap (λ n. n + place (old.rest ++ piece)) s.at ∙ ap (λ xs. capped (place fed) + place (xs ++ piece)) r in
    let q : capped (old.place + place (old.rest ++ piece)) ≡ capped (place (fed ++ piece)) = ap capped p ∙ capped-add (place fed) (place (tail fed ++ piece)) ∙ sym (ap capped (place-append fed piece)) in
    record {
      each = ap (λ x. x.messages) e
          ∙ ap (λ xs. messages fed ++ messages (xs ++ piece)) (sym r)
          ∙ ap (λ xs. xs ++ messages (old.rest ++ piece)) s.each
          ∙ append_assoc given old.queue (messages (old.rest ++ piece))
          ∙ ap (λ xs. given ++ xs) (sym t.queue);
      rest = t.rest ∙ ap (λ xs. kept xs (front_of xs)) k;
      at = t.at ∙ q;
      fault = t.fault ∙ fault_at-capped (old.place + place (old.rest ++ piece)) (place (fed ++ piece)) (front_of (tail (old.rest ++ piece))) q
          ∙ ap (λ xs. fault_at (place (fed ++ piece)) (front_of xs)) k;
    }

-- ---- a fault is for good

-- a fault stands at the front
abbrev pub IsFault : Front → Type 0
IsFault (Whole n) = ⊥
IsFault Part = ⊥
IsFault Wrong = Unit {0}
IsFault (Long n) = Unit {0}

pub some_fault : (at : ℕ) (f : Front) (x : FrameFault) → fault_at at f ≡ Some x → IsFault f
some_fault at (Whole n) x h = cc
some_fault at Part x h = cc
some_fault at Wrong x h = tt
some_fault at (Long n) x h = tt

pub fault_stays : (bytes : List ℕ) (f g : Front) → IsFault f → Stays bytes f g → f ≡ g
fault_stays bytes (Whole n) g h s = absurd h
fault_stays bytes Part g h s = absurd h
fault_stays bytes Wrong g h s = sym s
fault_stays bytes (Long n) g h s = sym s

pub fault-not_whole : (f : Front) → IsFault f → NotWhole f
fault-not_whole (Whole n) h = absurd h
fault-not_whole Part h = absurd h
fault-not_whole Wrong h = λ n k. cc
fault-not_whole (Long m) h = λ n k. cc

kept-fault : (bytes more : List ℕ) (f : Front) → IsFault f → kept bytes f ≡ kept more f
kept-fault bytes more (Whole n) h = absurd h
kept-fault bytes more Part h = absurd h
kept-fault bytes more Wrong h = refl
kept-fault bytes more (Long n) h = refl

-- after a fault more bytes only make the tail longer
record Stuck (fed piece : List ℕ) : Type 0 where
  each : messages (fed ++ piece) ≡ messages fed
  front : front_of (tail fed) ≡ front_of (tail (fed ++ piece))
  at : place (fed ++ piece) ≡ place fed

stuck : (fed piece : List ℕ) → IsFault (front_of (tail fed)) → Stuck fed piece
stuck fed piece is =
    let f : front_of (tail fed) ≡ front_of (tail fed ++ piece) = fault_stays (tail fed) (front_of (tail fed)) (front_of (tail fed ++ piece)) is (front_stays (tail fed) piece) in
    let P : Front → Type 0 = λ g. IsFault g in
    let u : reading (tail fed ++ piece) ≡ unread (tail fed ++ piece) = reading-not_whole (tail fed ++ piece) (fault-not_whole (front_of (tail fed ++ piece)) (subst P f is)) in
    let e : reading (fed ++ piece) ≡ record { messages = messages fed ++ []; tail = tail fed ++ piece } =
    reading-append fed piece ∙ ap (λ (y : Reading). record { messages = messages fed ++ y.messages; tail = y.tail }) u in
    let t : tail (fed ++ piece) ≡ tail fed ++ piece = ap (λ y. y.tail) e in
    let l : length (tail (tail fed ++ piece)) ≡ length (tail fed ++ piece) = ap (λ y. length y.tail) u in
    let z : place (tail fed ++ piece) ≡ 0 = omega (arith, l) in
    record {
      each = ap (λ y. y.messages) e ∙ append-nil (messages fed);
      front = f ∙ ap front_of (sym t);
      at = place-append fed piece ∙ ap (λ n. place fed + n) z ∙ add-zero (place fed);
    }

fault_stands_at : (fed piece : List ℕ) (given : List Message) (old : Decoding) (x : FrameFault) → StandsAt fed given old → old.fault ≡ Some x → StandsAt (fed ++ piece) given old
fault_stands_at fed piece given old x s some =
    let is : IsFault (front_of (tail fed)) = some_fault (place fed) (front_of (tail fed)) x (sym s.fault ∙ some) in
    let k : Stuck fed piece = stuck fed piece is in
    record {
      each = k.each ∙ s.each;
      rest = s.rest ∙ kept-fault (tail fed) (tail (fed ++ piece)) (front_of (tail fed)) is ∙ ap (kept (tail (fed ++ piece))) k.front;
      at = s.at ∙ ap capped (sym k.at);
      fault = s.fault ∙ ap (fault_at (place fed)) k.front ∙ ap (λ n. fault_at n (front_of (tail (fed ++ piece)))) (sym k.at);
    }

ending-fault : (at count count' : ℕ) (f : Front) → IsFault f → ending_at at count f ≡ ending_at at count' f
ending-fault at count count' (Whole n) h = absurd h
ending-fault at count count' Part h = absurd h
ending-fault at count count' Wrong h = refl
ending-fault at count count' (Long n) h = refl

-- a fault stands where it stood, whatever comes
pub ending-append : (fed piece : List ℕ) (x : FrameFault) → fault_of (ending fed) ≡ Some x → ending (fed ++ piece) ≡ ending fed
ending-append fed piece x some =
    let is : IsFault (front_of (tail fed)) = some_fault (place fed) (front_of (tail fed)) x (sym (fault_of-ending (place fed) (length (tail fed)) (front_of (tail fed))) ∙ some) in
    let k : Stuck fed piece = stuck fed piece is in
    ap (λ n. ending_at n (length (tail (fed ++ piece))) (front_of (tail (fed ++ piece)))) k.at
    ∙ ap (ending_at (place fed) (length (tail (fed ++ piece)))) (sym k.front)
    ∙ ending-fault (place fed) (length (tail (fed ++ piece))) (length (tail fed)) (front_of (tail fed)) is

pub takes_stands : (fed piece : List ℕ) (given : List Message) (old new : Decoding) → Stands fed given old → old.fault ≡ None → Takes old piece new → Stands (fed ++ piece) given new
takes_stands fed piece given old new s none t = stands_by (fed ++ piece) given new (takes_stands_at fed piece given old new (front_stands fed given old s) none t)

pub fault_stands : (fed piece : List ℕ) (given : List Message) (old : Decoding) (x : FrameFault) → Stands fed given old → old.fault ≡ Some x → Stands (fed ++ piece) given old
fault_stands fed piece given old x s some = stands_by (fed ++ piece) given old (fault_stands_at fed piece given old x (front_stands fed given old s) some)

-- ---- the beginning, and what is given

no_bytes : front_of [] ≡ Part
unfolding front_of
no_bytes = refl

new_stands_at : (d : Decoding) → d.queue ≡ [] → d.rest ≡ [] → d.place ≡ 0 → d.fault ≡ None → StandsAt [] [] d
new_stands_at d q r p f =
    let u : reading [] ≡ unread [] = reading-not_whole [] (λ n e. let k : Part ≡ Whole n = sym no_bytes ∙ e in absurd (cc)) in
    let t : tail [] ≡ [] = ap (λ x. x.tail) u in
    let g : front_of (tail []) ≡ Part = ap front_of t ∙ no_bytes in
    let z : place [] ≡ 0 = omega arith in
    record {
      each = ap (λ x. x.messages) u ∙ sym q;
      rest = r ∙ sym t ∙ ap (kept (tail [])) (sym g);
      at = p ∙ ap capped (sym z);
      fault = f ∙ ap (fault_at (place [])) (sym g);
    }

pub new_stands : (d : Decoding) → d.queue ≡ [] → d.rest ≡ [] → d.place ≡ 0 → d.fault ≡ None → Stands [] [] d
new_stands d q r p f = stands_by [] [] d (new_stands_at d q r p f)

-- what leaves the queue was given
pub next_stands : (fed : List ℕ) (given one : List Message) (old new : Decoding) → Stands fed given old → old.queue ≡ one ++ new.queue → new ≡ record old { queue = new.queue } → Stands fed (given ++ one) new
next_stands fed given one old new s q e = record {
  each = s.each ∙ ap (λ xs. given ++ xs) q ∙ sym (append_assoc given one new.queue);
  left = ap (λ d. d.rest) e ∙ s.left;
  at = ap (λ d. d.place) e ∙ s.at;
  fault = ap (λ d. d.fault) e ∙ s.fault;
}

-- ---- one piece

-- A piece that makes no frame whole.
pub unread_takes : (old new : Decoding) (piece bytes : List ℕ) → old.rest ++ piece ≡ bytes → NotWhole (front_of bytes) → capped old.place ≡ old.place
    → new.queue ≡ old.queue → new.rest ≡ kept bytes (front_of bytes) → new.place ≡ old.place → new.fault ≡ fault_at old.place (front_of bytes) → Takes old piece new
unread_takes old new piece bytes b n c q r p f =
    let u : reading (old.rest ++ piece) ≡ unread bytes = ap reading b ∙ reading-not_whole bytes n in
    let t : tail (old.rest ++ piece) ≡ bytes = ap (λ x. x.tail) u in
    let l : length (tail (old.rest ++ piece)) ≡ length (old.rest ++ piece) = ap length (t ∙ sym b) in
    let z : place (old.rest ++ piece) ≡ 0 = omega (arith, l) in
    let a : old.place + place (old.rest ++ piece) ≡ old.place = ap (λ k. old.place + k) z ∙ add-zero old.place in
    record {
      queue = q ∙ sym (append-nil old.queue) ∙ ap (λ xs. old.queue ++ xs) (sym (ap (λ x. x.messages) u));
      rest = r ∙ ap (λ xs. kept xs (front_of xs)) (sym t);
      at = p ∙ sym c ∙ ap capped (sym a);
      fault = f ∙ ap (λ k. fault_at k (front_of bytes)) (sym a) ∙ ap (λ xs. fault_at (old.place + place (old.rest ++ piece)) (front_of xs)) (sym t);
    }

-- A piece that makes a frame whole, and goes on with these bytes.
pub whole_takes : (old new : Decoding) (piece bytes later : List ℕ) (n : ℕ) → old.rest ++ piece ≡ bytes → front_of bytes ≡ Whole n → drop (14 + n) bytes ≡ later
    → new.queue ≡ old.queue ++ (message_at n bytes ∷ messages later) → new.rest ≡ kept (tail later) (front_of (tail later))
    → new.place ≡ capped (old.place + (14 + n + (length later - length (tail later)))) → new.fault ≡ fault_at new.place (front_of (tail later)) → Takes old piece new
whole_takes old new piece bytes later n b w d q r p f =
    let u : reading (old.rest ++ piece) ≡ with_first (message_at n bytes) (reading later) = ap reading b ∙ reading-whole bytes n w ∙ ap (λ xs. with_first (message_at n bytes) (reading xs)) d in
    let t : tail (old.rest ++ piece) ≡ tail later = ap (λ x. x.tail) u in
    let l : length (tail (old.rest ++ piece)) ≡ length (tail later) = ap length t in
    let long : 14 + n ≤ length bytes = whole-length bytes n w in
    let z : place (old.rest ++ piece) ≡ 14 + n + (length later - length (tail later)) =
    omega (arith, l, ap length b, ap length d, length-drop (14 + n) bytes, tail-length later) in
    let a : new.place ≡ capped (old.place + place (old.rest ++ piece)) = p ∙ ap (λ k. capped (old.place + k)) (sym z) in
    record {
      queue = q ∙ ap (λ xs. old.queue ++ xs) (sym (ap (λ x. x.messages) u));
      rest = r ∙ ap (λ xs. kept xs (front_of xs)) (sym t);
      at = a;
      fault = f ∙ fault_at-capped new.place (old.place + place (old.rest ++ piece)) (front_of (tail later)) (omega (arith, a))
          ∙ ap (λ xs. fault_at (old.place + place (old.rest ++ piece)) (front_of xs)) (sym t);
    }
