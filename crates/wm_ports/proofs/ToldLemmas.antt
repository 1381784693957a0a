-- How told bytes change over several readings or writings.
use Rattle.std.proofs.Common.{◌≡◌, ℕ, ◌+◌, ◌-◌, ◌<◌, ◌≤◌, List, [], ◌++◌, length, take, drop, min, Option, None, Some, Ok, Err, refl, sym, ◌∙◌, ap, subst, arith, length-append, length-take, length-drop, append_assoc}
use Rattle.std.proofs.lemmas.List.{drop_all, take-append-le, append-nil, take-append-drop, take-take, drop-take, drop-drop, take_all, length-take-le}
use Rattle.std.specs.Prelude.{⊤}
use Rattle.wm_ports.specs.Told.{Reads, ReadsFrom, Takes, TakesAll, TakesPart, ReadsAll, ReadsCount, ReadsPart}

-- ---- lists

pub take_sum : (k n : ℕ) (xs : List ℕ) → take (k + n) xs ≡ take k xs ++ take n (drop k xs)
take_sum k n xs =
    let front : take k (take (k + n) xs) ≡ take k xs = take-take k (k + n) xs (omega arith) in
    sym (take-append-drop k (take (k + n) xs)) ∙ rw (front, drop-take k n xs)

-- what the first bytes are as long as stands within the list
pub first-within : (xs bytes : List ℕ) → take (length bytes) xs ≡ bytes → length bytes ≤ length xs
first-within xs bytes e = let l : min (length bytes) (length xs) ≡ length bytes = sym (length-take (length bytes) xs) ∙ ap length e in omega (arith, l)

-- a list with nothing left past its first bytes is these bytes
pub first-all : (xs bytes : List ℕ) → take (length bytes) xs ≡ bytes → drop (length bytes) xs ≡ [] → bytes ≡ xs
first-all xs bytes e none =
    sym (append-nil bytes) ∙ ap (λ l. bytes ++ l) (sym none) ∙ ap (λ l. l ++ drop (length bytes) xs) (sym e)
    ∙ take-append-drop (length bytes) xs

pub first-more :
    (xs bytes more : List ℕ) → take (length bytes) xs ≡ bytes → take (length more) (drop (length bytes) xs) ≡ more
    → take (length (bytes ++ more)) xs ≡ bytes ++ more
first-more xs bytes more e f = rw (length-append bytes more, take_sum (length bytes) (length more) xs, e, f)

-- a slice of bytes from a place to their end
pub slice_to_end : (at : ℕ) (bytes : List ℕ) → take (length bytes - at) (drop at bytes) ≡ drop at bytes
slice_to_end at bytes = take_all (length bytes - at) (drop at bytes) (omega (arith, length-drop at bytes))

-- ---- writing

pub takes-start : (old : Option (List ℕ)) (bytes : List ℕ) → TakesAll old old (take 0 bytes)
takes-start None bytes = tt
takes-start (Some t) bytes = ap Some (sym (append-nil t))

pub takes-step :
    (E : Type 0) (old mid new : Option (List ℕ)) (bytes : List ℕ) (at n : ℕ)
    → TakesAll old mid (take at bytes) → Takes {E = E} mid new (Ok n) (take (length bytes - at) (drop at bytes))
    → TakesAll old new (take (at + n) bytes)
takes-step E None mid new bytes at n before step = tt
takes-step E (Some t) mid new bytes at n before step =
    let grown : new ≡ Some ((t ++ take at bytes) ++ take n (drop at bytes)) =
    subst (λ m. Takes {E = E} m new (Ok n) (drop at bytes)) before
    (subst (λ l. Takes {E = E} mid new (Ok n) l) (slice_to_end at bytes) step)
    in grown ∙ ap Some (append_assoc t (take at bytes) (take n (drop at bytes)) ∙ ap (λ l. t ++ l) (sym (take_sum at n bytes)))

pub takes-part :
    (E : Type 0) (old mid new : Option (List ℕ)) (bytes : List ℕ) (at : ℕ) (e : E) → at ≤ length bytes
    → TakesAll old mid (take at bytes) → Takes {E = E} mid new (Err e) (take (length bytes - at) (drop at bytes))
    → TakesPart old new bytes
takes-part E None mid new bytes at e within before step = tt
takes-part E (Some t) mid new bytes at e within before step = (
  at,
  record {
    within = within;
    grown = subst (λ m. Takes {E = E} m new (Err e) (drop at bytes)) before
        (subst (λ l. Takes {E = E} mid new (Err e) l) (slice_to_end at bytes) step);
  },
)

-- ---- reading

-- these bytes were read, the first of what was told, and new tells what is left
abbrev pub ReadsFirst : Option (List ℕ) → Option (List ℕ) → List ℕ → Type 0
ReadsFirst None new bytes = ⊤
ReadsFirst (Some xs) new bytes = (take (length bytes) xs ≡ bytes) × (new ≡ Some (drop (length bytes) xs))

pub reads-start : (old : Option (List ℕ)) → ReadsFirst old old []
reads-start None = tt
reads-start (Some xs) = (refl, refl)

pub reads-step :
    (E : Type 0) (old mid new : Option (List ℕ)) (bytes room : List ℕ) (n : ℕ) → n ≤ length room
    → ReadsFirst old mid bytes → Reads {E = E} mid new (Ok n) room
    → ReadsFirst old new (bytes ++ take n room)
reads-step E None mid new bytes room n within before step = tt
reads-step E (Some xs) mid new bytes room n within before step =
    let read : ReadsFrom (drop (length bytes) xs) new n room = subst (λ m. Reads {E = E} m new (Ok n) room) before.1 step in
    let long : length (take n room) ≡ n = length-take-le n room within in
    let more : take (length (take n room)) (drop (length bytes) xs) ≡ take n room = rw long (sym read.bytes) in
    let left : drop n (drop (length bytes) xs) ≡ drop (length (bytes ++ take n room)) xs =
    rw (length-append bytes (take n room), long, drop-drop n (length bytes) xs)
    in (first-more xs bytes (take n room) before.0 more, read.left ∙ ap Some left)

pub reads-end :
    (E : Type 0) (old mid new : Option (List ℕ)) (bytes room : List ℕ) (n : ℕ) → n ≡ 0
    → ReadsFirst old mid bytes → Reads {E = E} mid new (Ok n) room → ReadsAll old new bytes
reads-end E None mid new bytes room n none before step = tt
reads-end E (Some xs) mid new bytes room n none before step =
    let read : ReadsFrom (drop (length bytes) xs) new n room = subst (λ m. Reads {E = E} m new (Ok n) room) before.1 step in
    let over : drop (length bytes) xs ≡ [] = read.end none in
    (first-all xs bytes before.0 over, read.left ∙ ap Some (ap (λ k. drop k (drop (length bytes) xs)) none ∙ over))

pub reads-count : (old new : Option (List ℕ)) (bytes : List ℕ) → ReadsFirst old new bytes → ReadsCount old new (length bytes)
reads-count None new bytes first = tt
reads-count (Some xs) new bytes first = (first-within xs bytes first.0, first.1)

pub reads-part : (old new : Option (List ℕ)) (bytes : List ℕ) → ReadsFirst old new bytes → ReadsPart old new
reads-part None new bytes first = tt
reads-part (Some xs) new bytes first = (length bytes, (first-within xs bytes first.0, first.1))

pub reads-failed :
    (E : Type 0) (old mid new : Option (List ℕ)) (bytes room : List ℕ) (e : E)
    → ReadsFirst old mid bytes → Reads {E = E} mid new (Err e) room → ReadsFirst old new bytes
reads-failed E None mid new bytes room e before step = tt
reads-failed E (Some xs) mid new bytes room e before step =
    (before.0, subst (λ m. Reads {E = E} m new (Err e) room) before.1 step)

-- the bytes read before, and n more from the front of room
pub joined_length : (all room : List ℕ) (n : ℕ) → n ≤ length room → length (all ++ take n room) ≡ length all + n
joined_length all room n within = rw (length-append all (take n room), length-take-le n room within)

-- a copy of the bytes from a place on, as many as there are and as there is room for
pub reads-slice :
    (bytes room copy : List ℕ) (at n : ℕ) → at ≤ length bytes → 0 < length room → n ≡ min (length room) (length bytes - at)
    → copy ≡ take n (drop at bytes)
    → ReadsFrom (drop at bytes) (Some (drop (at + n) bytes)) n (copy ++ drop n room)
reads-slice bytes room copy at n within some count copied =
    let long : length copy ≡ n = ap length copied ∙ length-take-le n (drop at bytes) (omega (arith, length-drop at bytes)) in
    let front : take n (copy ++ drop n room) ≡ take n copy = take-append-le n copy (drop n room) (omega arith) in
    record {
      end = λ none. drop_all at bytes (omega arith);
      bytes = front ∙ ap (λ l. take n l) copied ∙ take-take n n (drop at bytes) (omega arith);
      left = ap Some (sym (drop-drop n at bytes));
    }
