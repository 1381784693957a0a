-- What is kept after more is told, and which of it is above a number.
use Rattle.std.proofs.Common.{◌≡◌, ◌≤◌, ◌<◌, ℕ, zero, suc, ◌+◌, ◌-◌, min, Bool, true, false, cond, List, [], ◌∷◌, ◌++◌, length, drop, take, refl, ap, sym, subst, ◌∙◌, arith, append_assoc, length-append, nat_lt, nat_le}
use Rattle.std.proofs.lemmas.Bool.Decides.{nat_tests}
use Rattle.std.proofs.lemmas.List.{append-nil, drop-drop, drop-append-le, drop_min, length-drop, take_all}
use Rattle.std.proofs.Math.Seq.{drop-append-add, drop-length, drop-nil}
use Rattle.std.specs.List.{filter}
use Rattle.circular_buffer.specs.Buffer.{keep_last}
use Rattle.wm_json.specs.declared.views.EventBody.{EventBody}
use Rattle.wm_json.specs.declared.views.EventView.{EventView}
use Rattle.wm_json.specs.Kinds.{kind_of}
use Rattle.wm_kept.specs.Above.{oldest, told_above, told_since}
use Rattle.wm_kept.specs.declared.above.Above.TheVariants.{Events, Lagged}
use Rattle.wm_kept.specs.Log.{AreLast, AreNumbered, Log, kept_of, numbered, told}

-- ---- the last of a list

-- of what is behind what was left out, the same are the last
pub keep_more : {X : Type 0} (n : ℕ) (xs ys : List X) → keep_last n (keep_last n xs ++ ys) ≡ keep_last n (xs ++ ys)
keep_more n xs ys =
    let k = length xs - n in
    let le : k ≤ length xs = omega arith in
    let seam : drop k (xs ++ ys) ≡ drop k xs ++ ys = drop-append-le k xs ys le in
    let size : length (drop k xs ++ ys) ≡ (length xs - k) + length ys = length-append (drop k xs) ys ∙ ap (λ m. m + length ys) (length-drop k xs) in
    let whole : length (xs ++ ys) ≡ length xs + length ys = length-append xs ys in
    let places : k + (length (drop k xs ++ ys) - n) ≡ length (xs ++ ys) - n = omega arith in
    ap (drop (length (drop k xs ++ ys) - n)) (sym seam) ∙ (drop-drop (length (drop k xs ++ ys) - n) k (xs ++ ys) ∙ ap (λ m. drop m (xs ++ ys)) places)

pub keep_length : {X : Type 0} (n : ℕ) (xs : List X) → length (keep_last n xs) ≡ min (length xs) n
keep_length n xs = length-drop (length xs - n) xs ∙ omega arith

-- where there are no more, all are the last
pub keep_all : {X : Type 0} (n : ℕ) (xs : List X) → length xs ≤ n → keep_last n xs ≡ xs
keep_all n xs few = let none : length xs - n ≡ 0 = omega arith in ap (λ m. drop m xs) none

-- from a place on to the end is all from there on
pub rest_whole : {X : Type 0} (n : ℕ) (xs : List X) → take (length xs - n) (drop n xs) ≡ drop n xs
rest_whole n xs = take_all (length xs - n) (drop n xs) (let k = length-drop n xs in omega arith)

-- where nothing is left, what came out is all
pub all_out : {X : Type 0} (xs ys all : List X) → length ys ≡ 0 → xs ++ ys ≡ all → xs ≡ all
all_out xs [] all none e = sym (append-nil xs) ∙ e
all_out xs (y ∷ ys) all none e = absurd (omega arith)

-- ---- events that are told one after another

pub numbered_more : (n : ℕ) (xs ys : List EventBody) → numbered n (xs ++ ys) ≡ numbered n xs ++ numbered (n + length xs) ys
numbered_more n [] ys = let places : n ≡ n + 0 = omega arith in ap (λ m. numbered m ys) places
numbered_more n (x ∷ xs) ys =
    let places : (n + 1) + length xs ≡ n + suc (length xs) = omega arith in
    ap (λ (es : List EventView). record { number = n + 1; kind = kind_of x; body = x } ∷ es) (numbered_more (n + 1) xs ys ∙ ap (λ m. numbered (n + 1) xs ++ numbered m ys) places)

same_log : (a b : ℕ) (xs ys : List EventView) → a ≡ b → xs ≡ ys → ◌≡◌ {A = Log} (record { last = a; events = xs }) (record { last = b; events = ys })
same_log a b xs ys e f = cc

-- what is kept of all is kept where the last of them are told later
pub kept_told : (all bodies : List EventBody) → told bodies (kept_of all) ≡ kept_of (all ++ bodies)
kept_told all bodies = same_log _ _ _ _ (sym (length-append all bodies))
    (keep_more 4096 (numbered 0 all) (numbered (length all) bodies) ∙ ap (keep_last 4096) (sym (numbered_more 0 all bodies ∙ ap (λ m. numbered 0 all ++ numbered m bodies) places)))
  where
    places : 0 + length all ≡ length all
    places = omega arith

-- where nothing more is told, all is as it was
pub told_none : (last : ℕ) (events : List EventView) (log : Log) → ◌≡◌ {A = Log} (record { last = last; events = events }) log → AreLast last events → log ≡ told [] log
told_none last events log e p = subst (λ (k : Log). k ≡ told [] k) e (same_log last (last + 0) events (keep_last 4096 (events ++ [])) (omega arith) (sym all))
  where
    all : keep_last 4096 (events ++ []) ≡ events
    all = keep_all 4096 (events ++ []) (let k = length-append events [] in let few = p.0 in omega arith) ∙ append-nil events

pub told_more : (xs ys : List EventBody) (log : Log) → told ys (told xs log) ≡ told (xs ++ ys) log
told_more xs ys log = same_log _ _ _ _ (let e = length-append xs ys in omega arith)
    (keep_more 4096 (log.events ++ numbered log.last xs) (numbered (log.last + length xs) ys)
    ∙ ap (keep_last 4096) (append_assoc log.events (numbered log.last xs) (numbered (log.last + length xs) ys) ∙ ap (λ es. log.events ++ es) (sym (numbered_more log.last xs ys))))

-- ---- their numbers

length_numbered : (n : ℕ) (xs : List EventBody) → length (numbered n xs) ≡ length xs
length_numbered n [] = refl
length_numbered n (x ∷ xs) = ap suc (length_numbered (n + 1) xs)

numbered_are : (n last : ℕ) (xs : List EventBody) → n + length xs ≡ last → AreNumbered last (numbered n xs)
numbered_are n last [] e = tt
numbered_are n last (x ∷ xs) e = (let k = length_numbered (n + 1) xs in omega arith, numbered_are (n + 1) last xs (omega arith))

pub numbered_drop : (k last : ℕ) (events : List EventView) → AreNumbered last events → AreNumbered last (drop k events)
numbered_drop zero last events p = p
numbered_drop (suc k) last [] p = tt
numbered_drop (suc k) last (e ∷ events) p = numbered_drop k last events p.1

numbered_and : (last : ℕ) (events : List EventView) (e : EventView) → e.number ≡ last + 1 → AreNumbered last events → AreNumbered (last + 1) (events ++ e ∷ [])
numbered_and last [] e at p = (omega arith, tt)
numbered_and last (d ∷ events) e at p = (let k = length-append events (e ∷ []) in let h = p.0 in omega arith, numbered_and last events e at p.1)

-- one more event leaves the last of them
pub last_and : (last : ℕ) (events : List EventView) (e : EventView) → e.number ≡ last + 1 → AreLast last events → AreLast (last + 1) (keep_last 4096 (events ++ e ∷ []))
last_and last events e at p = (
  let k = keep_length 4096 (events ++ e ∷ []) in let s = length-append events (e ∷ []) in let h = p.0 in omega arith,
  numbered_drop _ (last + 1) (events ++ e ∷ []) (numbered_and last events e at p.1),
)

-- the last of all are the last of so many
kept_are : (all : List EventBody) → AreLast (length all) (keep_last 4096 (numbered 0 all))
kept_are all = (
  let k = keep_length 4096 (numbered 0 all) in let s = length_numbered 0 all in omega arith,
  numbered_drop _ (length all) (numbered 0 all) (numbered_are 0 (length all) all (omega arith)),
)

-- ---- those above a number

-- the one after n is kept no more
lags : (n last : ℕ) (events : List EventView) → AreLast last events → n < last - length events → told_above n events ≡ Lagged (last - length events + 1)
lags n last [] p below = absurd (let few = p.0 in omega arith)
lags n last (e ∷ events) p below =
    let at : e.number ≡ last - suc (length events) + 1 = let k = p.1.0 in omega arith in
    let early : nat_lt (n + 1) e.number ≡ true = grind (arith, nat_tests) in
    ap (λ b. cond b (Lagged e.number) (Events (filter (λ (d : EventView). nat_lt n d.number) (e ∷ events)))) early ∙ ap Lagged at

none_missed : (n last : ℕ) (events : List EventView) → AreLast last events → last - length events ≤ n → nat_lt (n + 1) (oldest events) ≡ false
none_missed n last [] p above = grind (arith, nat_tests)
none_missed n last (e ∷ events) p above = let k = p.1.0 in grind (arith, nat_tests)

-- those above n are the ones from a place on
above_is : (n last : ℕ) (events : List EventView) → length events ≤ last → AreNumbered last events → filter (λ (e : EventView). nat_lt n e.number) events ≡ drop (n - (last - length events)) events
above_is n last [] few p = sym (drop-nil (n - (last - 0)))
above_is n last (e ∷ events) few p = by_test p.0 (above_is n last events (omega arith) p.1) (nat_lt n e.number) refl
  where
    by_test : e.number + length events ≡ last → filter (λ (d : EventView). nat_lt n d.number) events ≡ drop (n - (last - length events)) events → (b : Bool) → nat_lt n e.number ≡ b
        → cond b (e ∷ filter (λ (d : EventView). nat_lt n d.number) events) (filter (λ (d : EventView). nat_lt n d.number) events) ≡ drop (n - (last - suc (length events))) (e ∷ events)
    by_test number rest true t =
        let below : n < e.number = grind (arith, nat_tests) in
        let here : n - (last - suc (length events)) ≡ 0 = omega arith in
        let none : n - (last - length events) ≡ 0 = omega arith in
        ap (λ es. e ∷ es) (rest ∙ ap (λ m. drop m events) none) ∙ ap (λ m. drop m (e ∷ events)) (sym here)
    by_test number rest false t =
        let from : e.number ≤ n = grind (arith, nat_tests) in
        let next : suc (n - (last - length events)) ≡ n - (last - suc (length events)) = omega arith in
        rest ∙ ap (λ m. drop m (e ∷ events)) next

-- none that came after n is missing
pub follows : (n last : ℕ) (events : List EventView) → AreLast last events → last - length events ≤ n → told_above n events ≡ Events (drop (min (n - (last - length events)) (length events)) events)
follows n last events p above =
    let few : length events ≤ last = let k = p.0 in omega arith in
    ap (λ b. cond b (Lagged (oldest events)) (Events (filter (λ (d : EventView). nat_lt n d.number) events))) (none_missed n last events p above)
    ∙ ap Events (above_is n last events few p.1 ∙ sym (drop_min (n - (last - length events)) events))

-- who knows the first n of all is told the others
pub since : (n : ℕ) (all : List EventBody) → told_above n (keep_last 4096 (numbered 0 all)) ≡ told_since n all
since n all = by_test (nat_lt (n + 4096) (length all)) refl
  where
    kept : List EventView
    kept = keep_last 4096 (numbered 0 all)

    size : length kept ≡ min (length all) 4096
    size = (kept_are all).0

    by_test : (b : Bool) → nat_lt (n + 4096) (length all) ≡ b → told_above n kept ≡ cond b (Lagged (length all - 4096 + 1)) (Events (drop n (numbered 0 all)))
    by_test true t =
        let many : n + 4096 < length all = grind (arith, nat_tests) in
        let gone : length all - length kept + 1 ≡ length all - 4096 + 1 = omega (arith, size) in
        lags n (length all) kept (kept_are all) (omega (arith, size)) ∙ ap Lagged gone
    by_test false t =
        let few : length all ≤ n + 4096 = grind (arith, nat_tests) in
        let gone = length all - length kept in
        let before : gone ≤ n = omega (arith, size) in
        let places : (length (numbered 0 all) - 4096) + (n - gone) ≡ n = omega (arith, size, length_numbered 0 all) in
        follows n (length all) kept (kept_are all) before
        ∙ ap Events (drop_min (n - gone) kept ∙ (drop-drop (n - gone) (length (numbered 0 all) - 4096) (numbered 0 all) ∙ ap (λ m. drop m (numbered 0 all)) places))

-- what both parts have from a place on
pub drop_both : {X : Type 0} (n m : ℕ) (xs ys : List X) → m ≡ min n (length xs) → drop m xs ++ drop (n - m) ys ≡ drop n (xs ++ ys)
drop_both n m xs ys least = by_test (nat_le n (length xs)) refl
  where
    by_test : (b : Bool) → nat_le n (length xs) ≡ b → drop m xs ++ drop (n - m) ys ≡ drop n (xs ++ ys)
    by_test true t =
        let le : n ≤ length xs = grind (arith, nat_tests) in
        let all : m ≡ n = omega arith in
        let none : n - m ≡ 0 = omega arith in
        ap (λ k. drop k xs ++ drop (n - m) ys) all ∙ (ap (λ k. drop n xs ++ drop k ys) none ∙ sym (drop-append-le n xs ys le))
    by_test false t =
        let le : length xs ≤ n = grind (arith, nat_tests) in
        let all : m ≡ length xs = omega arith in
        let whole : length xs + (n - m) ≡ n = omega arith in
        ap (λ k. drop k xs ++ drop (n - m) ys) all ∙ (ap (λ es. es ++ drop (n - m) ys) (drop-length xs) ∙ (sym (drop-append-add xs ys (n - m)) ∙ ap (λ k. drop k (xs ++ ys)) whole))
