-- Reading events twice, and once.
use Rattle.std.proofs.Common.{◌≡◌, ◌∙◌, refl, ap, sym, ℕ, zero, suc, ◌+◌, ◌≤◌, List, [], ◌∷◌, ◌++◌, drop, length, map, arith}
use Rattle.std.specs.List.{filter}
use Rattle.std.proofs.lemmas.List.{append-nil, map-append}
use Rattle.std.proofs.lemmas.List.Elements.{filter-append}
use Rattle.wm_json.specs.declared.views.EventBody.{EventBody}
use Rattle.wm_json.specs.declared.views.EventView.{EventView}
use Rattle.wm_kept.specs.Log.{numbered}
use Rattle.wm_kept.proofs.LogLemmas.{numbered_more}
use Rattle.wm_talk.specs.Marks.{after_marks, behind, read, told_over}
use Rattle.wm_talk.specs.Talking.{after_events, last_number}
use Rattle.wm_talk.specs.Told.{event_message, is_due, messages_of, told}
use Rattle.wm_talk.specs.declared.since.Since.{Since}
use Rattle.wm_talk.specs.declared.talk.Talk.{Talk}

-- ---- parts of a list

all_behind : {X : Type 0} (xs ys : List X) → drop (length xs) (xs ++ ys) ≡ ys
all_behind [] ys = refl
all_behind (x ∷ xs) ys = all_behind xs ys

parts : {X : Type 0} (n : ℕ) (xs ys : List X) → n ≤ length xs → drop n (xs ++ ys) ≡ drop n xs ++ drop (length xs) (xs ++ ys)
parts zero xs ys few = ap (λ zs. xs ++ zs) (sym (all_behind xs ys))
parts (suc n) [] ys few = absurd (omega (arith, few))
parts (suc n) (x ∷ xs) ys few = parts n xs ys (omega (arith, few))

as_many : (n : ℕ) (bodies : List EventBody) → length (numbered n bodies) ≡ length bodies
as_many n [] = refl
as_many n (body ∷ bodies) = ap suc (as_many (n + 1) bodies)

-- the events behind the first n of more are those of fewer, and those that came then
events_parts : (n : ℕ) (all more : List EventBody) → n ≤ length all → drop n (numbered 0 (all ++ more)) ≡ drop n (numbered 0 all) ++ drop (length all) (numbered 0 (all ++ more))
events_parts n all more few =
    rw (numbered_more 0 all more) (parts n (numbered 0 all) (numbered (0 + length all) more) (omega (arith, few, as_many 0 all))
    ∙ ap (λ m. drop n (numbered 0 all) ++ drop m (numbered 0 all ++ numbered (0 + length all) more)) (as_many 0 all))

-- ---- what is told of parts

told_parts : (since : Since) (xs ys : List EventView) → messages_of since (xs ++ ys) ≡ messages_of since xs ++ messages_of since ys
told_parts since xs ys =
    ap (λ es. map event_message es) (filter-append (is_due since) xs ys) ∙ map-append event_message (filter (is_due since) xs) (filter (is_due since) ys)

last_parts : (n : ℕ) (xs ys : List EventView) → last_number n (xs ++ ys) ≡ last_number (last_number n xs) ys
last_parts n [] ys = refl
last_parts n (event ∷ xs) ys = last_parts event.number xs ys

pub told_twice : (t : Talk) (all more : List EventBody) → t.above ≤ length all
    → told_over t (read (behind t.above all) ∷ read (behind (length all) (all ++ more)) ∷ []) ≡ told t (behind t.above (all ++ more))
told_twice t all more few =
    let first = drop t.above (numbered 0 all) in
    let second = drop (length all) (numbered 0 (all ++ more)) in
    ap (λ ms. messages_of t.since first ++ ms) (append-nil (messages_of t.since second))
    ∙ (sym (told_parts t.since first second) ∙ ap (λ es. messages_of t.since es) (sym (events_parts t.above all more few)))

pub after_twice : (t : Talk) (all more : List EventBody) → t.above ≤ length all
    → after_marks (read (behind t.above all) ∷ read (behind (length all) (all ++ more)) ∷ []) t ≡ after_events (behind t.above (all ++ more)) t
after_twice t all more few =
    let first = drop t.above (numbered 0 all) in
    let second = drop (length all) (numbered 0 (all ++ more)) in
    ap with_above (sym (last_parts t.above first second) ∙ ap (λ es. last_number t.above es) (sym (events_parts t.above all more few)))
  where
    with_above : ℕ → Talk
    with_above n = record { since = t.since; above = n }
