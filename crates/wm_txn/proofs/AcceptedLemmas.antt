-- What is accepted opens, closes and maps the same windows.
use Rattle.std.proofs.Common.{◌≡◌, ℕ, Bool, true, false, cond, not, ◌&&◌, ◌||◌, leb, List, [], ◌∷◌, Option, Some, None, is_some, refl, ap, sym, ◌∙◌}
use Rattle.std.proofs.lemmas.Bool.{and_parts}
use Rattle.std.specs.List.{list_any}
use Rattle.wm_base.specs.declared.ids.Buffer.{Buffer}
use Rattle.wm_base.specs.declared.ids.ConId.{ConId}
use Rattle.wm_forest.specs.Look.{same}
use Rattle.wm_txn.specs.Accepted.{accept, accepted, is_due, is_empty}
use Rattle.wm_txn.specs.History.{Opening, Entry, Arranged, Acked, Gave, Deadline, Still, buffer_after, buffer_up_to, is_fresh, is_open, last, mapped_with, maps, open_after, was_open}
use Rattle.wm_txn.proofs.WindowLemmas.{one_id}

opens_same : (o : Opening) (v : ConId) (entry : Entry) (history : List Entry) (before : Bool) → open_after (accept o entry history) v before ≡ open_after entry v before
opens_same o v (Arranged newest fresh gone) history before = refl
opens_same o v (Acked c serial) history before = by (is_open o c history && is_due o c serial history)
  where
    by : (b : Bool) → open_after (cond b (Acked c serial) Still) v before ≡ before
    by true = refl
    by false = refl
opens_same o v (Gave c buffer) history before = by (is_open o c history && not (is_empty buffer.size))
  where
    by : (b : Bool) → open_after (cond b (Gave c buffer) Still) v before ≡ before
    by true = refl
    by false = refl
opens_same o v (Deadline number) history before = refl
opens_same o v Still history before = refl

-- the same windows are open after what was accepted
pub accepted_opens : (o : Opening) (v : ConId) (history : List Entry) → is_open o v (accepted o history) ≡ is_open o v history
accepted_opens o v [] = refl
accepted_opens o v (entry ∷ history) = opens_same o v entry (accepted o history) (is_open o v (accepted o history)) ∙ ap (open_after entry v) (accepted_opens o v history)

open_step : (v : ConId) (entry : Entry) (before was : Bool) → (before ≡ true → was ≡ true) → open_after entry v before ≡ true → (maps v entry || was) ≡ true
open_step v (Arranged newest fresh gone) before was h opens = by (is_fresh v fresh) before (and_parts (is_fresh v fresh || before) (not (list_any (same v) gone)) opens).0 h
  where
    by : (f b : Bool) → (f || b) ≡ true → (b ≡ true → was ≡ true) → (f || was) ≡ true
    by true b e k = refl
    by false b e k = k e
open_step v (Acked c serial) before was h opens = h opens
open_step v (Gave c buffer) before was h opens = h opens
open_step v (Deadline number) before was h opens = h opens
open_step v Still before was h opens = h opens

-- one that is open was open
pub open_was : (o : Opening) (v : ConId) (history : List Entry) → is_open o v history ≡ true → was_open o v history ≡ true
open_was o v [] h = h
open_was o v (entry ∷ history) h = open_step v entry (is_open o v history) (was_open o v history) (open_was o v history) h

mapped_some : (v : ConId) (fresh : Option (ConId × Buffer)) (before : Option Buffer) → (is_fresh v fresh ≡ false → is_some before ≡ true) → is_some (mapped_with v fresh before) ≡ true
mapped_some v None before h = h refl
mapped_some v (Some window) before h = by (same window.0 v) h
  where
    by : (b : Bool) → (b ≡ false → is_some before ≡ true) → is_some (cond b (Some window.1) before) ≡ true
    by true k = refl
    by false k = k refl

either_some : (b : Bool) (buffer : Buffer) (before : Option Buffer) → is_some before ≡ true → is_some (cond b (Some buffer) before) ≡ true
either_some true buffer before h = refl
either_some false buffer before h = h

or_false : (a b : Bool) → (a || b) ≡ true → a ≡ false → b ≡ true
or_false false b h e = h
or_false true b h e = cc

some_step : (o : Opening) (v : ConId) (n : ℕ) (entry : Entry) (history : List Entry) (under : ℕ) (before : Option Buffer) (was : Bool) → (was ≡ true → is_some before ≡ true) → (maps v entry || was) ≡ true
    → is_some (buffer_after (accept o entry history) v n under before) ≡ true
some_step o v n (Arranged newest fresh gone) history under before was h one = mapped_some v fresh before (λ other. h (or_false (is_fresh v fresh) was one other))
some_step o v n (Acked c serial) history under before was h one = by (is_open o c history && is_due o c serial history)
  where
    by : (b : Bool) → is_some (buffer_after (cond b (Acked c serial) Still) v n under before) ≡ true
    by true = h one
    by false = h one
some_step o v n (Gave c buffer) history under before was h one = by (is_open o c history && not (is_empty buffer.size))
  where
    by : (b : Bool) → is_some (buffer_after (cond b (Gave c buffer) Still) v n under before) ≡ true
    by true = either_some (same c v && leb under n) buffer before (h one)
    by false = h one
some_step o v n (Deadline number) history under before was h one = h one
some_step o v n Still history under before was h one = h one

-- one that was open has a buffer
pub was_some : (o : Opening) (v : ConId) (n : ℕ) (history : List Entry) → was_open o v history ≡ true → is_some (buffer_up_to o n v (accepted o history)) ≡ true
was_some o v n [] h = h
was_some o v n (entry ∷ history) h =
    some_step o v n entry (accepted o history) (last v (accepted o history)) (buffer_up_to o n v (accepted o history)) (was_open o v history) (was_some o v n history) h

fresh_some : (v : ConId) (fresh : Option (ConId × Buffer)) (before : Option Buffer) (was : Bool) → (is_some before ≡ true → was ≡ true) → is_some (mapped_with v fresh before) ≡ true → (is_fresh v fresh || was) ≡ true
fresh_some v None before was h some = h some
fresh_some v (Some window) before was h some = by (same window.0 v) some
  where
    by : (b : Bool) → is_some (cond b (Some window.1) before) ≡ true → (b || was) ≡ true
    by true k = refl
    by false k = h k

gave_some : (c v : ConId) (buffer : Buffer) (before : Option Buffer) (was in_time s : Bool) → (s ≡ true → was ≡ true) → (is_some before ≡ true → was ≡ true) → is_some (cond (s && in_time) (Some buffer) before) ≡ true → was ≡ true
gave_some c v buffer before was in_time true one h some = one refl
gave_some c v buffer before was in_time false one h some = h some

was_step : (o : Opening) (v : ConId) (n : ℕ) (entry : Entry) (history : List Entry) (under : ℕ) (before : Option Buffer) (was : Bool) → ((c : ConId) → is_open o c history ≡ true → same c v ≡ true → was ≡ true) → (is_some before ≡ true → was ≡ true)
    → is_some (buffer_after (accept o entry history) v n under before) ≡ true → (maps v entry || was) ≡ true
was_step o v n (Arranged newest fresh gone) history under before was opened h some = fresh_some v fresh before was h some
was_step o v n (Acked c serial) history under before was opened h some = by (is_open o c history && is_due o c serial history) some
  where
    by : (b : Bool) → is_some (buffer_after (cond b (Acked c serial) Still) v n under before) ≡ true → was ≡ true
    by true k = h k
    by false k = h k
was_step o v n (Gave c buffer) history under before was opened h some = by (is_open o c history && not (is_empty buffer.size)) refl some
  where
    by : (b : Bool) → (is_open o c history && not (is_empty buffer.size)) ≡ b → is_some (buffer_after (cond b (Gave c buffer) Still) v n under before) ≡ true → was ≡ true
    by true e k = gave_some c v buffer before was (leb under n) (same c v) (opened c (and_parts (is_open o c history) (not (is_empty buffer.size)) e).0) h k
    by false e k = h k
was_step o v n (Deadline number) history under before was opened h some = h some
was_step o v n Still history under before was opened h some = h some

-- one that has a buffer was open
pub some_was : (o : Opening) (v : ConId) (n : ℕ) (history : List Entry) → is_some (buffer_up_to o n v (accepted o history)) ≡ true → was_open o v history ≡ true
some_was o v n [] h = h
some_was o v n (entry ∷ history) h =
    was_step o v n entry (accepted o history) (last v (accepted o history)) (buffer_up_to o n v (accepted o history)) (was_open o v history)
    (λ c opens one. ap (λ z. was_open o z history) (sym (one_id c v one)) ∙ open_was o c history (sym (accepted_opens o c history) ∙ opens))
    (some_was o v n history) h
