-- Those that are awaited have answered exactly where none are left.
use Rattle.std.proofs.Common.{◌≡◌, ℕ, ◌+◌, ◌≤◌, ◌<◌, Bool, true, false, cond, not, ◌&&◌, ◌||◌, eqb, leb, ltb, List, [], ◌∷◌, length, Option, Some, None, is_some, refl, ap, sym, ◌∙◌, arith}
use Rattle.std.proofs.lemmas.Bool.{eqb-true, eq-eqb, ltb-true, lt-leb, and_parts, false_from_ne_true}
use Rattle.std.proofs.lemmas.Bool.Decides.{nat_tests}
use Rattle.std.specs.List.{list_all}
use Rattle.std.specs.Option.{option_map}
use Rattle.wm_base.specs.declared.geometry.Size.{Size}
use Rattle.wm_base.specs.declared.ids.Buffer.{Buffer}
use Rattle.wm_base.specs.declared.ids.ConId.{ConId}
use Rattle.wm_forest.specs.Look.{same}
use Rattle.wm_arrange.specs.declared.parts.Placed.{Placed}
use Rattle.wm_arrange.specs.Sizes.{content_size, is_content}
use Rattle.wm_txn.specs.History.{Opening, Entry, is_open, gave}
use Rattle.wm_txn.specs.Schedule.{Transaction, answered, configure, configures, contents, is_new}
use Rattle.wm_txn.specs.Windows.{Buffers, Windows, find, is_left, is_unanswered, count_unanswered, left_of}
use Rattle.wm_txn.specs.Stands.{IsHeld, IsKept, Keeps, configure_of, serial_of}
use Rattle.wm_txn.specs.declared.held.Held.{Held}
use Rattle.wm_txn.proofs.GoneLemmas.{held_at, left_closed}
use Rattle.wm_txn.proofs.WindowLemmas.{one_id, none_left, all_answered}

-- ---- the windows with a content

abbrev pub has : ConId → List Placed → Bool
has v parts = is_some (content_size v parts)

has_either : (b : Bool) (size : Size) (rest : Option Size) → is_some rest ≡ true → is_some (cond b (Some size) rest) ≡ true
has_either true size rest h = refl
has_either false size rest h = h

pub has_later : (v : ConId) (p : Placed) (parts : List Placed) → has v parts ≡ true → has v (p ∷ parts) ≡ true
has_later v p parts h = has_either (same p.con v && is_content p.part) _ (content_size v parts) h

pub has_here : (p : Placed) (parts : List Placed) → is_content p.part ≡ true → has p.con (p ∷ parts) ≡ true
has_here p parts content = rw (eq-eqb p.con.0 p.con.0 refl, content) refl

module _ (c test : ConId → Bool) where
  all_step : (v : ConId) (rest : List ConId) (a b : Bool) → (a ≡ true → b ≡ true → test v ≡ true) → list_all test rest ≡ true → list_all test (cond (a && b) (v ∷ rest) rest) ≡ true
  all_step v rest true true here h = rw (here refl refl, h) refl
  all_step v rest true false here h = h
  all_step v rest false b here h = h

  -- where each one with a content that is chosen passes, all chosen ones do
  pub all_pass : (parts : List Placed) → ((v : ConId) → has v parts ≡ true → c v ≡ true → test v ≡ true) → list_all test (contents c parts) ≡ true
  all_pass [] h = refl
  all_pass (p ∷ parts) h =
      all_step p.con (contents c parts) (is_content p.part) (c p.con) (λ content chosen. h p.con (has_here p parts content) chosen) (all_pass parts (λ v there. h v (has_later v p parts there)))

  pass_step : (v w : ConId) (size : Size) (found : Option Size) (rest : List ConId) (s a b : Bool) → (s ≡ true → w ≡ v) → (a ≡ true → s ≡ true → b ≡ true)
      → list_all test (cond (a && b) (w ∷ rest) rest) ≡ true → is_some (cond (s && a) (Some size) found) ≡ true → (list_all test rest ≡ true → is_some found ≡ true → test v ≡ true) → test v ≡ true
  pass_step v w size found rest true true b one chosen all there later =
      let is_chosen = chosen refl refl in
      let passes = and_parts (test w) (list_all test rest) (rw is_chosen at all) in
      ap test (sym (one refl)) ∙ passes.0
  pass_step v w size found rest true false b one chosen all there later = later all there
  pass_step v w size found rest false true true one chosen all there later = later (and_parts (test w) (list_all test rest) all).1 there
  pass_step v w size found rest false true false one chosen all there later = later all there
  pass_step v w size found rest false false b one chosen all there later = later all there

  -- where all chosen ones pass, each one with a content that is chosen does
  pub each_passes : (parts : List Placed) → list_all test (contents c parts) ≡ true → (v : ConId) → has v parts ≡ true → c v ≡ true → test v ≡ true
  each_passes [] all v there chosen = let bad : false ≡ true = there in cc
  each_passes (p ∷ parts) all v there chosen =
      pass_step v p.con _ (content_size v parts) (contents c parts) (same p.con v) (is_content p.part) (c p.con) (one_id p.con v)
      (λ content one. ap c (one_id p.con v one) ∙ chosen)
      all there (λ all_later there_later. each_passes parts all_later v there_later chosen)

-- ---- configures

pub new_some : (found : Option Size) (before : Option (ℕ × Size)) → is_new found before ≡ true → is_some found ≡ true
new_some None before h = h
new_some (Some size) before h = refl

new_serial : (n : ℕ) (found : Option Size) (b : Bool) (before : Option (ℕ × Size)) → is_some found ≡ true → b ≡ true → serial_of (cond b (option_map (λ s. (n, s)) found) before) ≡ n
new_serial n None b before some is_it = let bad : false ≡ true = some in cc
new_serial n (Some s) true before some is_it = refl
new_serial n (Some s) false before some is_it = let bad : false ≡ true = is_it in cc

number_below : (n : ℕ) (found : Option Size) (b : Bool) (before : Option (ℕ × Size)) (number : ℕ) (size : Size) → cond b (option_map (λ s. (n, s)) found) before ≡ Some (number, size)
    → (before ≡ Some (number, size) → number < n) → number ≤ n
number_below n None true before number size h rest = cc
number_below n (Some s) true before number size h rest = let e : n ≡ number = ap serial_of h in omega arith
number_below n None false before number size h rest = let l = rest h in omega arith
number_below n (Some s) false before number size h rest = let l = rest h in omega arith

-- a configure is by one of the transactions
pub configure_le : (v : ConId) (transactions : List Transaction) (number : ℕ) (size : Size) → configure v transactions ≡ Some (number, size) → number ≤ length transactions
configure_le v [] number size h = cc
configure_le v (t ∷ transactions) number size h =
    let below = number_below (length transactions + 1) (content_size v t.parts) (configures transactions t.parts v) (configure v transactions) number size h
    (λ before. let l = configure_le v transactions number size before in omega arith) in
    omega arith

new_by_number : (n : ℕ) (found : Option Size) (b : Bool) (before : Option (ℕ × Size)) (size : Size) → cond b (option_map (λ s. (n, s)) found) before ≡ Some (n, size)
    → (before ≡ Some (n, size) → n < n) → b ≡ true
new_by_number n found true before size h rest = refl
new_by_number n found false before size h rest = absurd (omega (arith, rest h))

pub serial_is : (serial : ℕ) (size : Size) → serial_of (configure_of serial size) ≡ serial
serial_is serial size = by (eqb serial 0) (eqb-true serial 0)
  where
    by : (b : Bool) → (b ≡ true → serial ≡ 0) → serial_of (cond {A = Option (ℕ × Size)} b None (Some (serial, size))) ≡ serial
    by true zero = sym (zero refl)
    by false zero = refl

pub some_serial : (n serial : ℕ) (size : Size) → serial ≡ n → 0 < n → configure_of serial size ≡ Some (n, size)
some_serial n serial size e above =
    let other : eqb serial 0 ≡ false = grind (arith, nat_tests) in
    rw (other, e) refl

-- ---- answers

unanswered_parts : (live : Bool) (serial under n : ℕ) → (live && (eqb serial n && ltb under n)) ≡ true → (live ≡ true) × (serial ≡ n) × (under < n)
unanswered_parts live serial under n h =
    let p = and_parts live (eqb serial n && ltb under n) h in
    let q = and_parts (eqb serial n) (ltb under n) p.1 in
    (p.0, eqb-true serial n q.0, ltb-true under n q.1)

answered_parts : (live : Bool) (serial under n : ℕ) → serial ≡ n → (live && (eqb serial n && ltb under n)) ≡ false → (leb n under || not live) ≡ true
answered_parts live serial under n e h = grind (arith, nat_tests, eq-eqb serial n e)

or_true : (a : Bool) → (a || true) ≡ true
or_true true = refl
or_true false = refl

module _ (o : Opening) (history : List Entry) (transactions : List Transaction) (t : Transaction) (windows : Windows) (buffers : Buffers) where
  open_or_gave : (v : ConId) (found : Option Held) (left : Option Buffer) → find v windows ≡ found → IsKept o history transactions (t ∷ transactions) v found left → count_unanswered (length transactions + 1) windows ≡ 0
      → configures transactions t.parts v ≡ true → answered o (length transactions + 1) history v ≡ true
  open_or_gave v None left at kept none configured = rw (left_closed o history transactions (t ∷ transactions) v left kept) (or_true (gave (length transactions + 1) v history))
  open_or_gave v (Some w) left at kept none configured =
      let n = length transactions + 1 in
      let number = new_serial n (content_size v t.parts) (configures transactions t.parts v) (configure v transactions) (new_some (content_size v t.parts) (configure v transactions) configured) configured in
      let serial : w.configure_serial ≡ n = sym (serial_is w.configure_serial w.configured_size) ∙ (ap serial_of (sym kept.latest_is) ∙ number) in
      let answered_w = answered_parts w.live w.configure_serial w.buffer_serial n serial (none_left n v w windows none at) in
      rw (kept.gave_is n (omega arith), kept.live_is) answered_w

  is_answered : (v : ConId) (w : Held) (b : Bool) → is_unanswered (length transactions + 1) w ≡ b → IsHeld o history transactions (t ∷ transactions) v w → list_all (answered o (length transactions + 1) history) (contents (configures transactions t.parts) t.parts) ≡ true
      → is_unanswered (length transactions + 1) w ≡ false
  is_answered v w false at kept all = at
  is_answered v w true at kept all =
      let n = length transactions + 1 in
      let p = unanswered_parts w.live w.configure_serial w.buffer_serial n at in
      let latest : configure v (t ∷ transactions) ≡ Some (n, w.configured_size) = kept.latest_is ∙ some_serial n w.configure_serial w.configured_size p.1 (omega arith) in
      let configured : configures transactions t.parts v ≡ true = new_by_number n (content_size v t.parts) (configures transactions t.parts v) (configure v transactions) w.configured_size latest
      (λ before. let l = configure_le v transactions n w.configured_size before in omega arith) in
      let passes = each_passes (configures transactions t.parts) (answered o n history) t.parts all v (new_some (content_size v t.parts) (configure v transactions) configured) configured in
      let gave_not : gave n v history ≡ false = kept.gave_is n (omega arith) ∙ lt-leb n w.buffer_serial p.2 in
      let live : is_open o v history ≡ true = kept.live_is ∙ p.0 in
      let bad : false ≡ true = rw (gave_not, live) at passes in
      cc

  -- all that are awaited have answered exactly where none are left
  pub answered_is : (number prefix : ℕ) (current : List Placed) → Keeps o history transactions (t ∷ transactions) number prefix current windows buffers → t.awaits ≡ contents (configures transactions t.parts) t.parts
      → list_all (answered o (length transactions + 1) history) t.awaits ≡ eqb (count_unanswered (length transactions + 1) windows) 0
  answered_is number prefix current keeps awaits =
      let n = length transactions + 1 in
      let test = answered o n history in
      let chosen = contents (configures transactions t.parts) t.parts in
      let forth : count_unanswered n windows ≡ 0 → list_all test chosen ≡ true = λ none. all_pass (configures transactions t.parts) test t.parts (λ v there configured. open_or_gave v (find v windows) (left_of v buffers) refl (keeps.each v) none configured) in
      let back : list_all test chosen ≡ true → count_unanswered n windows ≡ 0 = λ all. all_answered n windows keeps.sorted
      (λ a w at. is_answered a w (is_unanswered n w) refl (held_at o history transactions (t ∷ transactions) a (find a windows) (left_of a buffers) w at (keeps.each a)) all) in
      rw awaits (tests (list_all test chosen) (count_unanswered n windows) forth back)
    where
      tests : (b : Bool) (m : ℕ) → (m ≡ 0 → b ≡ true) → (b ≡ true → m ≡ 0) → b ≡ eqb m 0
      tests true m forth back = sym (eq-eqb m 0 (back refl))
      tests false m forth back = grind (arith, nat_tests, forth)

  left_step : (v : ConId) (w : Held) → IsHeld o history transactions (t ∷ transactions) v w → (b : Bool) → configures transactions t.parts v ≡ b → (b && not (answered o (length transactions + 1) history v)) ≡ is_unanswered (length transactions + 1) w
  left_step v w kept true configured =
      let n = length transactions + 1 in
      let number = new_serial n (content_size v t.parts) (configures transactions t.parts v) (configure v transactions) (new_some (content_size v t.parts) (configure v transactions) configured) configured in
      let serial : w.configure_serial ≡ n = sym (serial_is w.configure_serial w.configured_size) ∙ (ap serial_of (sym kept.latest_is) ∙ number) in
      rw (kept.gave_is n (omega arith), kept.live_is, eq-eqb w.configure_serial n serial) (negated w.live w.buffer_serial n)
    where
      negated : (live : Bool) (under n : ℕ) → not (leb n under || not live) ≡ (live && ltb under n)
      negated live under n = grind (arith, nat_tests)
  left_step v w kept false other = sym (false_from_ne_true (is_unanswered (length transactions + 1) w) (λ left.
      let n = length transactions + 1 in
      let p = unanswered_parts w.live w.configure_serial w.buffer_serial n left in
      let latest : configure v (t ∷ transactions) ≡ Some (n, w.configured_size) = kept.latest_is ∙ some_serial n w.configure_serial w.configured_size p.1 (omega arith) in
      let configured : configures transactions t.parts v ≡ true = new_by_number n (content_size v t.parts) (configures transactions t.parts v) (configure v transactions) w.configured_size latest
      (λ before. let l = configure_le v transactions n w.configured_size before in omega arith) in
      let bad : true ≡ false = sym configured ∙ other in
      cc))

  -- a window is left exactly where it is configured and has not answered
  pub is_left_where : (v : ConId) (found : Option Held) (left : Option Buffer) → IsKept o history transactions (t ∷ transactions) v found left → (configures transactions t.parts v && not (answered o (length transactions + 1) history v)) ≡ is_left (length transactions + 1) found
  is_left_where v None left kept = rw (left_closed o history transactions (t ∷ transactions) v left kept) (none (configures transactions t.parts v) (gave (length transactions + 1) v history))
    where
      none : (a b : Bool) → (a && not (b || true)) ≡ false
      none true true = refl
      none true false = refl
      none false b = refl
  is_left_where v (Some w) left kept = left_step v w kept (configures transactions t.parts v) refl
