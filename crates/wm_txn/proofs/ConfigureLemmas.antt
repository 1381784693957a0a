-- What a transaction that begins configures windows with.
use Rattle.std.proofs.Common.{◌≡◌, ℕ, ◌+◌, Bool, true, false, cond, not, ◌&&◌, ◌||◌, eqb, ◌⊎◌, inl, inr, List, [], ◌∷◌, Option, Some, None, refl, ap, sym, ◌∙◌, arith}
use Rattle.std.proofs.lemmas.Bool.{eqb-true, eq-eqb}
use Rattle.std.proofs.lemmas.Map.{keys-set_value}
use Rattle.std.specs.BTreeMap.{is_at}
use Rattle.std.specs.Map.{keys_of}
use Rattle.std.specs.Option.{option_map}
use Rattle.std.specs.Ordering.{nat_cmp}
use Rattle.wm_base.specs.declared.geometry.Size.{Size}
use Rattle.wm_base.specs.declared.ids.ConId.{ConId}
use Rattle.wm_forest.specs.Look.{same}
use Rattle.wm_arrange.specs.declared.parts.Placed.{Placed}
use Rattle.wm_arrange.specs.Sizes.{content_size, is_content}
use Rattle.wm_txn.specs.Windows.{Windows, find, one_if, is_unanswered, configured_by, configure_found, count_found, configure_part, configure_all, count_all, count_unanswered, size_of}
use Rattle.wm_txn.specs.Schedule.{same_size}
use Rattle.wm_txn.specs.declared.held.Held.{Held}
use Rattle.wm_txn.proofs.WindowLemmas.{one_id, find_put, count_put}

-- a window after a transaction that has a content of this size, or none
abbrev pub after_configure : ℕ → Option Size → Held → Held
after_configure n None w = w
after_configure n (Some size) w = configured_by n size w

abbrev configured_if : ℕ → Size → Held → Bool → Bool → Held
configured_if n size w b c = cond b w (cond c (record w { placed = n; previous_serial = w.configure_serial; configure_serial = n; configured_size = size }) (record w { placed = n }))

keeps_if : (n : ℕ) (size : Size) (w : Held) (b c : Bool) → ((configured_if n size w b c).live ≡ w.live) × ((configured_if n size w b c).buffer_serial ≡ w.buffer_serial) × ((configured_if n size w b c).buffer ≡ w.buffer)
keeps_if n size w true c = (refl, refl, refl)
keeps_if n size w false true = (refl, refl, refl)
keeps_if n size w false false = (refl, refl, refl)

-- a window that is configured is open or closed as it was, with the same newest buffer
pub configured_keeps : (n : ℕ) (found : Option Size) (w : Held) → ((after_configure n found w).live ≡ w.live) × ((after_configure n found w).buffer_serial ≡ w.buffer_serial) × ((after_configure n found w).buffer ≡ w.buffer)
configured_keeps n None w = (refl, refl, refl)
configured_keeps n (Some size) w = keeps_if n size w (eqb w.placed n) (eqb w.configure_serial 0 || not (same_size w.configured_size size))

-- a window that was placed is configured once
pub configured_again : (n : ℕ) (size : Size) (w : Held) → w.placed ≡ n → configured_by n size w ≡ w
configured_again n size w h = rw (eq-eqb w.placed n h) refl

placed_by_test : (n : ℕ) (size : Size) (w : Held) (b c : Bool) → (b ≡ true → w.placed ≡ n)
    → (cond b w (cond c (record w { placed = n; previous_serial = w.configure_serial; configure_serial = n; configured_size = size }) (record w { placed = n }))).placed ≡ n
placed_by_test n size w true c h = h refl
placed_by_test n size w false true h = refl
placed_by_test n size w false false h = refl

pub placed_configured : (n : ℕ) (size : Size) (w : Held) → (configured_by n size w).placed ≡ n
placed_configured n size w = placed_by_test n size w (eqb w.placed n) _ (eqb-true w.placed n)

mapped_none : (n : ℕ) (x : Option Held) → option_map (after_configure n None) x ≡ x
mapped_none n None = refl
mapped_none n (Some w) = refl

configure_step : (n : ℕ) (v c : ConId) (size : Size) (windows : Windows) (found : Option Held) (b : Bool) → find c windows ≡ found → same c v ≡ b
    → find v (configure_found n size c found windows) ≡ option_map (after_configure n (cond b (Some size) None)) (find v windows)
configure_step n v c size windows None true there one =
    let found : find v windows ≡ None = ap (λ z. find z windows) (sym (one_id c v one)) ∙ there in
    rw found refl
configure_step n v c size windows None false there one = sym (mapped_none n (find v windows))
configure_step n v c size windows (Some w) true there one =
    let found : find v windows ≡ Some w = ap (λ z. find z windows) (sym (one_id c v one)) ∙ there in
    find_put c v (configured_by n size w) w windows there ∙ rw (one, found) refl
configure_step n v c size windows (Some w) false there one =
    find_put c v (configured_by n size w) w windows there ∙ rw one (sym (mapped_none n (find v windows)))

twice : (n : ℕ) (size : Size) (rest : Option Size) (b : Bool) (x : Option Held)
    → option_map (after_configure n rest) (option_map (after_configure n (cond b (Some size) None)) x) ≡ option_map (after_configure n (cond b (Some size) rest)) x
twice n size rest b None = refl
twice n size rest false (Some w) = refl
twice n size None true (Some w) = refl
twice n size (Some other) true (Some w) = ap (λ z. Some z) (configured_again n other (configured_by n size w) (placed_configured n size w))

find_part : (n : ℕ) (v : ConId) (p : Placed) (parts : List Placed) (windows : Windows) (b : Bool) → is_content p.part ≡ b
    → ((m : Windows) → find v (configure_all n parts m) ≡ option_map (after_configure n (content_size v parts)) (find v m))
    → find v (configure_all n parts (cond b (configure_found n (size_of p) p.con (find p.con windows) windows) windows))
    ≡ option_map (after_configure n (cond (same p.con v && b) (Some (size_of p)) (content_size v parts))) (find v windows)
find_part n v p parts windows true content rest =
    let and_true : (s : Bool) → (s && true) ≡ s = and_is in
    rest (configure_found n (size_of p) p.con (find p.con windows) windows)
    ∙ (ap (option_map (after_configure n (content_size v parts))) (configure_step n v p.con (size_of p) windows (find p.con windows) (same p.con v) refl refl)
    ∙ (twice n (size_of p) (content_size v parts) (same p.con v) (find v windows)
    ∙ ap (λ s. option_map (after_configure n (cond s (Some (size_of p)) (content_size v parts))) (find v windows)) (sym (and_true (same p.con v)))))
  where
    and_is : (s : Bool) → (s && true) ≡ s
    and_is true = refl
    and_is false = refl
find_part n v p parts windows false content rest =
    rest windows ∙ ap (λ s. option_map (after_configure n (cond s (Some (size_of p)) (content_size v parts))) (find v windows)) (sym (and_not (same p.con v)))
  where
    and_not : (s : Bool) → (s && false) ≡ false
    and_not true = refl
    and_not false = refl

-- each window is configured by its first content
pub find_configured : (n : ℕ) (v : ConId) (parts : List Placed) (windows : Windows) → find v (configure_all n parts windows) ≡ option_map (after_configure n (content_size v parts)) (find v windows)
find_configured n v [] windows = sym (mapped_none n (find v windows))
find_configured n v (p ∷ parts) windows = find_part n v p parts windows (is_content p.part) refl (λ m. find_configured n v parts m)

-- ---- keys stay

keys_found : (n : ℕ) (size : Size) (v : ConId) (found : Option Held) (windows : Windows) → keys_of (configure_found n size v found windows) ≡ keys_of windows
keys_found n size v None windows = refl
keys_found n size v (Some w) windows = keys-set_value (is_at (nat_cmp v.0)) windows (configured_by n size w)

keys_part : (n : ℕ) (p : Placed) (windows : Windows) (b : Bool) → keys_of (cond b (configure_found n (size_of p) p.con (find p.con windows) windows) windows) ≡ keys_of windows
keys_part n p windows true = keys_found n (size_of p) p.con (find p.con windows) windows
keys_part n p windows false = refl

pub keys_configured : (n : ℕ) (parts : List Placed) (windows : Windows) → keys_of (configure_all n parts windows) ≡ keys_of windows
keys_configured n [] windows = refl
keys_configured n (p ∷ parts) windows = keys_configured n parts (configure_part n p windows) ∙ keys_part n p windows (is_content p.part)

-- ---- how many are awaited

-- each window was placed by transaction n, or is not one that it awaits
abbrev pub AreFresh : ℕ → Windows → Type 0
AreFresh n windows = (a : ConId) (w : Held) → find a windows ≡ Some w → ((w.placed ≡ n) ⊎ (is_unanswered n w ≡ false))

fresh_step : (n : ℕ) (c a : ConId) (size : Size) (w0 w : Held) (windows : Windows) (b : Bool) → AreFresh n windows → cond b (Some (configured_by n size w0)) (find a windows) ≡ Some w → ((w.placed ≡ n) ⊎ (is_unanswered n w ≡ false))
fresh_step n c a size w0 w windows true fresh there = let e : configured_by n size w0 ≡ w = cc in inl (ap (λ (z : Held). z.placed) (sym e) ∙ placed_configured n size w0)
fresh_step n c a size w0 w windows false fresh there = fresh a w there

fresh_found : (n : ℕ) (size : Size) (c : ConId) (found : Option Held) (windows : Windows) → find c windows ≡ found → AreFresh n windows → AreFresh n (configure_found n size c found windows)
fresh_found n size c None windows at fresh = fresh
fresh_found n size c (Some w0) windows at fresh = λ a w there.
    fresh_step n c a size w0 w windows (same c a) fresh (sym (find_put c a (configured_by n size w0) w0 windows at) ∙ there)

newly_step : (n : ℕ) (w configured : Held) (b : Bool) → (b ≡ true → configured ≡ w) → (b ≡ false → is_unanswered n w ≡ false) → one_if (not b && is_unanswered n configured) + one_if (is_unanswered n w) ≡ one_if (is_unanswered n configured)
newly_step n w configured true same_one none = let e : is_unanswered n configured ≡ is_unanswered n w = ap (is_unanswered n) (same_one refl) in let f = ap one_if e in omega arith
newly_step n w configured false same_one none = let f : one_if (is_unanswered n w) ≡ 0 = ap one_if (none refl) in omega arith

not_placed : (n : ℕ) (w : Held) → ((w.placed ≡ n) ⊎ (is_unanswered n w ≡ false)) → eqb w.placed n ≡ false → is_unanswered n w ≡ false
not_placed n w (inl placed) other = let bad : true ≡ false = sym (eq-eqb w.placed n placed) ∙ other in cc
not_placed n w (inr none) other = none

count_one : (n : ℕ) (size : Size) (c : ConId) (found : Option Held) (windows : Windows) → find c windows ≡ found → AreFresh n windows
    → count_found n size found + count_unanswered n windows ≡ count_unanswered n (configure_found n size c found windows)
count_one n size c None windows at fresh = omega arith
count_one n size c (Some w) windows at fresh =
    let put_it = count_put n c (configured_by n size w) w windows at in
    let newly = newly_step n w (configured_by n size w) (eqb w.placed n) (λ e. configured_again n size w (eqb-true w.placed n e)) (not_placed n w (fresh c w at)) in
    omega arith

count_in_part : (n : ℕ) (p : Placed) (windows : Windows) (b : Bool) → AreFresh n windows
    → cond b (count_found n (size_of p) (find p.con windows)) 0 + count_unanswered n windows ≡ count_unanswered n (cond b (configure_found n (size_of p) p.con (find p.con windows) windows) windows)
count_in_part n p windows true fresh = count_one n (size_of p) p.con (find p.con windows) windows refl fresh
count_in_part n p windows false fresh = omega arith

fresh_part : (n : ℕ) (p : Placed) (windows : Windows) (b : Bool) → AreFresh n windows → AreFresh n (cond b (configure_found n (size_of p) p.con (find p.con windows) windows) windows)
fresh_part n p windows true fresh = fresh_found n (size_of p) p.con (find p.con windows) windows refl fresh
fresh_part n p windows false fresh = fresh

-- those that are configured, where none were awaited before, are those that are left
pub count_configured : (n : ℕ) (parts : List Placed) (windows : Windows) → AreFresh n windows → count_all n parts windows + count_unanswered n windows ≡ count_unanswered n (configure_all n parts windows)
count_configured n [] windows fresh = omega arith
count_configured n (p ∷ parts) windows fresh =
    let rest = count_configured n parts (configure_part n p windows) (fresh_part n p windows (is_content p.part) fresh) in
    let one = count_in_part n p windows (is_content p.part) fresh in
    omega arith
