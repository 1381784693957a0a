-- Which serials are due.
use Rattle.std.proofs.Common.{◌≡◌, ℕ, suc, ◌+◌, ◌≤◌, ◌<◌, Bool, true, false, cond, ◌||◌, eqb, leb, ltb, ◌⊎◌, inl, inr, List, ◌∷◌, length, Option, Some, None, is_some, refl, ap, sym, ◌∙◌, arith}
use Rattle.std.proofs.lemmas.Bool.{and_parts, eqb-true, le-leb, leb-false, leb-true, ltb-true, or_cases}
use Rattle.std.specs.Option.{option_map}
use Rattle.wm_base.specs.declared.geometry.Size.{Size}
use Rattle.wm_base.specs.declared.ids.ConId.{ConId}
use Rattle.wm_arrange.specs.Sizes.{content_size}
use Rattle.wm_txn.specs.History.{Opening, Entry}
use Rattle.wm_txn.specs.Machine.{is_due_by}
use Rattle.wm_txn.specs.Windows.{committed_serial}
use Rattle.wm_txn.specs.Schedule.{Transaction, configure, configures, is_new}
use Rattle.wm_txn.specs.Stands.{IsHeld, serial_of}
use Rattle.wm_txn.specs.declared.held.Held.{Held}
use Rattle.wm_txn.proofs.AnswerLemmas.{configure_le, serial_is}

-- one more transaction has begun than has ended, or none
abbrev pub OneMore : List Transaction → List Transaction → Type 0
OneMore transactions begun = (begun ≡ transactions) ⊎ ((t : Transaction) × (begun ≡ t ∷ transactions))

pub few_begun : (transactions others : List Transaction) → OneMore transactions others → length others ≤ length transactions + 1
few_begun transactions others (inl same_transactions) = let e : length others ≡ length transactions = ap length same_transactions in omega arith
few_begun transactions others (inr one) = let e : length others ≡ suc (length transactions) = ap length one.1 in omega arith

-- ---- serials

mapped_serial : (n : ℕ) (found : Option Size) (b : Bool) (before : Option (ℕ × Size)) (serial : ℕ) → serial_of (cond b (option_map (λ s. (n, s)) found) before) ≡ serial → (b ≡ true → is_some found ≡ true) → serial < n → serial_of before ≡ serial
mapped_serial n found false before serial h some below = h
mapped_serial n (Some s) true before serial h some below = let e : n ≡ serial = h in absurd (omega arith)
mapped_serial n None true before serial h some below = let bad : false ≡ true = some refl in cc

new_content : (found : Option Size) (before : Option (ℕ × Size)) → is_new found before ≡ true → is_some found ≡ true
new_content None before h = h
new_content (Some s) before h = refl

pub committed_by : (o : Opening) (history : List Entry) (transactions begun : List Transaction) (v : ConId) (w : Held) → IsHeld o history transactions begun v w → OneMore transactions begun → (b : Bool) → leb w.configure_serial (length transactions) ≡ b → serial_of (configure v transactions) ≡ cond b w.configure_serial w.previous_serial
committed_by o history transactions begun v w h more false late = h.before_is (leb-false w.configure_serial (length transactions) late)
committed_by o history transactions begun v w h (inl same_transactions) true early = ap (λ z. serial_of (configure v z)) (sym same_transactions) ∙ (ap serial_of h.latest_is ∙ serial_is w.configure_serial w.configured_size)
committed_by o history transactions begun v w h (inr one) true early =
    let latest : serial_of (configure v (one.0 ∷ transactions)) ≡ w.configure_serial = ap (λ z. serial_of (configure v z)) (sym one.1) ∙ (ap serial_of h.latest_is ∙ serial_is w.configure_serial w.configured_size) in
    let below = leb-true w.configure_serial (length transactions) early in
    mapped_serial (length transactions + 1) (content_size v one.0.parts) (configures transactions one.0.parts v) (configure v transactions) w.configure_serial latest (new_content (content_size v one.0.parts) (configure v transactions)) (omega arith)

serial_below : (v : ConId) (transactions : List Transaction) (found : Option (ℕ × Size)) → configure v transactions ≡ found → serial_of found ≤ length transactions
serial_below v transactions None at = omega arith
serial_below v transactions (Some c) at = configure_le v transactions c.0 c.1 at

-- what is known of a serial that is due
pub record Due (transactions : List Transaction) (v : ConId) (serial : ℕ) (w : Held) : Type 0 where
  pub above : w.acked_serial < serial
  pub within : serial ≤ w.configure_serial
  pub done : serial ≤ length transactions → serial ≤ serial_of (configure v transactions)

module _ (o : Opening) (history : List Entry) (transactions others : List Transaction) (v : ConId) (w : Held) (h : IsHeld o history transactions others v w) (one : OneMore transactions others) (number : ℕ) (number_is : number ≡ length transactions) where
  pub committed_is : serial_of (configure v transactions) ≡ committed_serial number w
  committed_is = committed_by o history transactions others v w h one (leb w.configure_serial (length transactions)) refl ∙ ap (λ z. committed_serial z w) (sym number_is)

  committed_le : committed_serial number w ≤ w.configure_serial
  committed_le = by (leb w.configure_serial number) refl
    where
      by : (b : Bool) → leb w.configure_serial number ≡ b → cond b w.configure_serial w.previous_serial ≤ w.configure_serial
      by true early = omega arith
      by false late =
          let above = leb-false w.configure_serial number late in
          let before = h.before_is (omega arith) in
          let below = serial_below v transactions (configure v transactions) refl in
          omega arith

  pub due_bounds : (serial : ℕ) → is_due_by number serial w ≡ true → Due transactions v serial w
  due_bounds serial due =
      let p = and_parts (eqb serial w.configure_serial || eqb serial (committed_serial number w)) (ltb w.acked_serial serial) due in
      elim (or_cases (eqb serial w.configure_serial) (eqb serial (committed_serial number w)) p.0) [
        | inl latest ↦
            let q = eqb-true serial w.configure_serial latest in
            record {
              above = ltb-true w.acked_serial serial p.1;
              within = omega arith;
              done = λ early.
                  let all : committed_serial number w ≡ w.configure_serial = rw (le-leb w.configure_serial number (omega arith)) refl in
                  omega (arith, committed_is);
            }
        | inr committed ↦
            let q = eqb-true serial (committed_serial number w) committed in
            record {
              above = ltb-true w.acked_serial serial p.1;
              within = omega (arith, committed_le);
              done = λ early. omega (arith, committed_is);
            }
      ]
