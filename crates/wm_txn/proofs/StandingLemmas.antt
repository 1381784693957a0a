-- What holds of each machine that stands for a history.
use Rattle.std.proofs.Common.{◌≡◌, ℕ, ◌≤◌, true, false, not, ◌&&◌, ◌||◌, inl, inr, List, [], ◌∷◌, length, Option, Some, None, is_some, refl, ap, sym, ◌∙◌, arith}
use Rattle.std.proofs.lemmas.Bool.{false_from_ne_true}
use Rattle.std.specs.List.{list_any}
use Rattle.wm_base.specs.declared.ids.Buffer.{Buffer}
use Rattle.wm_base.specs.declared.ids.ConId.{ConId}
use Rattle.wm_forest.specs.Look.{same}
use Rattle.wm_arrange.specs.declared.parts.Placed.{Placed}
use Rattle.wm_txn.proofs.KeepLemmas.{same_id}
use Rattle.wm_txn.specs.Commits.{prefix_of}
use Rattle.wm_txn.specs.Accepted.{accepted}
use Rattle.wm_txn.specs.History.{Opening, Entry, is_fresh, is_open, was_open}
use Rattle.wm_txn.specs.Machine.{TxnValue, last_prefix, prefix_with, shown_or}
use Rattle.wm_txn.specs.Windows.{IsNewcomer, ShowsOpen, find, is_live, left_of}
use Rattle.wm_txn.specs.Schedule.{Transaction, begun, differs, first_when, next, past, transaction_from}
use Rattle.wm_txn.specs.Stands.{IsFit, IsHeld, IsKept, Stands}
use Rattle.wm_txn.specs.Standing.{StillStands, BeginsWithin, KnowsWindows, KnowsOpen}
use Rattle.wm_txn.specs.declared.held.Held.{Held}
use Rattle.wm_txn.proofs.EntryLemmas.{stands_still}
use Rattle.wm_txn.proofs.FirstLemmas.{first_within}
use Rattle.wm_txn.proofs.GoneLemmas.{left_closed}
use Rattle.wm_txn.proofs.AcceptedLemmas.{accepted_opens, some_was, was_some}
use Rattle.wm_txn.proofs.OpeningLemmas.{accepted_length}
use Rattle.wm_txn.proofs.ScheduleLemmas.{mapped_some, then_some}
use Rattle.wm_txn.proofs.StepLemmas.{known}

pub still_stands : StillStands
still_stands o history d s = stands_still o (accepted o history) d s

next_within : (o : Opening) (history : List Entry) (before : Option (List Transaction)) (t : Transaction) (transactions : List Transaction) → next o history before ≡ Some (t ∷ transactions) → t.prefix ≤ length history
next_within o history None t transactions h = cc
next_within o history (Some before) t transactions h =
    let s = mapped_some (λ at. transaction_from o before at ∷ before) (begun o before history) (t ∷ transactions) h in
    let f = then_some (λ at. first_when (differs o before) (length at) history) _ s.0 s.1 in
    let same_transaction : transaction_from o before s.0 ≡ t = cc in
    let at : length s.0 ≡ t.prefix = ap (λ (z : Transaction). z.prefix) same_transaction in
    let bounds = first_within (differs o before) (length f.0) history s.0 f.2 in
    omega arith

-- a transaction began within the history
pub prefix_within : (o : Opening) (history : List Entry) (transactions : List Transaction) → past o (length transactions) history ≡ Some transactions → prefix_of transactions ≤ length history
prefix_within o history [] h = omega arith
prefix_within o history (t ∷ transactions) h = next_within o history (past o (length transactions) history) t transactions h

pub begins_within : BeginsWithin
begins_within o history d s =
    let length_is = accepted_length o history in
    elim (known o (accepted o history) d s) [
      | inl r ↦
          let prefix : last_prefix d ≡ prefix_of r.0 = ap (λ z. prefix_with z d.prefix) r.1.none_waits ∙ r.1.keeps.prefix_is in
          let le = prefix_within o (accepted o history) r.0 r.1.idle_is.done.past_is in
          omega arith
      | inr w ↦
          let prefix : last_prefix d ≡ w.1.prefix = ap (λ z. prefix_with z d.prefix) w.3.pending_is ∙ w.3.prefix_is in
          let le = w.3.waiting_is.within in
          omega arith
    ]

knows_held : (o : Opening) (history : List Entry) (transactions others : List Transaction) (v : ConId) (w : Held) → IsHeld o (accepted o history) transactions others v w → true ≡ was_open o v history
knows_held o history transactions others v w kept = sym (some_was o v w.buffer_serial history (ap is_some (kept.newest_is w.buffer_serial (omega arith))))

knows_found : (o : Opening) (history : List Entry) (transactions others : List Transaction) (v : ConId) (done : ℕ) (found : Option Held) (left : Option Buffer) → IsKept o (accepted o history) transactions others v found left → is_some (shown_or done found left) ≡ was_open o v history
knows_found o history transactions others v done None None kept =
    sym (false_from_ne_true (was_open o v history) (λ was. let bad : false ≡ true = sym (ap is_some (kept.no_buffer 0)) ∙ was_some o v 0 history was in cc))
knows_found o history transactions others v done None (Some buffer) kept = knows_held o history transactions others v kept.held kept.held_is
knows_found o history transactions others v done (Some w) left kept = knows_held o history transactions others v w kept

pub knows_windows : KnowsWindows
knows_windows o history d s v = knows_found o history s.transactions s.begun v d.number (find v d.windows) (left_of v d.gone) (s.keeps.each v)

open_found : (o : Opening) (history : List Entry) (transactions others : List Transaction) (v : ConId) (found : Option Held) (left : Option Buffer) → IsKept o history transactions others v found left → is_live found ≡ is_open o v history
open_found o history transactions others v None left kept = sym (left_closed o history transactions others v left kept)
open_found o history transactions others v (Some w) left kept = sym kept.live_is

pub knows_open : KnowsOpen
knows_open o history d s v = open_found o (accepted o history) s.transactions s.begun v (find v d.windows) (left_of v d.gone) (s.keeps.each v) ∙ accepted_opens o v history

-- ---- an arrangement that may come

newcomer : (o : Opening) (history : List Entry) (d : TxnValue) → Stands o history d → (fresh : Option (ConId × Buffer)) → ((v : ConId) → is_fresh v fresh ≡ true → was_open o v history ≡ false) → IsNewcomer fresh d.windows d.gone
newcomer o history d s None new = tt
newcomer o history d s (Some window) new =
    none (find window.0 d.windows) (left_of window.0 d.gone) (knows_windows o history d s window.0 ∙ new window.0 (same_id window.0))
  where
    none : (found : Option Held) (left : Option Buffer) → is_some (shown_or d.number found left) ≡ false → (found ≡ None) × (left ≡ None)
    none None None h = (refl, refl)
    none None (Some buffer) h = let bad : true ≡ false = h in cc
    none (Some w) left h = let bad : true ≡ false = h in cc

-- where the arrangement may come, the window that is mapped is none that is kept, and each content is of one that stays open
pub fit_windows : (o : Opening) (history : List Entry) (d : TxnValue) (newest : List Placed) (fresh : Option (ConId × Buffer)) (gone : List ConId) → Stands o history d → IsFit o history newest fresh gone
    → IsNewcomer fresh d.windows d.gone × ShowsOpen newest fresh gone d.windows
fit_windows o history d newest fresh gone s fit =
    (newcomer o history d s fresh fit.new, λ v there. ap (λ z. (is_fresh v fresh || z) && not (list_any (same v) gone)) (knows_open o history d s v) ∙ fit.shows v there)
