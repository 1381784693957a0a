-- The machine at its beginning, and how long what was accepted is.
use Rattle.std.proofs.Common.{◌≡◌, suc, true, false, List, [], ◌∷◌, length, None, is_some, refl, ap, sym, ◌∙◌, subst, arith}
use Rattle.wm_base.specs.declared.ids.ConId.{ConId}
use Rattle.wm_arrange.specs.declared.parts.Arrangement.{Arrangement}
use Rattle.wm_txn.specs.Accepted.{accepted}
use Rattle.wm_txn.specs.History.{Opening, Entry}
use Rattle.wm_txn.specs.Machine.{TxnValue}
use Rattle.wm_txn.specs.Windows.{AreSorted, Buffers, HasNoContent, Windows, find, left_of}
use Rattle.wm_txn.specs.Stands.{AreOpen, IsIdle, IsKept, Stands}
use Rattle.wm_txn.proofs.SettleLemmas.{same_itself}

-- as much is accepted as there are entries
pub accepted_length : (o : Opening) (history : List Entry) → length (accepted o history) ≡ length history
accepted_length o [] = refl
accepted_length o (entry ∷ history) = ap suc (accepted_length o history)

none_open : (o : Opening) → HasNoContent o.parts → AreOpen o []
none_open o none v there = let bad : false ≡ true = sym (ap is_some (none v)) ∙ there in cc

abbrev bare : Arrangement → Windows → Buffers → TxnValue
bare first windows buffers = record { windows = windows; gone = buffers; number = 0; prefix = 0; current = first; waiting = None; newest = None; left = 0 }

idle_start : (o : Opening) → IsIdle o [] []
idle_start o = record {
  done = record { past_is = refl; place = []; ended_at = refl; within = omega arith };
  none = rw (same_itself o.parts) refl;
}

-- a machine without windows stands for the history without entries
pub stands_start : (first : Arrangement) (windows : Windows) (buffers : Buffers) → HasNoContent first.parts → windows ≡ [] → AreSorted windows → buffers ≡ [] → Stands (record { parts = first.parts; windows = [] }) [] (bare first windows buffers)
stands_start first windows buffers none no_windows sorted no_buffers =
    let o : Opening = record { parts = first.parts; windows = [] } in
    let Kept : Windows → Buffers → Type 0 = λ z y. (v : ConId) → IsKept o [] [] [] v (find v z) (left_of v y) in
    record {
      transactions = [];
      begun = [];
      keeps = record {
        number_is = refl;
        prefix_is = refl;
        current_is = refl;
        each = subst (λ z. Kept z buffers) (sym no_windows) (subst (Kept []) (sym no_buffers) (λ v. record { not_open = refl; no_last = refl; no_configure = refl; no_buffer = λ n. refl; no_gift = λ n. refl; no_under = λ n. refl }));
        sorted = sorted;
        open_contents = none_open o none;
      };
      newest_is = same_itself first.parts;
      schedule = record { begun_are = refl; idle_is = idle_start o; none_newest = refl; none_left = refl };
      within = omega arith;
    }
