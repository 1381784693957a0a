-- What a step on a word owes, at the words that the rule names.
use Rattle.std.proofs.Common.{◌≡◌, ℕ, List, Option, sym, subst}
use Rattle.std.specs.Prelude.{slice_index, slice_set}
use mathlib.Core.Option as slot
use Rattle.atomic_table.specs.Table.{State, Me, Act, Valid, homes_after, carried_after}
use Rattle.wm_turn.specs.declared.view.Entry.{Entry}
use Rattle.wm_turn.specs.declared.view.View.{View}
use Rattle.wm_turn.specs.Rule.{has_slot, IsHome}

abbrev pub slotted : {O S Q : Type 0} → View O S Q → ℕ
slotted v = has_slot v.stage

module _ {V O S : Type 0} where
  pub home_same : (opening_of : V → O) (stands : V → List (Entry S) → Type 0) (opening : O) (history : List (Entry S)) (old new : ℕ) (home : slot.Option (Option V)) → new ≡ old
      → IsHome opening_of stands opening history old home → IsHome opening_of stands opening history new home
  home_same opening_of stands opening history old new home same is =
      subst (λ noted. IsHome opening_of stands opening history noted home) (sym same) is

module _ {V O S Q : Type 0} (rule : State (Option V) (View O S Q) → Type 0) where
  -- what a step on the word i owes where the words are these
  abbrev pub Owes : State (Option V) (View O S Q) → ℕ → Me (Option V) (View O S Q) → ℕ → (ℕ → ℕ) → (ℕ → Me (Option V) (View O S Q) → Type 0) → List ℕ → Type 0
  Owes s id me i f told words =
      (w : View O S Q) × (a : Act (Option V)) × Valid s.homes me.1 a
      × rule (record { words = slice_set words i (f (slice_index words i)); homes = homes_after s.homes me.1 a; views = slice_set s.views id w })
      × told (slice_index words i) (w, carried_after me.1 a)
