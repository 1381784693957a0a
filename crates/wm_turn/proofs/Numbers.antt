-- The numbers and the parts that views hold.
use Rattle.std.proofs.Common.{◌≡◌, ℕ, zero, suc, ◌+◌, ◌<◌, ◌⊎◌, List, [], ◌∷◌, set, length, ◌∙◌, subst, arith, inl, inr}
use Rattle.std.specs.List.{All, sum_by}
use mathlib.Core.Option.{some}
use lib.ListN.{get_elem?}
use mathlib.Core.Logic.{dite}
use native.Mathlib.Decide.{ℕ_discrete}
use Rattle.atomic_table.proofs.Lists.{set_here, set_else}
use Rattle.wm_turn.specs.declared.view.Entry.{Entry}
use Rattle.wm_turn.specs.declared.view.View.{View}
use Rattle.wm_turn.specs.Rule.{holds, AreNumbered, IsSeen}
use Rattle.wm_turn.proofs.Sums.{sum_set}

pub at_within : {A : Type 0} (xs : List A) (i : ℕ) (v : A) → get_elem? xs i ≡ some v → i < length xs
at_within [] i v at = absurd cc
at_within (x ∷ xs) zero v at = omega arith
at_within (x ∷ xs) (suc i) v at = omega (arith, at_within xs i v at)

module _ {O S Q : Type 0} where
  abbrev pub parts_of : View O S Q → ℕ
  parts_of v = v.parts

  abbrev pub spare_of : View O S Q → ℕ
  spare_of v = v.spare

  -- a view that keeps its parts and numbers keeps the numbering
  pub numbered_set : (seats spare : ℕ) (old new : List (Entry S)) (views : List (View O S Q)) (by : ℕ) (v w : View O S Q) → get_elem? views by ≡ some v
      → w.parts ≡ v.parts → w.spare ≡ v.spare → ((number : ℕ) → holds number w ≡ holds number v) → All (λ (entry : Entry S). entry.who + spare < seats) new
      → AreNumbered seats spare old views → AreNumbered seats spare new (set views by w)
  numbered_set seats spare old new views by v w at parts spares each entries numbered = record {
    parts_are = omega (arith, sum_set parts_of views by v w at, parts, numbered.parts_are);
    spare_is = omega (arith, sum_set spare_of views by v w at, spares, numbered.spare_is);
    once = λ number. omega (arith, same number, numbered.once number);
    below = λ number some_held. numbered.below number (omega (arith, same number, some_held));
    entries_below = entries;
  }
    where
      same : (number : ℕ) → sum_by (holds number) (set views by w) ≡ sum_by (holds number) views
      same number = omega (arith, sum_set (holds number) views by v w at, each number)

  -- a view that had seen all, and has so still, keeps the history seen
  pub seen_set : (old new : List (Entry S)) (views : List (View O S Q)) (by : ℕ) (v w : View O S Q) → get_elem? views by ≡ some v
      → 0 < w.parts → (w.seen ≡ new) ⊎ ((v.seen ≡ old → w.seen ≡ new) × (old ≡ new)) → IsSeen old views → IsSeen new (set views by w)
  seen_set old new views by v w at live (inl all) seen = record { by = by; view = w; there = set_here views by w (at_within views by v at); live = live; all = all }
  seen_set old new views by v w at live (inr keeps) seen =
      dite (ℕ_discrete seen.by by)
      (λ same. record {
        by = by;
        view = w;
        there = set_here views by w (at_within views by v at);
        live = live;
        all = keeps.0 (subst (λ u. u.seen ≡ old) (found same) seen.all);
      })
      (λ apart. record { by = seen.by; view = seen.view; there = set_else views by seen.by w apart ∙ seen.there; live = seen.live; all = seen.all ∙ keeps.1 })
    where
      found : seen.by ≡ by → seen.view ≡ v
      found same = cc (seen.there, at, same)
