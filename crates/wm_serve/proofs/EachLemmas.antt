-- What the callers and clients of a rehearsal said, worker by worker.
use Rattle.std.proofs.Common.{◌≡◌, ◌≤◌, ◌<◌, inl, inr, refl, ap, subst, arith, ℕ, suc, zero, ◌+◌, ◌-◌, Bool, true, false, nat_lt, if◌then◌else◌, List, [], ◌∷◌, length, map, Option, None, Some}
use Rattle.std.proofs.Math.Nat.{eq-or-lt_of_le}
use Rattle.std.proofs.lemmas.Bool.{ltb-false, ltb-true}
use Rattle.std.proofs.lemmas.List.Elements.{All-head, All-tail}
use Rattle.std.specs.List.{All}
use Rattle.atomic_table.specs.Seated.{TableId}
use Rattle.wm_actors.specs.Clients.{NO_LOG}
use Rattle.wm_actors.specs.declared.ending.ActorEnd.{ActorEnd}
use Rattle.wm_actors.specs.declared.ending.ActorEnd.TheVariants as end
use Rattle.wm_book.specs.Carried.{carried}
use Rattle.wm_core.specs.Entries.{history_of}
use Rattle.wm_history.specs.declared.step.Step.{Step}
use Rattle.wm_criteria.specs.Building.{Log}
use Rattle.wm_crew.proofs.CrewLemmas.{worse_else, worse_then}
use Rattle.wm_crew.specs.Crew.{Each, posts}
use Rattle.wm_crew.specs.Duties.{ServedAt, ServedBy}
use Rattle.wm_crew.specs.Faults.{fault_among, fault_of, rank, worse}
use Rattle.wm_crew.specs.declared.fault.Fault.{Fault}
use Rattle.wm_crew.specs.declared.fault.Fault.TheVariants as fault
use Rattle.wm_layouts.specs.declared.plan.Plan.{Plan}
use Rattle.wm_turn.specs.Pass.{IsKnown, new_pass, new_passes}
use Rattle.wm_turn.specs.declared.view.Entry.{Entry}
use Rattle.wm_serve.specs.Callers.{bytes_of, caller_link, client_link, link_at, texts}
use Rattle.wm_serve.specs.Once.{OnceState, fresh, once_told}
use Rattle.wm_serve.specs.Rehearsed.{faults_of, told_of}
use Rattle.wm_serve.specs.Running.{IsSeatOf, numbers}
use Rattle.wm_serve.specs.Said.{Said, texts_of}
use Rattle.wm_serve.proofs.CallerLemmas.{are_texts}
use Rattle.wm_serve.proofs.DeskLemmas.{Seat}
use Rattle.wm_serve.proofs.SaidLemmas.{said_by, silent_by}

-- ---- no fault among several

-- the fault that counts stands before both, or is one of them
lowest : (a b : Option Fault) → (rank (worse a b) ≤ rank a) × (rank (worse a b) ≤ rank b)
lowest a b = by_test (nat_lt (rank b) (rank a)) refl
  where
    by_test : (t : Bool) → nat_lt (rank b) (rank a) ≡ t → (rank (worse a b) ≤ rank a) × (rank (worse a b) ≤ rank b)
    by_test true p = (omega (arith, ltb-true (rank b) (rank a) p, ap rank (worse_then a b p)), omega (arith, ap rank (worse_then a b p)))
    by_test false p = (omega (arith, ap rank (worse_else a b p)), omega (arith, ltb-false (rank b) (rank a) p, ap rank (worse_else a b p)))

none_last : (f : Option Fault) → 4 ≤ rank f → f ≡ None
none_last None high = refl
none_last (Some (fault.Listen door)) high = absurd (omega (arith, high))
none_last (Some fault.Write) high = absurd (omega (arith, high))
none_last (Some fault.Exhausted) high = absurd (omega (arith, high))
none_last (Some fault.NoMemory) high = absurd (omega (arith, high))

pub neither : (a b : Option Fault) → worse a b ≡ None → (a ≡ None) × (b ≡ None)
neither a b none =
    let both = lowest a b in
    (none_last a (omega (arith, both.0, ap rank none)), none_last b (omega (arith, both.1, ap rank none)))

-- an actor without a fault was told to stop
pub was_stopped : (door : ℕ) (e : ActorEnd) → fault_of door e ≡ None → e ≡ end.Stopped
was_stopped door end.Stopped none = refl
was_stopped door end.ListenFault none = absurd cc
was_stopped door end.WriteFault none = absurd cc
was_stopped door end.Exhausted none = absurd cc
was_stopped door end.NoMemory none = absurd cc

-- ---- each worker

-- what the worker of this number had its caller say, by whether it serves one: a client runs no texts
abbrev pub Heard : Bool → ℕ → List (Entry Step) → Type 0
Heard true number history = Said (texts number) number history
Heard false number history = texts_of number (history_of history) ≡ []

module _ {B : Type 0} (log : B → Log) (door : TableId) (plan : Plan) (n : ℕ) (history : List (Entry Step)) where
  -- one worker
  heard_by : (b : Bool) (number : ℕ) (build build' : B) (seat : Seat) (listen' : OnceState) (e : ActorEnd) → e ≡ end.Stopped → IsKnown history seat
      → ServedBy told_of faults_of once_told (λ _. 0) (IsSeatOf door) carried log b (new_pass door plan number) (fresh (if b then caller_link number else client_link (number - n))) build seat listen' build' e
      → Heard b number history
  heard_by true number build build' seat listen' e stopped known served =
      said_by door plan number (caller_link number) (log build) seat history known (texts number) (record { left = bytes_of (texts number); sent = []; turns = 0 }) (are_texts number) refl refl
      (log build') listen' e stopped served.worked
  heard_by false number build build' seat listen' e stopped known served =
      silent_by door plan number (client_link (number - n)) NO_LOG seat history known NO_LOG listen' e stopped served.worked

  -- workers from a number on, which are as many as their doors
  pub each_heard : (number count : ℕ) (builds builds' : List B) (seats : List Seat) (doors' : List OnceState) (ends : List ActorEnd)
      → length builds ≡ count → length builds' ≡ count → length seats ≡ count → length doors' ≡ count
      → fault_among number ends ≡ None → All (IsKnown history) seats
      → Each (ServedAt told_of faults_of once_told (λ _. 0) (IsSeatOf door) carried log n) number
      (posts (new_passes door plan number count) (map fresh (map (link_at n) (numbers number count))) builds) (posts seats doors' builds') ends
      → (worker : ℕ) → number ≤ worker → worker < number + count → Heard (nat_lt worker n) worker history
  each_heard number zero builds builds' seats doors' ends lb lb' ls ld none known each worker from to = absurd (omega (arith, from, to))
  each_heard number (suc count) (b ∷ bs) (b' ∷ bs') (s ∷ ss) (d' ∷ ds') (e ∷ es) lb lb' ls ld none known each worker from to =
      let neither_one = neither (fault_of number e) (fault_among (suc number) es) none in
      elim (eq-or-lt_of_le from) [
        | inl same ↦ subst (λ k. Heard (nat_lt k n) k history) same
            (heard_by (nat_lt number n) number b b' s d' e (was_stopped number e neither_one.0) (All-head (IsKnown history) s ss known) each.0)
        | inr beyond ↦ each_heard (suc number) count bs bs' ss ds' es (omega (arith, lb)) (omega (arith, lb')) (omega (arith, ls)) (omega (arith, ld))
            neither_one.1 (All-tail (IsKnown history) s ss known) each.1 worker beyond (omega (arith, to))
      ]
  each_heard number (suc count) [] builds' seats doors' ends lb lb' ls ld none known each worker from to = absurd (omega (arith, lb))
  each_heard number (suc count) (b ∷ bs) [] seats doors' ends lb lb' ls ld none known each worker from to = absurd (omega (arith, lb'))
  each_heard number (suc count) (b ∷ bs) (b' ∷ bs') [] doors' ends lb lb' ls ld none known each worker from to = absurd (omega (arith, ls))
  each_heard number (suc count) (b ∷ bs) (b' ∷ bs') (s ∷ ss) [] ends lb lb' ls ld none known each worker from to = absurd (omega (arith, ld))
  each_heard number (suc count) (b ∷ bs) (b' ∷ bs') (s ∷ ss) (d' ∷ ds') [] lb lb' ls ld none known each worker from to = absurd each
