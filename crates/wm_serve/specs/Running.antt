-- What a desk behind one lock and all actors on it come to.
use Rattle.std.specs.Prelude.{◌≡◌, ◌<◌, ℕ, zero, suc, true, List, [], ◌∷◌, map, Option}
use Rattle.std.specs.List.{All}
use Rattle.atomic_table.specs.Seated.{TableId}
use Rattle.wm_book.specs.Carried.{carried}
use Rattle.wm_core.specs.Entries.{history_of}
use Rattle.wm_history.specs.History.{opening_of, stopped}
use Rattle.wm_core.specs.declared.asked.Asked.{Asked}
use Rattle.wm_history.specs.declared.step.Step.{Step}
use Rattle.wm_criteria.specs.Building.{Log}
use Rattle.wm_crew.specs.Running.{Outside, RanActors}
use Rattle.wm_crew.specs.declared.status.ServeStatus.{ServeStatus}
use Rattle.wm_crew.specs.declared.status.ServeStatus.TheVariants.{Done}
use Rattle.wm_layouts.specs.declared.plan.Plan.{Plan}
use Rattle.wm_ports.specs.Linking.{LinkTold}
use Rattle.wm_ports.specs.Listening.{ListenTold}
use Rattle.wm_turn.specs.Pass.{IsKnown, IsLegal, Pass, new_passes}
use Rattle.wm_turn.specs.declared.view.Entry.{Entry}

-- the seat is one of this lock's, and its marks are those of its caller's calls
abbrev pub IsSeatOf : TableId → Pass Plan Step Asked → Type 0
IsSeatOf door seat = (seat.door ≡ door) × IsLegal seat

-- so many numbers, from this one on
abbrev pub numbers : ℕ → ℕ → List ℕ
numbers first zero = []
numbers first (suc more) = first ∷ numbers (suc first) more

-- what links and listeners tell, and how their faults and the patterns refused to builds are counted
module _ {L A B : Type 0} (link_told : L → Option LinkTold) (link_faults : L → ℕ) (told : A → Option (ListenTold L)) (faults : A → ℕ) (log : B → Log) where
  -- Actors with so many new seats ran on a desk with this plan until all of them had ended, and then the lock was closed. The
  -- desk stands for one history, which each seat has seen a beginning of. Its entries are those that the seats have marks of,
  -- each under the number of its seat. Where all actors were told to stop, the desk is to stop.
  pub record RanDesk (plan : Plan) (ipc hold seats : ℕ) (from to : Outside A B) (status : ServeStatus) (stands : List (Entry Step) → Type 0) : Type 0 where
    pub door : TableId
    pub passes : List (Pass Plan Step Asked)
    pub history : List (Entry Step)
    pub ran : RanActors link_told link_faults told faults log (IsSeatOf door) carried ipc hold (new_passes door plan 0 seats) passes from to status
    pub stands_for : stands history
    pub known : All (IsKnown history) passes
    pub callers : map (λ pass. pass.caller) passes ≡ numbers 0 seats
    pub theirs : All (λ entry. entry.who < seats) history
    pub stops : status ≡ Done → stopped (opening_of plan) (history_of history) ≡ true
