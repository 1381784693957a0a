-- The seats of a desk that actors ran on.
use Rattle.std.proofs.Common.{◌≡◌, ◌<◌, ℕ, zero, suc, ◌+◌, Bool, true, false, List, [], ◌∷◌, ◌++◌, map, drop, length, Option, Some, None, IfSome, refl, ap, ap₂, sym, subst, ◌∙◌, arith, slice_index_or}
use Rattle.std.proofs.lemmas.List.Elements.{All-cons, All-head, All-tail}
use Rattle.std.specs.List.{All, sum_by}
use Rattle.std.proofs.lemmas.List.Sums.{sum_by-cons}
use Rattle.atomic_table.specs.Seated.{TableId}
use Rattle.wm_actors.specs.Pictured.{Screen}
use Rattle.wm_book.specs.Recorded.{RecordedValue}
use Rattle.wm_serve.specs.Rehearsals.{Rehearsed}
use Rattle.wm_actors.specs.Since.{Lasts}
use Rattle.wm_turn.specs.History.{Begins}
use Rattle.wm_book.specs.Carried.{carried}
use Rattle.wm_core.proofs.EntryLemmas.{history_begins}
use Rattle.wm_core.specs.Entries.{history_of}
use Rattle.wm_history.specs.History.{opening_of, stopped}
use Rattle.wm_core.specs.declared.asked.Asked.{Asked}
use Rattle.wm_history.specs.declared.step.Step.{Step}
use Rattle.wm_criteria.specs.Building.{Log}
use Rattle.wm_crew.proofs.KeepLemmas.{no_fault, painted_until_stopped, painter_of_none, ran_keep}
use Rattle.wm_crew.specs.Duties.{IsReady}
use Rattle.wm_crew.specs.Running.{Outside, RanActors, keep}
use Rattle.wm_crew.specs.declared.status.ServeStatus.{ServeStatus}
use Rattle.wm_crew.specs.declared.status.ServeStatus.TheVariants.{Done, NoMemory}
use Rattle.wm_layouts.specs.declared.plan.Plan.{Plan}
use Rattle.wm_ports.specs.Linking.{LinkTold}
use Rattle.wm_ports.specs.Listening.{ListenTold}
use Rattle.wm_serve.specs.Running.{IsSeatOf, RanDesk, numbers}
use Rattle.wm_turn.specs.Pass.{IsKnown, IsLegal, Pass, new_pass, new_passes}
use Rattle.wm_turn.specs.declared.view.Entry.{Entry}

abbrev pub Seat : Type 0
Seat = Pass Plan Step Asked

-- ---- new seats

pub length_new : (door : TableId) (plan : Plan) (first n : ℕ) → length (new_passes {S = Step} {Q = Asked} door plan first n) ≡ n
length_new door plan first zero = refl
length_new door plan first (suc n) = ap suc (length_new door plan (suc first) n)

pub ready_new : (door : TableId) (plan : Plan) (first n : ℕ) → All (λ (seat : Seat). IsLegal seat) (new_passes door plan first n)
    → All (IsReady (IsSeatOf door) carried) (new_passes door plan first n)
ready_new door plan first zero legal = λ i d less. absurd (omega (arith, less))
ready_new door plan first (suc n) legal =
    All-cons (IsReady (IsSeatOf door) carried) (new_pass door plan first) (new_passes door plan (suc first) n)
    (record { door = (refl, All-head (λ (seat : Seat). IsLegal seat) (new_pass door plan first) (new_passes door plan (suc first) n) legal); no_turn = refl })
    (ready_new door plan (suc first) n (All-tail (λ (seat : Seat). IsLegal seat) (new_pass door plan first) (new_passes door plan (suc first) n) legal))

-- ---- seats that stayed what they were

abbrev pub kept : Seat → ℕ × (ℕ × (Bool × Option Plan))
kept seat = keep (carried seat)

-- seats that are at rest, and together all that there are
pub record AtRest (plan : Plan) (first n : ℕ) (seats : List Seat) : Type 0 where
  pub turns : All (λ (seat : Seat). seat.turn ≡ false) seats
  pub openings : All (λ (seat : Seat). seat.opening ≡ Some plan) seats
  pub parts : sum_by (λ (seat : Seat). seat.parts) seats ≡ n
  pub callers : map (λ (seat : Seat). seat.caller) seats ≡ numbers first n

pub at_rest : (door : TableId) (plan : Plan) (first n : ℕ) (seats : List Seat) → map kept seats ≡ map kept (new_passes door plan first n) → AtRest plan first n seats
at_rest door plan first zero [] same =
    record { turns = λ i d less. absurd (omega (arith, less)); openings = λ i d less. absurd (omega (arith, less)); parts = refl; callers = refl }
at_rest door plan first zero (x ∷ xs) same = absurd (omega (arith, ap (λ (l : List (ℕ × (ℕ × (Bool × Option Plan)))). length l) same))
at_rest door plan first (suc n) [] same = absurd (omega (arith, ap (λ (l : List (ℕ × (ℕ × (Bool × Option Plan)))). length l) same))
at_rest door plan first (suc n) (x ∷ xs) same =
    let head : kept x ≡ kept (new_pass door plan first) = ap (λ (l : List (ℕ × (ℕ × (Bool × Option Plan)))). slice_index_or l 0 (kept x)) same in
    let rest : AtRest plan (suc first) n xs = at_rest door plan (suc first) n xs (ap (λ (l : List (ℕ × (ℕ × (Bool × Option Plan)))). drop 1 l) same) in
    let part : x.parts ≡ 1 = ap (λ (t : ℕ × (ℕ × (Bool × Option Plan))). t.1.0) head in
    record {
      turns = All-cons (λ (seat : Seat). seat.turn ≡ false) x xs (ap (λ (t : ℕ × (ℕ × (Bool × Option Plan))). t.1.1.0) head) rest.turns;
      openings = All-cons (λ (seat : Seat). seat.opening ≡ Some plan) x xs (ap (λ (t : ℕ × (ℕ × (Bool × Option Plan))). t.1.1.1) head) rest.openings;
      parts = omega (arith, part, rest.parts, sum_by-cons (λ (seat : Seat). seat.parts) x xs);
      callers = ap₂ (λ n ns. n ∷ ns) (ap (λ (t : ℕ × (ℕ × (Bool × Option Plan))). t.0) head) rest.callers;
    }

-- what holds of all holds of the last one
last_of : (P : Seat → Type 0) (xs : List Seat) (t p : Seat) → All P (xs ++ t ∷ p ∷ []) → P p
last_of P [] t p every = All-head P p [] (All-tail P t (p ∷ []) every)
last_of P (x ∷ xs) t p every = last_of P xs t p (All-tail P x (xs ++ t ∷ p ∷ []) every)

-- what actors leave of the seats, and whether the desk is to stop
module _ {L A B : Type 0} (link_told : L → Option LinkTold) (link_faults : L → ℕ) (told : A → Option (ListenTold L)) (faults : A → ℕ) (log : B → Log)
    (door : TableId) (plan : Plan) (ipc hold n : ℕ) (seats passes : List Seat) (from to : Outside A B) (status : ServeStatus)
    (fresh : seats ≡ new_passes door plan 0 n) (many : n ≡ length from.doors + 2) (builds : length from.builds ≡ length from.doors)
    (run : RanActors link_told link_faults told faults log (IsSeatOf door) carried ipc hold seats passes from to status) where
  ran : RanActors link_told link_faults told faults log (IsSeatOf door) carried ipc hold (new_passes door plan 0 n) passes from to status
  ran = subst (λ (xs : List Seat). RanActors link_told link_faults told faults log (IsSeatOf door) carried ipc hold xs passes from to status) fresh run

  stayed : All (IsSeatOf door) passes × (map kept passes ≡ map kept (new_passes door plan 0 n))
  stayed = ran_keep link_told link_faults told faults (IsSeatOf door) carried log ipc hold (new_passes door plan 0 n) passes from to ran.fault (length_new door plan 0 n ∙ many) builds ran.ran

  rest : AtRest plan 0 n passes
  rest = at_rest door plan 0 n passes stayed.1

  pub may_close : All (λ (seat : Seat). (seat.door ≡ door) × (seat.turn ≡ false)) passes
  may_close = λ i d less. ((stayed.0 i d less).0, rest.turns i d less)

  stops : (history : List (Entry Step)) → All (IsKnown history) passes → status ≡ Done → stopped (opening_of plan) (history_of history) ≡ true
  stops history known done = told_so plan (history_of history) opening (history_begins painter.seen history begins)
    where
      painter : Seat
      painter = ran.ran.new.painter

      of_painter : (P : Seat → Type 0) → All P passes → P painter
      of_painter P h = last_of P ran.ran.new.workers ran.ran.new.timer painter (subst (λ (xs : List Seat). All P xs) ran.ran.new_are h)

      begins : Begins painter.seen history
      begins = (of_painter (IsKnown history) known).0

      opening : painter.opening ≡ Some plan
      opening = of_painter (λ (seat : Seat). seat.opening ≡ Some plan) rest.openings

      told_so : Lasts (carried painter) (λ start seen. stopped start seen ≡ true)
      told_so = painted_until_stopped _ (carried painter) _ _ ran.ran.ran.painter_end
          (painter_of_none ran.ran.ran.worked ran.ran.ran.timer_end ran.ran.ran.painter_end (sym ran.ran.ran.counts ∙ no_fault ran.fault (sym ran.comes_to ∙ done))) ran.ran.ran.painted

  pub all_parts : (count : ℕ) → count ≡ n → sum_by (λ (seat : Seat). seat.parts) passes ≡ count
  all_parts count is = rest.parts ∙ sym is

  pub ran_desk : (count : ℕ) → count ≡ n → (history : List (Entry Step)) (stands : List (Entry Step) → Type 0) → stands history → All (IsKnown history) passes
      → All (λ (entry : Entry Step). entry.who < count) history → RanDesk link_told link_faults told faults log plan ipc hold (length from.doors + 2) from to status stands
  ran_desk count is history stands stood known theirs =
      subst (λ k. RanDesk link_told link_faults told faults log plan ipc hold k from to status stands) many
      (record {
        door = door;
        passes = passes;
        history = history;
        ran = ran;
        stands_for = stood;
        known = known;
        callers = rest.callers;
        theirs = subst (λ k. All (λ (entry : Entry Step). entry.who < k) history) is theirs;
        stops = stops history known;
      })

-- ---- the same, of what a desk stands for

module _ {L A B : Type 0} (link_told : L → Option LinkTold) (link_faults : L → ℕ) (told : A → Option (ListenTold L)) (faults : A → ℕ) (log : B → Log) where
  pub ran_as : (plan plan' : Plan) (ipc hold n : ℕ) (from to : Outside A B) (status : ServeStatus) (stands stands' : List (Entry Step) → Type 0)
      → plan ≡ plan' → ((history : List (Entry Step)) → stands history → stands' history)
      → RanDesk link_told link_faults told faults log plan ipc hold n from to status stands → RanDesk link_told link_faults told faults log plan' ipc hold n from to status stands'
  ran_as plan plan' ipc hold n from to status stands stands' same so ran =
      subst (λ p. RanDesk link_told link_faults told faults log p ipc hold n from to status stands') same
      (record {
        door = ran.door;
        passes = ran.passes;
        history = ran.history;
        ran = ran.ran;
        stands_for = so ran.history ran.stands_for;
        known = ran.known;
        callers = ran.callers;
        theirs = ran.theirs;
        stops = ran.stops;
      })

-- what holds of a value holds of what is given of it
pub given_so : {V : Type 0} (o : Option V) (value : V) (P : V → Type 0) → IfSome o (λ given. given ≡ value) → P value → IfSome o P
given_so None value P same holds = tt
given_so (Some given) value P same holds = subst P (sym same) holds

-- a status is not both
pub not_both : (s : ServeStatus) → s ≡ Done → s ≡ NoMemory → ⊥
not_both s done none = absurd cc

-- the same rehearsal, of equal builds and with an equal desk
pub rehearsed_as : {B : Type 0} (log : B → Log) (plan : Plan) (n hold : ℕ) (first first' used : List B) (from left : Screen) (clock clock' : Option (List ℕ)) (desk desk' : Option RecordedValue) (ended : ServeStatus)
    → first ≡ first' → desk ≡ desk' → Rehearsed log plan n hold first used from left clock clock' desk ended → Rehearsed log plan n hold first' used from left clock clock' desk' ended
rehearsed_as log plan n hold first first' used from left clock clock' desk desk' ended same is r =
    subst (λ bs. Rehearsed log plan n hold bs used from left clock clock' desk' ended) same (subst (λ d. Rehearsed log plan n hold first used from left clock clock' d ended) is r)
