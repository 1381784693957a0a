-- What the actors of a rehearsal did, from what its workers did.
use Rattle.std.proofs.Common.{◌≡◌, ◌∙◌, ◌≤◌, ◌<◌, refl, sym, ap, ap₂, subst, arith, ℕ, suc, zero, ◌+◌, ◌*◌, ◌==◌, nat_lt, Bool, true, false, List, [], ◌∷◌, ◌++◌, length, map, take, drop, Option, None, IfSome, slice_index_or}
use Rattle.std.proofs.Math.Seq.{drop-append_seam, take-append_seam}
use Rattle.std.proofs.lemmas.Bool.{eqb-false, eqb-true, le-ltb, lt-ltb, ltb-false, ltb-true}
use Rattle.std.proofs.lemmas.List.{length-map, take_all}
use Rattle.std.proofs.lemmas.List.Elements.{All-cons, All-head, All-tail}
use Rattle.std.specs.List.{All, AllByRecursion}
use Rattle.atomic_table.specs.Seated.{TableId}
use Rattle.wm_actors.specs.Pictured.{Pictured, Screen, screen}
use Rattle.wm_actors.specs.Timed.{Timed}
use Rattle.wm_actors.specs.Told.{grown_by}
use Rattle.wm_actors.specs.Worked.{Worked, gate}
use Rattle.wm_actors.specs.Works.{Spot, answers_of, last_answer}
use Rattle.wm_actors.specs.declared.ending.ActorEnd.{ActorEnd}
use Rattle.wm_actors.specs.declared.ending.ActorEnd.TheVariants as end
use Rattle.wm_actors.specs.declared.serve.Failure.{Failure}
use Rattle.wm_book.specs.Carried.{carried}
use Rattle.wm_book.specs.Recorded.{IsRecord, RecordedValue}
use Rattle.wm_core.specs.Entries.{history_of}
use Rattle.wm_history.specs.History.{History, opening_of}
use Rattle.wm_criteria.specs.Building.{Log}
use Rattle.wm_crew.proofs.KeepLemmas.{no_fault}
use Rattle.wm_crew.specs.Crew.{Each, posts}
use Rattle.wm_crew.specs.Duties.{ServedAt, ServedBy}
use Rattle.wm_crew.specs.Faults.{fault_among, fault_of}
use Rattle.wm_crew.specs.Running.{outside}
use Rattle.wm_crew.specs.declared.status.ServeStatus.{ServeStatus}
use Rattle.wm_crew.specs.declared.status.ServeStatus.TheVariants.{Done}
use Rattle.wm_layouts.specs.declared.plan.Plan.{Plan}
use Rattle.wm_ports.specs.declared.listens.Accepted.{Accepted}
use Rattle.wm_session.specs.Served.{Stage}
use Rattle.wm_turn.specs.History.{places}
use Rattle.wm_turn.specs.Pass.{IsKnown, new_pass, new_passes}
use Rattle.wm_serve.specs.Callers.{doors_of, link_at, texts}
use Rattle.wm_serve.specs.Once.{AreGiven, IsGiven, OnceState, answers, fresh, once_told}
use Rattle.wm_serve.specs.Rehearsals.{Rehearsed}
use Rattle.wm_serve.specs.Rehearsed.{faults_of, told_of}
use Rattle.wm_serve.specs.Running.{IsSeatOf, RanDesk, numbers}
use Rattle.wm_serve.specs.Said.{Said, texts_of}
use Rattle.wm_serve.specs.declared.rehearsed.RehearsedLink.{RehearsedLink}
use Rattle.wm_serve.proofs.DeskLemmas.{Seat, length_new}
use Rattle.wm_serve.proofs.ActorLemmas.{painter_silent, timer_silent}
use Rattle.wm_serve.proofs.CalmLemmas.{calm_history}
use Rattle.wm_serve.proofs.EachLemmas.{Heard, each_heard, neither, was_stopped}
use Rattle.wm_serve.proofs.SaidLemmas.{answers_told, returned_of}
use Rattle.wm_serve.proofs.StayLemmas.{Stays, length_first, texts_stay}
use Rattle.wm_serve.proofs.VisitLemmas.{some_answers}

-- ---- each worker was given its link

some_calls : (link : RehearsedLink) (calls : ℕ) (answer : Accepted RehearsedLink) (before : List (Accepted RehearsedLink)) → answers link calls ≡ grown_by [] (answer ∷ before) → 0 < calls
some_calls link zero answer before is = absurd (some_answers answer before is)
some_calls link (suc n) answer before is = omega arith

module _ {E : Type 0} (served : Stage → Stage → E → Type 0) (fails : E → Option Failure) where
  given_by : (link : RehearsedLink) (s : OnceState) (first now : Spot) (f f' : ℕ) (e : ActorEnd)
      → Worked told_of faults_of served fails first now (gate (once_told (fresh link)) f) (gate (once_told s) f') e → IsGiven (fresh link) s
  given_by link s first now f f' e w = record {
    link = ap (λ l. slice_index_or l 0 link) (ap returned_of w.ended.heard);
    given = some_calls s.link s.calls (last_answer w.ended.last) (answers_of w.ended.rounds) (ap answers_told w.ended.heard);
  }

module _ {B : Type 0} (log : B → Log) (is_of : Seat → Type 0) where
  given_at : (b : Bool) (link : RehearsedLink) (from to : Seat) (build build' : B) (s : OnceState) (e : ActorEnd)
      → ServedBy told_of faults_of once_told (λ _. 0) is_of carried log b from (fresh link) build to s build' e → IsGiven (fresh link) s
  given_at true link from to build build' s e served = given_by _ _ link s _ _ 0 0 e served.worked
  given_at false link from to build build' s e served = given_by _ _ link s _ _ 0 0 e served.worked

  each_given : (ipc number : ℕ) (seats seats' : List Seat) (links : List RehearsedLink) (builds builds' : List B) (doors' : List OnceState) (ends : List ActorEnd)
      → length seats ≡ length links → length builds ≡ length links → length seats' ≡ length links → length builds' ≡ length links → length doors' ≡ length links
      → Each (ServedAt told_of faults_of once_told (λ _. 0) is_of carried log ipc) number (posts seats (map fresh links) builds) (posts seats' doors' builds') ends
      → AreGiven (map fresh links) doors'
  each_given ipc number seats seats' [] builds builds' [] ends ls lb ls' lb' ld each = tt
  each_given ipc number (s ∷ ss) (s' ∷ ss') (link ∷ links) (b ∷ bs) (b' ∷ bs') (d' ∷ ds') (e ∷ es) ls lb ls' lb' ld each = (
    given_at (nat_lt number ipc) link s s' b b' d' e each.0,
    each_given ipc (suc number) ss ss' links bs bs' ds' es (omega (arith, ls)) (omega (arith, lb)) (omega (arith, ls')) (omega (arith, lb')) (omega (arith, ld)) each.1,
  )
  each_given ipc number seats seats' [] builds builds' (d' ∷ ds') ends ls lb ls' lb' ld each = absurd (omega (arith, ld))
  each_given ipc number [] seats' (link ∷ links) builds builds' doors' ends ls lb ls' lb' ld each = absurd (omega (arith, ls))
  each_given ipc number (s ∷ ss) [] (link ∷ links) builds builds' doors' ends ls lb ls' lb' ld each = absurd (omega (arith, ls'))
  each_given ipc number (s ∷ ss) (s' ∷ ss') (link ∷ links) [] builds' doors' ends ls lb ls' lb' ld each = absurd (omega (arith, lb))
  each_given ipc number (s ∷ ss) (s' ∷ ss') (link ∷ links) (b ∷ bs) [] doors' ends ls lb ls' lb' ld each = absurd (omega (arith, lb'))
  each_given ipc number (s ∷ ss) (s' ∷ ss') (link ∷ links) (b ∷ bs) (b' ∷ bs') [] ends ls lb ls' lb' ld each = absurd (omega (arith, ld))
  each_given ipc number (s ∷ ss) (s' ∷ ss') (link ∷ links) (b ∷ bs) (b' ∷ bs') (d' ∷ ds') [] ls lb ls' lb' ld each = absurd each

-- ---- the seats of the workers

abbrev seats : TableId → Plan → ℕ → ℕ → List Seat
seats door plan first count = new_passes door plan first count

take_new : (door : TableId) (plan : Plan) (first k more : ℕ) → k ≤ more → take k (seats door plan first more) ≡ seats door plan first k
take_new door plan first zero more less = refl
take_new door plan first (suc k) zero less = absurd (omega (arith, less))
take_new door plan first (suc k) (suc more) less = ap (λ (ps : List Seat). new_pass door plan first ∷ ps) (take_new door plan (suc first) k more (omega (arith, less)))

drop_new : (door : TableId) (plan : Plan) (first k more all : ℕ) → all ≡ k + more → drop k (seats door plan first all) ≡ seats door plan (first + k) more
drop_new door plan first zero more all is =
    let place : first ≡ first + zero = omega arith in
    let count : all ≡ more = omega (arith, is) in
    ap₂ (λ f n. seats door plan f n) place count
drop_new door plan first (suc k) more zero is = absurd (omega (arith, is))
drop_new door plan first (suc k) more (suc all) is =
    let place : suc first + k ≡ first + suc k = omega arith in
    drop_new door plan (suc first) k more all (omega (arith, is)) ∙ ap (λ f. seats door plan f more) place

length_two : (xs : List Seat) (t p : Seat) → length (xs ++ t ∷ p ∷ []) ≡ length xs + 2
length_two [] t p = refl
length_two (x ∷ xs) t p = omega (arith, length_two xs t p)

front_all : (P : Seat → Type 0) (xs ys : List Seat) → All P (xs ++ ys) → All P xs
front_all P [] ys every = λ i d less. absurd (omega (arith, less))
front_all P (x ∷ xs) ys every = All-cons P x xs (All-head P x (xs ++ ys) every) (front_all P xs ys (All-tail P x (xs ++ ys) every))

-- what holds of all holds of the last two
last_two : (P : Seat → Type 0) (xs : List Seat) (t p : Seat) → All P (xs ++ t ∷ p ∷ []) → P t × P p
last_two P [] t p every = (All-head P t (p ∷ []) every, All-head P p [] (All-tail P t (p ∷ []) every))
last_two P (x ∷ xs) t p every = last_two P xs t p (All-tail P x (xs ++ t ∷ p ∷ []) every)

length_numbers : (first count : ℕ) → length (numbers first count) ≡ count
length_numbers first zero = refl
length_numbers first (suc count) = ap suc (length_numbers (suc first) count)

pub length_doors : (n : ℕ) → length (doors_of n) ≡ 2 * n
length_doors n = length-map (map (link_at n) (numbers 0 (2 * n))) fresh ∙ length-map (numbers 0 (2 * n)) (link_at n) ∙ length_numbers 0 (2 * n)

-- ---- the rehearsal

module _ {B : Type 0} (log : B → Log) (plan : Plan) (n hold : ℕ) (doors : List OnceState) (builds builds' : List B) (from to : Screen) (clock clock' : Option (List ℕ))
    (desk : Option RecordedValue) (status : ServeStatus) (many : length builds ≡ 2 * n)
    (r : RanDesk told_of faults_of once_told (λ _. 0) log plan n hold (length (doors_of n) + 2)
    (outside (doors_of n) builds from.taken from.faults clock) (outside doors builds' to.taken to.faults clock') status (λ entries. IfSome desk (λ d. IsRecord d entries))) where
  abbrev old : List Seat
  old = r.ran.ran.old.workers

  abbrev new : List Seat
  new = r.ran.ran.new.workers

  long : length old ≡ 2 * n
  long =
      let both : length (seats r.door plan 0 (length (doors_of n) + 2)) ≡ length (old ++ r.ran.ran.old.timer ∷ r.ran.ran.old.painter ∷ []) = ap (λ (xs : List Seat). length xs) r.ran.ran.old_are in
      omega (arith, both, length_doors n, length_new r.door plan 0 (length (doors_of n) + 2), length_two old r.ran.ran.old.timer r.ran.ran.old.painter)

  new_many : length new ≡ 2 * n
  new_many = r.ran.ran.as_many ∙ long

  builds_many : length builds' ≡ 2 * n
  builds_many = r.ran.ran.as_many_builds ∙ many

  doors_many : length doors ≡ 2 * n
  doors_many = r.ran.ran.as_many_doors ∙ length_doors n

  are_new : old ≡ new_passes r.door plan 0 (2 * n)
  are_new =
      sym (take-append_seam old (r.ran.ran.old.timer ∷ r.ran.ran.old.painter ∷ []))
      ∙ ap₂ (λ k (xs : List Seat). take k xs) long (sym r.ran.ran.old_are)
      ∙ take_new r.door plan 0 (2 * n) (length (doors_of n) + 2) (omega (arith, length_doors n))

  each : Each (ServedAt told_of faults_of once_told (λ _. 0) (IsSeatOf r.door) carried log n) 0
      (posts (new_passes r.door plan 0 (2 * n)) (doors_of n) builds) (posts new doors builds') r.ran.ran.ran.served.ends
  each = subst (λ (xs : List Seat). Each (ServedAt told_of faults_of once_told (λ _. 0) (IsSeatOf r.door) carried log n) 0
      (posts xs (doors_of n) builds) (posts new doors builds') r.ran.ran.ran.served.ends) are_new r.ran.ran.ran.served.each

  known : All (IsKnown r.history) new
  known = front_all (IsKnown r.history) new (r.ran.ran.new.timer ∷ r.ran.ran.new.painter ∷ []) (subst (λ (xs : List Seat). All (IsKnown r.history) xs) r.ran.ran.new_are r.known)

  none : status ≡ Done → fault_among 0 r.ran.ran.ran.served.ends ≡ None
  none done = sym r.ran.ran.ran.served.counts ∙ (neither _ _ (sym r.ran.ran.ran.counts ∙ no_fault r.ran.fault (sym r.ran.comes_to ∙ done))).0

  abbrev links : List RehearsedLink
  links = map (link_at n) (numbers 0 (2 * n))

  as_many : length links ≡ 2 * n
  as_many = length-map (numbers 0 (2 * n)) (link_at n) ∙ length_numbers 0 (2 * n)

  -- ---- what was said

  abbrev seen : History
  seen = history_of r.history

  heard : status ≡ Done → (worker : ℕ) → worker < 2 * n → Heard (nat_lt worker n) worker r.history
  heard done worker few = each_heard log r.door plan n r.history 0 (2 * n) builds builds' new doors r.ran.ran.ran.served.ends
      many builds_many new_many doors_many (none done) known each worker (omega arith) (omega (arith, few))

  callers_said : status ≡ Done → (caller : ℕ) → caller < n → Said (texts caller) caller r.history
  callers_said done caller few = subst (λ b. Heard b caller r.history) (lt-ltb caller n few) (heard done caller (omega (arith, few)))

  -- the timer's and the painter's seats
  two_seats : r.ran.ran.old.timer ∷ r.ran.ran.old.painter ∷ [] ≡ seats r.door plan (0 + 2 * n) 2
  two_seats =
      sym (drop-append_seam old (r.ran.ran.old.timer ∷ r.ran.ran.old.painter ∷ []))
      ∙ ap₂ (λ k (xs : List Seat). drop k xs) long (sym r.ran.ran.old_are)
      ∙ drop_new r.door plan 0 (2 * n) 2 (length (doors_of n) + 2) (omega (arith, length_doors n))

  two_known : IsKnown r.history r.ran.ran.new.timer × IsKnown r.history r.ran.ran.new.painter
  two_known = last_two (IsKnown r.history) new r.ran.ran.new.timer r.ran.ran.new.painter (subst (λ (xs : List Seat). All (IsKnown r.history) xs) r.ran.ran.new_are r.known)

  two_stopped : status ≡ Done → (r.ran.ran.ran.timer_end ≡ end.Stopped) × (r.ran.ran.ran.painter_end ≡ end.Stopped)
  two_stopped done =
      let others = (neither _ _ (sym r.ran.ran.ran.counts ∙ no_fault r.ran.fault (sym r.ran.comes_to ∙ done))).1 in
      let both = neither (fault_of 0 r.ran.ran.ran.timer_end) (fault_of 0 r.ran.ran.ran.painter_end) others in
      (was_stopped 0 r.ran.ran.ran.timer_end both.0, was_stopped 0 r.ran.ran.ran.painter_end both.1)

  timer_said : status ≡ Done → texts_of (0 + 2 * n) seen ≡ []
  timer_said done =
      let is : r.ran.ran.old.timer ≡ new_pass r.door plan (0 + 2 * n) = ap (λ (xs : List Seat). slice_index_or xs 0 r.ran.ran.old.timer) two_seats in
      timer_silent r.door plan (0 + 2 * n) r.ran.ran.new.timer r.history two_known.0 hold clock clock' r.ran.ran.ran.timer_end (two_stopped done).0
      (subst (λ (s : Seat). Timed (carried s) (carried r.ran.ran.new.timer) hold clock clock' r.ran.ran.ran.timer_end) is r.ran.ran.ran.timed)

  painter_said : status ≡ Done → texts_of (suc (0 + 2 * n)) seen ≡ []
  painter_said done =
      let is : r.ran.ran.old.painter ≡ new_pass r.door plan (suc (0 + 2 * n)) = ap (λ (xs : List Seat). slice_index_or xs 1 r.ran.ran.old.painter) two_seats in
      painter_silent r.door plan (suc (0 + 2 * n)) r.ran.ran.new.painter r.history two_known.1 _ _ r.ran.ran.ran.painter_end (two_stopped done).1
      (subst (λ (s : Seat). Pictured (carried s) (carried r.ran.ran.new.painter) (screen from.taken from.faults) (screen to.taken to.faults) r.ran.ran.ran.painter_end) is r.ran.ran.ran.painted)

  -- ---- the first caller said all

  -- beside the callers nobody ran a text
  silent : status ≡ Done → (who : ℕ) → n ≤ who → who < length (doors_of n) + 2 → texts_of who seen ≡ []
  silent done who beyond less = by_seat (nat_lt who (2 * n)) refl (who == (0 + 2 * n)) refl
    where
      last_one : nat_lt who (2 * n) ≡ false → (who == (0 + 2 * n)) ≡ false → suc (0 + 2 * n) ≡ who
      last_one is also = omega (arith, less, length_doors n, ltb-false who (2 * n) is, eqb-false who (0 + 2 * n) also)

      by_seat : (b : Bool) → nat_lt who (2 * n) ≡ b → (c : Bool) → (who == (0 + 2 * n)) ≡ c → texts_of who seen ≡ []
      by_seat true is c also = subst (λ b. Heard b who r.history) (le-ltb who n beyond) (heard done who (ltb-true who (2 * n) is))
      by_seat false is true also = subst (λ k. texts_of k seen ≡ []) (sym (eqb-true who (0 + 2 * n) also)) (timer_said done)
      by_seat false is false also = subst (λ k. texts_of k seen ≡ []) (last_one is also) (painter_said done)

  -- where the first caller did not say all, nobody ran a text with an exit
  calm : status ≡ Done → (0 < n → length (places 0 r.history) ≤ 16) → (who : ℕ) → who < length (doors_of n) + 2 → AllByRecursion Stays (texts_of who seen)
  calm done few who less = by_worker (nat_lt who n) refl
    where
      by_worker : (b : Bool) → nat_lt who n ≡ b → AllByRecursion Stays (texts_of who seen)
      by_worker true is =
          let here : who < n = ltb-true who n is in
          subst (AllByRecursion Stays) (sym (callers_said done who here))
          (texts_stay who (length (places who r.history)) (λ first. subst (λ k. length (places k r.history) ≤ 16) (sym first) (few (omega (arith, here)))))
      by_worker false is = subst (AllByRecursion Stays) (sym (silent done who (ltb-false who n is) less)) tt

  never : status ≡ Done → (0 < n → length (places 0 r.history) ≤ 16) → ⊥
  never done few = clash (sym (r.stops done) ∙ calm_history (opening_of plan) (length (doors_of n) + 2) r.history r.theirs (calm done few))
    where
      clash : true ≡ false → ⊥
      clash e = absurd cc

  all_said : status ≡ Done → texts_of 0 seen ≡ texts 0
  all_said done = by_count (nat_lt 16 (length (places 0 r.history))) refl (nat_lt 0 n) refl
    where
      by_count : (b : Bool) → nat_lt 16 (length (places 0 r.history)) ≡ b → (c : Bool) → nat_lt 0 n ≡ c → texts_of 0 seen ≡ texts 0
      by_count true is true some =
          callers_said done 0 (ltb-true 0 n some) ∙ take_all (length (places 0 r.history)) (texts 0) (omega (arith, ltb-true 16 (length (places 0 r.history)) is, length_first))
      by_count true is false some = absurd (never done (λ more. absurd (omega (arith, more, ltb-false 0 n some))))
      by_count false is c some = absurd (never done (λ more. ltb-false 16 (length (places 0 r.history)) is))

  pub rehearsed : Rehearsed log plan n hold builds builds' from to clock clock' desk status
  rehearsed = record {
    doors = doors;
    ran = r;
    given = each_given log (IsSeatOf r.door) n 0 (new_passes r.door plan 0 (2 * n)) new links builds builds' doors r.ran.ran.ran.served.ends
        (length_new r.door plan 0 (2 * n) ∙ sym as_many) (many ∙ sym as_many) (new_many ∙ sym as_many) (builds_many ∙ sym as_many) (doors_many ∙ sym as_many) each;
    said = callers_said;
    all_said = all_said;
  }
