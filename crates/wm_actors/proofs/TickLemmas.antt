-- What the calls of a round of a timer leave.
use Rattle.std.proofs.Common.{◌≡◌, ◌∙◌, refl, sym, subst, ℕ, ◌^◌, Bool, true, false, List, [], ◌∷◌, ◌++◌, length, Option, None, Some, Result, Ok, Err, IsErrAnd}
use Rattle.wm_history.specs.Act.{Deadline}
use Rattle.wm_history.specs.History.{History, Start, opening_of, stopped}
use Rattle.wm_core.specs.Passes.{Looked, Pass, Saw, Took}
use Rattle.wm_core.specs.declared.asked.Asked.TheVariants as asked
use Rattle.wm_history.specs.declared.look.Query.TheVariants as query
use Rattle.wm_history.specs.declared.step.Answer.{Answer}
use Rattle.wm_ports.specs.Listening.{IsTold}
use Rattle.wm_session.specs.Places.{at_length, entry_at}
use Rattle.wm_actors.specs.Due.{HasSeen, Pair, due}
use Rattle.wm_actors.specs.Since.{Since}
use Rattle.wm_actors.specs.Ticks.{AreRounds, Asked_alone, Gives, IsGiven, IsLast, IsLook, Not_given, Round, all_marks, marks_of, pairs_of, waiting_after}
use Rattle.wm_actors.specs.Timed.{Ended, GoesOn, Ticking, clocks}
use Rattle.wm_actors.specs.Told.{Gave}
use Rattle.wm_actors.specs.declared.ending.ActorEnd.{ActorEnd}
use Rattle.wm_actors.specs.declared.ending.ActorEnd.TheVariants as end
use Rattle.wm_actors.specs.declared.timer.Timer.{Timer}
use Rattle.wm_actors.proofs.SinceLemmas.{caller_kept, carried_looked, carried_saw, carried_then, carried_took, lasts_carried, lasts_looked, lasts_took, since_first}

pub gave_none : (told : Option (List ℕ)) → Gave told told []
gave_none None = tt
gave_none (Some numbers) = refl

pub gave_more : (told now new : Option (List ℕ)) (numbers : List ℕ) (number : ℕ) → Gave told now numbers → IsTold now new number → Gave told new (number ∷ numbers)
gave_more None now new numbers number g i = tt
gave_more (Some all) now new numbers number g i = subst (λ o. IsTold o new number) g i

pub ticking_first : (p : Pass) (told : Option (List ℕ)) (timer : Timer) → HasSeen [] timer → Ticking p p told told timer
ticking_first p told timer h = record { rounds = []; since = since_first p; handed = h; told = gave_none told }

-- ---- the round in which it ends before it looked

-- it was told to stop
pub ticking_stopped : (first old new : Pass) (told now : Option (List ℕ)) (timer : Timer) (says : Bool)
    → Ticking first old told now timer → Looked old new asked.Stopped (λ start seen. says ≡ stopped start seen) → says ≡ true
    → Ended first new timer.hold_ms told now end.Stopped
ticking_stopped first old new told now timer says t l is =
    let tells = λ (start : Start) (seen : History). says ≡ stopped start seen in
    let c = carried_looked old new asked.Stopped tells l in
    let rounds = λ (start : Start) (seen : History). AreRounds start first.caller timer.hold_ms seen t.rounds in
    record {
      rounds = t.rounds;
      last = Asked_alone (length new.seen);
      since = record {
        carried = carried_then first old new (all_marks t.rounds) _ t.since.carried c;
        lasts = λ plan later e b. (lasts_carried old new _ rounds c t.since.lasts plan later e b, sym (lasts_looked old new asked.Stopped tells l plan later e b) ∙ is);
      };
      told = t.told;
      cause = tt;
    }

-- it could not look, for want of memory
pub ticking_unseen : (first old mid new : Pass) (told now : Option (List ℕ)) (timer : Timer) (says : Bool)
    → Ticking first old told now timer → Looked old mid asked.Stopped (λ start seen. says ≡ stopped start seen) → says ≡ false → Saw mid new
    → Ended first new timer.hold_ms told now end.NoMemory
ticking_unseen first old mid new told now timer says t l is s =
    let tells = λ (start : Start) (seen : History). says ≡ stopped start seen in
    let c = carried_looked old mid asked.Stopped tells l in
    let d = carried_saw mid new s in
    let rounds = λ (start : Start) (seen : History). AreRounds start first.caller timer.hold_ms seen t.rounds in
    record {
      rounds = t.rounds;
      last = Asked_alone (length mid.seen);
      since = record {
        carried = carried_then first mid new _ [] (carried_then first old mid (all_marks t.rounds) _ t.since.carried c) d;
        lasts = lasts_carried mid new [] (λ start seen. rounds start seen × IsLast end.NoMemory start timer.hold_ms seen t.rounds (Asked_alone (length mid.seen))) d
            (λ plan later e b. (lasts_carried old mid _ rounds c t.since.lasts plan later e b, sym (lasts_looked old mid asked.Stopped tells l plan later e b) ∙ is));
      };
      told = t.told;
      cause = tt;
    }

-- ---- a round in which it looked

-- a round by its parts
abbrev pub round_of : ℕ → ℕ → Pair → Option ℕ → Round
round_of asked looked pair gave = record { asked = asked; looked = looked; pair = pair; gave = gave }

-- a round that asked and looked with these passes
abbrev pub round_at : Pass → Pass → ℕ → Option ℕ → Option ℕ → Round
round_at mid look clock waiting gave = round_of (length mid.seen) (length look.seen) (record { clock = clock; waiting = waiting }) gave

-- these rounds were made, and in another one the timer looked
abbrev pub HasLooked : ℕ → ℕ → List Round → Round → Start → History → Type 0
HasLooked who hold rounds round start seen = AreRounds start who hold seen rounds × IsLook start seen round

-- it asked and looked
pub since_looked : (first old mid look : Pass) (told now : Option (List ℕ)) (timer : Timer) (says : Bool) (clock : ℕ) (waiting gave : Option ℕ)
    → (t : Ticking first old told now timer) → Looked old mid asked.Stopped (λ start seen. says ≡ stopped start seen) → says ≡ false
    → Looked mid look (asked.Query query.State) (λ start seen. waiting ≡ waiting_after start seen)
    → Since first look (marks_of (round_at mid look clock waiting None) ++ all_marks t.rounds) (HasLooked first.caller timer.hold_ms t.rounds (round_at mid look clock waiting gave))
since_looked first old mid look told now timer says clock waiting gave t l is m =
    let tells = λ (start : Start) (seen : History). says ≡ stopped start seen in
    let waits = λ (start : Start) (seen : History). waiting ≡ waiting_after start seen in
    let c = carried_looked old mid asked.Stopped tells l in
    let d = carried_looked mid look (asked.Query query.State) waits m in
    let rounds = λ (start : Start) (seen : History). AreRounds start first.caller timer.hold_ms seen t.rounds in
    record {
      carried = carried_then first mid look _ _ (carried_then first old mid (all_marks t.rounds) _ t.since.carried c) d;
      lasts = λ plan later e b. (
        lasts_carried mid look _ rounds d (lasts_carried old mid _ rounds c t.since.lasts) plan later e b,
        record {
          going = sym (lasts_carried mid look _ (λ start seen. says ≡ stopped start (at_length (length mid.seen) seen)) d (lasts_looked old mid asked.Stopped tells l) plan later e b) ∙ is;
          waited = lasts_looked mid look (asked.Query query.State) waits m plan later e b;
        },
      );
    }

-- a round that gave nothing, because nothing is due
ticking_rests : (first look : Pass) (told now : Option (List ℕ)) (timer : Timer) (hold : ℕ) (rounds : List Round) (round : Round)
    → Since first look (marks_of round ++ all_marks rounds) (HasLooked first.caller hold rounds round)
    → round.gave ≡ None → due hold (pairs_of (round ∷ rounds)) ≡ None → timer.hold_ms ≡ hold → HasSeen (pairs_of (round ∷ rounds)) timer
    → Gave told now (clocks (pairs_of (round ∷ rounds)))
    → Ticking first look told now timer
ticking_rests first look told now timer hold rounds round s none is same handed gave = record {
  rounds = round ∷ rounds;
  since = record {
    carried = s.carried;
    lasts = λ plan later e b.
        let h = s.lasts plan later e b in
        subst (λ n. AreRounds (opening_of plan) first.caller n later (round ∷ rounds)) (sym same)
        (h.0, record { look = h.1; gave = subst (λ o. IsGiven first.caller later o round.gave) (sym is) none });
  };
  handed = handed;
  told = gave;
}

-- a round that gave the deadline that is due
ticking_gives : (first look new : Pass) (told now : Option (List ℕ)) (timer : Timer) (hold : ℕ) (rounds : List Round) (asked looked number : ℕ) (pair : Pair) (said : Answer)
    → (t : Took look new (Deadline number) said)
    → Since first look (marks_of (round_of asked looked pair None) ++ all_marks rounds) (HasLooked first.caller hold rounds (round_of asked looked pair (Some (length t.before))))
    → due hold (pair ∷ pairs_of rounds) ≡ Some number → timer.hold_ms ≡ hold → HasSeen (pair ∷ pairs_of rounds) timer
    → Gave told now (pair.clock ∷ clocks (pairs_of rounds))
    → Ticking first new told now timer
ticking_gives first look new told now timer hold rounds asked looked number pair said t s is same handed gave =
    let round = round_of asked looked pair (Some (length t.before)) in
    let c = carried_took look new (Deadline number) said t in
    let holds = HasLooked first.caller hold rounds round in
    let who = caller_kept first look _ s.carried in
    record {
      rounds = round ∷ rounds;
      since = record {
        carried = carried_then first look new _ _ s.carried c;
        lasts = λ plan later e b.
            let h = lasts_carried look new _ holds c s.lasts plan later e b in
            let at = lasts_took look new (Deadline number) said t plan later e b in
            subst (λ n. AreRounds (opening_of plan) first.caller n later (round ∷ rounds)) (sym same)
            (h.0, record { look = h.1; gave = subst (λ o. IsGiven first.caller later o round.gave) (sym is) (subst (λ n. entry_at (length t.before) later ≡ Some (record { who = n; act = Deadline number })) who at) });
      };
      handed = handed;
      told = gave;
    }

-- a round that gave no deadline, because the history takes no more steps
ticking_ends : (first look new : Pass) (told now : Option (List ℕ)) (hold : ℕ) (rounds : List Round) (round : Round) (number : ℕ)
    → Since first look (marks_of round ++ all_marks rounds) (HasLooked first.caller hold rounds round)
    → Saw look new → length new.seen ≡ 2 ^ 48 → round.gave ≡ None → due hold (pairs_of (round ∷ rounds)) ≡ Some number
    → Gave told now (clocks (pairs_of (round ∷ rounds)))
    → Ended first new hold told now end.Exhausted
ticking_ends first look new told now hold rounds round number s saw full none is gave =
    let c = carried_saw look new saw in
    let holds = HasLooked first.caller hold rounds round in
    record {
      rounds = rounds;
      last = Not_given round;
      since = record {
        carried = carried_then first look new _ [] s.carried c;
        lasts = λ plan later e b.
            let h = lasts_carried look new [] holds c s.lasts plan later e b in
            (h.0, record { look = h.1; none = none; number = number; is_due = is });
      };
      told = gave;
      cause = full;
    }

-- the end of a round in which the timer looked
pub ticking_goes_on : {A : Type 0} (first old mid look new : Pass) (told now after : Option (List ℕ)) (timer next : Timer) (says : Bool) (clock : ℕ) (waiting number : Option ℕ) (result : Result A ActorEnd)
    → Ticking first old told now timer
    → Looked old mid asked.Stopped (λ start seen. says ≡ stopped start seen) → says ≡ false
    → Looked mid look (asked.Query query.State) (λ start seen. waiting ≡ waiting_after start seen)
    → IsTold now after clock → next.hold_ms ≡ timer.hold_ms
    → ((pairs : List Pair) → HasSeen pairs timer → number ≡ due timer.hold_ms (record { clock = clock; waiting = waiting } ∷ pairs))
    → ((pairs : List Pair) → HasSeen pairs timer → HasSeen (record { clock = clock; waiting = waiting } ∷ pairs) next)
    → Gives look new number result
    → GoesOn first new told after next result
ticking_goes_on {A = A} first old mid look new told now after timer next says clock waiting None (Ok x) t l is m tick same decides hands gives =
    subst (λ p. Ticking first p told after next) (sym gives)
    (ticking_rests first look told after next timer.hold_ms t.rounds (round_at mid look clock waiting None)
    (since_looked first old mid look told now timer says clock waiting None t l is m)
    refl (sym (decides (pairs_of t.rounds) t.handed)) same (hands (pairs_of t.rounds) t.handed) (gave_more told now after (clocks (pairs_of t.rounds)) clock t.told tick))
ticking_goes_on {A = A} first old mid look new told now after timer next says clock waiting None (Err e) t l is m tick same decides hands gives = absurd gives
ticking_goes_on {A = A} first old mid look new told now after timer next says clock waiting (Some number) (Ok x) t l is m tick same decides hands (said, took) =
    ticking_gives first look new told after next timer.hold_ms t.rounds (length mid.seen) (length look.seen) number (record { clock = clock; waiting = waiting }) said took
    (since_looked first old mid look told now timer says clock waiting (Some (length took.before)) t l is m)
    (sym (decides (pairs_of t.rounds) t.handed)) same (hands (pairs_of t.rounds) t.handed) (gave_more told now after (clocks (pairs_of t.rounds)) clock t.told tick)
ticking_goes_on {A = A} first old mid look new told now after timer next says clock waiting (Some number) (Err e) t l is m tick same decides hands (refused, saw, full) =
    subst (λ x. Ended first new next.hold_ms told after x) (sym refused)
    (subst (λ hold. Ended first new hold told after end.Exhausted) (sym same)
    (ticking_ends first look new told after timer.hold_ms t.rounds (round_at mid look clock waiting None) number
    (since_looked first old mid look told now timer says clock waiting None t l is m)
    saw full refl (sym (decides (pairs_of t.rounds) t.handed)) (gave_more told now after (clocks (pairs_of t.rounds)) clock t.told tick)))

-- the timer has ended so, which is the result
pub ends_as : {A : Type 0} (first new : Pass) (told now : Option (List ℕ)) (timer : Timer) (result : Result A ActorEnd) (e : ActorEnd)
    → Ended first new timer.hold_ms told now e → IsErrAnd result (λ s. s ≡ e) → GoesOn first new told now timer result
ends_as first new told now timer (Ok x) e ended is = absurd is
ends_as first new told now timer (Err s) e ended is = subst (λ x. Ended first new timer.hold_ms told now x) (sym is) ended
