-- What the calls of a round of a worker leave.
use Rattle.std.proofs.Common.{◌≡◌, ◌∙◌, refl, ap, sym, subst, ℕ, ◌≤◌, Bool, true, false, List, [], ◌∷◌, ◌++◌, Option, None, Some, Result, Ok, Err, IsErrAnd, append_assoc, arith}
use Rattle.std.proofs.lemmas.List.{append-nil}
use Rattle.wm_history.specs.History.{stopped}
use Rattle.wm_core.specs.Passes.{Looked, Pass}
use Rattle.wm_core.specs.declared.asked.Asked.TheVariants as asked
use Rattle.wm_defs.specs.Counts.{Rose}
use Rattle.wm_ports.specs.Linking.{LinkTold}
use Rattle.wm_ports.specs.Listening.{IsAccepted, IsGivenBack, ListenTold}
use Rattle.wm_ports.specs.declared.listens.Accepted.{Accepted}
use Rattle.wm_ports.specs.declared.listens.Accepted.TheVariants as accepted
use Rattle.wm_session.specs.Served.{Stage}
use Rattle.wm_actors.specs.Exits.{Exits}
use Rattle.wm_actors.specs.Told.{grown_by}
use Rattle.wm_actors.specs.Worked.{Asks, Ended, Gate, GoesOn, Heard, IsCarried, IsFailure, Visits, Worked, Working}
use Rattle.wm_actors.specs.Works.{Came, IsVisit, Nobody, Not_accepted, Not_asked, Spot, Visit, Whole, all_left, answer_of, answers_of, failure_of, left_of, spot}
use Rattle.wm_actors.specs.declared.ending.ActorEnd.{ActorEnd}
use Rattle.wm_actors.specs.declared.ending.ActorEnd.TheVariants as end
use Rattle.wm_actors.specs.declared.serve.Failure.{Failure}
use Rattle.wm_actors.specs.declared.serve.Failure.TheVariants as failure
use Rattle.wm_actors.proofs.SinceLemmas.{carried_looked, carried_none, carried_then}

-- ---- passes

pub is_carried_none : (p : Pass) → IsCarried p p
is_carried_none p = record { marks = []; carried = carried_none p }

pub is_carried_then : (first now new : Pass) → IsCarried first now → IsCarried now new → IsCarried first new
is_carried_then first now new a b = record { marks = b.marks ++ a.marks; carried = carried_then first now new a.marks b.marks a.carried b.carried }

is_carried_asked : (old new : Pass) (says : Bool) → Looked old new asked.Stopped (λ start seen. says ≡ stopped start seen) → IsCarried old new
is_carried_asked old new says l = record { marks = _; carried = carried_looked old new asked.Stopped (λ start seen. says ≡ stopped start seen) l }

-- what was answered is this
pub asks_says : (old new : Pass) (says is : Bool) → Looked old new asked.Stopped (λ start seen. says ≡ stopped start seen) → says ≡ is
    → Looked old new asked.Stopped (λ start seen. is ≡ stopped start seen)
asks_says old new says is l e = subst (λ b. Looked old new asked.Stopped (λ start seen. b ≡ stopped start seen)) e l

-- ---- listeners

heard_none : {L : Type 0} (o : Option (ListenTold L)) → Heard o o [] []
heard_none None = tt
heard_none {L = L} (Some t) = ap {A = List L} (λ left. Some (record t { returned = left })) (sym (append-nil t.returned))

heard_answer : {L : Type 0} (old mid new : Option (ListenTold L)) (answers : List (Accepted L)) (left : List L) (answer : Accepted L)
    → Heard old mid answers left → IsAccepted mid new answer → Heard old new (answer ∷ answers) left
heard_answer None mid new answers left answer h a = tt
heard_answer (Some t) mid new answers left answer h a = subst (λ o. IsAccepted o new answer) h a

heard_back : {L : Type 0} (old mid new : Option (ListenTold L)) (answers : List (Accepted L)) (left : List L) (link : L)
    → Heard old mid answers left → IsGivenBack mid new link → Heard old new answers (left ++ link ∷ [])
heard_back None mid new answers left link h b = tt
heard_back {L = L} (Some t) mid new answers left link h b =
    subst (λ o. IsGivenBack o new link) h b
    ∙ ap {A = List L} (λ all. Some (record { answers = grown_by t.answers answers; returned = all })) (append_assoc t.returned left (link ∷ []))

heard_all : {L : Type 0} (old new : Option (ListenTold L)) (answers : List (Accepted L)) (left : List L) → Heard old new answers left → Heard old new answers (left ++ [])
heard_all old new answers left h = subst (λ all. Heard old new answers all) (sym (append-nil left)) h

fine_of : {A : Type 0} (f : Option Failure) (x : A) → IsFailure f (Ok x) → f ≡ None
fine_of None x h = refl
fine_of (Some f) x h = absurd h

module _ {L E : Type 0} (told : L → Option LinkTold) (faults : L → ℕ) (served : Stage → Stage → E → Type 0) (fails : E → Option Failure) where
  pub working_first : (at : Spot) (g : Gate L) → Working told faults served fails at at g g
  working_first at g = record {
    rounds = [];
    made = tt;
    now_is = refl;
    heard = heard_none g.told;
    carried = is_carried_none at.pass;
    risen = omega arith;
  }

  -- an accepting failed
  pub working_failed : (first old : Spot) (at g new : Gate L) → Working told faults served fails first old at g
      → IsAccepted g.told new.told accepted.Failed → Rose g.faults new.faults
      → Ended told faults served fails first old at new end.ListenFault
  working_failed first old at g new w a rose = record {
    rounds = w.rounds;
    last = Not_accepted;
    made = w.made;
    ends = w.now_is;
    heard = heard_all at.told new.told (accepted.Failed ∷ answers_of w.rounds) (all_left w.rounds)
        (heard_answer at.told g.told new.told (answers_of w.rounds) (all_left w.rounds) accepted.Failed w.heard a);
    carried = w.carried;
    cause = omega (arith, w.risen, rose);
  }

  -- the end of a round whose question was answered
  working_asked : {A : Type 0} (first old done : Spot) (at g new : Gate L) (visit : Visit L E) (pass : Pass) (result : Result A ActorEnd)
      → (w : Working told faults served fails first old at g)
      → IsVisit told faults served old visit done → failure_of fails visit ≡ None → IsCarried old.pass done.pass
      → Heard at.told new.told (answer_of visit ∷ answers_of w.rounds) (all_left w.rounds ++ left_of visit) → at.faults ≤ new.faults
      → Asks done.pass pass result
      → GoesOn told faults served fails first (spot pass done.log) at new result
  working_asked first old done at g new visit pass (Ok x) w visited fine carried heard risen asks = record {
    rounds = record { visit = visit; done = done; asked = pass } ∷ w.rounds;
    made = (w.made, record { visit = subst (λ s. IsVisit told faults served s visit done) w.now_is visited; fine = fine; asked = asks });
    now_is = refl;
    heard = heard;
    carried = is_carried_then first.pass done.pass pass (is_carried_then first.pass old.pass done.pass w.carried carried) (is_carried_asked done.pass pass false asks);
    risen = risen;
  }
  working_asked first old done at g new visit pass (Err e) w visited fine carried heard risen (is, asks) =
      subst (λ x. Ended told faults served fails first (spot pass done.log) at new x) (sym is)
      record {
        rounds = w.rounds;
        last = Whole (record { visit = visit; done = done; asked = pass });
        made = w.made;
        ends = (record { visit = subst (λ s. IsVisit told faults served s visit done) w.now_is visited; fine = fine; asked = asks }, refl);
        heard = heard;
        carried = is_carried_then first.pass done.pass pass (is_carried_then first.pass old.pass done.pass w.carried carried) (is_carried_asked done.pass pass true asks);
        cause = tt;
      }

  -- the end of a round in which no link came
  pub working_quiet : {A : Type 0} (first old : Spot) (at g new : Gate L) (pass : Pass) (result : Result A ActorEnd)
      → Working told faults served fails first old at g → IsAccepted g.told new.told accepted.Quiet → g.faults ≤ new.faults
      → Asks old.pass pass result
      → GoesOn told faults served fails first (spot pass old.log) at new result
  working_quiet first old at g new pass result w a more asks =
      working_asked first old old at g new Nobody pass result w refl refl (is_carried_none old.pass)
      (heard_all at.told new.told (accepted.Quiet ∷ answers_of w.rounds) (all_left w.rounds)
      (heard_answer at.told g.told new.told (answers_of w.rounds) (all_left w.rounds) accepted.Quiet w.heard a))
      (omega (arith, w.risen, more)) asks

  -- what the listener was told of a link that came and was given back
  heard_visit : {A : Type 0} (first old done : Spot) (at g mid new : Gate L) (link : L) (result : Result A ActorEnd)
      → (w : Working told faults served fails first old at g) → IsAccepted g.told mid.told (accepted.Link link) → (v : Visits told faults served fails old done mid new link result)
      → Heard at.told new.told (accepted.Link link ∷ answers_of w.rounds) (all_left w.rounds ++ v.left ∷ [])
  heard_visit first old done at g mid new link result w a v =
      heard_back at.told mid.told new.told (accepted.Link link ∷ answers_of w.rounds) (all_left w.rounds) v.left
      (heard_answer at.told g.told mid.told (answers_of w.rounds) (all_left w.rounds) (accepted.Link link) w.heard a) v.back

  -- the end of a round in which a link was served
  pub working_visited : {A B : Type 0} (first old done : Spot) (at g mid new : Gate L) (link : L) (x : B) (pass : Pass) (result : Result A ActorEnd)
      → Working told faults served fails first old at g → IsAccepted g.told mid.told (accepted.Link link) → g.faults ≤ mid.faults
      → Visits told faults served fails old done mid new link (Ok x)
      → Asks done.pass pass result
      → GoesOn told faults served fails first (spot pass done.log) at new result
  working_visited first old done at g mid new link x pass result w a more v asks =
      working_asked first old done at g new (Came link v.left v.how) pass result w v.visit (fine_of (fails v.how) x v.ends) v.carried
      (heard_visit first old done at g mid new link (Ok x) w a v) (omega (arith, w.risen, more, v.risen)) asks

  -- a worker ended, because serving a link did
  ends_by : {A : Type 0} (first old done : Spot) (at g mid new : Gate L) (link : L) (e : ActorEnd) (f : Option Failure)
      → Working told faults served fails first old at g → IsAccepted g.told mid.told (accepted.Link link)
      → (v : Visits told faults served fails {A = A} old done mid new link (Err e)) → fails v.how ≡ f → IsFailure {A = A} f (Err e)
      → Ended told faults served fails first done at new e
  ends_by first old done at g mid new link e None w a v is h = absurd h
  ends_by first old done at g mid new link e (Some failure.Exhausted) w a v is h =
      subst (λ x. Ended told faults served fails first done at new x) (sym h)
      record {
        rounds = w.rounds;
        last = Not_asked (Came link v.left v.how);
        made = w.made;
        ends = (subst (λ s. IsVisit told faults served s (Came link v.left v.how) done) w.now_is v.visit, is);
        heard = heard_visit first old done at g mid new link (Err e) w a v;
        carried = is_carried_then first.pass old.pass done.pass w.carried v.carried;
        cause = v.full is;
      }
  ends_by first old done at g mid new link e (Some failure.NoMemory) w a v is h =
      subst (λ x. Ended told faults served fails first done at new x) (sym h)
      record {
        rounds = w.rounds;
        last = Not_asked (Came link v.left v.how);
        made = w.made;
        ends = (subst (λ s. IsVisit told faults served s (Came link v.left v.how) done) w.now_is v.visit, is);
        heard = heard_visit first old done at g mid new link (Err e) w a v;
        carried = is_carried_then first.pass old.pass done.pass w.carried v.carried;
        cause = tt;
      }

  -- the end of a round in which serving a link failed
  pub working_unserved : {A B : Type 0} (first old done : Spot) (at g mid new : Gate L) (link : L) (e : ActorEnd) (result : Result A ActorEnd)
      → Working told faults served fails first old at g → IsAccepted g.told mid.told (accepted.Link link)
      → Visits told faults served fails {A = B} old done mid new link (Err e) → IsErrAnd result (λ s. s ≡ e)
      → GoesOn told faults served fails first done at new result
  working_unserved first old done at g mid new link e (Ok x) w a v is = absurd is
  working_unserved {A = A} {B = B} first old done at g mid new link e (Err s) w a v is =
      subst (λ x. Ended told faults served fails first done at new x) (sym is)
      (ends_by {A = B} first old done at g mid new link e (fails v.how) w a v refl v.ends)

  -- the worker ended, and tried the step `exit`
  pub worked : (first before now : Spot) (at g : Gate L) (found e : ActorEnd) → Ended told faults served fails first before at g found
      → e ≡ found → Exits found before.pass now.pass → now.log ≡ before.log
      → Worked told faults served fails first now at g e
  worked first before now at g found e ended is exits log =
      subst (λ x. Worked told faults served fails first now at g x) (sym is) record { before = before; ended = ended; exits = exits; log = log }
