-- A worker whose listener gives one link serves that one alone.
use Rattle.std.proofs.Common.{◌≡◌, ◌∙◌, ◌≤◌, refl, sym, ap, subst, arith, ℕ, suc, zero, ◌+◌, Bool, List, [], ◌∷◌, ◌++◌, length, take, Option, length-append, slice_index_or}
use Rattle.wm_history.specs.History.{stopped}
use Rattle.wm_core.specs.Passes.{Looked, Pass}
use Rattle.wm_core.specs.declared.asked.Asked.{Asked}
use Rattle.wm_core.specs.declared.asked.Asked.TheVariants as asked
use Rattle.wm_actors.specs.Since.{Carried}
use Rattle.wm_actors.specs.Told.{grown_by}
use Rattle.wm_actors.specs.Works.{AreRounds, Came, IsRound, IsVisit, Nobody, Round, Spot, Visit, all_left, answer_of, answers_of, left_of, spot, spot_after}
use Rattle.wm_actors.specs.declared.serve.Failure.{Failure}
use Rattle.wm_defs.specs.Counts.{LAST_COUNT}
use Rattle.wm_ports.specs.Linking.{LinkTold}
use Rattle.wm_ports.specs.Listening.{grown}
use Rattle.wm_ports.specs.declared.listens.Accepted.{Accepted}
use Rattle.wm_ports.specs.declared.listens.Accepted.TheVariants as accepted
use Rattle.wm_session.specs.Served.{Stage, stage}
use Rattle.wm_session.proofs.WalkLemmas.{begins_more}
use Rattle.wm_turn.specs.History.{wrote}
use Rattle.wm_turn.specs.declared.view.Mark.{Mark}
use Rattle.wm_turn.specs.declared.view.Mark.TheVariants.{Read}

-- ---- the oldest answer

-- the oldest of answers, of which the newest comes first
abbrev pub oldest : {X : Type 0} → X → List X → X
oldest x [] = x
oldest x (y ∷ ys) = oldest y ys

take_first : {X : Type 0} (n : ℕ) (x : X) (xs : List X) → 1 ≤ n → (ys : List X) × (take n (x ∷ xs) ≡ x ∷ ys)
take_first zero x xs some = absurd (omega (arith, some))
take_first (suc n) x xs some = (take n xs, refl)

-- what has grown from nothing begins with the oldest
grown_oldest : {X : Type 0} (x : X) (xs : List X) → (ys : List X) × (grown_by [] (x ∷ xs) ≡ oldest x xs ∷ ys)
grown_oldest x [] = take_first LAST_COUNT x [] (omega arith)
grown_oldest x (y ∷ ys) =
    let before = grown_oldest y ys in
    let more = take_first LAST_COUNT (oldest y ys) (before.0 ++ x ∷ []) (omega arith) in
    (more.0, ap (λ l. grown l x) before.1 ∙ more.1)

pub oldest_is : {X : Type 0} (d x first : X) (xs ys : List X) → first ∷ ys ≡ grown_by [] (x ∷ xs) → oldest x xs ≡ first
oldest_is d x first xs ys is = ap (λ l. slice_index_or l 0 d) (sym (is ∙ (grown_oldest x xs).1))

pub some_answers : {X : Type 0} (x : X) (xs : List X) → [] ≡ grown_by [] (x ∷ xs) → ⊥
some_answers x xs none = absurd (omega (arith, ap length (none ∙ (grown_oldest x xs).1)))

-- ---- rounds

module _ {L E : Type 0} (told : L → Option LinkTold) (faults : L → ℕ) (served : Stage → Stage → E → Type 0) (fails : E → Option Failure) where
  -- The link was served, and after that nothing but questions whether the desk is to stop were asked.
  pub record OneVisit (link : L) (first : Spot) (now : Pass) : Type 0 where
    pub done : Spot
    pub left : L
    pub how : E
    pub visit : served (stage first.pass (told link) (faults link) first.log) (stage done.pass (told left) (faults left) done.log) how
    pub later : List (Mark Asked)
    pub none : wrote later ≡ []
    pub carried : Carried done.pass now later

  came : (first to : Spot) (visit : Visit L E) (link : L) → answer_of visit ≡ accepted.Link link → IsVisit told faults served first visit to
      → (left : L) × ((how : E) × served (stage first.pass (told link) (faults link) first.log) (stage to.pass (told left) (faults left) to.log) how)
  came first to Nobody link gave is = absurd cc
  came first to (Came l left how) link gave is = (left, (how, subst (λ x. served (stage first.pass (told x) (faults x) first.log) (stage to.pass (told left) (faults left) to.log) how) (link_is gave) is))
    where
      link_of : Accepted L → L
      link_of (accepted.Link x) = x
      link_of accepted.Quiet = l
      link_of accepted.Failed = l

      link_is : accepted.Link l ≡ accepted.Link link → l ≡ link
      link_is e = ap link_of e

  nobody : (first to : Spot) (visit : Visit L E) → length (left_of visit) ≡ 0 → IsVisit told faults served first visit to → to ≡ first
  nobody first to Nobody none is = is
  nobody first to (Came l left how) none is = absurd (omega (arith, none))

  given_back : (visit : Visit L E) (link : L) → answer_of visit ≡ accepted.Link link → length (left_of visit) ≡ 1
  given_back Nobody link gave = absurd cc
  given_back (Came l left how) link gave = refl

  -- a link that came in the first round was given back
  some_left : (round : Round L E) (rounds : List (Round L E)) (link : L) → oldest (answer_of round.visit) (answers_of rounds) ≡ accepted.Link link → 1 ≤ length (all_left (round ∷ rounds))
  some_left round [] link gave = omega (arith, given_back round.visit link gave)
  some_left round (before ∷ rounds) link gave = omega (arith, some_left before rounds link gave, length-append (all_left (before ∷ rounds)) (left_of round.visit))

  asked_more : (done before now : Pass) (marks : List (Mark Asked)) (says : Bool) → Carried done before marks → Looked before now asked.Stopped (λ start seen. says ≡ stopped start seen)
      → Carried done now (Read asked.Stopped (length now.seen) ∷ marks)
  asked_more done before now marks says c l = record {
    pass = l.pass ∙ ap {A = Pass} (λ p. record p { seen = now.seen; mine = Read asked.Stopped (length now.seen) ∷ p.mine }) c.pass;
    begins = begins_more done.seen before.seen now.seen c.begins l.begins;
  }

  -- where the first accepting gave a link, and one was given back at most, that one was served and no other
  pub one_visit : (first : Spot) (link : L) (says : Bool) (round : Round L E) (rounds : List (Round L E))
      → oldest (answer_of round.visit) (answers_of rounds) ≡ accepted.Link link → length (all_left (round ∷ rounds)) ≤ 1
      → AreRounds told faults served fails first rounds → IsRound told faults served fails (spot_after first rounds) says round → OneVisit link first round.asked
  one_visit first link says round [] gave few made is =
      let visit = came first round.done round.visit link gave is.visit in
      record {
        done = round.done;
        left = visit.0;
        how = visit.1.0;
        visit = visit.1.1;
        later = Read asked.Stopped (length round.asked.seen) ∷ [];
        none = refl;
        carried = record { pass = is.asked.pass; begins = is.asked.begins };
      }
  one_visit first link says round (before ∷ rounds) gave few made is =
      let left : length (all_left (round ∷ before ∷ rounds)) ≡ length (all_left (before ∷ rounds)) + length (left_of round.visit) = length-append (all_left (before ∷ rounds)) (left_of round.visit) in
      let some : 1 ≤ length (all_left (before ∷ rounds)) = some_left before rounds link gave in
      let same : round.done ≡ spot before.asked before.done.log = nobody (spot before.asked before.done.log) round.done round.visit (omega (arith, left, some, few)) is.visit in
      let v : OneVisit link first before.asked = one_visit first link _ before rounds gave (omega (arith, left, few)) made.0 made.1 in
      record {
        done = v.done;
        left = v.left;
        how = v.how;
        visit = v.visit;
        later = Read asked.Stopped (length round.asked.seen) ∷ v.later;
        none = v.none;
        carried = asked_more v.done.pass before.asked round.asked v.later says v.carried
            (subst (λ (s : Spot). Looked s.pass round.asked asked.Stopped (λ start seen. says ≡ stopped start seen)) same is.asked);
      }
