-- What a worker whose listener gave one link said: a caller's texts, or a client's none.
use Rattle.std.proofs.Common.{◌≡◌, ◌∙◌, ◌≤◌, refl, sym, ap, subst, arith, ℕ, suc, zero, Bool, true, false, List, [], ◌∷◌, ◌++◌, length, take, drop, Option, None, Some, slice_index_or}
use Rattle.std.proofs.lemmas.List.{append-nil}
use Rattle.std.specs.List.{AllByRecursion}
use Rattle.atomic_table.specs.Seated.{TableId}
use Rattle.wm_actors.specs.Clients.{Serves}
use Rattle.wm_actors.specs.Clients as lines
use Rattle.wm_actors.specs.Exits.{Exits}
use Rattle.wm_actors.specs.Ipc as ipc
use Rattle.wm_actors.specs.Since.{Carried}
use Rattle.wm_actors.specs.Told.{grown_by}
use Rattle.wm_actors.specs.Worked.{Worked, gate}
use Rattle.wm_actors.specs.Works.{AreRounds, IsLast, Last, Not_accepted, Not_asked, Round, Spot, Whole, all_left, answers_of, last_answer, last_left, spot, spot_after}
use Rattle.wm_actors.specs.declared.ending.ActorEnd.{ActorEnd}
use Rattle.wm_actors.specs.declared.ending.ActorEnd.TheVariants as end
use Rattle.wm_actors.specs.declared.serve.Failure.{Failure}
use Rattle.wm_book.specs.Carried.{carried}
use Rattle.wm_clients.specs.Endings.{closes_windows}
use Rattle.wm_clients.specs.Served as client
use Rattle.wm_core.proofs.EntryLemmas.{history_begins}
use Rattle.wm_core.specs.Entries.{history_of}
use Rattle.wm_history.specs.History.{History, Start, opening_of}
use Rattle.wm_core.specs.Passes as passes
use Rattle.wm_core.specs.declared.asked.Asked.{Asked}
use Rattle.wm_history.specs.declared.step.Step.{Step}
use Rattle.wm_criteria.specs.Building.{Log}
use Rattle.wm_cut.specs.Lines.{lines_in}
use Rattle.wm_layouts.specs.declared.plan.Plan.{Plan}
use Rattle.wm_frames.specs.Reading.{messages, tail}
use Rattle.wm_ports.specs.Linking.{LinkTold}
use Rattle.wm_ports.specs.Listening.{ListenTold}
use Rattle.wm_ports.specs.declared.listens.Accepted.{Accepted}
use Rattle.wm_ports.specs.declared.listens.Accepted.TheVariants as accepted
use Rattle.wm_session.specs.Linked.{SinceBy}
use Rattle.wm_session.specs.Served.{Served, ServedFrom, Stage, is_whole}
use Rattle.wm_session.specs.Walk.{walk}
use Rattle.wm_talk.specs.Frames.{frames}
use Rattle.wm_session.specs.declared.ending.SessionEnd.{SessionEnd}
use Rattle.wm_session.proofs.WalkLemmas.{begins_more}
use Rattle.wm_turn.specs.History.{places, wrote}
use Rattle.wm_turn.specs.Pass.{IsKnown, new_pass}
use Rattle.wm_turn.specs.declared.view.Entry.{Entry}
use Rattle.wm_turn.specs.declared.view.Mark.{Mark}
use Rattle.wm_serve.specs.Callers.{bytes_of}
use Rattle.wm_serve.specs.Once.{OnceState, answers, fresh, list_of, once_told, quiets}
use Rattle.wm_serve.specs.Rehearsed.{faults_of, told_of}
use Rattle.wm_serve.specs.Said.{Said, texts_of}
use Rattle.wm_serve.specs.declared.rehearsed.RehearsedLink.{RehearsedLink}
use Rattle.wm_serve.proofs.DeskLemmas.{Seat}
use Rattle.wm_serve.proofs.LinkLemmas.{IsText, received_first, received_run, running_texts}
use Rattle.wm_serve.proofs.PlaceLemmas.{texts_are, texts_at, wrote_append}
use Rattle.wm_serve.proofs.SilentLemmas.{gone_silent, lines_silent, silent_both}
use Rattle.wm_serve.proofs.TextLemmas.{asked_texts, fit_first}
use Rattle.wm_serve.proofs.VisitLemmas.{OneVisit, oldest, oldest_is, one_visit, some_answers}

-- ---- what a listener that gives one link tells

abbrev pub returned_of : Option (ListenTold RehearsedLink) → List RehearsedLink
returned_of None = []
returned_of (Some t) = t.returned

abbrev pub answers_told : Option (ListenTold RehearsedLink) → List (Accepted RehearsedLink)
answers_told None = []
answers_told (Some t) = t.answers

few_left : (o : Option RehearsedLink) → length (list_of o) ≤ 1
few_left None = omega arith
few_left (Some link) = omega arith

-- The first accepting gave the link, and one was given back at most.
record GaveOnce (link : RehearsedLink) (answer : Accepted RehearsedLink) (before : List (Accepted RehearsedLink)) (left : List RehearsedLink) : Type 0 where
  pub gave : oldest answer before ≡ accepted.Link link
  pub few : length left ≤ 1

gave_first : (link : RehearsedLink) (calls : ℕ) (answer : Accepted RehearsedLink) (before : List (Accepted RehearsedLink))
    → answers link calls ≡ grown_by [] (answer ∷ before) → oldest answer before ≡ accepted.Link link
gave_first link zero answer before is = absurd (some_answers answer before is)
gave_first link (suc n) answer before is = oldest_is accepted.Quiet answer (accepted.Link link) before (quiets n) is

gave_once : (link : RehearsedLink) (s : OnceState) (answer : Accepted RehearsedLink) (before : List (Accepted RehearsedLink)) (left : List RehearsedLink)
    → once_told s ≡ Some (record { answers = grown_by [] (answer ∷ before); returned = (link ∷ []) ++ left }) → GaveOnce link answer before left
gave_once link s answer before left is =
    let returned : s.link ∷ list_of s.left ≡ link ∷ left = ap returned_of is in
    let same : s.link ≡ link = ap (λ l. slice_index_or l 0 link) returned in
    let back : list_of s.left ≡ left = ap (λ l. drop 1 l) returned in
    record {
      gave = gave_first s.link s.calls answer before (ap answers_told is) ∙ ap (λ l. accepted.Link l) same;
      few = subst (λ (l : List RehearsedLink). length l ≤ 1) back (few_left s.left);
    }

-- what a link gave
gave_by : (whole : Bool) (t : LinkTold) (now : Option LinkTold) (received sent : List ℕ) (turns : ℕ) → SinceBy whole (Some t) now received sent turns
    → (left : List ℕ) × (t.left ≡ received ++ left)
gave_by true t now received sent turns s = (s.left, s.gave)
gave_by false t now received sent turns s = (s.since.left, s.since.gave)

-- ---- one session

-- A session on a link whose bytes are the messages that run texts: its entries run the first of them, whatever comes later.
said_in : (ts : List (List ℕ)) (start : Start) (t : LinkTold) (first now : Stage) (marks : List (Mark Asked)) (received : List ℕ) (turns : ℕ) (e : SessionEnd) (later : History)
    → AllByRecursion IsText ts → first.link ≡ Some t → t.left ≡ bytes_of ts → ServedFrom start first now marks received turns e → passes.Begins now.pass.seen later
    → texts_at later (wrote marks) ≡ take (length (wrote marks)) ts
said_in ts start t first now marks received turns e later all link bytes s begins =
    let sent : List ℕ = frames (walk start first.pass.caller now.pass.seen (messages received) marks).told in
    let gave = gave_by (is_whole e) t now.link received sent turns (subst (λ o. SinceBy (is_whole e) o now.link received sent turns) link s.sent) in
    let is : bytes_of ts ≡ received ++ gave.0 = sym bytes ∙ gave.1 in
    fit_first start first.pass.caller later (messages received) (messages (tail received ++ gave.0)) marks (received_run ts received gave.0 all is) (s.fit later begins)
    ∙ ap (λ l. take (length (wrote marks)) l) (ap asked_texts (received_first ts received gave.0 all is) ∙ running_texts ts all)

-- ---- a worker

-- the texts of a caller are those at the places that it has marks of
pub seat_texts : (seat : Seat) (history : List (Entry Step)) (who : ℕ) (marks : List (Mark Asked)) → IsKnown history seat → seat.caller ≡ who → seat.mine ≡ marks
    → texts_of who (history_of history) ≡ texts_at (history_of history) (wrote marks)
seat_texts seat history who marks known caller mine =
    sym (texts_are who history) ∙ ap (texts_at (history_of history)) (subst (λ k. places k history ≡ wrote seat.mine) caller known.1 ∙ ap wrote mine)

module _ {E : Type 0} (served : Stage → Stage → E → Type 0) (fails : E → Option Failure) (first : Spot) (link : RehearsedLink) where
  visited : (now : passes.Pass) (rounds : List (Round RehearsedLink E)) (last : Last RehearsedLink E) (before : Spot) → now ≡ before.pass
      → GaveOnce link (last_answer last) (answers_of rounds) (all_left rounds ++ last_left last)
      → AreRounds told_of faults_of served fails first rounds
      → IsLast told_of faults_of served fails end.Stopped (spot_after first rounds) last before → OneVisit told_of faults_of served fails link first now
  visited now rounds Not_accepted before same gave made none = absurd none
  visited now rounds (Not_asked visit) before same gave made none = absurd none
  visited now rounds (Whole round) before same gave made (is, to) =
      subst (λ (p : passes.Pass). OneVisit told_of faults_of served fails link first p) (sym (same ∙ ap {A = Spot} (λ x. x.pass) to))
      (one_visit told_of faults_of served fails first link true round rounds gave.gave gave.few made is)

  -- a worker whose listener gave one link, and which was told to stop, served that link and no other
  pub one_served : (now : Spot) (s' : OnceState) (f f' : ℕ) (e : ActorEnd) → e ≡ end.Stopped
      → Worked told_of faults_of served fails first now (gate (once_told (fresh link)) f) (gate (once_told s') f') e → OneVisit told_of faults_of served fails link first now.pass
  one_served now s' f f' e stopped w =
      visited now.pass w.ended.rounds w.ended.last w.before (subst (λ x. Exits x w.before.pass now.pass) stopped w.exits)
      (gave_once link s' (last_answer w.ended.last) (answers_of w.ended.rounds) (all_left w.ended.rounds ++ last_left w.ended.last) w.ended.heard)
      w.ended.made
      (subst (λ x. IsLast told_of faults_of served fails x (spot_after first w.ended.rounds) w.ended.last w.before) stopped w.ended.ends)

module _ (door : TableId) (plan : Plan) (who : ℕ) (link : RehearsedLink) (log : Log) (seat : Seat) (history : List (Entry Step)) (known : IsKnown history seat) where
  abbrev pub first : Spot
  first = spot (carried (new_pass door plan who)) log

  later_begins : (done : passes.Pass) (later : List (Mark Asked)) → Carried done (carried seat) later → passes.Begins done.seen (history_of history)
  later_begins done later c = begins_more done.seen (history_of seat.seen) (history_of history) c.begins (history_begins seat.seen history known.0)

  -- where one link of a caller was served, and then nothing was done
  said_once : (ts : List (List ℕ)) (t : LinkTold) → AllByRecursion IsText ts → told_of link ≡ Some t → t.left ≡ bytes_of ts
      → OneVisit told_of faults_of Served ipc.failure_of link first (carried seat) → Said ts who history
  said_once ts t all tells bytes v =
      let served : ServedFrom (opening_of plan) _ _ v.visit.marks v.visit.received v.visit.turns v.how = v.visit.served in
      let texts : texts_at (history_of history) (wrote v.visit.marks) ≡ take (length (wrote v.visit.marks)) ts =
      said_in ts (opening_of plan) t _ _ v.visit.marks v.visit.received v.visit.turns v.how (history_of history) all tells bytes served (later_begins v.done.pass v.later v.carried) in
      let caller : seat.caller ≡ who = ap {A = passes.Pass} (λ p. p.caller) v.carried.pass ∙ ap {A = passes.Pass} (λ p. p.caller) v.visit.pass in
      let mine : seat.mine ≡ v.later ++ (v.visit.marks ++ []) = ap {A = passes.Pass} (λ p. p.mine) v.carried.pass ∙ ap {A = passes.Pass} (λ p. v.later ++ p.mine) v.visit.pass in
      let wrote_are : wrote seat.mine ≡ wrote v.visit.marks =
      ap wrote mine ∙ wrote_append v.later (v.visit.marks ++ []) ∙ ap (λ ps. ps ++ wrote (v.visit.marks ++ [])) v.none ∙ ap wrote (append-nil v.visit.marks) in
      let theirs : places who history ≡ wrote v.visit.marks = subst (λ k. places k history ≡ wrote seat.mine) caller known.1 ∙ wrote_are in
      sym (texts_are who history) ∙ subst (λ ps. texts_at (history_of history) ps ≡ take (length ps) ts) (sym theirs) texts

  -- where one link of a client was served, and then nothing was done
  silent_once : OneVisit told_of faults_of Serves lines.failure_of link first (carried seat) → texts_of who (history_of history) ≡ []
  silent_once v =
      let seen : History = history_of history in
      let served : client.ServedFrom (opening_of plan) _ _ v.visit.marks v.visit.received v.visit.turns v.how = v.visit.served in
      let begins : passes.Begins v.done.pass.seen seen = later_begins v.done.pass v.later v.carried in
      let caller : seat.caller ≡ who = ap {A = passes.Pass} (λ p. p.caller) v.carried.pass ∙ ap {A = passes.Pass} (λ p. p.caller) v.visit.pass in
      let mine : seat.mine ≡ v.later ++ (v.visit.gone ++ (v.visit.marks ++ [])) = ap {A = passes.Pass} (λ p. p.mine) v.carried.pass ∙ ap {A = passes.Pass} (λ p. v.later ++ p.mine) v.visit.pass in
      let fit : texts_at seen (wrote v.visit.marks) ≡ [] = lines_silent (opening_of plan) who seen (lines_in v.visit.received) v.visit.marks (served.fit seen begins) in
      let gone : texts_at seen (wrote v.visit.gone) ≡ [] = gone_silent (closes_windows v.how) v.done.pass v.visit.gone seen v.visit.leaves begins in
      seat_texts seat history who (v.later ++ (v.visit.gone ++ (v.visit.marks ++ []))) known caller mine
      ∙ silent_both seen v.later (v.visit.gone ++ (v.visit.marks ++ [])) (ap (texts_at seen) v.none)
      (silent_both seen v.visit.gone (v.visit.marks ++ []) gone (silent_both seen v.visit.marks [] fit refl))

  pub said_by : (ts : List (List ℕ)) (t : LinkTold) → AllByRecursion IsText ts → told_of link ≡ Some t → t.left ≡ bytes_of ts
      → (log' : Log) (s' : OnceState) (e : ActorEnd) → e ≡ end.Stopped
      → Worked told_of faults_of Served ipc.failure_of first (spot (carried seat) log') (gate (once_told (fresh link)) 0) (gate (once_told s') 0) e → Said ts who history
  said_by ts t all tells bytes log' s' e stopped w = said_once ts t all tells bytes (one_served Served ipc.failure_of first link (spot (carried seat) log') s' 0 0 e stopped w)

  pub silent_by : (log' : Log) (s' : OnceState) (e : ActorEnd) → e ≡ end.Stopped
      → Worked told_of faults_of Serves lines.failure_of first (spot (carried seat) log') (gate (once_told (fresh link)) 0) (gate (once_told s') 0) e
      → texts_of who (history_of history) ≡ []
  silent_by log' s' e stopped w = silent_once (one_served Serves lines.failure_of first link (spot (carried seat) log') s' 0 0 e stopped w)
