-- What is heard on a client's link.
use Rattle.std.proofs.Common.{◌≡◌, ◌∙◌, refl, ap, sym, subst, ℕ, zero, suc, ◌+◌, ◌<◌, ◌≤◌, inl, inr, true, false, List, [], ◌∷◌, ◌++◌, length, length-append, take, Option, None, Some, Ok, Err, Result, arith}
use Rattle.wm_history.specs.History.{History}
use Rattle.wm_core.specs.Passes.{Pass}
use Rattle.wm_cut.specs.Lines.{behind_line, first_line, rest_in}
use Rattle.wm_cut.proofs.CutLemmas.{fronts, no_line}
use Rattle.wm_defs.specs.Counts.{Rose}
use Rattle.wm_ports.specs.Linking.{IsReceived, LinkTold}
use Rattle.wm_ports.specs.declared.links.Received.TheVariants as received
use Rattle.wm_session.specs.Linked.{IsSpent, Since}
use Rattle.wm_session.proofs.LinkLemmas.{since_end, since_failed, since_got, since_quiet}
use Rattle.wm_clients.specs.Endings.{end_of_rest}
use Rattle.wm_clients.specs.Served.{Stage, stage}
use Rattle.wm_clients.specs.Serving.{Between, Ends, GoesOn, Going, IsFed, IsPart, Spot, free_spot}
use Rattle.wm_clients.specs.Telling.{AreFew, IsChecked}
use Rattle.wm_clients.specs.Wanted.{NONE_SENT}
use Rattle.wm_clients.specs.declared.ending.ClientEnd.{ClientEnd}
use Rattle.wm_clients.specs.declared.ending.ClientEnd.TheVariants as end
use Rattle.wm_clients.specs.declared.sent.Sent.{Sent}
use Rattle.wm_clients.proofs.EndLemmas.{ends_long, ends_no_memory, none_is_bad}
use Rattle.wm_clients.proofs.GoingLemmas.{going_first, going_part}
use Rattle.wm_clients.proofs.LineLemmas.{cuts_more, rest_now}

-- nothing was heard yet
pub between_first : (first : Stage) → Between first first NONE_SENT 0 [] false
between_first first = record { received = []; stops = 0; going = going_first first }

-- the same, where nothing was sent, no line answered and nothing is pending
pub between_from : (first : Stage) (sent : Sent) (count : ℕ) (pending : List ℕ) → sent ≡ NONE_SENT → count ≡ 0 → pending ≡ [] → Between first first sent count pending false
between_from first sent count pending none lines nothing =
    subst (λ s. Between first first s count pending false) (sym none)
    (subst (λ n. Between first first NONE_SENT n pending false) (sym lines)
    (subst (λ p. Between first first NONE_SENT 0 p false) (sym nothing) (between_first first)))

pub part_first : (pending : List ℕ) → pending ≡ [] → IsPart pending
part_first pending none = subst IsPart (sym none) (refl, omega arith)

pub few_first : (lines : ℕ) (seen : History) → lines ≡ 0 → AreFew lines seen
few_first lines seen none = subst (λ n. AreFew n seen) (sym none) (omega arith, omega arith)

module _ (first : Stage) (pass : Pass) (sent : Sent) (count : ℕ) (pending : List ℕ) (l0 l1 : Option LinkTold) (f0 f1 : ℕ) (room : List ℕ) (grown : f0 ≤ f1)
    (b : Between first (stage pass l0 f0) sent count pending false)
  where
    -- some bytes were got
    got_spot : (n : ℕ) → IsReceived l0 l1 (received.Got n) room
        → Going true first (stage pass l1 f1) (free_spot sent count (b.received ++ take n room) (pending ++ take n room) (suc b.stops) b.stops)
    got_spot n r = record {
      given = b.going.given;
      told = b.going.told;
      goes = b.going.goes;
      cuts = cuts_more b.received b.going.given pending (take n room) b.going.cuts;
      counted = b.going.counted;
      good = b.going.good;
      bytes = since_got first.link l0 l1 b.received b.going.told room b.stops n b.going.bytes r;
      risen = omega (arith, b.going.risen, grown);
    }

    pub hears_got : {A : Type 0} (after : List ℕ) (n : ℕ) (r : Result A ClientEnd) → IsReceived l0 l1 (received.Got n) room → IsFed pending after (take n room) r
        → GoesOn first (stage pass l1 f1) (λ x. Between first (stage pass l1 f1) sent count after true) r
    hears_got after n (Ok x) r fed = record {
      received = b.received ++ take n room;
      stops = b.stops;
      going = subst (λ p. Going true first (stage pass l1 f1) (free_spot sent count (b.received ++ take n room) p (suc b.stops) b.stops)) (sym fed) (got_spot n r);
    }
    hears_got after n (Err e) r fed =
        let to : Stage = stage pass l1 f1 in
        let s : Spot = free_spot sent count (b.received ++ take n room) (pending ++ take n room) (suc b.stops) b.stops in
        subst (Ends first to) (sym fed.0) (ends_no_memory first to s (going_part first to s (got_spot n r)) (inr refl))

    pub hears_quiet : IsReceived l0 l1 received.Quiet room → Between first (stage pass l1 f1) sent count pending true
    hears_quiet r = record {
      received = b.received;
      stops = b.stops;
      going = record {
        given = b.going.given;
        told = b.going.told;
        goes = b.going.goes;
        cuts = b.going.cuts;
        counted = b.going.counted;
        good = b.going.good;
        bytes = since_quiet first.link l0 l1 b.received b.going.told room b.stops b.going.bytes r;
        risen = omega (arith, b.going.risen, grown);
      };
    }

    abbrev spot : Spot
    spot = free_spot sent count b.received pending b.stops b.stops

    -- nothing was got
    ended_spot : Since first.link l1 b.received b.going.told b.stops → Going true first (stage pass l1 f1) spot
    ended_spot since = record {
      given = b.going.given;
      told = b.going.told;
      goes = b.going.goes;
      cuts = b.going.cuts;
      counted = b.going.counted;
      good = b.going.good;
      bytes = since;
      risen = omega (arith, b.going.risen, grown);
    }

    failed_spot : IsReceived l0 l1 received.Failed room → Going true first (stage pass l1 f1) spot
    failed_spot r = ended_spot (since_failed first.link l0 l1 b.received b.going.told room b.stops b.going.bytes r)

    pub hears_failed : IsReceived l0 l1 received.Failed room → Rose f0 f1 → Ends first (stage pass l1 f1) end.LinkFault
    hears_failed r rose = record {
      spot = spot;
      going = going_part first (stage pass l1 f1) spot (failed_spot r);
      asks = inl refl;
      cause = λ told. omega (arith, b.going.risen, rose);
    }

    pub hears_no_memory : IsReceived l0 l1 received.NoMemory room → Ends first (stage pass l1 f1) end.NoMemory
    hears_no_memory r = ends_no_memory first (stage pass l1 f1) spot (going_part first (stage pass l1 f1) spot (failed_spot (as_failed l0 r))) (inl refl)
      where
        as_failed : (l : Option LinkTold) → IsReceived l l1 received.NoMemory room → IsReceived l l1 received.Failed room
        as_failed None r = tt
        as_failed (Some t) r = r

    pub hears_end : IsReceived l0 l1 received.End room → IsPart pending → Ends first (stage pass l1 f1) (end_of_rest (length pending))
    hears_end r part = by (length pending) refl
      where
        since : Since first.link l1 b.received b.going.told b.stops × IsSpent first.link b.received
        since = since_end first.link l0 l1 b.received b.going.told room b.stops b.going.bytes r

        ended : Going true first (stage pass l1 f1) spot
        ended = ended_spot since.0

        rest : rest_in b.received ≡ pending
        rest = rest_now b.received b.going.given pending b.going.cuts ∙ (no_line pending part.0).1

        none_of : (xs : List ℕ) → length xs ≡ 0 → xs ≡ []
        none_of [] e = refl
        none_of (x ∷ xs) e = cc

        by : (n : ℕ) → length pending ≡ n → Ends first (stage pass l1 f1) (end_of_rest n)
        by zero e = record {
          spot = spot;
          going = ended;
          asks = refl;
          cause = λ told. (
            record { all = (no_line pending part.0).0; good = none_is_bad true first (stage pass l1 f1) spot ended part; read = refl },
            refl,
            rest ∙ none_of pending e,
            since.1,
          );
        }
        by (suc n) e = record {
          spot = spot;
          going = ended;
          asks = refl;
          cause = λ told. (
            record { all = (no_line pending part.0).0; good = none_is_bad true first (stage pass l1 f1) spot ended part; read = refl },
            refl,
            (λ none. omega (arith, e, ap length rest, ap length none)),
            since.1,
          );
        }

-- what is pending is too long already, or it is not
pub checked : (A : Type 0) (first now : Stage) (sent : Sent) (count : ℕ) (pending : List ℕ) (e : ClientEnd) → Between first now sent count pending true → first_line pending ≡ None
    → IsChecked {A = A} pending (count + 1) (Err e) → Ends first now e
checked A first now sent count pending e b none (long, is) = subst (Ends first now) (sym is) (ends_long first now sent count b.received pending b.stops b.going none long)

-- it was asked whether the desk is to stop, after all lines were answered
pub asked_between : {A : Type 0} (first old new : Stage) (sent after : Sent) (count lines : ℕ) (pending : List ℕ) (r : Result A ClientEnd) → Between first old sent count pending true
    → ((received : List ℕ) (stops : ℕ) → Going true first old (free_spot sent count received pending (suc stops) stops)
    → GoesOn first new (λ x. Going true first new (free_spot after lines received pending (suc stops) (suc stops))) r)
    → GoesOn first new (λ x. Between first new after lines pending false) r
asked_between first old new sent after count lines pending (Ok x) b asks = record { received = b.received; stops = suc b.stops; going = asks b.received b.stops b.going }
asked_between first old new sent after count lines pending (Err e) b asks = asks b.received b.stops b.going

-- what is behind the first line is shorter
pub shorter : (pending line : List ℕ) → first_line pending ≡ Some line → length (behind_line pending) < length pending
shorter pending line first = omega (arith, ap length (fronts pending line [] first).whole, length-append line (10 ∷ behind_line pending))
