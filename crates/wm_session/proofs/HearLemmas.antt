-- What is heard on a link.
use Rattle.std.proofs.Common.{◌≡◌, ◌∙◌, refl, ap, sym, subst, ℕ, zero, suc, ◌<◌, ◌≤◌, ◌⊎◌, inl, inr, Bool, true, false, List, [], ◌∷◌, ◌++◌, length, take, Option, None, Some, Ok, Err, Result, arith, slice_index}
use Rattle.std.specs.List.{AllByRecursion}
use Rattle.std.proofs.lemmas.List.{append-nil, take-append-le, take-take}
use Rattle.wm_criteria.specs.Building.{Log}
use Rattle.wm_core.specs.Passes.{Pass}
use Rattle.wm_defs.specs.Counts.{Rose}
use Rattle.wm_frames.specs.Decoding.{Decoding, Stands, fault_of, rest_of}
use Rattle.wm_frames.specs.Frame.{IsShort}
use Rattle.wm_frames.specs.Reading.{AreBytes, ending, messages, rest, tail}
use Rattle.wm_frames.specs.declared.message.FrameFault.{FrameFault}
use Rattle.wm_frames.specs.declared.message.FrameFault.TheVariants as fault
use Rattle.wm_frames.specs.declared.message.Message.{Message}
use Rattle.wm_frames.proofs.DecodingLemmas.{ending-rest}
use Rattle.wm_frames.proofs.FrameLemmas.{reading_splits}
use Rattle.wm_frames.proofs.ReadingLemmas.{reading-append}
use Rattle.wm_ports.specs.Linking.{IsReceived, LinkTold}
use Rattle.wm_ports.specs.declared.links.Received.TheVariants as received
use Rattle.wm_talk.specs.Frames.{frames}
use Rattle.wm_talk.specs.Talking.{NEW}
use Rattle.wm_talk.specs.declared.talk.Talk.{Talk}
use Rattle.wm_session.specs.Endings.{end_of_frames, end_of_rest}
use Rattle.wm_session.specs.Linked.{IsSpent, Since}
use Rattle.wm_session.specs.Served.{IsAnswered, Served, Stage, stage}
use Rattle.wm_session.specs.Serving.{Between, GoesOn, Going, HasHeard, IsFed, Spot, free_spot, turns_of, walk_at}
use Rattle.wm_session.specs.declared.ending.SessionEnd.{SessionEnd}
use Rattle.wm_session.specs.declared.ending.SessionEnd.TheVariants as end
use Rattle.wm_session.proofs.GoingLemmas.{going_first, going_part, served_at, served_no_memory}
use Rattle.wm_session.proofs.LinkLemmas.{since_end, since_failed, since_got, since_quiet}

-- the messages that are queued are short
pub heard_short : (d : Decoding) → HasHeard d → AllByRecursion IsShort d.queue
heard_short d h = behind h.given (subst (AllByRecursion IsShort) h.stands.each (reading_splits h.fed h.bytes).short)
  where
    behind : (given : List Message) → AllByRecursion IsShort (given ++ d.queue) → AllByRecursion IsShort d.queue
    behind [] all = all
    behind (m ∷ ms) all = behind ms all.1

bytes_both : (xs ys : List ℕ) → AreBytes xs → AreBytes ys → AreBytes (xs ++ ys)
bytes_both [] ys small more = more
bytes_both (x ∷ xs) ys small more = by (bytes_both xs ys (λ j. small (suc j)) more)
  where
    by : AreBytes (xs ++ ys) → (i : ℕ) → slice_index (x ∷ (xs ++ ys)) i < 256
    by others zero = small zero
    by others (suc i) = others i

-- what was heard before a feed of bytes, and after it
pub feeds_heard : (old new : Decoding) (piece : List ℕ) → HasHeard old → AreBytes piece → ((fed : List ℕ) (given : List Message) → Stands fed given old → Stands (fed ++ piece) given new) → HasHeard new
feeds_heard old new piece h small feeds = record { fed = h.fed ++ piece; given = h.given; stands = feeds h.fed h.given h.stands; bytes = bytes_both h.fed piece h.bytes small }

-- nothing was heard yet
pub between_first : (first : Stage) (d : Decoding) → Stands [] [] d → d.queue ≡ [] → Between first first NEW d false
between_first first d stands none = record {
  received = [];
  given = [];
  stops = 0;
  going = subst (λ q. Going true first first (free_spot NEW [] q 0 0)) (sym none) (going_first first);
  stands = stands;
}

free_walk : (s : Spot) (told : List Message) → s.due ≡ None → s.stopping ≡ false → s.behind ≡ None → s.ahead ≡ [] → IsAnswered (record (walk_at s told) { left = s.ahead })
free_walk s told due going kept none = record { all = none; free = record { read = due; going = going; kept = kept } }

module _ (first : Stage) (pass : Pass) (log : Log) (talk : Talk) (d : Decoding) (l0 l1 : Option LinkTold) (f0 f1 : ℕ) (room : List ℕ) (none : d.queue ≡ []) (grown : f0 ≤ f1)
    (b : Between first (stage pass l0 f0 log) talk d false)
  where
    given_is : messages b.received ≡ b.going.given
    given_is = b.going.messages_are ∙ ap (λ q. b.going.given ++ q) none ∙ append-nil b.going.given

    taken_is : messages b.received ≡ b.given
    taken_is = b.stands.each ∙ ap (λ q. b.given ++ q) none ∙ append-nil b.given

    -- some bytes were got
    got_spot : (count : ℕ) (ahead : List Message) → IsReceived l0 l1 (received.Got count) room
        → messages (b.received ++ take count room) ≡ b.going.given ++ ahead
        → Going true first (stage pass l1 f1 log) (free_spot talk (b.received ++ take count room) ahead (suc b.stops) b.stops)
    got_spot count ahead r is = record {
      given = b.going.given;
      told = b.going.told;
      refused = b.going.refused;
      beside = b.going.beside;
      goes = b.going.goes;
      messages_are = is;
      sent = since_got first.link l0 l1 b.received (frames b.going.told) room b.stops count b.going.sent r;
      risen = omega (arith, b.going.risen, grown);
      grew = b.going.grew;
      none = b.going.none;
    }

    pub hears_got : {A : Type 0} (d' : Decoding) (count : ℕ) (r : Result A SessionEnd) → IsReceived l0 l1 (received.Got count) room
        → ((fed : List ℕ) (given : List Message) → Stands fed given d → IsFed d d' fed given (take count room) r)
        → GoesOn first (stage pass l1 f1 log) (λ x. Between first (stage pass l1 f1 log) talk d' true) r
    hears_got d' count (Ok x) r fed =
        let s = fed b.received b.given b.stands in
        record {
          received = b.received ++ take count room;
          given = b.given;
          stops = b.stops;
          going = got_spot count d'.queue r (s.each ∙ ap (λ ms. ms ++ d'.queue) (sym taken_is ∙ given_is));
          stands = s;
        }
    hears_got d' count (Err e) r fed =
        let more = messages (tail b.received ++ take count room) in
        let is : messages (b.received ++ take count room) ≡ b.going.given ++ more = ap (λ x. x.messages) (reading-append b.received (take count room)) ∙ ap (λ ms. ms ++ more) given_is in
        subst (λ e. Served first (stage pass l1 f1 log) e) (sym (fed b.received b.given b.stands).0)
        (served_no_memory first (stage pass l1 f1 log) (free_spot talk (b.received ++ take count room) more (suc b.stops) b.stops) (going_part first (stage pass l1 f1 log) _ (got_spot count more r is)) (inr refl))

    pub hears_quiet : IsReceived l0 l1 received.Quiet room → Between first (stage pass l1 f1 log) talk d true
    hears_quiet r = record {
      received = b.received;
      given = b.given;
      stops = b.stops;
      going = record {
        given = b.going.given;
        told = b.going.told;
        refused = b.going.refused;
        beside = b.going.beside;
        goes = b.going.goes;
        messages_are = b.going.messages_are;
        sent = since_quiet first.link l0 l1 b.received (frames b.going.told) room b.stops b.going.sent r;
        risen = omega (arith, b.going.risen, grown);
        grew = b.going.grew;
        none = b.going.none;
      };
      stands = b.stands;
    }

    abbrev spot : Spot
    spot = free_spot talk b.received d.queue b.stops b.stops

    ended_spot : IsReceived l0 l1 received.Failed room → Going true first (stage pass l1 f1 log) spot
    ended_spot r = record {
      given = b.going.given;
      told = b.going.told;
      refused = b.going.refused;
      beside = b.going.beside;
      goes = b.going.goes;
      messages_are = b.going.messages_are;
      sent = since_failed first.link l0 l1 b.received (frames b.going.told) room b.stops b.going.sent r;
      risen = omega (arith, b.going.risen, grown);
      grew = b.going.grew;
      none = b.going.none;
    }

    pub hears_failed : IsReceived l0 l1 received.Failed room → Rose f0 f1 → Served first (stage pass l1 f1 log) end.LinkFault
    hears_failed r rose = served_at first (stage pass l1 f1 log) spot end.LinkFault (going_part first (stage pass l1 f1 log) spot (ended_spot r)) (inl refl) (λ told. omega (arith, b.going.risen, rose))

    pub hears_no_memory : IsReceived l0 l1 received.NoMemory room → Served first (stage pass l1 f1 log) end.NoMemory
    hears_no_memory r = served_no_memory first (stage pass l1 f1 log) spot (going_part first (stage pass l1 f1 log) spot (ended_spot (as_failed l0 r))) (inl refl)
      where
        as_failed : (l : Option LinkTold) → IsReceived l l1 received.NoMemory room → IsReceived l l1 received.Failed room
        as_failed None r = tt
        as_failed (Some t) r = r

    pub hears_end : IsReceived l0 l1 received.End room → d.fault ≡ None → Served first (stage pass l1 f1 log) (end_of_rest (length d.rest))
    hears_end r whole = by (length d.rest) refl
      where
        since : Since first.link l1 b.received (frames b.going.told) b.stops × IsSpent first.link b.received
        since = since_end first.link l0 l1 b.received (frames b.going.told) room b.stops b.going.sent r

        ended : Going true first (stage pass l1 f1 log) spot
        ended = record {
          given = b.going.given;
          told = b.going.told;
          refused = b.going.refused;
          beside = b.going.beside;
          goes = b.going.goes;
          messages_are = b.going.messages_are;
          sent = since.0;
          risen = omega (arith, b.going.risen, grown);
          grew = b.going.grew;
          none = b.going.none;
        }

        ends : ending b.received ≡ rest (length d.rest)
        ends =
            let is : ending b.received ≡ rest (length (tail b.received)) = ending-rest b.received (sym b.stands.fault ∙ whole) in
            let left : d.rest ≡ tail b.received = b.stands.left ∙ ap (λ e. rest_of e (tail b.received)) is in
            is ∙ ap (λ xs. rest (length xs)) (sym left)

        by : (n : ℕ) → length d.rest ≡ n → Served first (stage pass l1 f1 log) (end_of_rest n)
        by zero e = served_at first (stage pass l1 f1 log) spot end.Closed ended refl (λ told. (free_walk spot told refl refl refl none, ends ∙ ap rest e, since.1))
        by (suc n) e = served_at first (stage pass l1 f1 log) spot (end.Truncated (suc n)) ended refl (λ told. (free_walk spot told refl refl refl none, ends ∙ ap rest e, (λ z. cc), since.1))

-- the bytes have a fault
pub between_broken : (first now : Stage) (talk : Talk) (d : Decoding) (fault : FrameFault) → Between first now talk d true → d.queue ≡ [] → d.fault ≡ Some fault → Served first now (end_of_frames fault)
between_broken first now talk d (fault.Magic at) b none is =
    served_at first now (free_spot talk b.received d.queue (suc b.stops) b.stops) (end.Magic at) b.going (inr refl) (λ told. (free_walk (free_spot talk b.received d.queue (suc b.stops) b.stops) told refl refl refl none, sym b.stands.fault ∙ is))
between_broken first now talk d (fault.TooLong at len) b none is =
    served_at first now (free_spot talk b.received d.queue (suc b.stops) b.stops) (end.TooLong at len) b.going (inr refl) (λ told. (free_walk (free_spot talk b.received d.queue (suc b.stops) b.stops) told refl refl refl none, sym b.stands.fault ∙ is))
between_broken first now talk d fault.NoMemory b none is =
    served_no_memory first now (free_spot talk b.received d.queue (suc b.stops) b.stops) (going_part first now (free_spot talk b.received d.queue (suc b.stops) b.stops) b.going) (inr refl)

-- the first of the queued messages is short
pub next_short : (d : Decoding) (m : Message) (others : List Message) → HasHeard d → d.queue ≡ m ∷ others → IsShort m
next_short d m others h is = (subst (AllByRecursion IsShort) is (heard_short d h)).0

-- the first of the queued messages is ahead, and then the others
pub between_next : (first now : Stage) (talk : Talk) (d : Decoding) (unasked : Bool) (m : Message) (others : List Message) → (b : Between first now talk d unasked) → d.queue ≡ m ∷ others
    → Going true first now (free_spot talk b.received (m ∷ others) (turns_of unasked b.stops) b.stops)
between_next first now talk d unasked m others b is = subst (λ q. Going true first now (free_spot talk b.received q (turns_of unasked b.stops) b.stops)) is b.going

-- what is asked after a receiving
pub asks_of : (unasked : Bool) (stops : ℕ) → (turns_of unasked stops ≡ stops) ⊎ (turns_of unasked stops ≡ suc stops)
asks_of false stops = inl refl
asks_of true stops = inr refl

-- it was asked whether the desk is to stop, after all messages were answered
pub asked_between : {A : Type 0} (first old new : Stage) (talk after : Talk) (d : Decoding) (r : Result A SessionEnd) → Between first old talk d true → d.queue ≡ [] → d.fault ≡ None
    → ((received : List ℕ) (stops : ℕ) → fault_of (ending received) ≡ None → Going true first old (free_spot talk received [] (suc stops) stops)
    → GoesOn first new (λ x. Going true first new (free_spot after received [] (suc stops) (suc stops))) r)
    → GoesOn first new (λ x. Between first new after d false) r
asked_between first old new talk after d (Ok x) b none whole asks =
    let going = asks b.received b.stops (sym b.stands.fault ∙ whole) (subst (λ q. Going true first old (free_spot talk b.received q (suc b.stops) b.stops)) none b.going) in
    record {
      received = b.received;
      given = b.given;
      stops = suc b.stops;
      going = subst (λ q. Going true first new (free_spot after b.received q (suc b.stops) (suc b.stops))) (sym none) going;
      stands = b.stands;
    }
asked_between first old new talk after d (Err e) b none whole asks =
    asks b.received b.stops (sym b.stands.fault ∙ whole) (subst (λ q. Going true first old (free_spot talk b.received q (suc b.stops) b.stops)) none b.going)

-- what was got stands at the front of the room
pub front_got : (n count : ℕ) (xs ys : List ℕ) → n ≤ length xs → n ≤ count → take n (take count (xs ++ ys)) ≡ take n xs
front_got n count xs ys within fits = take-take n count (xs ++ ys) fits ∙ take-append-le n xs ys within
