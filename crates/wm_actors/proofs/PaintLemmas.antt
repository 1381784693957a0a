-- What the calls of a round of a painter leave.
use Rattle.std.proofs.Common.{◌≡◌, ◌∙◌, refl, ap, sym, subst, ℕ, ◌+◌, inl, inr, Bool, true, false, List, [], ◌∷◌, ◌++◌, length, take, Option, None, Some, Result, Ok, Err, IsErrAnd, IsSomeAnd, OnErr, append_assoc, length-append, arith}
use Rattle.std.proofs.Math.Seq.{take-append-add}
use Rattle.std.proofs.lemmas.List.{append-nil, take_all}
use Rattle.wm_history.specs.Frame.{frame}
use Rattle.wm_history.specs.History.{History, Start, opening_of, stopped}
use Rattle.wm_core.specs.Passes.{Looked, Pass, Saw}
use Rattle.wm_core.specs.declared.asked.Asked.{Asked}
use Rattle.wm_core.specs.declared.asked.Asked.TheVariants as asked
use Rattle.wm_defs.specs.Counts.{Rose}
use Rattle.wm_paint.specs.FrameText.{frame_text}
use Rattle.wm_paint.specs.declared.frame.Frame.{Frame}
use Rattle.wm_ports.specs.Told.{TakesAll, TakesPart}
use Rattle.wm_session.specs.Places.{at_length}
use Rattle.wm_session.proofs.WalkLemmas.{at_length_later}
use Rattle.wm_turn.specs.declared.view.Mark.{Mark}
use Rattle.wm_actors.specs.Paints.{AreRounds, Asked_alone, IsLast, Painted, Round, all_marks, marks_of}
use Rattle.wm_actors.specs.Pictured.{Ended, IsCause, IsWritten, GoesOn, Painting, ReadsFrame, Screen, Shows, Unread}
use Rattle.wm_actors.specs.Pictures.{joined, newest, texts, unless_same}
use Rattle.wm_actors.specs.Since.{Carried, Lasts, Since}
use Rattle.wm_actors.specs.declared.ending.ActorEnd.{ActorEnd}
use Rattle.wm_actors.specs.declared.ending.ActorEnd.TheVariants as end
use Rattle.wm_actors.proofs.SinceLemmas.{carried_looked, carried_saw, carried_then, lasts_carried, lasts_looked, opening_kept, since_first}

-- ---- sinks

pub takes_none : (told : Option (List ℕ)) → TakesAll told told []
takes_none None = tt
takes_none (Some taken) = ap Some (sym (append-nil taken))

takes_both : (old mid new : Option (List ℕ)) (first more : List ℕ) → TakesAll old mid first → TakesAll mid new more → TakesAll old new (first ++ more)
takes_both None mid new first more a b = tt
takes_both (Some taken) mid new first more a b = subst (λ o. TakesAll o new more) a b ∙ ap Some (append_assoc taken first more)

takes_part : (old new : Option (List ℕ)) (bytes : List ℕ) → TakesAll old new bytes → TakesPart old new bytes
takes_part None new bytes a = tt
takes_part (Some taken) new bytes a = (length bytes, record { within = omega arith; grown = a ∙ ap {A = List ℕ} (λ b. Some (taken ++ b)) (sym (take_all (length bytes) bytes (omega arith))) })

part_after_all : (old mid new : Option (List ℕ)) (first more : List ℕ) → TakesAll old mid first → TakesPart mid new more → TakesPart old new (first ++ more)
part_after_all None mid new first more a p = tt
part_after_all (Some taken) mid new first more a p =
    let q = subst (λ o. TakesPart o new more) a p in
    let n = q.0 in (
      length first + n,
      record {
        within = omega (arith, length-append first more, q.1.within);
        grown = q.1.grown ∙ ap {A = List ℕ} (λ bytes. Some bytes) (append_assoc taken first (take n more)) ∙ ap {A = List ℕ} (λ bytes. Some (taken ++ bytes)) (sym (take-append-add first more n));
      },
    )

part_none : (old : Option (List ℕ)) (bytes : List ℕ) → TakesPart old old bytes
part_none None bytes = tt
part_none (Some taken) bytes = (0, record { within = omega arith; grown = ap Some (sym (append-nil taken)) })

-- ---- a desk that is to stop

-- a desk that is to stop is to stop later too
stopped_later : (start : Start) (more before : History) → stopped start before ≡ true → stopped start (more ++ before) ≡ true
stopped_later start [] before h = h
stopped_later start (entry ∷ more) before h = grind (arith, stopped_later start more before h)

-- the desk is to stop at what was seen after a question that was answered so
lasts_stopped : (old mid new : Pass) (marks : List (Mark Asked)) (says : Bool) → Looked old mid asked.Stopped (λ start seen. says ≡ stopped start seen) → Carried mid new marks
    → Lasts new (λ start seen. says ≡ true → stopped start (at_length (length new.seen) seen) ≡ true)
lasts_stopped old mid new marks says l c = λ plan later e b stops.
    let opened = sym (ap {A = Pass} (λ p. p.opening) l.pass) ∙ sym (opening_kept mid new marks c) ∙ e in
    let said = subst (λ o. IsSomeAnd o (λ p. says ≡ stopped (opening_of p) mid.seen)) opened l.answer in
    let more = c.begins.0 in
    ap (stopped (opening_of plan)) (at_length_later new.seen later b ∙ c.begins.1) ∙ stopped_later (opening_of plan) more mid.seen (sym said ∙ stops)

-- ---- frames

some_more : {A : Type 0} {P Q : A → Type 0} (o : Option A) → ((x : A) → P x → Q x) → IsSomeAnd o P → IsSomeAnd o Q
some_more None f h = h
some_more (Some x) f h = f x h

-- a frame was read, and so its text is known
pub reads_frame : (old new : Pass) (painted : Frame) → Looked old new asked.Frame (λ start seen. painted ≡ frame start seen) → ReadsFrame old new (frame_text painted)
reads_frame old new painted l = record { begins = l.begins; pass = l.pass; answer = some_more old.opening (λ plan is. ap frame_text is) l.answer }

pub on_err : {A E : Type 0} (r : Result A E) (X : Type 0) → X → OnErr r X
on_err (Ok a) X x = tt
on_err (Err e) X x = x

-- ---- rounds

pub painting_first : (p : Pass) (at : Screen) → Painting p p at at []
painting_first p at = record {
  rounds = [];
  read = [];
  since = record { carried = (since_first p).carried; lasts = λ plan later e b. (tt, refl) };
  written = takes_none at.taken;
  last_is = refl;
  risen = omega arith;
}

-- what is known where the frame was read
abbrev pub HasRead : List Round → Round → List (List ℕ) → Bool → List ℕ → Start → History → Type 0
HasRead rounds round read says text start seen =
    AreRounds start seen rounds × (says ≡ stopped start (at_length round.asked seen)) × (says ≡ true → stopped start (at_length round.painted seen) ≡ true)
    × (texts start seen (marks_of round ++ all_marks rounds) ≡ text ∷ read)

abbrev pub round_at : Pass → Pass → Round
round_at mid new = record { asked = length mid.seen; painted = length new.seen }

since_read : (first old mid new : Pass) (from at : Screen) (last : List ℕ) (says : Bool) (text : List ℕ)
    → (t : Painting first old from at last) → Looked old mid asked.Stopped (λ start seen. says ≡ stopped start seen) → ReadsFrame mid new text
    → Since first new (marks_of (round_at mid new) ++ all_marks t.rounds) (HasRead t.rounds (round_at mid new) t.read says text)
since_read first old mid new from at last says text t l m =
    let tells = λ (start : Start) (seen : History). says ≡ stopped start seen in
    let shows = λ (start : Start) (seen : History). text ≡ frame_text (frame start seen) in
    let c = carried_looked old mid asked.Stopped tells l in
    let d = carried_looked mid new asked.Frame shows m in
    let made = λ (start : Start) (seen : History). AreRounds start seen t.rounds × (texts start seen (all_marks t.rounds) ≡ t.read) in
    record {
      carried = carried_then first mid new _ _ (carried_then first old mid (all_marks t.rounds) _ t.since.carried c) d;
      lasts = λ plan later e b.
          let h = lasts_carried mid new _ made d (lasts_carried old mid _ made c t.since.lasts) plan later e b in
          let said = lasts_carried mid new _ (λ start seen. says ≡ stopped start (at_length (length mid.seen) seen)) d (lasts_looked old mid asked.Stopped tells l) plan later e b in
          let shown = lasts_looked mid new asked.Frame shows m plan later e b in
          (h.0, said, lasts_stopped old mid new _ says l d plan later e b, ap (λ x. x ∷ texts (opening_of plan) later (all_marks t.rounds)) (sym shown) ∙ ap (λ xs. text ∷ xs) h.1);
    }

-- there was no memory for the frame
ends_unread : (first old mid new : Pass) (from at : Screen) (last : List ℕ) (says : Bool)
    → Painting first old from at last → Looked old mid asked.Stopped (λ start seen. says ≡ stopped start seen) → Saw mid new
    → Ended first new from at end.NoMemory
ends_unread first old mid new from at last says t l s =
    let tells = λ (start : Start) (seen : History). says ≡ stopped start seen in
    let c = carried_looked old mid asked.Stopped tells l in
    let d = carried_saw mid new s in
    let made = λ (start : Start) (seen : History). AreRounds start seen t.rounds × (texts start seen (all_marks t.rounds) ≡ t.read) in
    record {
      rounds = t.rounds;
      last = Asked_alone (length mid.seen);
      bytes = joined t.read;
      since = record {
        carried = carried_then first mid new _ [] (carried_then first old mid (all_marks t.rounds) _ t.since.carried c) d;
        lasts = λ plan later e b.
            let h = lasts_carried mid new [] made d (lasts_carried old mid _ made c t.since.lasts) plan later e b in
            (h.0, tt, ap joined h.1);
      };
      written = takes_part from.taken at.taken (joined t.read) t.written;
      cause = tt;
    }

-- it ended after it had read the frame
ends_read : (first new : Pass) (from to : Screen) (e : ActorEnd) (rounds : List Round) (round : Round) (read : List (List ℕ)) (says : Bool) (text : List ℕ)
    → Since first new (marks_of round ++ all_marks rounds) (HasRead rounds round read says text)
    → ((start : Start) (seen : History) → HasRead rounds round read says text start seen → IsLast e start seen (Painted round))
    → IsWritten e from.taken to.taken (joined (text ∷ read)) → IsCause e from.faults to.faults
    → Ended first new from to e
ends_read first new from to e rounds round read says text s is written cause = record {
  rounds = rounds;
  last = Painted round;
  bytes = joined (text ∷ read);
  since = record {
    carried = s.carried;
    lasts = λ plan later o b.
        let h = s.lasts plan later o b in
        (h.0, is (opening_of plan) later h, ap joined h.3);
  };
  written = written;
  cause = cause;
}

-- the end of a round whose frame could not be made a text
pub painting_unread : (first old mid new : Pass) (from at : Screen) (last : List ℕ) (says : Bool)
    → Painting first old from at last → Looked old mid asked.Stopped (λ start seen. says ≡ stopped start seen) → Unread mid new
    → Ended first new from at end.NoMemory
painting_unread first old mid new from at last says t l (inl s) = ends_unread first old mid new from at last says t l s
painting_unread first old mid new from at last says t l (inr (text, m)) =
    ends_read first new from at end.NoMemory t.rounds (round_at mid new) t.read says text
    (since_read first old mid new from at last says text t l m) (λ start seen h. tt)
    (part_after_all from.taken at.taken at.taken (joined t.read) (unless_same text (newest t.read)) t.written (part_none at.taken (unless_same text (newest t.read)))) tt

-- the end of a round whose text was not written
pub painting_unwritten : (first old mid new : Pass) (from at to : Screen) (last text : List ℕ) (says : Bool) (e : ActorEnd)
    → Painting first old from at last → Looked old mid asked.Stopped (λ start seen. says ≡ stopped start seen) → ReadsFrame mid new text
    → (e ≡ end.WriteFault) × TakesPart at.taken to.taken (unless_same text last) × Rose at.faults to.faults
    → Ended first new from to e
painting_unwritten first old mid new from at to last text says e t l m (is, part, rose) =
    subst (λ x. Ended first new from to x) (sym is)
    (ends_read first new from to end.WriteFault t.rounds (round_at mid new) t.read says text
    (since_read first old mid new from at last says text t l m) (λ start seen h. tt)
    (part_after_all from.taken at.taken to.taken (joined t.read) (unless_same text (newest t.read)) t.written (subst (λ x. TakesPart at.taken to.taken (unless_same text x)) t.last_is part))
    (omega (arith, t.risen, rose)))

-- the end of a round in which it was told to stop
pub painting_stopped : {A : Type 0} (first old mid new : Pass) (from at to : Screen) (last now text : List ℕ) (says : Bool) (x : A)
    → Painting first old from at last → Looked old mid asked.Stopped (λ start seen. says ≡ stopped start seen) → ReadsFrame mid new text
    → Shows at to last now text (Ok x) → says ≡ true
    → Ended first new from to end.Stopped
painting_stopped first old mid new from at to last now text says x t l m (all, is, more) stops =
    ends_read first new from to end.Stopped t.rounds (round_at mid new) t.read says text
    (since_read first old mid new from at last says text t l m) (λ start seen h. (sym h.1 ∙ stops, h.2 stops))
    (takes_both from.taken at.taken to.taken (joined t.read) (unless_same text (newest t.read)) t.written (subst (λ y. TakesAll at.taken to.taken (unless_same text y)) t.last_is all))
    tt

-- the end of another round
pub painting_on : {A : Type 0} (first old mid new : Pass) (from at to : Screen) (last now text : List ℕ) (says : Bool) (x : A)
    → Painting first old from at last → Looked old mid asked.Stopped (λ start seen. says ≡ stopped start seen) → ReadsFrame mid new text
    → Shows at to last now text (Ok x) → says ≡ false
    → Painting first new from to now
painting_on first old mid new from at to last now text says x t l m (all, is, more) goes =
    let s = since_read first old mid new from at last says text t l m in
    record {
      rounds = round_at mid new ∷ t.rounds;
      read = text ∷ t.read;
      since = record {
        carried = s.carried;
        lasts = λ plan later e b.
            let h = s.lasts plan later e b in
            ((h.0, sym h.1 ∙ goes), h.3);
      };
      written = takes_both from.taken at.taken to.taken (joined t.read) (unless_same text (newest t.read)) t.written (subst (λ y. TakesAll at.taken to.taken (unless_same text y)) t.last_is all);
      last_is = is;
      risen = omega (arith, t.risen, more);
    }

-- the painter has ended so, which is the result
pub ends_as : {A : Type 0} (first new : Pass) (from to : Screen) (last : List ℕ) (result : Result A ActorEnd) (e : ActorEnd)
    → Ended first new from to e → IsErrAnd result (λ s. s ≡ e) → GoesOn first new from to last result
ends_as first new from to last (Ok x) e ended is = absurd is
ends_as first new from to last (Err s) e ended is = subst (λ x. Ended first new from to x) (sym is) ended
