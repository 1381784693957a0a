-- How a client's session goes on.
use Rattle.std.proofs.Common.{◌≡◌, ◌∙◌, refl, ap, ℕ, suc, ◌+◌, ◌≤◌, Bool, true, false, not, List, [], ◌∷◌, ◌++◌, Option, Some, arith}
use Rattle.wm_history.specs.Act.{Act}
use Rattle.wm_history.specs.History.{stopped}
use Rattle.wm_history.specs.Look.{look}
use Rattle.wm_core.specs.Passes.{Looked, Pass, Saw, Took}
use Rattle.wm_core.specs.declared.asked.Asked.TheVariants as asked
use Rattle.wm_history.specs.declared.look.View.{View}
use Rattle.wm_history.specs.declared.step.Answer.{Answer}
use Rattle.wm_cut.specs.Lines.{behind_line, first_line, lines_in, rest_in}
use Rattle.wm_lines.specs.Told.{answer_text}
use Rattle.wm_ports.specs.Linking.{LinkTold}
use Rattle.wm_session.proofs.LinkLemmas.{SendsBy, since_by, since_start, since_unsent}
use Rattle.wm_clients.specs.Lines.{bad_from, bad_line, line_act}
use Rattle.wm_clients.specs.Served.{Stage, stage}
use Rattle.wm_clients.specs.Serving.{Going, Spot, free_spot, walk_at}
use Rattle.wm_clients.specs.Wanted.{NONE_SENT, after_wants, wants_above, wants_in, wants_text}
use Rattle.wm_clients.proofs.GoesLemmas.{goes_asked, goes_first, goes_read, goes_saw, goes_took}
use Rattle.wm_clients.proofs.LineLemmas.{counted_line, cuts_first, cuts_line, good_line, lines_now, rest_now}

-- where a session begins
abbrev pub START : Spot
START = free_spot NONE_SENT 0 [] [] 0 0

pub going_first : (first : Stage) → Going true first first START
going_first first = record {
  given = [];
  told = [];
  goes = goes_first first.pass;
  cuts = cuts_first;
  counted = refl;
  good = λ more rest. refl;
  bytes = since_start first.link;
  risen = omega arith;
}

-- a session that sent all may have sent a first part
pub going_part : (first now : Stage) (s : Spot) → Going true first now s → Going false first now s
going_part first now s h = record {
  given = h.given;
  told = h.told;
  goes = h.goes;
  cuts = h.cuts;
  counted = h.counted;
  good = h.good;
  bytes = since_unsent first.link now.link s.received h.told s.turns h.bytes;
  risen = h.risen;
}

pub going_any : (whole : Bool) (first now : Stage) (s : Spot) → Going whole first now s → Going false first now s
going_any true first now s h = going_part first now s h
going_any false first now s h = h

-- the pass's caller has seen more
pub going_saw : (whole : Bool) (first now : Stage) (s : Spot) (pass : Pass) → Going whole first now s → Saw now.pass pass → Going whole first (stage pass now.link now.faults) s
going_saw whole first now s pass h saw = record {
  given = h.given;
  told = h.told;
  goes = goes_saw first.pass now.pass pass h.given (walk_at s h.told) s.stops h.goes saw;
  cuts = h.cuts;
  counted = h.counted;
  good = h.good;
  bytes = h.bytes;
  risen = h.risen;
}

-- what is asked of the client's windows was read, and all or a first part of it was sent
pub going_read : (whole : Bool) (first now : Stage) (s : Spot) (pass : Pass) (link : Option LinkTold) (faults : ℕ) (v : View)
    → Going true first now s → s.due ≡ true
    → Looked now.pass pass (asked.Query (wants_above s.sent)) (λ start seen. v ≡ look start seen now.pass.caller (wants_above s.sent))
    → SendsBy whole now.link link (wants_text (wants_in v)) → now.faults ≤ faults
    → Going whole first (stage pass link faults) (record s { sent = after_wants (wants_in v) s.sent; due = false })
going_read whole first now s pass link faults v h due looked sends more = record {
  given = h.given;
  told = h.told ++ wants_text (wants_in v);
  goes = goes_read first.pass now.pass pass h.given (walk_at s h.told) s.stops v h.goes due looked;
  cuts = h.cuts;
  counted = h.counted;
  good = h.good;
  bytes = since_by whole first.link now.link link s.received h.told (wants_text (wants_in v)) s.turns h.bytes sends;
  risen = omega (arith, h.risen, more);
}

-- the next line was answered, and all or a first part of its answer was sent
pub going_answered : (whole : Bool) (first now : Stage) (s : Spot) (pass : Pass) (link : Option LinkTold) (faults : ℕ) (line : List ℕ) (act : Act) (said : Answer)
    → Going true first now s → s.due ≡ false → s.stopping ≡ false → first_line s.pending ≡ Some line → line_act line ≡ Some act
    → Took now.pass pass act said → SendsBy whole now.link link (answer_text said) → now.faults ≤ faults
    → Going whole first (stage pass link faults) (record s { due = true; count = s.count + 1; pending = behind_line s.pending })
going_answered whole first now s pass link faults line act said h due going next step took sends more = record {
  given = h.given ++ line ∷ [];
  told = h.told ++ answer_text said;
  goes = goes_took first.pass now.pass pass h.given (walk_at s h.told) s.stops line act said h.goes (record { read = due; going = going }) step took;
  cuts = cuts_line s.received h.given s.pending line next h.cuts;
  counted = counted_line h.given s.count line h.counted;
  good = good_line h.given s.count line act step h.good;
  bytes = since_by whole first.link now.link link s.received h.told (answer_text said) s.turns h.bytes sends;
  risen = omega (arith, h.risen, more);
}

-- it was asked whether the desk is to stop
pub going_asked : (first now : Stage) (s : Spot) (pass : Pass) (says : Bool)
    → Going true first now s → s.due ≡ false → s.stopping ≡ false
    → Looked now.pass pass asked.Stopped (λ start seen. says ≡ stopped start seen)
    → Going true first (stage pass now.link now.faults) (record s { due = not says; stopping = says; stops = suc s.stops })
going_asked first now s pass says h due going looked = record {
  given = h.given;
  told = h.told;
  goes = goes_asked first.pass now.pass pass h.given (walk_at s h.told) s.stops says h.goes (record { read = due; going = going }) looked;
  cuts = h.cuts;
  counted = h.counted;
  good = h.good;
  bytes = h.bytes;
  risen = h.risen;
}

-- the first bad line is the first one of the pending bytes
pub bad_ahead : (whole : Bool) (first now : Stage) (s : Spot) → Going whole first now s → bad_line s.received ≡ bad_from (s.count + 1) (lines_in s.pending) (rest_in s.pending)
bad_ahead whole first now s h =
    ap (λ ls. bad_from 1 ls (rest_in s.received)) (lines_now s.received h.given s.pending h.cuts)
    ∙ h.good (lines_in s.pending) (rest_in s.received)
    ∙ ap (bad_from (s.count + 1) (lines_in s.pending)) (rest_now s.received h.given s.pending h.cuts)
