-- What a call of the door does to how far a client's session is.
use Rattle.std.proofs.Common.{◌≡◌, ◌∙◌, refl, ap, sym, subst, ℕ, suc, Bool, true, List, [], ◌∷◌, ◌++◌, length, Some, IsSomeAnd}
use Rattle.wm_history.specs.Act.{Act}
use Rattle.wm_history.specs.History.{Entry, History, answer, opening_of, stopped}
use Rattle.wm_history.specs.Look.{look}
use Rattle.wm_core.specs.Passes.{Looked, Pass, Saw, Took}
use Rattle.wm_core.specs.declared.asked.Asked.TheVariants as asked
use Rattle.wm_history.specs.declared.look.Query.{Query}
use Rattle.wm_history.specs.declared.look.View.{View}
use Rattle.wm_history.specs.declared.step.Answer.{Answer}
use Rattle.wm_layouts.specs.declared.plan.Plan.{Plan}
use Rattle.wm_session.proofs.WalkLemmas.{begins_more, begins_same}
use Rattle.wm_turn.specs.declared.view.Mark.TheVariants.{Wrote, Read}
use Rattle.wm_clients.specs.Lines.{line_act}
use Rattle.wm_clients.specs.Serving.{Goes}
use Rattle.wm_clients.specs.Walk.{IsFree, Walk, answered_by, asked_stop, unasked, wants_read}
use Rattle.wm_clients.specs.Wanted.{wants_above}
use Rattle.wm_clients.proofs.WalkLemmas.{walks_asked, walks_later, walks_none, walks_read, walks_wrote}

pub goes_first : (p : Pass) → Goes p p [] (unasked []) 0
goes_first p = record {
  marks = [];
  pass = refl;
  begins = begins_same p.seen;
  walks = λ plan e. walks_none (opening_of plan) p.caller p.seen;
  stops_are = refl;
}

pub goes_saw : (first now new : Pass) (given : List (List ℕ)) (w : Walk) (stops : ℕ)
    → Goes first now given w stops → Saw now new → Goes first new given w stops
goes_saw first now new given w stops g s = record {
  marks = g.marks;
  pass = s.pass ∙ ap {A = Pass} (λ p. record p { seen = new.seen }) g.pass;
  begins = begins_more first.seen now.seen new.seen g.begins s.begins;
  walks = λ plan e. walks_later (opening_of plan) first.caller now.seen new.seen given g.marks w s.begins (g.walks plan e);
  stops_are = g.stops_are;
}

opening_as : (first now : Pass) (given : List (List ℕ)) (w : Walk) (stops : ℕ) → Goes first now given w stops
    → (plan : Plan) → first.opening ≡ Some plan → now.opening ≡ Some plan
opening_as first now given w stops g plan e = ap {A = Pass} (λ p. p.opening) g.pass ∙ e

-- the step of the next line was taken
pub goes_took : (first now new : Pass) (given : List (List ℕ)) (w : Walk) (stops : ℕ) (line : List ℕ) (act : Act) (said : Answer)
    → Goes first now given w stops → IsFree w → line_act line ≡ Some act → Took now new act said
    → Goes first new (given ++ line ∷ []) (answered_by said w) stops
goes_took first now new given w stops line act said g free step t =
    let entry : Entry = record { who = now.caller; act = act } in
    let seen : History = entry ∷ t.before in
    let old = begins_more first.seen now.seen t.before g.begins t.begins in
    let to : Pass = record now { seen = seen; mine = Wrote (length t.before) ∷ now.mine } in
    let goes : Goes first to (given ++ line ∷ []) (answered_by said w) stops = record {
      marks = Wrote (length t.before) ∷ g.marks;
      pass = ap {A = Pass} (λ p. record p { seen = seen; mine = Wrote (length t.before) ∷ p.mine }) g.pass;
      begins = begins_more first.seen t.before seen old (entry ∷ [], refl);
      walks = λ plan e.
          let is : said ≡ answer (opening_of plan) t.before entry =
          subst (λ o. IsSomeAnd o (λ p. said ≡ answer (opening_of p) t.before entry)) (opening_as first now given w stops g plan e) t.answer in
          walks_wrote (opening_of plan) first.caller now.seen given g.marks w line said entry t.before (g.walks plan e) free t.begins step is;
      stops_are = g.stops_are;
    } in
    subst (λ p. Goes first p (given ++ line ∷ []) (answered_by said w) stops) (sym t.pass) goes

-- what is asked of the client's windows was read
pub goes_read : (first now new : Pass) (given : List (List ℕ)) (w : Walk) (stops : ℕ) (v : View)
    → Goes first now given w stops → w.due ≡ true
    → Looked now new (asked.Query (wants_above w.sent)) (λ start seen. v ≡ look start seen now.caller (wants_above w.sent))
    → Goes first new given (wants_read v w) stops
goes_read first now new given w stops v g due l =
    let q : Query = wants_above w.sent in
    let seen : History = new.seen in
    let to : Pass = record now { seen = seen; mine = Read (asked.Query q) (length seen) ∷ now.mine } in
    let goes : Goes first to given (wants_read v w) stops = record {
      marks = Read (asked.Query q) (length seen) ∷ g.marks;
      pass = ap {A = Pass} (λ p. record p { seen = seen; mine = Read (asked.Query q) (length seen) ∷ p.mine }) g.pass;
      begins = begins_more first.seen now.seen seen g.begins l.begins;
      walks = λ plan e.
          let is : v ≡ look (opening_of plan) seen now.caller q =
          subst (λ o. IsSomeAnd o (λ p. v ≡ look (opening_of p) seen now.caller q)) (opening_as first now given w stops g plan e) l.answer in
          walks_read (opening_of plan) first.caller now.seen seen given g.marks w v (g.walks plan e) due l.begins
          (is ∙ ap (λ who. look (opening_of plan) seen who q) (ap {A = Pass} (λ p. p.caller) g.pass));
      stops_are = g.stops_are;
    } in
    subst (λ p. Goes first p given (wants_read v w) stops) (sym l.pass) goes

-- it was asked whether the desk is to stop
pub goes_asked : (first now new : Pass) (given : List (List ℕ)) (w : Walk) (stops : ℕ) (says : Bool)
    → Goes first now given w stops → IsFree w
    → Looked now new asked.Stopped (λ start seen. says ≡ stopped start seen)
    → Goes first new given (asked_stop says w) (suc stops)
goes_asked first now new given w stops says g free l =
    let seen : History = new.seen in
    let to : Pass = record now { seen = seen; mine = Read asked.Stopped (length seen) ∷ now.mine } in
    let goes : Goes first to given (asked_stop says w) (suc stops) = record {
      marks = Read asked.Stopped (length seen) ∷ g.marks;
      pass = ap {A = Pass} (λ p. record p { seen = seen; mine = Read asked.Stopped (length seen) ∷ p.mine }) g.pass;
      begins = begins_more first.seen now.seen seen g.begins l.begins;
      walks = λ plan e.
          let is : says ≡ stopped (opening_of plan) seen =
          subst (λ o. IsSomeAnd o (λ p. says ≡ stopped (opening_of p) seen)) (opening_as first now given w stops g plan e) l.answer in
          walks_asked (opening_of plan) first.caller now.seen seen given g.marks w says (g.walks plan e) free l.begins is;
      stops_are = ap suc g.stops_are;
    } in
    subst (λ p. Goes first p given (asked_stop says w) (suc stops)) (sym l.pass) goes
