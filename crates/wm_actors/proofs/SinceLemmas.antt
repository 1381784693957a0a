-- What calls of a door make of a pass, and what lasts.
use Rattle.std.proofs.Common.{◌≡◌, ◌∙◌, refl, ap, sym, subst, List, [], ◌∷◌, ◌++◌, length, Some, IsSomeAnd, append_assoc}
use Rattle.std.specs.Prelude.{⊤}
use Rattle.wm_history.specs.Act.{Act}
use Rattle.wm_history.specs.History.{Entry, History, Start, opening_of}
use Rattle.wm_core.specs.Passes.{Begins, Looked, Pass, Saw, Took}
use Rattle.wm_core.specs.declared.asked.Asked.{Asked}
use Rattle.wm_history.specs.declared.step.Answer.{Answer}
use Rattle.wm_session.specs.Places.{at_length, entry_at}
use Rattle.wm_session.proofs.WalkLemmas.{at_length_later, begins_more, begins_same, entry_later}
use Rattle.wm_turn.specs.declared.view.Mark.{Mark}
use Rattle.wm_turn.specs.declared.view.Mark.TheVariants.{Wrote, Read}
use Rattle.wm_actors.specs.Since.{Carried, Lasts, Since}

-- ---- what calls leave

pub carried_none : (p : Pass) → Carried p p []
carried_none p = record { pass = refl; begins = begins_same p.seen }

pub carried_saw : (old new : Pass) → Saw old new → Carried old new []
carried_saw old new s = record { pass = s.pass; begins = s.begins }

pub carried_looked : (old new : Pass) (question : Asked) (tells : Start → History → Type 0) → Looked old new question tells → Carried old new (Read question (length new.seen) ∷ [])
carried_looked old new question tells l = record { pass = l.pass; begins = l.begins }

seen_took : (old new : Pass) (act : Act) (said : Answer) → (t : Took old new act said) → new.seen ≡ record { who = old.caller; act = act } ∷ t.before
seen_took old new act said t = ap {A = Pass} (λ p. p.seen) t.pass

pub carried_took : (old new : Pass) (act : Act) (said : Answer) → (t : Took old new act said) → Carried old new (Wrote (length t.before) ∷ [])
carried_took old new act said t =
    let entry : Entry = record { who = old.caller; act = act } in
    let is = seen_took old new act said t in
    record {
      pass = t.pass ∙ ap {A = History} (λ s. record old { seen = s; mine = Wrote (length t.before) ∷ old.mine }) (sym is);
      begins = subst (λ s. Begins old.seen s) (sym is) (begins_more old.seen t.before (entry ∷ t.before) t.begins (entry ∷ [], refl));
    }

pub carried_then : (first now new : Pass) (marks more : List (Mark Asked)) → Carried first now marks → Carried now new more → Carried first new (more ++ marks)
carried_then first now new marks more c d = record {
  pass = d.pass
      ∙ ap {A = Pass} (λ p. record p { seen = new.seen; mine = more ++ p.mine }) c.pass
      ∙ ap {A = List (Mark Asked)} (λ ms. record first { seen = new.seen; mine = ms }) (sym (append_assoc more marks first.mine));
  begins = begins_more first.seen now.seen new.seen c.begins d.begins;
}

pub opening_kept : (old new : Pass) (marks : List (Mark Asked)) → Carried old new marks → new.opening ≡ old.opening
opening_kept old new marks c = ap {A = Pass} (λ p. p.opening) c.pass

pub caller_kept : (old new : Pass) (marks : List (Mark Asked)) → Carried old new marks → new.caller ≡ old.caller
caller_kept old new marks c = ap {A = Pass} (λ p. p.caller) c.pass

-- ---- what lasts

pub lasts_carried : (old new : Pass) (marks : List (Mark Asked)) (holds : Start → History → Type 0) → Carried old new marks → Lasts old holds → Lasts new holds
lasts_carried old new marks holds c h = λ plan later e b. h plan later (sym (opening_kept old new marks c) ∙ e) (begins_more old.seen new.seen later c.begins b)

-- what a question was told
pub lasts_looked : (old new : Pass) (question : Asked) (tells : Start → History → Type 0) → Looked old new question tells
    → Lasts new (λ start seen. tells start (at_length (length new.seen) seen))
lasts_looked old new question tells l = λ plan later e b.
    let opened = sym (ap {A = Pass} (λ p. p.opening) l.pass) ∙ e in
    subst (λ h. tells (opening_of plan) h) (sym (at_length_later new.seen later b)) (subst (λ o. IsSomeAnd o (λ p. tells (opening_of p) new.seen)) opened l.answer)

-- the entry of a step that was taken
pub lasts_took : (old new : Pass) (act : Act) (said : Answer) → (t : Took old new act said)
    → Lasts new (λ start seen. entry_at (length t.before) seen ≡ Some (record { who = old.caller; act = act }))
lasts_took old new act said t = λ plan later e b. entry_later (record { who = old.caller; act = act }) t.before later (subst (λ s. Begins s later) (seen_took old new act said t) b)

-- ---- beginning

pub since_first : (p : Pass) → Since p p [] (λ start seen. ⊤)
since_first p = record { carried = carried_none p; lasts = λ plan later e b. tt }
