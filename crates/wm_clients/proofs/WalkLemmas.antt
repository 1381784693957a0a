-- How the walk over the marks of a client's session goes on.
use Rattle.std.proofs.Common.{◌≡◌, ◌∙◌, refl, ap, sym, subst, ℕ, Bool, true, List, [], ◌∷◌, ◌++◌, length, Some, append_assoc}
use Rattle.wm_history.specs.History.{Entry, History, Start, answer, stopped}
use Rattle.wm_history.specs.Look.{look}
use Rattle.wm_core.specs.Passes.{Begins}
use Rattle.wm_core.specs.declared.asked.Asked.{Asked}
use Rattle.wm_core.specs.declared.asked.Asked.TheVariants as asked
use Rattle.wm_history.specs.declared.look.View.{View}
use Rattle.wm_history.specs.declared.step.Answer.{Answer}
use Rattle.wm_session.specs.Places.{at_length, entry_at}
use Rattle.wm_session.proofs.WalkLemmas.{at_length_later, begins_before, begins_more, entry_later}
use Rattle.wm_turn.specs.declared.view.Mark.{Mark}
use Rattle.wm_turn.specs.declared.view.Mark.TheVariants.{Wrote, Read}
use Rattle.wm_clients.specs.Lines.{line_act}
use Rattle.wm_clients.specs.Serving.{Walks}
use Rattle.wm_clients.specs.Walk.{FitsClient, FitsNext, IsFree, IsNextStep, Walk, answer_at, answered, answered_by, asked_stop, next, unasked, walk, wants_read}
use Rattle.wm_clients.specs.Wanted.{wants_above}

pub walks_later : (start : Start) (who : ℕ) (seen after : History) (given : List (List ℕ)) (marks : List (Mark Asked)) (w : Walk)
    → Begins seen after → Walks start who seen given marks w → Walks start who after given marks w
walks_later start who seen after given marks w b h = record {
  is = λ later more c. h.is later more (begins_more seen after later b c);
  fit = λ later more c. h.fit later more (begins_more seen after later b c);
}

pub walks_none : (start : Start) (who : ℕ) (seen : History) → Walks start who seen [] [] (unasked [])
walks_none start who seen = record { is = λ later more b. refl; fit = λ later more b. (record {}) }

-- the walk where this line is the next one
next_line : (start : Start) (who : ℕ) (seen : History) (given : List (List ℕ)) (marks : List (Mark Asked)) (w : Walk) (line : List ℕ) → Walks start who seen given marks w
    → (later : History) (more : List (List ℕ)) → Begins seen later → walk start who later ((given ++ line ∷ []) ++ more) marks ≡ record w { left = line ∷ more }
next_line start who seen given marks w line h later more b = ap {A = List (List ℕ)} (λ ls. walk start who later ls marks) (append_assoc given (line ∷ []) more) ∙ h.is later (line ∷ more) b

next_fit : (start : Start) (who : ℕ) (seen : History) (given : List (List ℕ)) (marks : List (Mark Asked)) (w : Walk) (line : List ℕ) → Walks start who seen given marks w
    → (later : History) (more : List (List ℕ)) → Begins seen later → FitsClient start who later ((given ++ line ∷ []) ++ more) marks
next_fit start who seen given marks w line h later more b = subst (λ ls. FitsClient start who later ls marks) (sym (append_assoc given (line ∷ []) more)) (h.fit later (line ∷ more) b)

free_with : (w : Walk) (ls : List (List ℕ)) → IsFree w → IsFree (record w { left = ls })
free_with w ls f = record { read = f.read; going = f.going }

answer_later : (start : Start) (entry : Entry) (before later : History) (said : Answer) → Begins (entry ∷ before) later → said ≡ answer start before entry
    → answer_at start (at_length (length before) later) (entry_at (length before) later) ≡ Some said
answer_later start entry before later said b e =
    ap (λ h. answer_at start h (entry_at (length before) later)) (at_length_later before later (begins_before entry before later b))
    ∙ ap (answer_at start before) (entry_later entry before later b)
    ∙ ap (λ x. Some x) (sym e)

-- the step of the next line was taken
pub walks_wrote : (start : Start) (who : ℕ) (seen : History) (given : List (List ℕ)) (marks : List (Mark Asked)) (w : Walk) (line : List ℕ) (said : Answer) (entry : Entry) (before : History)
    → Walks start who seen given marks w → IsFree w → Begins seen before → line_act line ≡ Some entry.act → said ≡ answer start before entry
    → Walks start who (entry ∷ before) (given ++ line ∷ []) (Wrote (length before) ∷ marks) (answered_by said w)
walks_wrote start who seen given marks w line said entry before h free b step e =
    let mark : Mark Asked = Wrote (length before) in
    let old = λ (later : History) (c : Begins (entry ∷ before) later). begins_more seen before later b (begins_before entry before later c) in
    record {
      is = λ later more c.
          ap (next start who later mark) (next_line start who seen given marks w line h later more (old later c))
          ∙ ap (λ o. answered (line ∷ more) o (record w { left = line ∷ more })) (answer_later start entry before later said c e);
      fit = λ later more c. (
        next_fit start who seen given marks w line h later more (old later c),
        subst (FitsNext later mark) (sym (next_line start who seen given marks w line h later more (old later c)))
            (free_with w (line ∷ more) free, subst (IsNextStep (line ∷ more)) (sym (entry_later entry before later c)) step),
      );
    }

-- what is asked of the client's windows was read
pub walks_read : (start : Start) (who : ℕ) (seen after : History) (given : List (List ℕ)) (marks : List (Mark Asked)) (w : Walk) (v : View)
    → Walks start who seen given marks w → w.due ≡ true → Begins seen after → v ≡ look start after who (wants_above w.sent)
    → Walks start who after given (Read (asked.Query (wants_above w.sent)) (length after) ∷ marks) (wants_read v w)
walks_read start who seen after given marks w v h due b e =
    let mark : Mark Asked = Read (asked.Query (wants_above w.sent)) (length after) in
    let old = λ (later : History) (c : Begins after later). begins_more seen after later b c in
    record {
      is = λ later more c.
          ap (next start who later mark) (h.is later more (old later c))
          ∙ ap (λ past. wants_read (look start past who (wants_above w.sent)) (record w { left = more })) (at_length_later after later c)
          ∙ ap (λ x. wants_read x (record w { left = more })) (sym e);
      fit = λ later more c. (h.fit later more (old later c), subst (FitsNext later mark) (sym (h.is later more (old later c))) (due, refl));
    }

-- it was asked whether the desk is to stop
pub walks_asked : (start : Start) (who : ℕ) (seen after : History) (given : List (List ℕ)) (marks : List (Mark Asked)) (w : Walk) (stops : Bool)
    → Walks start who seen given marks w → IsFree w → Begins seen after → stops ≡ stopped start after
    → Walks start who after given (Read asked.Stopped (length after) ∷ marks) (asked_stop stops w)
walks_asked start who seen after given marks w stops h free b e =
    let mark : Mark Asked = Read asked.Stopped (length after) in
    let old = λ (later : History) (c : Begins after later). begins_more seen after later b c in
    record {
      is = λ later more c.
          ap (next start who later mark) (h.is later more (old later c))
          ∙ ap (λ past. asked_stop (stopped start past) (record w { left = more })) (at_length_later after later c)
          ∙ ap (λ x. asked_stop x (record w { left = more })) (sym e);
      fit = λ later more c. (h.fit later more (old later c), subst (FitsNext later mark) (sym (h.is later more (old later c))) (free_with w more free));
    }
