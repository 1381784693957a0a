use Rattle.std.proofs.Common.{◌≡◌, ◌∙◌, ◌++◌, ap₂, Some, None, IfSome, IsTrue, inl, inr, ⊎_elim, refl, ap, sym, subst}
use Rattle.std.proofs.lemmas.List.{take-append-drop}
use Rattle.std.specs.Option.{is_some}
use Rattle.wm_actors.specs.Pictured.{screen}
use Rattle.wm_core.specs.Entries.{history_of}
use Rattle.wm_history.specs.History.{opening_of}
use Rattle.wm_serve.specs.Serving.{IsSummed}
use Rattle.wm_serve.specs.Summary.{summary}
use Rattle.wm_serve.proofs.DeskLemmas.{not_both, rehearsed_as}
use Rattle.wm_serve.proofs.serving.rehearse_whole.Goals as goal

pub returns-in-Some-clause-ran : goal.returns-in-Some-clause-ran
returns-in-Some-clause-ran g c =
    ⊎_elim (λ none. absurd (not_both c.rehearse-desk.result.1 (c.rehearse-desk.ensures.desk.0 (subst (λ o. IsTrue (is_some o)) (sym c.in-Some.is) refl)) none.0))
    (λ r. inr (record {
      used = c.rehearse-desk.new.builds;
      left = screen (g.S.Sink.taken c.rehearse-desk.new.frames) (g.S.Sink.faults c.rehearse-desk.new.frames);
      desk = Some c.in-Some.desk;
      ended = c.rehearse-desk.result.1;
      ran = rehearsed_as g.B.Build.log c.args.plan c.args.n c.args.hold_ms _ _ _ _ _ _ _ _ _ _ c.split_at_mut-builds.ensures.front c.in-Some.is r;
      builds_are = ap (λ bs. c.rehearse-desk.new.builds ++ bs) c.split_at_mut-builds.ensures.back;
      summed = λ history is. subst (λ plan. IsSummed c.sum_up.result (summary (opening_of plan) (history_of history))
          (screen (g.S.Sink.taken c.rehearse-desk.new.frames) (g.S.Sink.faults c.rehearse-desk.new.frames)) (screen (g.S.Sink.taken c.sum_up.new.frames) (g.S.Sink.faults c.sum_up.new.frames)))
          (subst (λ o. IfSome o (λ desk. desk.desk.plan ≡ c.args.plan)) c.in-Some.is c.rehearse-desk.ensures.opening) (c.sum_up.ensures.summed history is);
      unsummed = tt;
    }))
    c.rehearse-desk.ensures.ran

pub returns-in-None-clause-ran : goal.returns-in-None-clause-ran
returns-in-None-clause-ran g c =
    ⊎_elim (λ none. inl (none.0, ap₂ (λ front back. front ++ back) (none.1 ∙ c.split_at_mut-builds.ensures.front) c.split_at_mut-builds.ensures.back ∙ take-append-drop _ _, none.2, none.3))
    (λ r. inr (record {
      used = c.rehearse-desk.new.builds;
      left = screen (g.S.Sink.taken c.rehearse-desk.new.frames) (g.S.Sink.faults c.rehearse-desk.new.frames);
      desk = None;
      ended = c.rehearse-desk.result.1;
      ran = rehearsed_as g.B.Build.log c.args.plan c.args.n c.args.hold_ms _ _ _ _ _ _ _ _ _ _ c.split_at_mut-builds.ensures.front c.in-None.is r;
      builds_are = ap (λ bs. c.rehearse-desk.new.builds ++ bs) c.split_at_mut-builds.ensures.back;
      summed = tt;
      unsummed = (refl, refl);
    }))
    c.rehearse-desk.ensures.ran
