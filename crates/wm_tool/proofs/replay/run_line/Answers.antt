use Rattle.std.proofs.Common.{arith, ◌≡◌, ◌++◌, refl, subst, sym}
use Rattle.wm_history.specs.History.{opening_of}
use Rattle.wm_script.specs.Out.{after, texts_run, told}
use Rattle.wm_script.proofs.PlayLemmas.{short_binds}
use Rattle.wm_tool.specs.Running.{Leads, noted_at}
use Rattle.wm_tool.proofs.LineLemmas.{line_leads}
use Rattle.wm_tool.proofs.RefusalLemmas.{notes_line}
use Rattle.wm_tool.proofs.RunLemmas.{on_err, unchanged}
use Rattle.wm_tool.proofs.replay.run_line.Goals as goal

pub returns-in_err-reserve-clause-stopped : goal.returns-in_err-reserve-clause-stopped
returns-in_err-reserve-clause-stopped g c =
    on_err c.from_residual.result (λ h s. (c.args.refused.now.items, unchanged c.args.desk.now.steps (texts_run (opening_of c.args.desk.now.plan) c.args.binds.now h c.args.line.now.deed) c.args.refused.now.items (g.B.Build.log c.args.build.now)))

pub play-requires-clause-short : goal.play-requires-clause-short
play-requires-clause-short g c = short_binds c.args.binds.now c.requires.binds

pub returns-in_err-played-clause-stopped : goal.returns-in_err-played-clause-stopped
returns-in_err-played-clause-stopped g c = on_err c.from_residual-in_err-played.result (λ h s.
    let r = c.in_err-played.ensures.refusal h s in (
      c.args.refused.now.items ++ noted_at c.args.desk.now.steps r.0,
      notes_line (opening_of c.args.desk.now.plan) c.args.binds.now h c.args.line.now.deed c.args.desk.now.steps r.0 c.args.refused.now.items (c.args.refused.now.items ++ noted_at c.args.desk.now.steps r.0)
          (g.B.Build.log c.args.build.now) (g.B.Build.log c.play.new.build) refl r.1,
    ))

pub returns-in_err-extend_from_slice-clause-stopped : goal.returns-in_err-extend_from_slice-clause-stopped
returns-in_err-extend_from_slice-clause-stopped g c =
    let grown : c.note.new.refused.items ≡ c.args.refused.now.items ++ noted_at c.args.desk.now.steps c.in_ok-played.played.refused = grind (arith, c.note.ensures, c.steps-place.ensures, c.reserve.ensures.items) in
    on_err c.from_residual-in_err-extend_from_slice.result (λ h s. (
      c.note.new.refused.items,
      notes_line (opening_of c.args.desk.now.plan) c.args.binds.now h c.args.line.now.deed c.args.desk.now.steps c.in_ok-played.played.refused c.args.refused.now.items c.note.new.refused.items
          (g.B.Build.log c.args.build.now) (g.B.Build.log c.play.new.build) grown (c.in_ok-played.ensures.refusal h s),
    ))

pub returns-clause-ok : goal.returns-clause-ok
returns-clause-ok g c =
    let grown : c.note.new.refused.items ≡ c.args.refused.now.items ++ noted_at c.args.desk.now.steps c.in_ok-played.played.refused = grind (arith, c.note.ensures, c.steps-place.ensures, c.reserve.ensures.items) in
    let text : c.extend_from_slice.new.self.items ≡ c.args.piece.now.items ++ c.in_ok-played.played.text = grind (arith, c.in_ok-extend_from_slice.ensures.items) in
    λ none.
    subst (Leads c.args.desk.now c.play.new.desk (after (opening_of c.args.desk.now.plan) c.args.binds.now c.args.line.now c.note.new.refused.items) (told (opening_of c.args.desk.now.plan) c.args.binds.now c.args.line.now c.note.new.refused.items) c.args.piece.now.items) (sym text)
    (line_leads c.args.desk.now c.play.new.desk c.args.binds.now c.args.line.now c.in_ok-played.played.refused c.args.refused.now.items c.note.new.refused.items c.args.piece.now.items c.in_ok-played.played.text grown c.in_ok-played.ensures.plays none)

pub returns-clause-notes : goal.returns-clause-notes
returns-clause-notes g c = λ h s.
    let grown : c.note.new.refused.items ≡ c.args.refused.now.items ++ noted_at c.args.desk.now.steps c.in_ok-played.played.refused = grind (arith, c.note.ensures, c.steps-place.ensures, c.reserve.ensures.items) in
    notes_line (opening_of c.args.desk.now.plan) c.args.binds.now h c.args.line.now.deed c.args.desk.now.steps c.in_ok-played.played.refused c.args.refused.now.items c.note.new.refused.items
    (g.B.Build.log c.args.build.now) (g.B.Build.log c.play.new.build) grown (c.in_ok-played.ensures.refusal h s)
