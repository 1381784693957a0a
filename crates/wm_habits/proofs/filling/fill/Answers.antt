use Rattle.std.proofs.Common.{◌≡◌, ◌++◌, Some, None, sym, ◌∙◌, ap, inr}
use Rattle.std.specs.Option.{option_copied}
use Rattle.wm_cut.proofs.CutLemmas.{behind_shorter, no_line}
use Rattle.wm_cut.specs.Lines.{first_line}
use Rattle.wm_habits.proofs.SpeakLemmas.{answers}
use Rattle.wm_habits.specs.Acting.{after_line, bytes_said}
use Rattle.wm_habits.specs.Speaking.{answering}
use Rattle.wm_habits.proofs.filling.fill.Goals as goal

pub returns-in_default-clause-filled : goal.returns-in_default-clause-filled
returns-in_default-clause-filled c =
    let first : first_line c.loop-cutter.cutter ≡ None = sym c.line.ensures ∙ ap (λ r. option_copied r) c.in_default.is in
    inr (no_line c.loop-cutter.cutter first).0

pub loop-cutter-smaller : goal.loop-cutter-smaller
loop-cutter-smaller c =
    let first : first_line c.loop-cutter.cutter ≡ Some c.in-Some.line.now = sym c.line.ensures ∙ ap (λ r. option_copied r) c.in-Some.is in
    rw c.pass.ensures (behind_shorter c.loop-cutter.cutter c.in-Some.line.now first)

pub loop-cutter-preserved : goal.loop-cutter-preserved
loop-cutter-preserved c =
    let line = c.in-Some.line.now in
    let before = c.loop-cutter in
    let first : first_line before.cutter ≡ Some line = sym c.line.ensures ∙ ap (λ r. option_copied r) c.in-Some.is in
    let said : c.answer_line.new.say.items ≡ before.say.items ++ bytes_said before.actor line = c.in_ok-answer_line.ensures.said in
    let acting : c.answer_line.new.actor ≡ after_line before.actor line = c.in_ok-answer_line.ensures.acting in
    let same : answering c.answer_line.new.actor c.pass.new.self c.answer_line.new.say.items ≡ answering before.actor before.cutter before.say.items =
    rw (c.pass.ensures, said, acting) (answers before.actor before.cutter before.say.items line first) in
    record { same = same ∙ before.invariant.same }
