use Rattle.std.proofs.Common.{rules, ◌≡◌, ◌∙◌, ◌≤◌, ℕ, Some, ap, subst, sym, length}
use Rattle.std.specs.Prelude.{◌-◌}
use Rattle.wm_binds.specs.Blocks.{IsStep}
use Rattle.wm_binds.specs.Letters.{found}
use Rattle.wm_binds.specs.LettersReading.{draft_after}
use Rattle.wm_binds.specs.Lines.{entry_of}
use Rattle.wm_binds.specs.Naming.{replaced}
use Rattle.wm_binds.specs.Reading.{entered, or_outside}
use Rattle.wm_binds.specs.declared.draft.Draft.{Draft}
use Rattle.wm_binds.proofs.ReadingLemmas.{read_within}
use Rattle.wm_binds.proofs.reading.take_entry.Goals as goal

-- the text has room, and says what is entered then
pub returns-in-Some : goal.returns-in-Some
returns-in-Some c =
    let draft = c.args.draft.now in
    let text = replaced (found c.args.names.now) c.args.text.now in
    let entry = c.in-Some.entry in
    let with_less : ℕ → Draft = λ n. record draft { room = draft.room - n } in
    let is : c.in_ok-text.text.items ≡ text = c.in_ok-text.ensures.value in
    let said : entry_of text ≡ Some entry = ap entry_of (sym (c.deref.ensures.value ∙ is)) ∙ (sym c.in_ok-entry.ensures ∙ c.in-Some.is) in
    let room : length text ≤ draft.room = subst (λ t. length t ≤ draft.room) is c.in_ok-text.ensures.room in
    let taken : c.len.result ≡ length c.in_ok-text.text.items = search rules in
    let whole : draft_after c.args.names.now draft c.args.text.now ≡ entered (with_less (length text)) draft.block entry =
    read_within draft text (λ d. or_outside (entry_of text) (entered d d.block)) room ∙ ap (λ o. or_outside o (entered (with_less (length text)) draft.block)) said in
    subst (λ d. IsStep d c.enter.new.self c.enter.result) (sym whole)
    (subst (λ n. IsStep (entered (with_less n) draft.block entry) c.enter.new.self c.enter.result) (taken ∙ ap length is) c.enter.ensures)
