use Rattle.std.proofs.Common.{◌≡◌, ◌∙◌, Some, None, ap, refl, sym}
use Rattle.std.specs.Option.{option_map}
use Rattle.wm_binds.specs.Words.{text_of}
use Rattle.wm_binds.proofs.Utf8Lemmas.{read_text}
use Rattle.wm_binds.proofs.reading.read_config.Goals as goal

-- where each line is UTF-8 all of them are
pub unreachable-requires : goal.unreachable-requires
unreachable-requires c =
    let whole = read_text c.args.bytes.now c.in_ok-draft.draft c.in_ok-draft.ensures in
    let none : text_of c.args.bytes.now ≡ None = sym c.text_of.ensures ∙ ap (option_map (λ text. text.now)) c.in_default.is in
    let some : text_of c.args.bytes.now ≡ Some c.args.bytes.now = rw whole refl in
    cc
