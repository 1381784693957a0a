use Rattle.std.proofs.Common.{◌≡◌, Some, None, sym, ◌∙◌, ap}
use Rattle.std.specs.Prelude.{option_map}
use Rattle.wm_criteria.specs.Plain.{character}
use Rattle.wm_criteria.proofs.PlainLemmas.{is_some-characters-step, is_some-characters-last}
use Rattle.wm_criteria.proofs.plain.are_characters.Goals as goal

pub loop-after-preserved : goal.loop-after-preserved
loop-after-preserved c =
    let first : character c.loop-after.rest.now ≡ Some (c.in-Some.field-0-0, c.in-Some.after.now) = sym c.character.ensures.value ∙ ap (option_map (λ x. (x.0, x.1.now))) c.in-Some.is in
    sym (is_some-characters-step _ _ _ first) ∙ c.loop-after.invariant

pub returns : goal.returns
returns c =
    let none : character c.loop-after.rest.now ≡ None = sym c.character.ensures.value ∙ ap (option_map (λ x. (x.0, x.1.now))) c.in_default.is in
    c.is_last.ensures ∙ (sym (is_some-characters-last _ none) ∙ c.loop-after.invariant)
