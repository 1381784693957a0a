use Rattle.std.proofs.Common.{◌≡◌, ◌||◌, ◌==◌, Bool, Some, None, true, false, sym, ◌∙◌, ap, length}
use Rattle.std.specs.Prelude.{option_map}
use Rattle.wm_criteria.specs.Plain.{character}
use Rattle.wm_criteria.proofs.PlainLemmas.{is_some-characters-step, wanted-first, wanted-other, wanted-short, wanted-last}
use Rattle.wm_criteria.proofs.plain.stands.Goals as goal

pub loop-c-preserved : goal.loop-c-preserved
loop-c-preserved c =
    let first : character c.loop-c.wanted.now ≡ Some (c.in-Some.c, c.in-Some.after.now) = sym c.character.ensures.value ∙ ap (option_map (λ x. (x.0, x.1.now))) c.in-Some.is in
    record {
      plain = sym (is_some-characters-step _ _ _ first) ∙ c.loop-c.invariant.plain;
      same = sym (wanted-first _ _ _ c.loop-c.rest.now first c.in-len1-up.len_at_least c.if-first-c.true) ∙ c.loop-c.invariant.same;
    }

pub returns-in_default-rest : goal.returns-in_default-rest
returns-in_default-rest c =
    let first : character c.loop-c.wanted.now ≡ Some (c.in-Some.c, c.in-Some.after.now) = sym c.character.ensures.value ∙ ap (option_map (λ x. (x.0, x.1.now))) c.in-Some.is in
    sym (wanted-short _ _ _ c.loop-c.rest.now first c.in_default-rest.len_below) ∙ c.loop-c.invariant.same

pub returns-in_default-rest-2 : goal.returns-in_default-rest-2
returns-in_default-rest-2 c =
    let first : character c.loop-c.wanted.now ≡ Some (c.in-Some.c, c.in-Some.after.now) = sym c.character.ensures.value ∙ ap (option_map (λ x. (x.0, x.1.now))) c.in-Some.is in
    sym (wanted-other _ _ _ c.loop-c.rest.now first c.in-len1-up.len_at_least c.if-first-c.false) ∙ c.loop-c.invariant.same

pub returns-then-is_empty : goal.returns-then-is_empty
returns-then-is_empty c =
    let none : character c.loop-c.wanted.now ≡ None = sym c.character.ensures.value ∙ ap (option_map (λ x. (x.0, x.1.now))) c.in_default.is in
    let empty : (length c.loop-c.wanted.now == 0) ≡ true = sym c.is_empty.ensures ∙ c.if-is_empty.true in
    c.is_empty.ensures ∙ (empty ∙ (ap (λ (b : Bool). b || (length c.loop-c.rest.now == 0)) (sym empty) ∙ (sym (wanted-last _ c.loop-c.rest.now none c.loop-c.invariant.plain) ∙ c.loop-c.invariant.same)))

pub returns-else-is_empty : goal.returns-else-is_empty
returns-else-is_empty c =
    let none : character c.loop-c.wanted.now ≡ None = sym c.character.ensures.value ∙ ap (option_map (λ x. (x.0, x.1.now))) c.in_default.is in
    let full : (length c.loop-c.wanted.now == 0) ≡ false = sym c.is_empty.ensures ∙ c.if-is_empty.false in
    c.is_empty-else-is_empty.ensures ∙ (ap (λ (b : Bool). b || (length c.loop-c.rest.now == 0)) (sym full) ∙ (sym (wanted-last _ c.loop-c.rest.now none c.loop-c.invariant.plain) ∙ c.loop-c.invariant.same))
