use Rattle.std.proofs.Common.{◌≡◌, [], ◌∷◌, ◌-◌, List, length, take, drop}
use Rattle.wm_language.specs.declared.batch.Key.{Key}
use Rattle.std.specs.Option.{option_to_list}
use Rattle.wm_criteria.specs.Patterns.{pattern_of, to_build}
use Rattle.wm_criteria.proofs.BuildingLemmas.{grew_both}
use Rattle.wm_criteria.proofs.NumberLemmas.{first_split, mapped_step, number_step, among_step}
use Rattle.wm_criteria.proofs.forms.key_forms.Goals as goal

pub loop-rest-preserved : goal.loop-rest-preserved
loop-rest-preserved g c =
    let rest : List Key = c.loop-rest.rest.now in
    let key : Key = c.key-item.result in
    let after : List Key = take (length rest - 1) (drop 1 rest) in
    let split : rest ≡ key ∷ after = first_split rest key c.in-len1-up.len_at_least c.key-item.is in
    record {
      forms = mapped_step to_build rest after key c.loop-rest.forms.items _ _ c.in_ok-key_form.field-0 split c.loop-rest.invariant.forms c.in_ok-push.ensures.items c.in_ok-key_form.ensures.form;
      number = number_step (λ k. option_to_list (pattern_of k)) rest after key c.loop-rest.number _ _ split c.loop-rest.invariant.number c.number_behind-number.ensures;
      among = among_step (λ k. option_to_list (pattern_of k)) rest after key _ _ c.loop-rest.number _ split c.loop-rest.invariant.among c.number_behind-number.ensures;
      grew = grew_both _ _ _ [] [] c.loop-rest.invariant.grew c.in_ok-key_form.ensures.grew;
    }
