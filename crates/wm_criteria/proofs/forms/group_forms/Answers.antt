use Rattle.std.proofs.Common.{◌≡◌, [], ◌∷◌, ◌+◌, ◌-◌, List, length, take, drop}
use Rattle.std.specs.Prelude.{map}
use Rattle.wm_language.specs.declared.batch.Group.{Group}
use Rattle.wm_criteria.specs.Patterns.{key_patterns, keys_of, patterns_of, to_build}
use Rattle.wm_criteria.specs.Building.{Grew}
use Rattle.wm_criteria.specs.Stop.{IsStop, stop_texts}
use Rattle.wm_criteria.proofs.BuildingLemmas.{grew_both}
use Rattle.wm_criteria.proofs.NumberLemmas.{first_split, mapped_step, number_step, among_step, among_item, handed_on, stop_among, grew_stop}
use Rattle.wm_criteria.proofs.forms.group_forms.Goals as goal

pub returns-in_err-forms-clause-stop : goal.returns-in_err-forms-clause-stop
returns-in_err-forms-clause-stop g c =
    let rest : List Group = c.loop-rest.rest.now in
    let group : Group = c.group-item.result in
    let split = first_split rest group c.in-len1-up.len_at_least c.group-item.is in
    let among = among_item (λ x. key_patterns (keys_of x)) rest _ group 0 _ c.loop-rest.number split c.loop-rest.invariant.among in
    let stop : IsStop c.loop-rest.number (key_patterns (keys_of group)) c.in_err-forms.field-0.0 = rw (← c.keys_of.ensures) c.in_err-forms.ensures.stop in
    let same = handed_on c.from_residual.result c.in_err-forms.field-0.0 c.from_residual.ensures.1 in
    rw same (stop_among 0 (patterns_of c.args.groups.now) c.loop-rest.number (key_patterns (keys_of group)) c.in_err-forms.field-0.0 among stop)

pub returns-in_err-forms-clause-grew : goal.returns-in_err-forms-clause-grew
returns-in_err-forms-clause-grew g c =
    let rest : List Group = c.loop-rest.rest.now in
    let group : Group = c.group-item.result in
    let split = first_split rest group c.in-len1-up.len_at_least c.group-item.is in
    let among = among_item (λ x. key_patterns (keys_of x)) rest _ group 0 _ c.loop-rest.number split c.loop-rest.invariant.among in
    let stop : IsStop c.loop-rest.number (key_patterns (keys_of group)) c.in_err-forms.field-0.0 = rw (← c.keys_of.ensures) c.in_err-forms.ensures.stop in
    let grew : Grew (g.B.Build.log c.loop-rest.build) (g.B.Build.log c.key_forms.new.build) (stop_texts c.loop-rest.number (key_patterns (keys_of group)) c.in_err-forms.field-0.0) = rw (← c.keys_of.ensures) c.in_err-forms.ensures.grew in
    let same = handed_on c.from_residual.result c.in_err-forms.field-0.0 c.from_residual.ensures.1 in
    rw same (grew_stop _ _ _ 0 (patterns_of c.args.groups.now) c.loop-rest.number (key_patterns (keys_of group)) c.in_err-forms.field-0.0 among stop c.loop-rest.invariant.grew grew)

pub loop-rest-preserved : goal.loop-rest-preserved
loop-rest-preserved g c =
    let rest : List Group = c.loop-rest.rest.now in
    let group : Group = c.group-item.result in
    let after : List Group = take (length rest - 1) (drop 1 rest) in
    let split : rest ≡ group ∷ after = first_split rest group c.in-len1-up.len_at_least c.group-item.is in
    let next : c.in_ok-forms.next ≡ c.loop-rest.number + length (key_patterns (keys_of group)) = rw (← c.keys_of.ensures) c.in_ok-forms.ensures.number in
    record {
      forms = mapped_step (λ x. map to_build (keys_of x)) rest after group c.loop-rest.all.items _ _ c.in_ok-forms.forms split c.loop-rest.invariant.forms c.in_ok-push.ensures.items (rw (← c.keys_of.ensures) c.in_ok-forms.ensures.forms);
      number = number_step (λ x. key_patterns (keys_of x)) rest after group c.loop-rest.number _ _ split c.loop-rest.invariant.number next;
      among = among_step (λ x. key_patterns (keys_of x)) rest after group _ _ c.loop-rest.number _ split c.loop-rest.invariant.among next;
      grew = grew_both _ _ _ [] [] c.loop-rest.invariant.grew c.in_ok-forms.ensures.grew;
    }
