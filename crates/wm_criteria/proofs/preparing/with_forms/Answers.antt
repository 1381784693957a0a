use Rattle.std.proofs.Common.{◌≤◌, arith, length, subst, ap, ◌∙◌}
use Rattle.wm_criteria.specs.Building.{Grew}
use Rattle.wm_criteria.specs.Patterns.{patterns_of}
use Rattle.wm_criteria.specs.Stop.{IsStop, stop_texts}
use Rattle.wm_criteria.specs.declared.forms.Stop.TheVariants.{Refused}
use Rattle.wm_criteria.proofs.NumberLemmas.{patterns_few, stop_read, texts_read}
use Rattle.wm_criteria.proofs.preparing.with_forms.Goals as goal

pub group_forms-requires : goal.group_forms-requires
group_forms-requires g c =
    let few : length (patterns_of c.args.batch.groups) ≤ length c.args.text = patterns_few c.args.text c.args.batch c.requires.read in
    rw c.items-then-not-are_plain.ensures (omega (arith, few, c.requires.short))

pub invariant_of-result : goal.invariant_of-result
invariant_of-result g c =
    let here : IsStop 0 (patterns_of c.args.batch.groups) c.in-Err-Refused.field-0 = rw (← c.items-then-not-are_plain.ensures) c.in-Err-Refused.ensures.stop in
    let stop : IsStop 0 (patterns_of c.args.batch.groups) (Refused c.in-Err-Refused.pattern) = subst (λ e. IsStop 0 (patterns_of c.args.batch.groups) e) c.in-Err-Refused.field-0-is here in
    record {
      meant = stop_read c.args.text c.args.batch c.in-Err-Refused.pattern c.requires.read stop;
      fitting = λ x e. cc;
    }

pub returns-in-Err-Refused-clause-grew : goal.returns-in-Err-Refused-clause-grew
returns-in-Err-Refused-clause-grew g c =
    let here : Grew (g.B.Build.log c.args.build.now) (g.B.Build.log c.group_forms.new.build) (stop_texts 0 (patterns_of c.args.batch.groups) c.in-Err-Refused.field-0) = rw (← c.items-then-not-are_plain.ensures) c.in-Err-Refused.ensures.grew in
    let texts = ap (stop_texts 0 (patterns_of c.args.batch.groups)) c.in-Err-Refused.field-0-is ∙ texts_read c.args.text c.args.batch c.in-Err-Refused.pattern c.requires.read in
    subst (λ t. Grew (g.B.Build.log c.args.build.now) (g.B.Build.log c.group_forms.new.build) t) texts here
