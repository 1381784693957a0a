use Rattle.regex.specs.Strings.{matcher_pattern}
use Rattle.wm_criteria.proofs.SearchLemmas.{form_found}
use Rattle.wm_criteria.proofs.form.Form.search.Goals as goal

pub returns-in_ok-matcher-in-Some : goal.returns-in_ok-matcher-in-Some
returns-in_ok-matcher-in-Some c =
    form_found c.self.inside.regex c.in-Some.regex c.args.self.now c.is_match.result (matcher_pattern c.in_ok-matcher-in-Some.matcher) c.args.text.now (λ k. (c.type_inv.text k).fits) c.self.invariant c.in-Some.is c.self.view_is
    c.in_ok-matcher-in-Some.ensures.pattern c.is_match.ensures.found
