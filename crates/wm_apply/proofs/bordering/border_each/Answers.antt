use Rattle.std.proofs.Common.{rules, ◌≡◌, ap, ap₂, ◌∙◌}
use Rattle.wm_apply.proofs.BorderingLemmas.{is_passed, takers_begin, takers_climb}
use Rattle.wm_apply.specs.Bordering.{begins, climbs}
use Rattle.wm_apply.specs.declared.rows.How.TheVariants as how
use Rattle.wm_apply.specs.Subjects.{or_error}
use Rattle.wm_apply.proofs.bordering.border_each.Goals as goal

pub border_on-requires-clause-climbs : goal.border_on-requires-clause-climbs
border_on-requires-clause-climbs c = ap climbs c.in_ok-first.ensures.rest ∙ takers_climb c.args.change c.args.cons.now c.args.t.now c.requires.climbs

pub border_on-requires-clause-taken : goal.border_on-requires-clause-taken
border_on-requires-clause-taken c = ap (λ r. begins c.args.change r c.args.t.now) c.in_ok-first.ensures.rest ∙ takers_begin c.args.change c.args.cons.now c.args.t.now

pub returns-clause-tree : goal.returns-clause-tree
returns-clause-tree c =
    let passed = is_passed c.args.env.now how.Matched c.args.change c.args.command.now c.args.cons.now c.in_ok-first.rest.now c.args.t.now c.requires.command c.in_ok-first.ensures.rest in
    c.in_ok-later.ensures.tree ∙ passed.tree

pub returns-clause-error : goal.returns-clause-error
returns-clause-error c =
    let passed = is_passed c.args.env.now how.Matched c.args.change c.args.command.now c.args.cons.now c.in_ok-first.rest.now c.args.t.now c.requires.command c.in_ok-first.ensures.rest in
    let both : c.or.result ≡ or_error c.in_ok-first.first c.in_ok-later.later = search rules in
    both ∙ ap₂ or_error c.in_ok-first.ensures.error c.in_ok-later.ensures.error ∙ passed.error
