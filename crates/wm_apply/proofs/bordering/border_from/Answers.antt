use Rattle.std.proofs.Common.{rules, ◌≡◌, ap₂, ◌∙◌}
use Rattle.wm_apply.proofs.BorderingLemmas.{is_all}
use Rattle.wm_apply.specs.declared.rows.How.TheVariants as how
use Rattle.wm_apply.specs.Subjects.{or_error}
use Rattle.wm_apply.proofs.bordering.border_from.Goals as goal

pub returns-clause-tree : goal.returns-clause-tree
returns-clause-tree c =
    let all = is_all c.args.env.now how.Matched c.args.change c.args.command.now c.args.con c.args.after.now c.args.t.now c.run_still.new.t c.requires.command c.in_ok-error.ensures.tree c.in_ok-error.ensures.sound c.requires.taken c.requires.climbs in
    c.in_ok-later.ensures.tree ∙ all.tree

pub returns-clause-error : goal.returns-clause-error
returns-clause-error c =
    let all = is_all c.args.env.now how.Matched c.args.change c.args.command.now c.args.con c.args.after.now c.args.t.now c.run_still.new.t c.requires.command c.in_ok-error.ensures.tree c.in_ok-error.ensures.sound c.requires.taken c.requires.climbs in
    let both : c.or.result ≡ or_error c.in_ok-error.error c.in_ok-later.later = search rules in
    both ∙ ap₂ or_error c.in_ok-error.ensures.error (c.in_ok-later.ensures.error ∙ all.error)
