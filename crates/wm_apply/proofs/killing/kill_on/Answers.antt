use Rattle.std.proofs.Common.{rules, ◌≡◌, ap, ap₂, ◌∙◌}
use Rattle.wm_apply.specs.declared.rows.How.TheVariants as how
use Rattle.wm_apply.specs.Subjects.{each_error, one_tree, or_error}
use Rattle.wm_language.specs.declared.command.Command.TheVariants as commands
use Rattle.wm_apply.proofs.killing.kill_on.Goals as goal

pub returns-clause-error : goal.returns-clause-error
returns-clause-error c =
    let behind : c.in_ok-later.later ≡ each_error c.args.env.now how.Matched commands.Kill c.args.after.now (one_tree c.args.env.now how.Matched commands.Kill c.args.con c.args.t.now) =
    c.in_ok-later.ensures.error c.args.env.now how.Matched ∙ ap (λ u. each_error c.args.env.now how.Matched commands.Kill c.args.after.now u) c.in_ok-error.ensures.tree in
    let both : c.or.result ≡ or_error c.in_ok-error.error c.in_ok-later.later = search rules in
    both ∙ ap₂ or_error c.in_ok-error.ensures.error behind
