use Rattle.std.proofs.Common.{rules, ◌≡◌, ◌||◌, ap, ◌∙◌, ◌∷◌, [], ◌++◌}
use Rattle.std.specs.Option.{option_or}
use Rattle.wm_apply.specs.Commands.{is_exit}
use Rattle.wm_apply.proofs.QuietLemmas.{idle_done}
use Rattle.wm_apply.proofs.quiet.Quiet.command.Goals as goal

pub returns : goal.returns
returns c = λ found t.
    let q = c.args.self.now in
    let made = idle_done c.args.env.now found c.args.command.now t q.replies.items q.mode q.exit c.requires in
    let exits : c.if-self.self ≡ (q.exit || is_exit c.args.command.now) = search rules in
    let replies = c.in_ok-push.ensures.items ∙ ap (λ r. q.replies.items ++ r ∷ []) c.idle_reply.ensures in
    let modes = c.renew.ensures ∙ ap (λ s. option_or s q.mode) c.in_ok-mode_set.ensures in
    rw (replies, modes, exits) made
