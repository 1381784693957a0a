use Rattle.std.proofs.Common.{◌≡◌, ◌∙◌, map, None, ap, sym}
use Rattle.wm_history.specs.Effect.{changing, reply_to}
use Rattle.wm_history.specs.declared.step.Answer.TheVariants.{Replies}
use Rattle.wm_core.proofs.desk.Desk.applied.Goals as goal

pub returns-in-Ok : goal.returns-in-Ok
returns-in-Ok c = λ entry is.
    let a = c.args.applied in
    let replied : c.of.result ≡ map reply_to a.replies = c.of.ensures ∙ (c.in-Ok.ensures ∙ ap (map reply_to) c.items.ensures) in
    c.take-answer.ensures entry
    (is ∙ ap (λ rs. changing (Replies rs) c.args.self.now.tree c.args.tree None a.mode a.exit a.kills c.args.event) (sym replied))
