use Rattle.std.proofs.Common.{◌≡◌, ◌≤◌, List, length, map, ap, subst, sym, ◌∙◌}
use Rattle.wm_json.specs.declared.views.EventBody.{EventBody}
use Rattle.wm_history.specs.Effect.{passing, reply_to}
use Rattle.wm_history.specs.declared.step.Answer.TheVariants.{Replies}
use Rattle.wm_history.proofs.EventLemmas.{few_later}
use Rattle.wm_core.proofs.StepLemmas.{taken}
use Rattle.wm_core.proofs.desk.Desk.idled.Goals as goal

pub returns : goal.returns
returns c = λ entry is.
    let d = c.args.self.now in
    let a = c.args.applied in
    let event = c.args.event in
    let replied : c.of.result ≡ map reply_to a.replies = c.of.ensures ∙ c.in_ok-replies.ensures.replies in
    taken _ _ _ _ (c.pass.ensures entry event (is ∙ ap (λ z. passing (Replies z) d.tree a.mode a.exit event) (sym replied)) c.in_ok-replies.ensures.later)

pub pass-requires-clause-short : goal.pass-requires-clause-short
pass-requires-clause-short c =
    let a = c.args.applied in
    subst (λ (told : List EventBody). length told ≤ 3) (sym c.in_ok-replies.ensures.later) (few_later c.args.self.now.mode c.args.self.now.stopped a.mode a.exit c.args.event)
