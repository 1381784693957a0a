use Rattle.std.proofs.Common.{rules, ◌≡◌, map, None, ap, ap₂, sym, ◌∙◌}
use Rattle.wm_apply.specs.Batches.{Outcome, outcome}
use Rattle.wm_opens.proofs.CommandLemmas.{kept_outcome}
use Rattle.wm_core.specs.DeskValue.{DeskValue}
use Rattle.wm_history.specs.Effect.{changing, reply_to}
use Rattle.wm_history.specs.History.{done_by}
use Rattle.wm_history.specs.declared.step.Answer.TheVariants.{Replies}
use Rattle.wm_history.proofs.FollowLemmas.{follows_made}
use Rattle.wm_core.proofs.desk.Desk.apply.Goals as goal

pub returns-in-Ok : goal.returns-in-Ok
returns-in-Ok c = λ entry is.
    let d = c.args.self.now in
    let verdict = c.args.text.now.verdict in
    let a = c.in-Ok.applied in
    let t = c.in-Ok.tree in
    let event = c.args.event in
    let left : outcome c.self.inside.plan.env verdict None c.self.inside.tree ≡ outcome d.plan.env verdict None d.tree = ap (λ (d : DeskValue). outcome d.plan.env verdict None d.tree) c.self.view_is in
    let modes = c.in-Ok.ensures.mode ∙ ap (λ (z : Outcome). z.mode) left in
    let made = c.in-Ok.ensures.tree ∙ ap (λ (z : Outcome). z.tree) left in
    let exits = c.in-Ok.ensures.exit ∙ ap (λ (z : Outcome). z.exit) left in
    let kills = c.in-Ok.ensures.kills ∙ ap (λ (z : Outcome). z.kills) left in
    let replies = c.in-Ok.ensures.replies ∙ ap (λ (z : Outcome). z.replies) left in
    let o = outcome d.plan.env verdict None d.tree in
    let said = Replies (map reply_to a.replies) in
    let here : done_by d.plan.env d.mode d.tree entry ≡ changing said d.tree t None a.mode a.exit a.kills event =
    is ∙ (ap₂ (λ rs z. changing (Replies (map reply_to rs)) d.tree z None o.mode o.exit o.kills event) (sym replies) (sym made)
    ∙ ap (λ m. changing said d.tree t None m o.exit o.kills event) (sym modes)
    ∙ ap₂ (λ b ids. changing said d.tree t None a.mode b ids event) (sym exits) (sym kills)) in
    c.applied.ensures entry here

-- a text opens no window
pub applied-requires : goal.applied-requires
applied-requires c =
    let d = c.args.self.now in
    let verdict = c.args.text.now.verdict in
    let left : outcome c.self.inside.plan.env verdict None c.self.inside.tree ≡ outcome d.plan.env verdict None d.tree = ap (λ (d : DeskValue). outcome d.plan.env verdict None d.tree) c.self.view_is in
    let follows = follows_made d.tree (outcome d.plan.env verdict None d.tree).tree c.in-Ok.tree (c.in-Ok.ensures.tree ∙ ap (λ (z : Outcome). z.tree) left) (kept_outcome d.plan.env verdict None d.tree) in
    record { few = c.requires.few; sound = search rules; follows = follows }
