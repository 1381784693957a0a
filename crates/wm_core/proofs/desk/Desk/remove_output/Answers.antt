use Rattle.std.proofs.Common.{◌≡◌, None, ap, sym, ◌∙◌}
use Rattle.wm_history.specs.Act.{OutputRemove}
use Rattle.wm_opens.proofs.SpaceLemmas.{kept_output_removed}
use Rattle.wm_spaces.specs.Coming.{output_removed_refusal, output_removed_tree}
use Rattle.wm_tree.specs.Words.{settled}
use Rattle.wm_core.specs.DeskValue.{DeskValue}
use Rattle.wm_history.specs.Effect.{leaving}
use Rattle.wm_history.specs.declared.step.Answer.TheVariants.{Done}
use Rattle.wm_history.proofs.FollowLemmas.{follows_made}
use Rattle.wm_core.proofs.StepLemmas.{is_removed, not_removed, taken}
use Rattle.wm_core.proofs.desk.Desk.remove_output.Goals as goal

-- there is no such output, or it is the only one, so nothing changes
pub returns-in-Err-NoTarget : goal.returns-in-Err-NoTarget
returns-in-Err-NoTarget c =
    let same : c.in_ok-tree.tree ≡ c.args.self.now.tree = c.in_ok-tree.ensures ∙ ap (λ (d : DeskValue). d.tree) c.self.view_is in
    taken _ _ _ _ (c.stay.ensures (record { who = c.args.who; act = OutputRemove c.args.name.now })
    (not_removed c.args.name.now c.args.self.now.tree c.in_ok-tree.tree _ same (rw c.in-Err-NoTarget.field-0-is at c.in-Err-NoTarget.ensures.cause)))

pub returns-in-Ok : goal.returns-in-Ok
returns-in-Ok c =
    let t = c.args.self.now.tree in
    let name = c.args.name.now in
    let same : c.in_ok-tree.tree ≡ t = c.in_ok-tree.ensures ∙ ap (λ (d : DeskValue). d.tree) c.self.view_is in
    let made = c.in-Ok.ensures.tree ∙ ap (output_removed_tree name) same in
    let fine : output_removed_refusal name t ≡ None = ap (output_removed_refusal name) (sym same) ∙ c.in-Ok.ensures.fine in
    c.finish.ensures (record { who = c.args.who; act = OutputRemove name }) (is_removed name t fine ∙ ap (λ z. leaving Done t (settled z) None) (sym made))

-- an output that goes opens no window
pub finish-requires-clause-follows : goal.finish-requires-clause-follows
finish-requires-clause-follows c =
    let t = c.args.self.now.tree in
    let name = c.args.name.now in
    let made = c.in-Ok.ensures.tree ∙ ap (output_removed_tree name) (c.in_ok-tree.ensures ∙ ap (λ (d : DeskValue). d.tree) c.self.view_is) in
    follows_made t (output_removed_tree name t) c.output_removed.new.t made (kept_output_removed name t)
