use Rattle.std.proofs.Common.{◌≡◌, true, false, is_some, Some, None, ap, refl, sym, ◌∙◌}
use Rattle.wm_layouts.specs.Plan.{is_fit_rect}
use Rattle.wm_spaces.specs.Coming.{output_added_tree}
use Rattle.wm_spaces.specs.Names.{output_named}
use Rattle.wm_opens.proofs.SpaceLemmas.{kept_output_added}
use Rattle.wm_tree.specs.Outputs.{passed_by_output}
use Rattle.wm_tree.specs.TreeValue.{TreeValue}
use Rattle.wm_tree.specs.Words.{settled}
use Rattle.wm_history.specs.Act.{OutputAdd}
use Rattle.wm_core.specs.DeskValue.{DeskValue}
use Rattle.wm_history.specs.Effect.{leaving}
use Rattle.wm_history.specs.declared.step.Answer.TheVariants.{Done}
use Rattle.wm_history.proofs.FollowLemmas.{follows_made}
use Rattle.wm_core.proofs.StepLemmas.{has_limit, has_room, is_added, never_taken, not_added, taken}
use Rattle.wm_core.proofs.desk.Desk.add_output.Goals as goal

-- an output has the name, so nothing changes
pub returns-then-is_some : goal.returns-then-is_some
returns-then-is_some c =
    let seen = ap (λ (d : DeskValue). d.tree) c.self.view_is in
    let named : is_some (output_named c.args.plan.now.name c.args.self.now.tree) ≡ true =
    sym (c.if-is_some.ensures ∙ ap is_some (c.in_ok-output_named.ensures ∙ ap (output_named c.args.plan.now.name) seen)) in
    taken _ _ _ _ (c.stay.ensures (record { who = c.args.who; act = OutputAdd c.args.plan.now }) (rw named refl))

-- nor does anything where the rectangle is outside the limits
pub returns-then-not-is_fit_rect : goal.returns-then-not-is_fit_rect
returns-then-not-is_fit_rect c =
    let seen = ap (λ (d : DeskValue). d.tree) c.self.view_is in
    let free : is_some (output_named c.args.plan.now.name c.args.self.now.tree) ≡ false =
    sym (c.if-is_some.ensures ∙ ap is_some (c.in_ok-output_named.ensures ∙ ap (output_named c.args.plan.now.name) seen)) in
    let unfit : is_fit_rect c.args.plan.now.rect ≡ false = sym c.if-not-is_fit_rect.ensures in
    taken _ _ _ _ (c.stay-then-not-is_fit_rect.ensures (record { who = c.args.who; act = OutputAdd c.args.plan.now }) (rw (free, unfit) refl))

pub returns-in-Ok : goal.returns-in-Ok
returns-in-Ok c =
    let t = c.args.self.now.tree in
    let seen = ap (λ (d : DeskValue). d.tree) c.self.view_is in
    let same : c.in_ok-tree.tree ≡ t = c.in_ok-tree.ensures ∙ seen in
    let free : is_some (output_named c.args.plan.now.name t) ≡ false =
    sym (c.if-is_some.ensures ∙ ap is_some (c.in_ok-output_named.ensures ∙ ap (output_named c.args.plan.now.name) seen)) in
    let fit : is_fit_rect c.args.plan.now.rect ≡ true = sym c.if-not-is_fit_rect.ensures in
    let copied : is_some (output_named c.args.plan.now.name c.in_ok-tree.tree) ≡ false = ap (λ z. is_some (output_named c.args.plan.now.name z)) same ∙ free in
    let room : passed_by_output t.nodes t.next_id ≡ None =
    ap (λ (z : TreeValue). passed_by_output z.nodes z.next_id) (sym same) ∙ has_room c.args.plan.now c.in_ok-tree.tree copied c.in-Ok.ensures.fine in
    let made = c.in-Ok.ensures.tree ∙ ap (output_added_tree c.args.plan.now) same in
    c.finish.ensures (record { who = c.args.who; act = OutputAdd c.args.plan.now })
    (is_added c.args.plan.now t free fit room ∙ ap (λ z. leaving Done t (settled z) None) (sym made))

-- no room, so nothing changes
pub returns-in-Err-Full : goal.returns-in-Err-Full
returns-in-Err-Full c =
    let t = c.args.self.now.tree in
    let seen = ap (λ (d : DeskValue). d.tree) c.self.view_is in
    let same : c.in_ok-tree.tree ≡ t = c.in_ok-tree.ensures ∙ seen in
    let free : is_some (output_named c.args.plan.now.name t) ≡ false =
    sym (c.if-is_some.ensures ∙ ap is_some (c.in_ok-output_named.ensures ∙ ap (output_named c.args.plan.now.name) seen)) in
    let fit : is_fit_rect c.args.plan.now.rect ≡ true = sym c.if-not-is_fit_rect.ensures in
    let copied : is_some (output_named c.args.plan.now.name c.in_ok-tree.tree) ≡ false = ap (λ z. is_some (output_named c.args.plan.now.name z)) same ∙ free in
    let full : passed_by_output t.nodes t.next_id ≡ Some c.in-Err-Full.limit =
    ap (λ (z : TreeValue). passed_by_output z.nodes z.next_id) (sym same) ∙ has_limit c.args.plan.now c.in_ok-tree.tree copied c.in-Err-Full.limit (rw c.in-Err-Full.field-0-is at c.in-Err-Full.ensures.cause) in
    taken _ _ _ _ (c.stay-in-Err-Full.ensures (record { who = c.args.who; act = OutputAdd c.args.plan.now }) (not_added c.args.plan.now t c.in-Err-Full.limit free fit full))

-- the name was tested before
pub unreachable-requires : goal.unreachable-requires
unreachable-requires c =
    let free : is_some (output_named c.args.plan.now.name c.in_ok-tree.tree) ≡ false =
    sym (c.if-is_some.ensures ∙ ap is_some (c.in_ok-output_named.ensures ∙ ap (output_named c.args.plan.now.name) (sym c.in_ok-tree.ensures))) in
    never_taken c.args.plan.now c.in_ok-tree.tree free (rw c.in-Err-NameTaken.field-0-is at c.in-Err-NameTaken.ensures.cause)

-- an output that comes opens no window
pub finish-requires-clause-follows : goal.finish-requires-clause-follows
finish-requires-clause-follows c =
    let t = c.args.self.now.tree in
    let made = c.in-Ok.ensures.tree ∙ ap (output_added_tree c.args.plan.now) (c.in_ok-tree.ensures ∙ ap (λ (d : DeskValue). d.tree) c.self.view_is) in
    follows_made t (output_added_tree c.args.plan.now t) c.output_added.new.t made (kept_output_added c.args.plan.now t)
