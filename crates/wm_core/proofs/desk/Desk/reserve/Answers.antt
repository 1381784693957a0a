use Rattle.std.proofs.Common.{◌≡◌, Option, Some, None, ap, refl, sym, ◌∙◌}
use Rattle.wm_base.specs.declared.ids.ConId.{ConId}
use Rattle.wm_spaces.specs.Names.{output_named}
use Rattle.wm_history.specs.Act.{Reserve}
use Rattle.wm_opens.proofs.KeptLemmas.{kept_edited}
use Rattle.wm_forest.specs.declared.kind.KindEdit.TheVariants as edits
use Rattle.wm_tree.specs.Words.{edited, settled}
use Rattle.wm_core.specs.DeskValue.{DeskValue}
use Rattle.wm_history.specs.Effect.{leaving}
use Rattle.wm_history.specs.declared.step.Answer.TheVariants.{Done}
use Rattle.wm_history.proofs.FollowLemmas.{follows_made}
use Rattle.wm_core.proofs.StepLemmas.{taken}
use Rattle.wm_core.proofs.desk.Desk.reserve.Goals as goal

nothing : (o : Option ConId) → ((c : ConId) → o ≡ Some c → ⊥) → o ≡ None
nothing None h = refl
nothing (Some c) h = absurd (h c refl)

-- no output has the name, so nothing changes
pub returns-in_default : goal.returns-in_default
returns-in_default c =
    let seen = ap (λ (d : DeskValue). d.tree) c.self.view_is in
    let none : output_named c.args.name.now c.args.self.now.tree ≡ None =
    sym (c.in_ok-output.ensures ∙ ap (output_named c.args.name.now) seen) ∙ nothing c.in_ok-output.field-0 c.in_default.not-Some in
    taken _ _ _ _ (c.stay.ensures (record { who = c.args.who; act = Reserve c.args.name.now c.args.edges }) (rw none refl))

pub returns : goal.returns
returns c =
    let t = c.args.self.now.tree in
    let edges = edits.Reserved c.args.edges in
    let seen = ap (λ (d : DeskValue). d.tree) c.self.view_is in
    let named : output_named c.args.name.now t ≡ Some c.in-Some.output = sym (c.in_ok-output.ensures ∙ ap (output_named c.args.name.now) seen) ∙ c.in-Some.is in
    let made : c.set_reserved.new.self ≡ edited c.in-Some.output edges t = c.set_reserved.ensures.tree ∙ ap (edited c.in-Some.output edges) (c.in_ok-tree.ensures ∙ seen) in
    c.finish.ensures (record { who = c.args.who; act = Reserve c.args.name.now c.args.edges }) (rw named (ap (λ z. leaving Done t (settled z) None) (sym made)))

-- edges open no window
pub finish-requires-clause-follows : goal.finish-requires-clause-follows
finish-requires-clause-follows c =
    let t = c.args.self.now.tree in
    let edges = edits.Reserved c.args.edges in
    let seen = ap (λ (d : DeskValue). d.tree) c.self.view_is in
    let made : c.set_reserved.new.self ≡ edited c.in-Some.output edges t = c.set_reserved.ensures.tree ∙ ap (edited c.in-Some.output edges) (c.in_ok-tree.ensures ∙ seen) in
    follows_made t (edited c.in-Some.output edges t) c.set_reserved.new.self made (kept_edited c.in-Some.output edges t refl)
