use Rattle.std.proofs.Common.{rules, None, ap, subst, sym, ◌∙◌}
use Rattle.wm_opens.proofs.KeptLemmas.{kept_settled}
use Rattle.wm_tree.proofs.SettleLemmas.{sound-settled}
use Rattle.wm_tree.specs.Words.{settled}
use Rattle.wm_history.specs.Follows.{Follows}
use Rattle.wm_history.specs.Effect.{leaving}
use Rattle.wm_history.specs.declared.step.Answer.TheVariants.{Done}
use Rattle.wm_history.proofs.FollowLemmas.{follows_then}
use Rattle.wm_core.proofs.StandsLemmas.{answered, there_by}
use Rattle.wm_core.proofs.StepLemmas.{answered_alone, none_answered}
use Rattle.wm_core.proofs.desk.Desk.finish.Goals as goal

-- settling opens no window
pub commit-requires : goal.commit-requires
commit-requires c =
    let t = c.args.self.now.tree in
    let follows = subst (λ z. Follows t z None) (sym c.settle.ensures.tree) (follows_then t c.args.tree (settled c.args.tree) None c.requires.sound (sound-settled c.args.tree c.requires.sound) c.requires.follows (kept_settled c.args.tree)) in
    record { few = c.requires.few; sound = search rules; follows = follows }

pub returns : goal.returns
returns c = λ entry is.
    let d = c.args.self.now in
    let here = is ∙ ap (λ z. leaving Done d.tree z None) (sym c.settle.ensures.tree) in
    answered_alone d c.commit.new.self Done entry (there_by d entry _ is) (λ start history s. answered d start history s entry _ is) (c.in_ok-commit.ensures.commits entry Done None None here)

pub returns-in_err-commit : goal.returns-in_err-commit
returns-in_err-commit c = λ entry is.
    let d = c.args.self.now in
    let here = is ∙ ap (λ z. leaving Done d.tree z None) (sym c.settle.ensures.tree) in
    none_answered d c.commit.new.self None _ entry c.from_residual.result _ _ c.from_residual.ensures.1 (c.in_err-commit.ensures.commits entry Done None None here)
