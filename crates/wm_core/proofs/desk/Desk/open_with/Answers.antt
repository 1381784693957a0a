use Rattle.std.proofs.Common.{◌≡◌, Some, subst, sym}
use Rattle.wm_tree.specs.Sound.{IsSound}
use Rattle.wm_history.specs.Act.{text_if_some}
use Rattle.wm_history.specs.Follows.{Follows}
use Rattle.wm_history.specs.Effect.{then_outcome}
use Rattle.wm_history.proofs.FollowLemmas.{follows_then}
use Rattle.wm_history.proofs.MapLemmas.{kept_then}
use Rattle.wm_core.proofs.desk.Desk.open_with.Goals as goal

-- the text that the map brings opens no other window
pub take-answer-requires : goal.take-answer-requires
take-answer-requires c =
    let t = c.args.self.now.tree in
    let env = c.self.inside.plan.env in
    let then = text_if_some c.args.then.now in
    let fresh = Some (c.args.id, c.args.buffer) in
    let left = (then_outcome env then c.args.id c.args.tree).tree in
    let made : c.run_then.new.tree ≡ left = c.in-Ok.ensures.tree in
    let follows = follows_then t c.args.tree left fresh c.requires.come.sound (subst IsSound made c.run_then.ensures.sound) c.requires.come.follows (kept_then env then c.args.id c.args.tree) in
    record { few = c.requires.come.few; sound = c.run_then.ensures.sound; follows = subst (λ z. Follows t z fresh) (sym made) follows }
