use Rattle.std.proofs.Common.{arith, rules}
use Rattle.std.proofs.lemmas.Grind.{common_steps}
use Rattle.wm_tree.specs.Move.{moved}
use Rattle.wm_tree.proofs.MoveLemmas.{ones_moved_by, sound-moved}
use Rattle.wm_tree.proofs.SoundLemmas.{as_is}
use Rattle.wm_tree.proofs.tree.Tree.move_to.Goals as goal

pub returns-in-Some-clause-sound : goal.returns-in-Some-clause-sound
returns-in-Some-clause-sound c =
    λ m s. let k = c.in_ok-share.ensures.ok in as_is (moved c.args.con c.args.at c.args.self.now) _ (first_of (search rules, grind (arith, common_steps))) (sound-moved c.args.con c.args.at c.args.self.now (m.0 k.0) k.0 k.1 (m.2 k.0 k.1) m.1 k.2 s)

pub returns-in-Some-clause-kept : goal.returns-in-Some-clause-kept
returns-in-Some-clause-kept c =
    λ i. let k = c.in_ok-share.ensures.ok in ones_moved_by c.args.con c.args.at c.args.self.now _ k.1 (c.requires k.0 k.1) (first_of (search rules, grind (arith, common_steps))) i
