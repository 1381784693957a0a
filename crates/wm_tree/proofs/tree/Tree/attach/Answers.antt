use Rattle.std.proofs.Common.{arith, rules}
use Rattle.std.proofs.lemmas.Grind.{common_steps}
use Rattle.wm_tree.specs.Words.{attached}
use Rattle.wm_tree.proofs.AttachLemmas.{one_new_by, sound-attached}
use Rattle.wm_tree.proofs.SoundLemmas.{as_is}
use Rattle.wm_tree.proofs.tree.Tree.attach.Goals as goal

pub returns-clause-sound : goal.returns-clause-sound
returns-clause-sound c =
    λ ok s. as_is (attached c.args.at c.args.new c.args.self.now) _ (first_of (search rules, grind (arith, common_steps))) (sound-attached c.args.at c.args.new c.args.self.now c.in_ok-row.ensures.ok.0 ok c.in_ok-row.ensures.ok.1 s)

pub returns-clause-one_new : goal.returns-clause-one_new
returns-clause-one_new c =
    λ v h other. one_new_by c.args.at c.args.new c.args.self.now _ v (first_of (search rules, grind (arith, common_steps))) c.in_ok-row.ensures.ok.0 h other
