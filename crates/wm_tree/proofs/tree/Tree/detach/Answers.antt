use Rattle.std.proofs.Common.{arith, rules}
use Rattle.std.proofs.lemmas.Grind.{common_steps}
use Rattle.wm_tree.specs.Words.{detached}
use Rattle.wm_tree.proofs.SoundLemmas.{as_is, gone_by, lost_by, none_new_by, sound-detached}
use Rattle.wm_tree.proofs.tree.Tree.detach.Goals as goal

pub returns-clause-none_new : goal.returns-clause-none_new
returns-clause-none_new c =
    λ v h. none_new_by c.args.con c.args.self.now _ v (first_of (search rules, grind (arith, common_steps))) h

pub returns-clause-gone : goal.returns-clause-gone
returns-clause-gone c =
    λ s. gone_by c.args.con c.args.self.now _ (first_of (search rules, grind (arith, common_steps))) s

pub returns-clause-sound : goal.returns-clause-sound
returns-clause-sound c =
    λ ok s. as_is (detached c.args.con c.args.self.now) _ (first_of (search rules, grind (arith, common_steps))) (sound-detached c.args.con c.args.self.now (ok (rw (← c.self.view_is) c.in-Some.ensures.taken.0)) s)

pub returns-clause-lost : goal.returns-clause-lost
returns-clause-lost c =
    λ i. lost_by c.args.con c.args.self.now _ i (first_of (search rules, grind (arith, common_steps)))
