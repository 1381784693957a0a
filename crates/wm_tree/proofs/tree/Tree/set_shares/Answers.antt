use Rattle.std.proofs.Common.{arith, rules}
use Rattle.std.proofs.lemmas.Grind.{common_steps}
use Rattle.wm_tree.specs.Words.{with_shares}
use Rattle.wm_tree.proofs.SharesLemmas.{sound-shared}
use Rattle.wm_tree.proofs.SoundLemmas.{as_is}
use Rattle.wm_tree.proofs.tree.Tree.set_shares.Goals as goal

pub returns-clause-sound : goal.returns-clause-sound
returns-clause-sound c =
    λ ok s. as_is (with_shares c.args.con c.args.siblings.now c.args.self.now) _ (first_of (search rules, grind (arith, common_steps))) (sound-shared c.args.con c.args.siblings.now c.args.self.now ok s)
