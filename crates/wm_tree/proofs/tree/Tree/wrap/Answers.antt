use Rattle.std.proofs.Common.{arith, rules}
use Rattle.std.proofs.lemmas.Grind.{common_steps}
use Rattle.wm_tree.specs.Move.{wrapped}
use Rattle.wm_tree.proofs.WrapLemmas.{sound-wrapped}
use Rattle.wm_tree.proofs.SoundLemmas.{as_is}
use Rattle.wm_tree.proofs.tree.Tree.wrap.Goals as goal

pub returns-clause-sound : goal.returns-clause-sound
returns-clause-sound c =
    λ ok s. let k = c.in_ok-share.ensures.ok in as_is (wrapped c.args.con c.args.layout c.args.self.now) _ (first_of (search rules, grind (arith, common_steps))) (sound-wrapped c.args.con c.args.layout c.args.self.now k.0 (ok k.0) k.1 s)
