use Rattle.std.proofs.Common.{arith, rules}
use Rattle.std.proofs.lemmas.Grind.{common_steps}
use Rattle.wm_tree.specs.Move.{marked}
use Rattle.wm_tree.proofs.MarkLemmas.{sound-marked}
use Rattle.wm_tree.proofs.SoundLemmas.{as_is}
use Rattle.wm_tree.proofs.tree.Tree.add_mark.Goals as goal

pub returns-clause-sound : goal.returns-clause-sound
returns-clause-sound c =
    λ ok s. as_is (marked c.args.con c.args.n.now c.args.self.now) _ (first_of (search rules, grind (arith, common_steps))) (sound-marked c.args.con c.args.n.now c.args.self.now (ok c.in_ok-marks.ensures.there.0) c.in_ok-marks.ensures.there.1 s)
