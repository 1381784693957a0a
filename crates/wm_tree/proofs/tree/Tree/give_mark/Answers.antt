use Rattle.std.proofs.Common.{◌++◌, ◌∷◌, [], subst, arith, rules}
use Rattle.std.proofs.lemmas.Grind.{common_steps}
use Rattle.wm_tree.specs.Marks.{all_or_none, freed}
use Rattle.wm_tree.specs.Move.{marks_in, with_marks}
use Rattle.wm_tree.specs.Sound.{IsSound}
use Rattle.wm_tree.proofs.GivingLemmas.{as_given, given_sound}
use Rattle.wm_tree.proofs.SoundLemmas.{as_is}
use Rattle.wm_tree.proofs.tree.Tree.give_mark.Goals as goal

pub returns-clause-ok : goal.returns-clause-ok
returns-clause-ok c =
    as_given c.args.con c.args.n.now c.args.add c.args.self.now c.requires.other _ (first_of (search rules, grind (arith, common_steps)))

pub returns-clause-sound : goal.returns-clause-sound
returns-clause-sound c =
    let there = c.in_ok-marks.ensures.there in
    let off : IsSound (freed c.args.con c.args.n.now c.args.self.now) = subst IsSound c.take_mark.ensures.tree (c.take_mark.ensures.sound c.requires.sound) in
    as_is (with_marks c.args.con (all_or_none c.args.add (marks_in c.args.con c.args.self.now.nodes) ++ c.args.n.now ∷ []) (freed c.args.con c.args.n.now c.args.self.now)) _ (first_of (search rules, grind (arith, common_steps)))
    (given_sound c.args.con c.args.n.now c.args.add c.args.self.now c.requires.kind there.0 c.requires.other there.1 off)
