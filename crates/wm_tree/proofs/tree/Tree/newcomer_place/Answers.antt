use Rattle.wm_tree.proofs.PlaceLemmas.{place_fits}
use Rattle.wm_tree.proofs.tree.Tree.newcomer_place.Goals as goal

pub returns-clause-there : goal.returns-clause-there
returns-clause-there c = λ s. rw c.place_of_newcomer.ensures (place_fits c.args.self.now s).0

pub returns-clause-fit : goal.returns-clause-fit
returns-clause-fit c = λ s. rw c.place_of_newcomer.ensures (place_fits c.args.self.now s).1
