use Rattle.std.proofs.Common.{[]}
use Rattle.serde_json.specs.View.{view}
use Rattle.wm_saved.proofs.FitLemmas.{trees_fit}
use Rattle.wm_saved.proofs.reading.read_layout.Goals as goal

pub returns-in-Ok-None-clause-fit : goal.returns-in-Ok-None-clause-fit
returns-in-Ok-None-clause-fit c = trees_fit [] (view c.args.value.now) c.in_ok-trees.trees c.in_ok-trees.ensures
