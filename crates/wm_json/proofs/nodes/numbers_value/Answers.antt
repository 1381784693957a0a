use Rattle.std.proofs.Common.{◌∙◌, ap, map}
use Rattle.std.proofs.lemmas.List.{take_all}
use Rattle.serde_json.specs.Data.{array}
use Rattle.serde_json.specs.View.{items_of}
use Rattle.serde_json.proofs.Views.{view-Array}
use Rattle.wm_json.specs.Objects.{whole_number}
use Rattle.wm_json.proofs.nodes.numbers_value.Goals as goal

pub returns : goal.returns
returns c =
    view-Array c.loop-number.values
    ∙ ap (λ ds. array (items_of ds)) (c.loop-number.invariant ∙ ap (map whole_number) (take_all c.loop-number.number-index c.args.numbers.now c.loop-number-test.false))
