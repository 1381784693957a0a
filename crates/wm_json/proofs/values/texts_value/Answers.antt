use Rattle.std.proofs.Common.{◌∙◌, ap, map}
use Rattle.std.proofs.lemmas.List.{take_all}
use Rattle.serde_json.specs.Data.{array, string}
use Rattle.serde_json.specs.View.{items_of}
use Rattle.serde_json.specs.Written.{has_float, compact_text}
use Rattle.serde_json.proofs.Views.{view-Array}
use Rattle.wm_json.proofs.TextLemmas.{texts_are, texts_whole}
use Rattle.wm_json.proofs.values.texts_value.Goals as goal

pub returns-clause-value : goal.returns-clause-value
returns-clause-value c =
    view-Array c.loop-text.values
    ∙ ap (λ ds. array (items_of ds)) (c.loop-text.invariant ∙ ap (map string) (take_all c.loop-text.text-index c.args.texts.now c.loop-text-test.false))

pub returns-clause-text : goal.returns-clause-text
returns-clause-text c = ap compact_text (returns-clause-value c) ∙ texts_are c.args.texts.now

pub returns-clause-whole : goal.returns-clause-whole
returns-clause-whole c = ap has_float (returns-clause-value c) ∙ texts_whole c.args.texts.now
