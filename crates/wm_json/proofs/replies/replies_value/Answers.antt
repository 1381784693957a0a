use Rattle.std.proofs.Common.{◌∙◌, ap, map}
use Rattle.std.proofs.lemmas.List.{take_all}
use Rattle.serde_json.specs.Data.{array}
use Rattle.serde_json.specs.View.{items_of}
use Rattle.serde_json.specs.Written.{has_float, compact_text}
use Rattle.serde_json.proofs.Views.{view-Array}
use Rattle.wm_json.specs.Replies.{reply_data}
use Rattle.wm_json.proofs.TextLemmas.{replies_are, replies_whole}
use Rattle.wm_json.proofs.replies.replies_value.Goals as goal

pub returns-clause-value : goal.returns-clause-value
returns-clause-value c =
    view-Array c.loop-reply.values
    ∙ ap (λ ds. array (items_of ds)) (c.loop-reply.invariant ∙ ap (map reply_data) (take_all c.loop-reply.reply-index c.args.r.now c.loop-reply-test.false))

pub returns-clause-text : goal.returns-clause-text
returns-clause-text c = ap compact_text (returns-clause-value c) ∙ replies_are c.args.r.now

pub returns-clause-whole : goal.returns-clause-whole
returns-clause-whole c = ap has_float (returns-clause-value c) ∙ replies_whole c.args.r.now
