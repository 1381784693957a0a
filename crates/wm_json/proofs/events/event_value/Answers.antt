use Rattle.std.proofs.Common.{◌∙◌, ap}
use Rattle.serde_json.specs.Written.{has_float, compact_text}
use Rattle.serde_json.proofs.Views.{view-Object}
use Rattle.wm_json.proofs.EventLemmas.{body_prints}
use Rattle.wm_json.proofs.events.event_value.Goals as goal

pub returns-clause-value : goal.returns-clause-value
returns-clause-value c = view-Object c.put_body.new.members ∙ c.in_ok-put_body.ensures

pub returns-clause-text : goal.returns-clause-text
returns-clause-text c = ap compact_text (returns-clause-value c) ∙ (body_prints c.args.e.now.body).text

pub returns-clause-whole : goal.returns-clause-whole
returns-clause-whole c = ap has_float (returns-clause-value c) ∙ (body_prints c.args.e.now.body).whole
