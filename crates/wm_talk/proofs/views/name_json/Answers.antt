use Rattle.std.proofs.Common.{codes}
use Rattle.serde_json.specs.View.{view}
use Rattle.wm_talk.proofs.ValueLemmas.{if_ok_weaker, one_text_is}
use Rattle.wm_talk.proofs.views.name_json.Goals as goal

pub returns : goal.returns
returns c = if_ok_weaker c.compact.result c.compact.ensures.text (λ bytes written. one_text_is (codes "name") c.args.name.now bytes.items (view c.in_ok-value.value) c.in_ok-value.ensures written)
