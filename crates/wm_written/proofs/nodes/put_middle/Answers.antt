use Rattle.std.proofs.Common.{sym}
use Rattle.std.proofs.lemmas.Result.{on_ok_weaker}
use Rattle.wm_json.specs.Nodes.{focus_fields, name_fields}
use Rattle.wm_json.specs.declared.views.NodeView.TheViews.{out-NodeView}
use Rattle.wm_written.proofs.SentLemmas.{fields_joined, sends_is, sends_then}
use Rattle.wm_written.proofs.nodes.put_middle.Goals as goal

pub returns : goal.returns
returns c =
    let x = out-NodeView c.args.n.now in
    on_ok_weaker _ (λ last. sends_is (sends_then c.in_ok-put_focus.ensures last) (sym (fields_joined (focus_fields x) (name_fields x)))) c.put_name.ensures
