use Rattle.std.proofs.Common.{◌++◌, sym, ap, ◌∙◌}
use Rattle.std.proofs.lemmas.Result.{on_ok_weaker}
use Rattle.wm_json.specs.Nodes.{place_fields, share_fields, window_fields}
use Rattle.wm_json.specs.declared.views.NodeView.TheViews.{out-NodeView}
use Rattle.wm_written.specs.Sent.{sent_fields}
use Rattle.wm_written.proofs.SentLemmas.{fields_joined, sends_is, sends_then}
use Rattle.wm_written.proofs.nodes.put_last.Goals as goal

pub returns : goal.returns
returns c =
    let x = out-NodeView c.args.n.now in
    let joined = fields_joined (place_fields x) (share_fields x ++ window_fields x) ∙ ap (λ s. sent_fields (place_fields x) ++ s) (fields_joined (share_fields x) (window_fields x)) in
    on_ok_weaker _ (λ last. sends_is (sends_then c.in_ok-put_place.ensures (sends_then c.in_ok-put_share.ensures last)) (sym joined)) c.put_window.ensures
