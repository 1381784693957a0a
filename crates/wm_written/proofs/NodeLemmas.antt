-- What is sent for a node.
use Rattle.std.proofs.Common.{◌≡◌, List, [], ◌∷◌, ◌++◌, Some, codes, sym, ap, ◌∙◌, append_assoc}
use Rattle.json.specs.Token.{Token, begin_object, end_object}
use Rattle.serde_json.specs.Data.{Data}
use Rattle.wm_json.specs.Nodes.{border_fields, last_fields, middle_fields, node_data, node_object, nodes_data}
use Rattle.wm_json.specs.Objects.{always}
use Rattle.wm_json.specs.declared.views.NodeView.{NodeView}
use Rattle.wm_json.specs.declared.views.NodeView.TheFolds.{fold_out-NodeView}
use Rattle.wm_json.specs.declared.views.NodeView.TheViews.{out-NodeView}
use Rattle.wm_json.proofs.NodeLemmas.{all_fields}
use Rattle.wm_written.specs.Sent.{sent, sent_fields, sent_if}
use Rattle.wm_written.proofs.SentLemmas.{fields_joined, object_is}

regroup : (b f m k l e : List Token) → (b ++ ((f ++ m) ++ (k ++ l))) ++ e ≡ b ++ (f ++ (m ++ (k ++ (l ++ e))))
regroup b f m k l e =
    append_assoc b ((f ++ m) ++ (k ++ l)) e
    ∙ ap (λ s. b ++ s) (append_assoc (f ++ m) (k ++ l) e ∙ append_assoc f m ((k ++ l) ++ e) ∙ ap (λ s. f ++ (m ++ s)) (append_assoc k l e))

-- the groups of fields, one after another, in braces
pub node_sent : (n : NodeView) →
    begin_object ∷ (sent_fields (border_fields (out-NodeView n))
    ++ (sent_if (codes "floating_nodes") (Some (nodes_data (out-NodeView n).floating_nodes))
    ++ (sent_fields (middle_fields (out-NodeView n))
    ++ (sent_if (codes "nodes") (Some (nodes_data (out-NodeView n).nodes))
    ++ (sent_fields (last_fields (out-NodeView n)) ++ end_object ∷ [])))))
    ≡ sent (node_data n)
node_sent n =
    let x = out-NodeView n in
    let b = border_fields x in
    let m = middle_fields x in
    let l = last_fields x in
    let floating = always (codes "floating_nodes") (nodes_data x.floating_nodes) in
    let tiled = always (codes "nodes") (nodes_data x.nodes) in
    let joined = fields_joined b ((floating ∷ m) ++ (tiled ∷ l)) ∙ ap (λ s. sent_fields b ++ s) (fields_joined (floating ∷ m) (tiled ∷ l)) in
    ap (λ s. begin_object ∷ s) (
    sym (regroup (sent_fields b) (sent_if floating.0 floating.1) (sent_fields m) (sent_if tiled.0 tiled.1) (sent_fields l) (end_object ∷ []))
    ∙ ap (λ s. s ++ end_object ∷ []) (sym joined))
    ∙ sym (object_is (all_fields x))
    ∙ ap sent (sym (fold_out-NodeView Data node_object n))
