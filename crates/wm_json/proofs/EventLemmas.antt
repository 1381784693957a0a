-- The texts of events.
use Rattle.std.proofs.Common.{ℕ, List, Option, rules}
use Rattle.json.specs.Print.{quoted}
use Rattle.serde_json.specs.Data.{string}
use Rattle.wm_json.specs.Arrays.{texts_data, texts_text}
use Rattle.wm_json.specs.Events.{binding_fields, binding_texts, body_fields, body_texts}
use Rattle.wm_json.specs.Nodes.{node_data, node_text}
use Rattle.wm_json.specs.Objects.{null_or, object_text, object_with, or_null}
use Rattle.wm_json.specs.declared.views.EventBody.{EventBody}
use Rattle.wm_json.specs.declared.views.EventBody.TheVariants as body
use Rattle.wm_json.specs.declared.views.NodeView.{NodeView}
use Rattle.wm_json.proofs.NodeTextLemmas.{node_prints}
use Rattle.wm_json.proofs.PrintLemmas.{Print, Prints, prints_array, prints_flag, prints_number, prints_object, prints_or_null, prints_text}

prints_texts : (ts : List (List ℕ)) → Prints (texts_data ts) (texts_text ts)
prints_texts = prints_array string quoted prints_text

prints_node_or_null : (o : Option NodeView) → Prints (or_null node_data o) (null_or node_text o)
prints_node_or_null = prints_or_null node_data node_text node_prints

prints_binding : (command : List ℕ) (mask : List (List ℕ)) (symbol : List ℕ) → Prints (object_with (binding_fields command mask symbol)) (object_text (binding_texts command mask symbol))
prints_binding command mask symbol =
    let fields : Print (binding_fields command mask symbol) (binding_texts command mask symbol) = search (rules, prints_text, prints_texts, prints_number) in
    prints_object (binding_fields command mask symbol) (binding_texts command mask symbol) fields

print_body : (b : EventBody) → Print (body_fields b) (body_texts b)
print_body body.Output = search (rules, prints_text)
print_body (body.Workspace change current before) = search (rules, prints_text, node_prints, prints_node_or_null)
print_body (body.Window change container) = search (rules, prints_text, node_prints)
print_body (body.Mode change) = search (rules, prints_text, prints_flag)
print_body (body.Binding command mask symbol) = search (rules, prints_text, prints_binding)
print_body (body.Tick first payload) = search (rules, prints_text, prints_flag)
print_body body.Shutdown = search (rules, prints_text)

-- the object of an event has no float, and this text
pub body_prints : (b : EventBody) → Prints (object_with (body_fields b)) (object_text (body_texts b))
body_prints b = prints_object (body_fields b) (body_texts b) (print_body b)
