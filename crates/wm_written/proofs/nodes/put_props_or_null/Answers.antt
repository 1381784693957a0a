use Rattle.std.proofs.Common.{Some, sym, ap}
use Rattle.std.proofs.lemmas.Result.{on_ok_weaker}
use Rattle.wm_json.specs.Nodes.{properties_data}
use Rattle.wm_json.specs.Objects.{or_null}
use Rattle.wm_written.specs.Sent.{sent_if}
use Rattle.wm_written.proofs.SentLemmas.{sends_is}
use Rattle.wm_written.proofs.nodes.put_props_or_null.Goals as goal

pub returns-in-Some : goal.returns-in-Some
returns-in-Some c =
    on_ok_weaker _ (λ last. sends_is last (ap (λ p. sent_if c.args.field.now (Some (or_null properties_data p))) (sym c.in-Some.is))) c.put_props.ensures
