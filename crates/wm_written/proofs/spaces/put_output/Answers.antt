use Rattle.std.proofs.Common.{sym}
use Rattle.std.proofs.lemmas.Result.{on_ok_weaker}
use Rattle.wm_json.specs.Spaces.{output_fields}
use Rattle.wm_written.proofs.SentLemmas.{object_is, sends_is, sends_then}
use Rattle.wm_written.proofs.spaces.put_output.Goals as goal

pub returns : goal.returns
returns c =
    on_ok_weaker _ (λ last. sends_is (sends_then c.in_ok-open_object.ensures (sends_then c.in_ok-put_output_fields.ensures last)) (sym (object_is (output_fields c.args.o.now)))) c.close_object.ensures
