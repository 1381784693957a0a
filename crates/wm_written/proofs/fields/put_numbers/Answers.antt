use Rattle.std.proofs.Common.{sym, ap, ◌∷◌}
use Rattle.std.proofs.lemmas.Result.{on_ok_weaker}
use Rattle.wm_json.specs.Objects.{whole_number}
use Rattle.json.specs.Token.{key}
use Rattle.wm_written.proofs.SentLemmas.{array_sent, sends_is, sends_then, taken_more}
use Rattle.wm_written.proofs.fields.put_numbers.Goals as goal

pub loop-value-preserved : goal.loop-value-preserved
loop-value-preserved c = sends_is (sends_then c.loop-value.invariant c.in_ok-whole.ensures) (sym (taken_more whole_number c.args.values.now c.loop-value.value-index _ c.loop-value-test.true))

pub returns : goal.returns
returns c =
    on_ok_weaker _ (λ last. sends_is (sends_then c.in_ok-name.ensures (sends_then c.in_ok-open_array.ensures (sends_then c.loop-value.invariant last))) (ap (λ ts. key c.args.field.now ∷ ts) (array_sent whole_number c.args.values.now c.loop-value.value-index c.loop-value-test.false))) c.close_array.ensures
