use Rattle.std.proofs.Common.{map, take}
use Rattle.serde_json.specs.Data.{string}
use Rattle.wm_written.specs.Sent.{Sends, sent_all}
use Rattle.wm_written.proofs.fields.put_texts.Given as goal

-- what was sent for those so far
abbrev pub invariant-loop-value : goal.invariant-loop-value
invariant-loop-value l = Sends l.initial.out l.out (sent_all (map string (take l.value-index l.values)))
