use Rattle.std.proofs.Common.{map, take}
use Rattle.wm_json.specs.Objects.{whole_number}
use Rattle.wm_written.specs.Sent.{Sends, sent_all}
use Rattle.wm_written.proofs.fields.put_numbers.Given as goal

-- what was sent for those so far
abbrev pub invariant-loop-value : goal.invariant-loop-value
invariant-loop-value l = Sends l.initial.out l.out (sent_all (map whole_number (take l.value-index l.values)))
