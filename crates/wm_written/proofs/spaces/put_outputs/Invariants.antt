use Rattle.std.proofs.Common.{map, take}
use Rattle.wm_json.specs.Spaces.{output_data}
use Rattle.wm_written.specs.Sent.{Sends, sent_all}
use Rattle.wm_written.proofs.spaces.put_outputs.Given as goal

-- what was sent for those so far
abbrev pub invariant-loop-output : goal.invariant-loop-output
invariant-loop-output l = Sends l.initial.out l.out (sent_all (map output_data (take l.output-index l.outputs)))
