use Rattle.std.proofs.Common.{map, take}
use Rattle.wm_json.specs.Spaces.{workspace_data}
use Rattle.wm_written.specs.Sent.{Sends, sent_all}
use Rattle.wm_written.proofs.spaces.put_workspaces.Given as goal

-- what was sent for those so far
abbrev pub invariant-loop-space : goal.invariant-loop-space
invariant-loop-space l = Sends l.initial.out l.out (sent_all (map workspace_data (take l.space-index l.spaces)))
