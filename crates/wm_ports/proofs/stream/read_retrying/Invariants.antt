use Rattle.std.proofs.Common.{◌<◌, length}
use Rattle.std.specs.Io.KnownBytes.{Keeps}
use Rattle.wm_ports.proofs.stream.read_retrying.Given as goal

abbrev pub invariant-loop : goal.invariant-loop
invariant-loop g l = (0 < length l.room) × Keeps (g.R.Read.remaining l.initial.reader) (g.R.Read.remaining l.reader)
