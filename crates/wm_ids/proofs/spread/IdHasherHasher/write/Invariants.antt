use Rattle.std.proofs.Common.{◌≡◌, take, fold}
use Rattle.wm_ids.specs.Spread.{byte_behind}
use Rattle.wm_ids.proofs.spread.IdHasherHasher.write.Given as goal

abbrev pub invariant-loop-byte : goal.invariant-loop-byte
invariant-loop-byte l = l.self.number ≡ fold byte_behind l.fn.self.number (take l.byte-index l.bytes)
