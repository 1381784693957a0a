use Rattle.std.proofs.Common.{◌≡◌, ◌+◌, ◌++◌, ◌≤◌, take, length}
use Rattle.wm_frames.proofs.head.Head.fill.Given as goal

-- the bytes so far, and their number
abbrev pub invariant-loop-byte : goal.invariant-loop-byte
invariant-loop-byte l = record {
  len : l.self-inside.len ≡ length l.fn.self + l.byte-index;
  room : length l.fn.self + l.count ≤ 14;
  bytes : take l.self-inside.len l.self-inside.bytes ≡ l.fn.self ++ take l.byte-index l.piece;
}
