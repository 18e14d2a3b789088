use Rattle.std.proofs.Common.{◌≡◌, drop}
use Rattle.compact.specs.Quick.{with_bytes}
use Rattle.compact.proofs.quick.with_bytes.Given as goal

abbrev pub invariant-loop-byte : goal.invariant-loop-byte
invariant-loop-byte l = with_bytes l.now (drop l.byte-index l.bytes) ≡ with_bytes l.fn.print l.bytes
