-- n is the number in the bytes before this one.
use Rattle.std.proofs.Common.{◌≡◌, ◌^◌, ◌<◌}
use Rattle.big_endian.specs.Bytes.{big_endian}
use Rattle.big_endian.proofs.read_number.Given as goal

abbrev pub invariant-loop-byte : goal.invariant-loop-byte
invariant-loop-byte l = (l.n ≡ big_endian l.bytes l.offset l.byte-index) × (l.n < 256 ^ l.byte-index)
