-- All but the first i bytes are written.
use Rattle.std.proofs.Common.{◌≡◌, ◌+◌, ◌-◌, ◌/◌, ◌^◌, ◌≤◌}
use Rattle.overlay.specs.Overlay.{overlay}
use Rattle.big_endian.specs.Bytes.{bytes_of}
use Rattle.big_endian.proofs.write_number.Given as goal

abbrev pub invariant-loop-i : goal.invariant-loop-i
invariant-loop-i l = record {
  left : l.i ≤ l.width;
  written : l.bytes ≡ overlay l.fn.bytes (l.offset + l.i) (bytes_of (l.width - l.i) l.n);
  rest : l.rest ≡ l.n / 256 ^ (l.width - l.i);
}
