-- The bytes that the text writes are those so far, and then those that the rest writes.
use Rattle.std.proofs.Common.{◌≡◌, ◌+◌, ◌*◌, ◌%◌, ◌≤◌, length}
use Rattle.std.specs.Slice.Iter.{chunks_exact_rest, chunks_exact_size}
use Rattle.hexadecimal.specs.Hex.{pairs, bytes_of}
use Rattle.hexadecimal.proofs.decode.Given as goal

abbrev pub invariant-loop-digits : goal.invariant-loop-digits
invariant-loop-digits l = record {
  next : goal.iterator-loop-digits.can_next l.digits-iterator;
  finite : goal.iterator-loop-digits.is_finite l.digits-iterator;
  size : chunks_exact_size l.digits-iterator ≡ 2;
  even : length (chunks_exact_rest l.digits-iterator) % 2 ≡ 0;
  room : 2 * length l.bytes.items + length (chunks_exact_rest l.digits-iterator) ≤ 128;
  written : bytes_of l.text ≡ pairs l.bytes.items (chunks_exact_rest l.digits-iterator);
}
