use Rattle.std.proofs.Common.{◌≡◌, ℕ, suc, ◌+◌, ◌-◌, ◌%◌, ◌^◌, arith}
use native.Mathlib.Nat.{pow-suc, div-div-eq-div-mul}
use Rattle.overlay.proofs.Overlay.{overlay_first}
use Rattle.big_endian.specs.Bytes.{bytes_of}
use Rattle.big_endian.proofs.Numerals.{length_bytes}
use Rattle.big_endian.proofs.write_number.Goals as goal

pub loop-i-preserved : goal.loop-i-preserved
unfolding bytes_of
loop-i-preserved c =
    let start = c.args in
    let loop = c.loop-i in
    let j : ℕ = loop.i - 1 in
    let k : ℕ = start.width - loop.i in
    let one_more : start.width - j ≡ suc k = omega arith in
    let next : start.offset + loop.i ≡ suc (start.offset + j) = omega arith in
    let put = overlay_first start.bytes.now (start.offset + j) (loop.rest % 256) (bytes_of k start.n) (omega (arith, length_bytes k start.n)) in record {
      left = omega arith;
      written = rw one_more (rw (loop.invariant.written, next, ← loop.invariant.rest) put);
      rest = rw (one_more, pow-suc 256 k, loop.invariant.rest) (div-div-eq-div-mul start.n (256 ^ k) 256);
    }
