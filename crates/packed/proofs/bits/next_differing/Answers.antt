-- `packed::bits::next_differing` meets its contract: a walk over words, and the two agree on every bit before i. Assumes nothing.
use mathlib.Core.Path.{subst, ◌≡◌}
use Prim.Native.Nat.{◌%◌, ◌*◌, ◌+◌, ◌-◌, ◌/◌}
use native.Mathlib.Omega.{arith}
use lib.Bits.{bit_xor}
use Rattle.packed.proofs.FirstLaws.{differ_same, Passed, passed_over, same_bits, turn_ends, turn_finds, turn_goes, word_has_differing}
use Rattle.packed.proofs.bits.next_differing.Goals as goal

pub returns-then-to-i : goal.returns-then-to-i
returns-then-to-i c =
    turn_ends (bit_xor c.word_at.result c.word_at-in-loop-i.result) c.loop-i.invariant
    (word_has_differing _ _ _ c.word_at.ensures c.word_at-in-loop-i.ensures) c.first_one-found.ensures c.if-to-i.true

pub returns-then-found-lt64 : goal.returns-then-found-lt64
returns-then-found-lt64 c = (
  turn_finds (bit_xor c.word_at.result c.word_at-in-loop-i.result) c.loop-i.invariant
      (word_has_differing _ _ _ c.word_at.ensures c.word_at-in-loop-i.ensures) c.first_one-found.ensures c.if-to-i.false c.if-found-lt64.true,
  omega (arith, c.if-to-i.false),
)

-- the words after this one that are the same
pub loop-i-preserved : goal.loop-i-preserved
loop-i-preserved c =
    let i = c.loop-i.i in
    let e : i + (64 - i % 8) ≡ 8 * (i / 8 + 8) = omega arith in
    let p = subst (Passed _ _ _) e (turn_goes (bit_xor c.word_at.result c.word_at-in-loop-i.result) c.loop-i.invariant
    (word_has_differing _ _ _ c.word_at.ensures c.word_at-in-loop-i.ensures) c.first_one-found.ensures c.if-to-i.false c.if-found-lt64.false) in
    passed_over _ p (omega arith) (omega (arith, p.stop, c.same_words.ensures.stop))
    (λ k a b. differ_same (same_bits _ _ _ c.same_words.ensures k a b))
