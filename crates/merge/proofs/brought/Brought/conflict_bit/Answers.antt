-- `merge::brought::Brought::conflict_bit` meets its contract. Assumes nothing.
use Rattle.std.proofs.Common.{arith, subst, sym, ℕ, ◌%◌, ◌*◌, ◌+◌, ◌-◌, ◌/◌, ◌≡◌}
use Rattle.arith.specs.Digits.{bit_of}
use Rattle.packed.proofs.FirstLaws.{Passed, passed_over, same_bits, turn_ends, turn_finds, turn_goes}
use Rattle.packed.specs.Inside.Search.{FirstFrom}
use Rattle.merge.proofs.ConflictLaws.{alike_none}
use Rattle.merge.proofs.brought.Brought.conflict_bit.Goals as goal

-- the first bit of the word, from that of i on
found : (word i : ℕ) {r : ℕ} → i % 8 ≡ 0 → FirstFrom (λ j. bit_of word (63 - j)) 0 64 r → FirstFrom (λ j. bit_of word (63 - j)) (i % 8) 64 r
found word i {r} e f = subst (λ m. FirstFrom (λ j. bit_of word (63 - j)) m 64 r) (sym e) f

pub returns-then-end-i : goal.returns-then-end-i
returns-then-end-i c =
    let inv = c.loop-i.invariant in
    turn_ends _ inv.0 c.conflicts_at-word.ensures (found _ _ inv.1 c.first_one-found.ensures) (omega (arith, c.if-end-i.true, inv.1))

pub returns-then-found-lt64 : goal.returns-then-found-lt64
returns-then-found-lt64 c =
    let inv = c.loop-i.invariant in
    let i = c.loop-i.i in
    let r = c.first_one-found.result in
    let e : i + (r - i % 8) ≡ i + r = omega (arith, inv.1) in (
      subst (FirstFrom _ 0 _) e
          (turn_finds _ inv.0 c.conflicts_at-word.ensures (found _ _ inv.1 c.first_one-found.ensures) (omega (arith, c.if-end-i.false, inv.1)) c.if-found-lt64.true),
      omega (arith, c.if-end-i.false),
    )

-- the words after this one that both left alike
pub loop-i-preserved : goal.loop-i-preserved
loop-i-preserved c =
    let inv = c.loop-i.invariant in
    let i = c.loop-i.i in
    let e : i + (64 - i % 8) ≡ 8 * (i / 8 + 8) = omega arith in
    let p = subst (Passed _ 0 _) e
    (turn_goes _ inv.0 c.conflicts_at-word.ensures (found _ _ inv.1 c.first_one-found.ensures) (omega (arith, c.if-end-i.false, inv.1)) c.if-found-lt64.false) in (
      passed_over _ p (omega arith) (omega (arith, p.stop, c.same_words.ensures.stop))
          (λ m a b. alike_none _ _ m (same_bits _ _ _ c.same_words.ensures m a b)),
      omega arith,
    )
