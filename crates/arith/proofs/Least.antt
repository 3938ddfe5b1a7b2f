-- The least number that passes a test. Assumes nothing.
use mathlib.Core.Bool.{Bool, false, true, true≢false}
use mathlib.Core.Logic.{inl, inr}
use mathlib.Core.Path.{ap, sym, ◌∙◌, ◌≡◌}
use Prim.Native.Nat.{◌+◌, ◌<◌, suc, zero, ℕ, ◌≤◌}
use native.Mathlib.Numerals.{lt_of_le_of_ne}
use native.Mathlib.Omega.{arith}
use Rattle.arith.proofs.Tests.{test}
use Rattle.arith.specs.Lists.{least_from}

module _ (f : ℕ → Bool) where
  pub least_from_hit : (k m : ℕ) → f k ≡ true → least_from f k (suc m) ≡ k
  least_from_hit k m e = rw (e, least_from)

  pub least_from_miss : (k m : ℕ) → f k ≡ false → least_from f k (suc m) ≡ least_from f (suc k) m
  least_from_miss k m e = rw (e, least_from)

  pub least_from_one : (m : ℕ) → 2 ≤ m → f 0 ≡ false → f 1 ≡ true → least_from f 0 m ≡ 1
  least_from_one zero h a b = omega arith
  least_from_one (suc zero) h a b = omega arith
  least_from_one (suc (suc m)) h a b = least_from_miss 0 (suc m) a ∙ least_from_hit 1 m b

  pub least_from_two : (m : ℕ) → 3 ≤ m → f 0 ≡ false → f 1 ≡ false → f 2 ≡ true → least_from f 0 m ≡ 2
  least_from_two zero h a b c = omega arith
  least_from_two (suc zero) h a b c = omega arith
  least_from_two (suc (suc zero)) h a b c = omega arith
  least_from_two (suc (suc (suc m))) h a b c = least_from_miss 0 (suc (suc m)) a ∙ least_from_miss 1 (suc m) b ∙ least_from_hit 2 m c

  -- it is the least, and it passes if one below k + m does
  pub least_from_le : (k m j : ℕ) → k ≤ j → f j ≡ true → least_from f k m ≤ j
  least_from_le k zero j h e = h
  least_from_le k (suc m) j h e =
      elim (test (f k)) [
        | inl d ↦ rw (least_from_hit k m d) h
        | inr d ↦ rw (least_from_miss k m d) (least_from_le (suc k) m j (lt_of_le_of_ne h (λ p. true≢false (sym e ∙ ap f (sym p) ∙ d))) e)
      ]

  pub least_from_passes : (k m j : ℕ) → k ≤ j → j < k + m → f j ≡ true → f (least_from f k m) ≡ true
  least_from_passes k zero j h l e = absurd (let z : ⊥ = omega arith in z)
  least_from_passes k (suc m) j h l e =
      elim (test (f k)) [
        | inl d ↦ rw (least_from_hit k m d) d
        | inr d ↦ rw (least_from_miss k m d) (least_from_passes (suc k) m j (lt_of_le_of_ne h (λ p. true≢false (sym e ∙ ap f (sym p) ∙ d))) (omega arith) e)
      ]
