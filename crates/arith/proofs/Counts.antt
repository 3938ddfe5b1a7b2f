-- Counts of the numbers below n that pass a test: none, all, no fewer, more, and what a full count says. Assumes nothing.
use mathlib.Core.Bool.{Bool, false, true}
use mathlib.Core.Logic.{inl, inr}
use mathlib.Core.Path.{ap, refl, sym, ◌∙◌, ◌≡◌}
use Prim.Native.Nat.{◌<◌, suc, zero, ℕ, ◌≤◌}
use native.Mathlib.Decide.{dec_lt, ℕ_discrete}
use native.Mathlib.Omega.{arith}
use Rattle.arith.proofs.Sums.{count_to_le}
use Rattle.arith.proofs.Tests.{test}
use Rattle.arith.specs.Sums.{bit, count_to, sum_to}

pub count_none : (f : ℕ → Bool) (n : ℕ) → ((q : ℕ) → q < n → f q ≡ false) → count_to f n ≡ 0
unfolding sum_to
count_none f zero h = refl
count_none f (suc n) h = rw (count_none f n (λ q l. h q (omega arith)), h n (omega arith))

pub count_all : (f : ℕ → Bool) (n : ℕ) → ((q : ℕ) → q < n → f q ≡ true) → count_to f n ≡ n
unfolding sum_to
count_all f zero h = refl
count_all f (suc n) h = rw (count_all f n (λ q l. h q (omega arith)), h n (omega arith)) (omega arith)

-- where each that passes a test passes another, no fewer pass the other
pub count_within : (f g : ℕ → Bool) (n : ℕ) → ((q : ℕ) → q < n → f q ≡ true → g q ≡ true) → count_to f n ≤ count_to g n
unfolding sum_to
count_within f g zero h = omega arith
count_within f g (suc n) h =
    let ih = count_within f g n (λ q l. h q (omega arith)) in
    elim (test (f n)) [ inl t ↦ omega (arith, ih, ap bit t, ap bit (h n (omega arith) t)) | inr t ↦ omega (arith, ih, ap bit t) ]

-- and more do, where one that fails the first passes the other
pub count_fewer : (f g : ℕ → Bool) (n q : ℕ) → ((q : ℕ) → q < n → f q ≡ true → g q ≡ true) → q < n → f q ≡ false → g q ≡ true → count_to f n < count_to g n
unfolding sum_to
count_fewer f g zero q h l a b = absurd (omega arith)
count_fewer f g (suc n) q h l a b = elim (ℕ_discrete q n) [
  | yes e ↦ omega (arith, count_within f g n (λ r k. h r (omega arith)), ap bit (ap f (sym e) ∙ a), ap bit (ap g (sym e) ∙ b))
  | no d ↦
      let ih = count_fewer f g n q (λ r k. h r (omega arith)) (omega arith) a b in
      elim (test (f n)) [ inl t ↦ omega (arith, ih, ap bit t, ap bit (h n (omega arith) t)) | inr t ↦ omega (arith, ih, ap bit t) ]
]

-- where as many pass as there are, each does
pub count_full : (f : ℕ → Bool) (n q : ℕ) → count_to f n ≡ n → q < n → f q ≡ true
unfolding sum_to
count_full f zero q e l = absurd (omega arith)
count_full f (suc n) q e l = elim (test (f n)) [
  | inl t ↦ elim (ℕ_discrete q n) [
    | yes d ↦ ap f d ∙ t
    | no d ↦ count_full f n q (omega (arith, ap bit t)) (omega arith)
  ]
  | inr t ↦ absurd (omega (arith, ap bit t, count_to_le f n))
]

-- none of those from m on passes
pub count_skip : (f : ℕ → Bool) (m n : ℕ) → m ≤ n → ((q : ℕ) → m ≤ q → q < n → f q ≡ false) → count_to f n ≡ count_to f m
unfolding sum_to
count_skip f m zero h k = let e : zero ≡ m = omega arith in ap (count_to f) e
count_skip f m (suc n) h k = elim (dec_lt n m) [
  | yes l ↦ let e : suc n ≡ m = omega arith in ap (count_to f) e
  | no l ↦ omega (arith, count_skip f m n (omega arith) (λ q a b. k q a (omega arith)), ap bit (k n (omega arith) (omega arith)))
]
