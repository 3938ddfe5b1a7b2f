-- The rank is a strict total order on figures with numbers. Assumes nothing.
use mathlib.Core.Path.{◌≡◌, sym, ◌∙◌}
use mathlib.Core.Bool.{true, false, true≢false}
use mathlib.Core.Logic.{◌⊎◌, inl, inr}
use Prim.Native.Nat.{ℕ, ◌≤◌, ◌<◌}
use native.Mathlib.Decide.{dec_lt, ℕ_discrete}
use native.Mathlib.Omega.{arith}
use borrow.Author.Tests.{lt-ltb, le-ltb, eq-eqb, ne_eqb}
use Rattle.arith.specs.Rank.{before}

-- what the test says, both ways

pub before_by : (f p g q : ℕ) → g ≤ f → (f ≡ g → p < q) → before f p g q ≡ true
unfolding before
before_by f p g q h l = elim (dec_lt g f) [
  | yes a ↦ rw (lt-ltb g f a)
  | no a ↦ let e : f ≡ g = omega arith in rw (le-ltb g f (omega arith), eq-eqb f g e, lt-ltb p q (l e))
]

pub after_by : (f p g q : ℕ) → f ≤ g → (f ≡ g → q ≤ p) → before f p g q ≡ false
unfolding before
after_by f p g q h l = elim (ℕ_discrete f g) [
  | yes e ↦ rw (le-ltb g f h, eq-eqb f g e, le-ltb p q (l e))
  | no e ↦ rw (le-ltb g f h, ne_eqb f g e)
]

pub before_is : (f p g q : ℕ) → before f p g q ≡ true → (g < f) ⊎ ((f ≡ g) × (p < q))
before_is f p g q t = elim (dec_lt g f) [
  | yes a ↦ inl a
  | no a ↦ elim (ℕ_discrete f g) [
    | yes e ↦ elim (dec_lt p q) [
      | yes b ↦ inr (e, b)
      | no b ↦ absurd (true≢false (sym t ∙ after_by f p g q (omega arith) (omega arith)))
    ]
    | no d ↦ absurd (true≢false (sym t ∙ after_by f p g q (omega arith) (omega arith)))
  ]
]

pub after_is : (f p g q : ℕ) → before f p g q ≡ false → (f < g) ⊎ ((f ≡ g) × (q ≤ p))
after_is f p g q t = elim (dec_lt f g) [
  | yes a ↦ inl a
  | no a ↦ elim (ℕ_discrete f g) [
    | yes e ↦ elim (dec_lt p q) [
      | no b ↦ inr (e, omega arith)
      | yes b ↦ absurd (true≢false (sym (before_by f p g q (omega arith) (omega arith)) ∙ t))
    ]
    | no d ↦ absurd (true≢false (sym (before_by f p g q (omega arith) (omega arith)) ∙ t))
  ]
]

-- the order

pub before_irrefl : (f p : ℕ) → before f p f p ≡ false
before_irrefl f p = after_by f p f p (omega arith) (omega arith)

pub before_asym : (f p g q : ℕ) → before f p g q ≡ true → before g q f p ≡ false
before_asym f p g q t = elim (before_is f p g q t) [
  | inl a ↦ after_by g q f p (omega arith) (omega arith)
  | inr e ↦ after_by g q f p (omega arith) (omega arith)
]

pub before_trans : (f p g q h r : ℕ) → before f p g q ≡ true → before g q h r ≡ true → before f p h r ≡ true
before_trans f p g q h r s t = elim (before_is f p g q s) [
  | inl a ↦ elim (before_is g q h r t) [ inl b ↦ before_by f p h r (omega arith) (omega arith) | inr b ↦ before_by f p h r (omega arith) (omega arith) ]
  | inr a ↦ elim (before_is g q h r t) [ inl b ↦ before_by f p h r (omega arith) (omega arith) | inr b ↦ before_by f p h r (omega arith) (omega arith) ]
]

-- of two different nodes one ranks before the other
pub before_total : (f p g q : ℕ) → before f p g q ≡ false → (p ≡ q → ⊥) → before g q f p ≡ true
before_total f p g q t d = elim (after_is f p g q t) [
  | inl a ↦ before_by g q f p (omega arith) (omega arith)
  | inr a ↦ before_by g q f p (omega arith) (omega arith)
]
