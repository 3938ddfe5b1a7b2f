-- Tests: what a Boolean tells, and tests that hold at each number below a bound. Assumes nothing.
use mathlib.Core.Bool.{◌&&◌, Bool, false, not, or-true, true, true≢false, ◌||◌}
use mathlib.Core.Logic.{inl, inr, ◌⊎◌}
use mathlib.Core.Path.{refl, subst, sym, ◌≡◌}
use Prim.Native.Nat.{◌+◌, ◌<◌, suc, zero, ℕ}
use native.Mathlib.Decide.{dec_lt, ℕ_discrete}
use native.Mathlib.Nat.{eq-or-lt_of_le, le_of_suc-le-suc}
use native.Mathlib.Omega.{arith}
use borrow.Author.Tests.{eq-eqb, eqb-true, le-ltb, lt-ltb, ne_eqb}
use lib.Dec.{eqb, ltb}

pub test : (b : Bool) → (b ≡ true) ⊎ (b ≡ false)
test true = inl refl
test false = inr refl

pub eqb_same : (a : ℕ) → eqb a a ≡ true
eqb_same a = eq-eqb a a refl

pub and-true : (a b : Bool) → (a && b) ≡ true → (a ≡ true) × (b ≡ true)
and-true true b e = (refl, e)
and-true false b e = absurd (true≢false (sym e))

-- each passes where the other does
pub same_test : (a b : Bool) → (a ≡ true → b ≡ true) → (b ≡ true → a ≡ true) → a ≡ b
same_test true b f g = sym (f refl)
same_test false true f g = g refl
same_test false false f g = refl

pub eqb_turned : (a b : ℕ) → eqb a b ≡ eqb b a
eqb_turned a b = same_test _ _ (λ e. eq-eqb b a (sym (eqb-true a b e))) (λ e. eq-eqb a b (sym (eqb-true b a e)))

-- one number more
pub ltb_more : (a n : ℕ) → ltb a (n + 1) ≡ ltb a n || eqb a n
ltb_more a n = elim (ℕ_discrete a n) [
  | yes e ↦ rw (lt-ltb a (n + 1) (omega arith), eq-eqb a n e) (sym (or-true (ltb a n)))
  | no d ↦ rw (ne_eqb a n d) (elim (dec_lt a n) [
    | yes h ↦ rw (lt-ltb a n h, lt-ltb a (n + 1) (omega arith))
    | no h ↦ rw (le-ltb a n (omega arith), le-ltb a (n + 1) (omega arith))
  ])
]

pub or_false_both : (a b : Bool) → (a || b) ≡ false → (a ≡ false) × (b ≡ false)
or_false_both true b e = absurd (true≢false e)
or_false_both false b e = (refl, e)

pub and-false : (b : Bool) → b && false ≡ false
and-false true = refl
and-false false = refl

pub and_all : (b : Bool) → b && true ≡ b
and_all true = refl
and_all false = refl

pub and_not_self : (b : Bool) → b && not b ≡ false
and_not_self true = refl
and_not_self false = refl

-- a test that passes at each number below n, as the checker computes it
abbrev pub each : (ℕ → Bool) → ℕ → Bool
each f zero = true
each f (suc n) = f n && each f n

pub each_at : (f : ℕ → Bool) (n c : ℕ) → each f n ≡ true → c < n → f c ≡ true
each_at f zero c t h = absurd (omega arith)
each_at f (suc n) c t h =
    let r = and-true (f n) (each f n) t in
    elim (eq-or-lt_of_le (le_of_suc-le-suc h)) [
      | inl e ↦ subst (λ k. f k ≡ true) (sym e) r.0
      | inr l ↦ each_at f n c r.1 l
    ]
