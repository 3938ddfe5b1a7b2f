-- The laws of a pair put in or taken out. Assumes nothing.
use mathlib.Core.Bool.{◌&&◌, Bool, false, or-true}
use mathlib.Core.Path.{sym, ◌∙◌, ◌≡◌}
use Prim.Native.Nat.{max, min, ℕ}
use native.Mathlib.Decide.{ℕ_discrete}
use native.Mathlib.Omega.{arith}
use borrow.Author.Tests.{eq-eqb, ne_eqb}
use lib.Dec.{eqb}
use Rattle.ego.proofs.Agreement.{Agree}
use Rattle.ego.specs.Change.{with_pair}
use Rattle.ego.specs.Graph.{Graph}

-- x, y are a, b in this order, or in the other, or another pair
pub data Which (a b x y : ℕ) : Type 0 where
  forth : x ≡ a → y ≡ b → Which a b x y
  back : x ≡ b → y ≡ a → Which a b x y
  apart : (x ≡ a → y ≡ b → ⊥) → (x ≡ b → y ≡ a → ⊥) → Which a b x y

pub which : (a b x y : ℕ) → Which a b x y
which a b x y = elim (ℕ_discrete x a) [
  | yes p ↦ elim (ℕ_discrete y b) [ yes q ↦ forth p q | no q ↦ second (λ e r. q r) ]
  | no p ↦ second (λ e r. p e)
]
  where
    second : (x ≡ a → y ≡ b → ⊥) → Which a b x y
    second h = elim (ℕ_discrete x b) [
      | yes p ↦ elim (ℕ_discrete y a) [ yes q ↦ back p q | no q ↦ apart h (λ e r. q r) ]
      | no p ↦ apart h (λ e r. p e)
    ]

-- another pair has another larger or another smaller number
pub apart_numbers : (a b x y : ℕ) → (x ≡ a → y ≡ b → ⊥) → (x ≡ b → y ≡ a → ⊥) → max x y ≡ max a b → min x y ≡ min a b → ⊥
apart_numbers a b x y f g p q = elim (ℕ_discrete x a) [
  | yes e ↦ f e (omega arith)
  | no d ↦ g (omega arith) (omega arith)
]

module _ (g : Graph) (a b : ℕ) (on : Bool) (x y : ℕ) where
  pub pair_forth : x ≡ a → y ≡ b → with_pair g a b on x y ≡ on
  unfolding with_pair
  pair_forth p q = rw (eq-eqb x a p, eq-eqb y b q)

  pub pair_back : x ≡ b → y ≡ a → with_pair g a b on x y ≡ on
  unfolding with_pair
  pair_back p q = rw (eq-eqb x b p, eq-eqb y a q, or-true (eqb x a && eqb y b))

  pub pair_elsewhere : (x ≡ a → y ≡ b → ⊥) → (x ≡ b → y ≡ a → ⊥) → with_pair g a b on x y ≡ g x y
  unfolding with_pair
  pair_elsewhere p q = rw (neither a b p, neither b a q)
    where
      neither : (c d : ℕ) → (x ≡ c → y ≡ d → ⊥) → (eqb x c && eqb y d) ≡ false
      neither c d h = elim (ℕ_discrete x c) [ yes e ↦ rw (eq-eqb x c e, ne_eqb y d (h e)) | no e ↦ rw (ne_eqb x c e) ]

-- a graph that has the pair as it is, in both orders, and every other pair of g
pub pair_is : (g g' : Graph) (a b : ℕ) (on : Bool) (x y : ℕ) → (x ≡ a → y ≡ b → g' x y ≡ on) → (x ≡ b → y ≡ a → g' x y ≡ on)
    → ((x ≡ a → y ≡ b → ⊥) → (x ≡ b → y ≡ a → ⊥) → g' x y ≡ g x y) → g' x y ≡ with_pair g a b on x y
pair_is g g' a b on x y f h k = elim (which a b x y) [
  | forth p q ↦ f p q ∙ sym (pair_forth g a b on x y p q)
  | back p q ↦ h p q ∙ sym (pair_back g a b on x y p q)
  | apart p q ↦ k p q ∙ sym (pair_elsewhere g a b on x y p q)
]

pub pair_agree : {n : ℕ} {g g' : Graph} (a b : ℕ) (on : Bool) → Agree n g g' → Agree n (with_pair g a b on) (with_pair g' a b on)
unfolding with_pair
pair_agree a b on h x y hx hy = rw (h x y hx hy)
