-- Whether a node has more edges than the limit, node by node, and in a graph within another. Assumes nothing.
use mathlib.Core.Bool.{Bool, false, true}
use mathlib.Core.Logic.{inl, inr}
use mathlib.Core.Path.{refl, ◌≡◌}
use Prim.Native.Nat.{◌<◌, ℕ, ◌≤◌}
use native.Mathlib.Nat.{le_trans}
use borrow.Author.Tests.{le-ltb, ltb-false}
use Rattle.arith.proofs.Sums.{any_to_false, any_to_never}
use Rattle.arith.proofs.Tests.{test}
use Rattle.ego.proofs.Within.{Within, within_degree}
use Rattle.ego.specs.Graph.{degree, Graph}
use Rattle.ego.specs.Limits.{limit}
use Rattle.state.specs.Refusal.{everyone, too_many}

module _ (g : Graph) (n : ℕ) where
  pub few_of : (which : ℕ → Bool) → too_many g n which ≡ false → (p : ℕ) → p < n → which p ≡ true → degree g n p ≤ limit
  unfolding too_many
  few_of which e p h w = ltb-false limit (degree g n p) (rw w at (any_to_false _ n e p h))

  pub few_by : (which : ℕ → Bool) → ((p : ℕ) → p < n → which p ≡ true → degree g n p ≤ limit) → too_many g n which ≡ false
  unfolding too_many
  few_by which few = any_to_never _ n (λ p h. elim (test (which p)) [ inl w ↦ rw (w, le-ltb limit (degree g n p) (few p h w)) | inr w ↦ rw w ])

  pub few_each : too_many g n everyone ≡ false → (p : ℕ) → p < n → degree g n p ≤ limit
  few_each e p h = few_of everyone e p h refl

-- where no node of a graph has too many, none of a graph within it has
pub within_few : (n : ℕ) (g g' : Graph) (which : ℕ → Bool) → Within n g g' → too_many g' n everyone ≡ false → too_many g n which ≡ false
within_few n g g' which w e = few_by g n which (λ p h _. le_trans (within_degree {g = g} {g' = g'} w p h) (few_each g' n e p h))
