-- Whether a node has too many edges depends on the edges among the nodes below n alone. Assumes nothing.
use mathlib.Core.Bool.{Bool}
use mathlib.Core.Path.{ap, ◌≡◌}
use Prim.Native.Nat.{◌<◌, ℕ}
use Rattle.arith.proofs.Sums.{any_to_ext}
use Rattle.ego.proofs.Agreement.{Agree, degree_agree}
use Rattle.ego.specs.Graph.{Graph}
use Rattle.state.specs.Refusal.{crowded_after, crowded_before, too_many}

pub too_many_agree : (n : ℕ) (g g' : Graph) (which which' : ℕ → Bool) → Agree n g g' → ((p : ℕ) → p < n → which p ≡ which' p)
    → too_many g n which ≡ too_many g' n which'
unfolding too_many
too_many_agree n g g' which which' same w = any_to_ext _ _ n (λ p h. rw (w p h, degree_agree n p h same))

module _ (n : ℕ) (g g' : Graph) (which which' : ℕ → Bool) (same : Agree n g g') (nodes : (p : ℕ) → p < n → which p ≡ which' p) where
  pub before_agree : crowded_before g n which ≡ crowded_before g' n which'
  unfolding crowded_before
  before_agree = ap (λ t. (11, t)) (too_many_agree n g g' which which' same nodes)

  pub after_agree : crowded_after g n which ≡ crowded_after g' n which'
  unfolding crowded_after
  after_agree = ap (λ t. (12, t)) (too_many_agree n g g' which which' same nodes)
