-- The first conflict: the lowest pair in bit order on which both editors have spoken and left it different, or none. Assumes nothing.
use Rattle.std.specs.Prelude.{Bool, true, false, cond, List, [], ◌∷◌, ◌++◌, ℕ, eqb, length}
use Rattle.arith.specs.Lists.{filter}
use Rattle.packed.specs.Edges.{edge}
use Rattle.state.specs.Answers.{At, Found, Nowhere, Refused}
use Rattle.state.specs.Outcome.{edge_lengths}
use Rattle.state.specs.Refusal.{Condition, refusal}
use Rattle.merge.specs.Pinned.{Brought, brought_lengths, in_conflict}
use Rattle.merge.specs.Single.{pairs_below}
use Rattle.merge.specs.declared.changed.Pair.{Pair}

-- 1, and 2 of all five buffers
abbrev pub conflict_conditions : List ℕ → ℕ → Brought → List Condition
conflict_conditions edges n k = edge_lengths n (length edges) ++ brought_lengths n k

-- the pairs in conflict, in bit order
unfoldable pub conflicts : List ℕ → ℕ → Brought → List (ℕ × ℕ)
conflicts edges n k = filter (λ c. in_conflict (edge edges) k c.0 c.1) (pairs_below n)

-- the answer that is a pair
abbrev pub between : ℕ → ℕ → Found Pair
between a b = At (record { a = a; b = b })

-- the first of some pairs
unfoldable pub first_of : List (ℕ × ℕ) → Found Pair
first_of [] = Nowhere
first_of (c ∷ cs) = between c.0 c.1

-- the answer
unfoldable pub conflict_call : List ℕ → ℕ → Brought → Found Pair
conflict_call edges n k = let r : ℕ = refusal (conflict_conditions edges n k) in cond (eqb r 0) (first_of (conflicts edges n k)) (Refused r)

-- its numbers: the refusal number, whether there is such a pair, and the pair; with a refusal, or with none, 0 beside it
pub record Answer : Type 0 where
  pub refusal : ℕ
  pub some : Bool
  pub a : ℕ
  pub b : ℕ

-- these numbers for each case of the answer
unfoldable pub numbers_of : Found Pair → Answer
numbers_of (At pair) = record { refusal = 0; some = true; a = pair.a; b = pair.b }
numbers_of Nowhere = record { refusal = 0; some = false; a = 0; b = 0 }
numbers_of (Refused r) = record { refusal = r; some = false; a = 0; b = 0 }
