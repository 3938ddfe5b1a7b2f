-- The model's pairs are of two nodes of the board, whatever is fed to it. Assumes nothing.
use mathlib.Core.Bool.{true, true≢false}
use mathlib.Core.Logic.{inl, inr}
use mathlib.Core.Path.{sym, ◌≡◌}
use Prim.Native.Nat.{◌<◌, ℕ}
use borrow.Author.Tests.{ltb-true}
use lib.Dec.{eqb, ltb}
use Rattle.arith.proofs.Tests.{and-true, test}
use Rattle.ego.specs.Graph.{Graph}
use Rattle.history.specs.Model.{below, Call, model, model_refusal, no_pairs, would_hold}

abbrev pub OnBoard : ℕ → Graph → Type 0
OnBoard n g = (a b : ℕ) → g a b ≡ true → (a < n) × (b < n)

pub none_on_board : (n : ℕ) → OnBoard n no_pairs
none_on_board n a b e = absurd (true≢false (sym e))

below_on_board : (n : ℕ) (g : Graph) → OnBoard n (below n g)
unfolding below
below_on_board n g a b e =
    let r = and-true (ltb a n) _ e in
    (ltb-true a n r.0, ltb-true b n (and-true (ltb b n) (g a b) r.1).0)

pub model_on_board : (n : ℕ) (g : Graph) (call : Call) → OnBoard n g → OnBoard n (model n g call)
unfolding model
model_on_board n g call h = elim (test (eqb (model_refusal n g call) 0)) [
  | inl t ↦ rw t (below_on_board n (would_hold g call))
  | inr t ↦ rw t h
]
