-- A graph within another: its degrees are no larger. Assumes nothing.
use mathlib.Core.Bool.{true}
use mathlib.Core.Path.{sym, ◌∙◌, ◌≡◌}
use Prim.Native.Nat.{◌<◌, ℕ, ◌≤◌}
use Rattle.arith.proofs.Counts.{count_within}
use Rattle.ego.proofs.Agreement.{Agree}
use Rattle.ego.proofs.FoundLaws.{degree_is}
use Rattle.ego.specs.Graph.{degree, Graph}

-- each edge of g among the nodes below n is one of g'
abbrev pub Within : ℕ → Graph → Graph → Type 0
Within n g g' = (a b : ℕ) → a < n → b < n → g a b ≡ true → g' a b ≡ true

pub within_agree : {n : ℕ} {f g h : Graph} → Agree n f g → Within n g h → Within n f h
within_agree e w a b ha hb t = w a b ha hb (sym (e a b ha hb) ∙ t)

pub within_degree : {n : ℕ} {g g' : Graph} → Within n g g' → (p : ℕ) → p < n → degree g n p ≤ degree g' n p
within_degree {n} {g} {g'} w p hp = rw (degree_is g n p, degree_is g' n p) (count_within (g p) (g' p) n (λ q. w p q hp))
