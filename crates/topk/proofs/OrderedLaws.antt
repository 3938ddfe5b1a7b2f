-- Entries stay in order as one more is kept, and so over the steps of the list. Assumes nothing.
use mathlib.Core.List.{List}
use mathlib.Core.Logic.{inl, inr}
use Prim.Native.Nat.{suc, zero, ℕ}
use lib.ListN.{length}
use Rattle.arith.proofs.Tests.{test}
use Rattle.topk.proofs.Order.{ahead_asym, ahead_behind, Behind}
use Rattle.topk.proofs.Sort.{All_of, insert_pairwise, Pairwise-take}
use Rattle.topk.specs.Entries.{Entry, entry, insert, keep, stops}
use Rattle.topk.specs.Steps.{at, at_start, best_below, Next, nothing, Progress, step, step_at, steps, stored, took, worth}
use Rattle.topk.specs.Inside.Layout.{Ordered}

pub insert_ordered : (e : Entry) (xs : List Entry) → Ordered xs → Ordered (insert e xs)
insert_ordered e xs o =
    insert_pairwise (λ x y. Behind y x) e (λ x b. ahead_asym e x b) (λ x y b r. ahead_asym e y (ahead_behind e x y b r)) xs
    (All_of (λ x. Behind e x → Behind e x) xs (λ x i n. n)) o

pub keep_ordered : (k : ℕ) (e : Entry) (xs : List Entry) → Ordered xs → Ordered (keep k e xs)
unfolding keep
keep_ordered k e xs o = Pairwise-take (λ x y. Behind y x) k (insert e xs) (insert_ordered e xs o)

step_ordered : (T : ℕ → ℕ) (k : ℕ) (s : Progress) (x : Next) → Ordered s.kept → Ordered (step_at T k s x).kept
unfolding step_at took
step_ordered T k s nothing o = o
step_ordered T k s (at p) o = elim (test (stops k (stored s p) s.kept)) [
  | inl t ↦ rw t o
  | inr t ↦ rw t (keep_ordered k (entry p (worth T s p)) s.kept o)
]

pub steps_ordered : (T : ℕ → ℕ) (k t : ℕ) (F M : List ℕ) → Ordered (steps T k t (at_start F M)).kept
unfolding steps step
steps_ordered T k zero F M = tt
steps_ordered T k (suc t) F M =
    let s = steps T k t (at_start F M) in
    step_ordered T k s (best_below s (length s.figures)) (steps_ordered T k t F M)
