-- The list keeps k entries where there are k nodes or more, whatever the figures say. Assumes nothing.
use mathlib.Core.Bool.{true}
use mathlib.Core.List.{List}
use mathlib.Core.Logic.{inl, inr, ◌⊎◌, ⊎_elim}
use mathlib.Core.Path.{◌≡◌}
use Prim.Native.Nat.{◌+◌, ◌<◌, suc, zero, ℕ, ◌≤◌}
use native.Mathlib.Decide.{dec_lt}
use native.Mathlib.Nat.{le_refl}
use native.Mathlib.Omega.{arith}
use borrow.Author.Tests.{eqb-true, ne_eqb}
use lib.Dec.{eqb}
use lib.ListN.{get_or, get_or-replicate, length, length-replicate, set}
use lib.Seq.{get_or-set_other, get_or-set_same}
use Rattle.arith.proofs.Counts.{count_all, count_none}
use Rattle.arith.proofs.Sums.{count_gain}
use Rattle.arith.proofs.Tests.{and-true, test}
use Rattle.arith.specs.Sums.{count_to}
use Rattle.topk.proofs.Good.{is_taken}
use Rattle.topk.proofs.NextLaws.{is_best, Free, IsBest}
use Rattle.topk.proofs.Sort.{length_keep}
use Rattle.topk.proofs.TurnLaws.{counts, SameLengths, steps_lengths}
use Rattle.topk.specs.Entries.{entry, ranks_before, last_entry, stops}
use Rattle.topk.specs.Steps.{at, best_below, all_steps, Next, nothing, Progress, at_start, step, step_at, steps, stored, took, worth}

module _ (T : ℕ → ℕ) (k : ℕ) (F M : List ℕ) where
  abbrev n : ℕ
  n = length F

  -- k are kept, or one for each of t steps, and each step took a node
  abbrev Filled : ℕ → Progress → Type 0
  Filled t s = (length s.kept ≡ k) ⊎ ((length s.kept ≡ t) × (count_to (is_taken s.taken) n ≡ t))

  module _ (t : ℕ) (s : Progress) (same : SameLengths (at_start F M) s) (room : length s.kept ≤ k) (short : t < n) (h : Filled t s) where
    -- some node is left, while not each is taken
    no_next : ((q : ℕ) → q < length s.figures → Free s.taken q → ⊥) → Filled (suc t) s
    no_next b =
        let all = count_all (is_taken s.taken) n (λ q l. rw (ne_eqb (get_or s.taken q 0) 0 (b q (omega (arith, same.figures))))) in
        ⊎_elim (λ e. inl e) (λ c. absurd (omega (arith, c.1))) h

    stop_full : (p : ℕ) → stops k (stored s p) s.kept ≡ true → length s.kept ≡ k
    unfolding stops
    stop_full p e = eqb-true (length s.kept) k (and-true (eqb (length s.kept) k) (ranks_before (last_entry s.kept) (stored s p)) e).0

    more_taken : (p : ℕ) → p < n → Free s.taken p → count_to (is_taken (set s.taken p 1)) n ≡ count_to (is_taken s.taken) n + 1
    more_taken p l f =
        let here : get_or (set s.taken p 1) p 0 ≡ 1 = get_or-set_same s.taken p 1 0 (omega (arith, same.taken, length-replicate {A = ℕ} n 0)) in
        count_gain (is_taken s.taken) (is_taken (set s.taken p 1)) n p l (rw f) (rw here) (λ q d. rw (get_or-set_other s.taken p q 1 0 d))

    took_filled : (p : ℕ) → p < n → Free s.taken p → Filled (suc t) (took T k s p)
    unfolding took
    took_filled p l f =
        let e = length_keep k (entry p (worth T s p)) s.kept in
        ⊎_elim
        (λ a. inl (omega arith))
        (λ a. elim (dec_lt t k) [ yes m ↦ inr (omega (arith, a.0), omega (arith, a.1, more_taken p l f)) | no m ↦ inl (omega (arith, a.0)) ])
        h

    step_filled : (x : Next) → IsBest s (length s.figures) x → Filled (suc t) (step_at T k s x)
    unfolding step_at
    step_filled nothing b = no_next b
    step_filled (at p) b = elim (test (stops k (stored s p) s.kept)) [
      | inl e ↦ rw e (inl (stop_full p e))
      | inr e ↦ rw e (took_filled p (omega (arith, same.figures, b.0)) b.1)
    ]

  steps_filled : (t : ℕ) → t ≤ n → Filled t (steps T k t (at_start F M))
  unfolding steps step
  steps_filled zero l = inr (omega arith, count_none (is_taken (at_start F M).taken) n (λ q m. rw (get_or-replicate {A = ℕ} n q 0 0 m)))
  steps_filled (suc t) l =
      let s = steps T k t (at_start F M) in
      step_filled t s (steps_lengths T k t (at_start F M)) (counts T k F M t).0 l (steps_filled t (omega arith)) (best_below s (length s.figures))
      (is_best s (length s.figures))

  pub all_steps-length : k ≤ length F → length (all_steps T k F M).kept ≡ k
  unfolding all_steps
  all_steps-length l = ⊎_elim (λ e. e) (λ c. omega (arith, c.0, (counts T k F M n).0)) (steps_filled n (le_refl n))
