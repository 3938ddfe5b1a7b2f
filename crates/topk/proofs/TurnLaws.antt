-- The steps of the list: what a step keeps, and that the list stands still once it stops. Assumes nothing.
use mathlib.Core.Bool.{false, true}
use mathlib.Core.List.{List}
use mathlib.Core.Logic.{inl, inr}
use mathlib.Core.Path.{ap, refl, ◌∙◌, ◌≡◌}
use Prim.Native.Nat.{◌+◌, suc, zero, zero-le, ℕ, ◌≤◌}
use native.Mathlib.Decide.{dec_le}
use native.Mathlib.Nat.{le_refl}
use native.Mathlib.Omega.{arith}
use lib.ListN.{length, length-set}
use Rattle.arith.proofs.Tests.{test}
use Rattle.packed.proofs.BitLaws.{bit_two}
use Rattle.state.specs.Marks.{stale}
use Rattle.state.proofs.MarkLaws.{length-with_mark}
use Rattle.topk.proofs.Sort.{length_keep}
use Rattle.topk.specs.Entries.{entry, stops}
use Rattle.topk.specs.Steps.{at, best_below, all_steps, Next, nothing, Progress, at_start, step, step_at, steps, stored, took, worth}
use Rattle.topk.specs.Inside.Next.{next, stopped, stopped_at}

-- what a step keeps of the counts
pub record Grows (k : ℕ) (s s' : Progress) : Type 0 where
  pub room : length s'.kept ≤ k
  pub more : length s.kept ≤ length s'.kept
  pub count : s'.recomputed ≤ s.recomputed + 1

stays : (k : ℕ) (s : Progress) → length s.kept ≤ k → Grows k s s
stays k s h = record { room = h; more = le_refl (length s.kept); count = omega arith }

took_grows : (T : ℕ → ℕ) (k : ℕ) (s : Progress) (p : ℕ) → length s.kept ≤ k → Grows k s (took T k s p)
unfolding took
took_grows T k s p h =
    let e = length_keep k (entry p (worth T s p)) s.kept in
    record { room = omega arith; more = omega arith; count = omega (arith, bit_two (stale s.marks p)) }

step_grows : (T : ℕ → ℕ) (k : ℕ) (s : Progress) (x : Next) → length s.kept ≤ k → Grows k s (step_at T k s x)
unfolding step_at
step_grows T k s nothing h = stays k s h
step_grows T k s (at p) h = elim (test (stops k (stored s p) s.kept)) [ inl t ↦ rw t (stays k s h) | inr t ↦ rw t (took_grows T k s p h) ]

pub grows : (T : ℕ → ℕ) (k : ℕ) (s : Progress) → length s.kept ≤ k → Grows k s (step T k s)
unfolding step
grows T k s h = step_grows T k s (best_below s (length s.figures)) h

-- the counts after t steps
pub counts : (T : ℕ → ℕ) (k : ℕ) (F M : List ℕ) (t : ℕ) → (length (steps T k t (at_start F M)).kept ≤ k) × ((steps T k t (at_start F M)).recomputed ≤ t)
unfolding steps
counts T k F M zero = (zero-le, le_refl 0)
counts T k F M (suc t) =
    let c = counts T k F M t in
    let g = grows T k (steps T k t (at_start F M)) c.0 in
    (g.room, omega arith)

-- a step of a list that has stopped changes nothing
still_at : (T : ℕ → ℕ) (k : ℕ) (s : Progress) (x : Next) → stopped_at k s x ≡ true → step_at T k s x ≡ s
unfolding step_at stopped_at
still_at T k s nothing t = refl
still_at T k s (at p) t = rw t

pub still : (T : ℕ → ℕ) (k : ℕ) (s : Progress) → stopped k s ≡ true → step T k s ≡ s
unfolding step stopped next
still T k s t = still_at T k s (best_below s (length s.figures)) t

-- so as many more steps as there may be change nothing
pub steps_still : (T : ℕ → ℕ) (k : ℕ) (s : Progress) (i n : ℕ) → i ≤ n → stopped k (steps T k i s) ≡ true → steps T k n s ≡ steps T k i s
unfolding steps
steps_still T k s i zero h t = let e : 0 ≡ i = omega arith in ap (λ (m : ℕ). steps T k m s) e
steps_still T k s i (suc n) h t = elim (dec_le i n) [
  | yes l ↦ ap (step T k) (steps_still T k s i n l t) ∙ still T k (steps T k i s) t
  | no l ↦ let e : suc n ≡ i = omega arith in ap (λ (m : ℕ). steps T k m s) e
]

-- what a step is, by what is next
pub step_none : (T : ℕ → ℕ) (k : ℕ) (s : Progress) → next s ≡ nothing → (true ≡ stopped k s) × (step T k s ≡ s)
unfolding step stopped next step_at stopped_at
step_none T k s e = (rw e, rw e)

module _ (T : ℕ → ℕ) (k : ℕ) (s : Progress) (p : ℕ) (e : next s ≡ at p) where
  pub step_stop : stops k (stored s p) s.kept ≡ true → (true ≡ stopped k s) × (step T k s ≡ s)
  unfolding step stopped next step_at stopped_at
  step_stop t = (rw (e, t), rw (e, t))

  pub step-take : stops k (stored s p) s.kept ≡ false → (false ≡ stopped k s) × (step T k s ≡ took T k s p)
  unfolding step stopped next step_at stopped_at
  step-take t = (rw (e, t), rw (e, t))

-- the lengths, which no step changes
pub record SameLengths (s s' : Progress) : Type 0 where
  pub figures : length s'.figures ≡ length s.figures
  pub marks : length s'.marks ≡ length s.marks
  pub taken : length s'.taken ≡ length s.taken

step_lengths : (T : ℕ → ℕ) (k : ℕ) (s : Progress) (x : Next) → SameLengths s (step_at T k s x)
unfolding step_at took
step_lengths T k s nothing = record { figures = refl; marks = refl; taken = refl }
step_lengths T k s (at p) = elim (test (stops k (stored s p) s.kept)) [
  | inl t ↦ rw t (record { figures = refl; marks = refl; taken = refl })
  | inr t ↦ rw t (record { figures = length-set s.figures p (worth T s p); marks = length-with_mark s.marks p false; taken = length-set s.taken p 1 })
]

pub steps_lengths : (T : ℕ → ℕ) (k t : ℕ) (s : Progress) → SameLengths s (steps T k t s)
unfolding steps step
steps_lengths T k zero s = record { figures = refl; marks = refl; taken = refl }
steps_lengths T k (suc t) s =
    let s' = steps T k t s in
    let a = steps_lengths T k t s in
    let b = step_lengths T k s' (best_below s' (length s'.figures)) in
    record { figures = b.figures ∙ a.figures; marks = b.marks ∙ a.marks; taken = b.taken ∙ a.taken }

-- of the whole list
pub all_steps_figures : (T : ℕ → ℕ) (k : ℕ) (F M : List ℕ) → length (all_steps T k F M).figures ≡ length F
unfolding all_steps
all_steps_figures T k F M = (steps_lengths T k (length F) (at_start F M)).figures

pub all_steps_marks : (T : ℕ → ℕ) (k : ℕ) (F M : List ℕ) → length (all_steps T k F M).marks ≡ length M
unfolding all_steps
all_steps_marks T k F M = (steps_lengths T k (length F) (at_start F M)).marks
