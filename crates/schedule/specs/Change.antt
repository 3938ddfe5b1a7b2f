-- The next change: the first minute after t at which any link differs from its state at t, or none. Assumes nothing.
use Rattle.std.specs.Prelude.{Bool, true, false, cond, List, ◌∷◌, ℕ, ◌+◌, ◌-◌, eqb, ltb}
use Rattle.arith.specs.Lists.{least_from}
use Rattle.packed.specs.Bits.{differ}
use Rattle.packed.specs.Pairs.{any_pair}
use Rattle.state.specs.Answers.{Found, At, Nowhere, Refused}
use Rattle.state.specs.Refusal.{Condition, refusal}
use Rattle.schedule.specs.Schedule.{schedule_nodes, linked_at, bad_schedule, record_conditions}

-- a minute is a number of 16 bits, below this one
abbrev pub minutes : ℕ
minutes = 65536

-- some link at minute m differs from its state at t
unfoldable pub differs_at : List ℕ → ℕ → ℕ → Bool
differs_at schedule t m = any_pair (λ a b. differ (linked_at schedule m a b) (linked_at schedule t a b)) (schedule_nodes schedule)

-- the first minute after t at which one does, and `minutes` where there is none
unfoldable pub first_differing : List ℕ → ℕ → ℕ
first_differing schedule t = least_from (differs_at schedule t) (t + 1) (minutes - (t + 1))

abbrev pub change_conditions : List ℕ → List Condition
change_conditions schedule = bad_schedule schedule ∷ record_conditions schedule

-- 02's numbers: the refusal number, whether there is such a minute, and which; with a refusal, or with none, 0 beside it
pub record Next : Type 0 where
  pub refusal : ℕ
  pub some : Bool
  pub minute : ℕ

unfoldable pub next_of : List ℕ → ℕ → Next
next_of schedule t =
    let r : ℕ = refusal (change_conditions schedule) in
    let m : ℕ = first_differing schedule t in
    cond (eqb r 0)
    (cond (ltb m minutes) (record { refusal = 0; some = true; minute = m }) (record { refusal = 0; some = false; minute = 0 }))
    (record { refusal = r; some = false; minute = 0 })

-- these numbers for each case of the answer
unfoldable pub numbers_of : Found ℕ → Next
numbers_of (At m) = record { refusal = 0; some = true; minute = m }
numbers_of Nowhere = record { refusal = 0; some = false; minute = 0 }
numbers_of (Refused r) = record { refusal = r; some = false; minute = 0 }

-- the answer
unfoldable pub change_call : List ℕ → ℕ → Found ℕ
change_call schedule t =
    let r : ℕ = refusal (change_conditions schedule) in
    let m : ℕ = first_differing schedule t in
    cond (eqb r 0) (cond (ltb m minutes) (At m) Nowhere) (Refused r)
