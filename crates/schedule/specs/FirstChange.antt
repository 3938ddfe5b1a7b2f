-- What the answer to the next change says of every minute, in the words of the request. Assumes nothing.
use Rattle.std.specs.Prelude.{◌↔◌, ◌≢◌, List, ◌≡◌, ℕ, ◌<◌, ◌≤◌}
use Rattle.state.specs.Answers.{At, Nowhere, Refused}
use Rattle.state.specs.Refusal.{refusal}
use Rattle.schedule.specs.Schedule.{schedule_nodes, linked_at}
use Rattle.schedule.specs.Change.{change_call, change_conditions}

-- every link at minute m is as at t
abbrev pub AsAt : List ℕ → ℕ → ℕ → Type 0
AsAt schedule t m = (a b : ℕ) → a < schedule_nodes schedule → b < schedule_nodes schedule → linked_at schedule m a b ≡ linked_at schedule t a b

-- m is the first minute after t at which a link differs
pub record FirstChange (schedule : List ℕ) (t m : ℕ) : Type 0 where
  pub later : t < m
  pub before : (x : ℕ) → t ≤ x → x < m → AsAt schedule t x
  pub differs : (a : ℕ) × (b : ℕ) × (a < schedule_nodes schedule) × (b < schedule_nodes schedule) × (linked_at schedule m a b ≢ linked_at schedule t a b)

-- THE NEXT CHANGE. proofs/NextChange has its proof.
pub record NextChange : Type 0 where
  -- A minute is the answer exactly if it is the first after t at which a link differs,
  pub minute : (schedule : List ℕ) (t m : ℕ) → refusal (change_conditions schedule) ≡ 0 → (change_call schedule t ≡ At m) ↔ FirstChange schedule t m
  -- none exactly if at every later minute, of any number of bits, every link is as at t,
  pub never : (schedule : List ℕ) (t : ℕ) → refusal (change_conditions schedule) ≡ 0
      → (change_call schedule t ≡ Nowhere) ↔ ((m : ℕ) → t < m → AsAt schedule t m)
  -- and otherwise the call is refused.
  pub refused : (schedule : List ℕ) (t : ℕ) → refusal (change_conditions schedule) ≢ 0 → change_call schedule t ≡ Refused (refusal (change_conditions schedule))
