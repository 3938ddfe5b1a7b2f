-- The records of a schedule as the code goes over them. Assumes nothing.
use Rattle.std.specs.Prelude.{List, [], ◌∷◌, ◌++◌, ℕ, ◌<◌, ◌≤◌, length}
use Rattle.packed.specs.Pairs.{max_nodes}
use Rattle.state.specs.Refusal.{Condition, no_hours, pair_conditions}
use Rattle.state.specs.Inside.Earlier.{TwoNodes}
use Rattle.schedule.specs.Schedule.{opening_at, record_count, schedule_nodes}
use Rattle.schedule.specs.declared.records.Opening.{Opening}

-- 4, 5 and 13 of one record
abbrev pub opening_conditions : ℕ → Opening → List Condition
opening_conditions n r = pair_conditions n ((r.a, r.b) ∷ []) ++ no_hours r.from r.to ∷ []

-- the record names two of n nodes, and has hours
pub record Sound (n : ℕ) (r : Opening) : Type 0 where
  pub nodes : TwoNodes n r.a r.b
  pub hours : r.from < r.to

-- each of the records is sound
abbrev pub Sounds : List ℕ → Type 0
Sounds schedule = (i : ℕ) → i < record_count schedule → Sound (schedule_nodes schedule) (opening_at schedule i)

-- the schedule has its first byte, and each of its records is sound
pub record Valid (schedule : List ℕ) : Type 0 where
  pub some : 0 < length schedule
  pub few : schedule_nodes schedule ≤ max_nodes
  pub each : Sounds schedule
