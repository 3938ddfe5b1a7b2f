-- The ordinary sheet of a schedule at a minute: written, and loaded. Assumes nothing.
use Rattle.std.specs.Prelude.{cond, List, [], ◌∷◌, ◌++◌, ℕ, ◌-◌, eqb, length}
use Rattle.packed.specs.Edges.{edges_of}
use Rattle.state.specs.Sizes.{snapshot_bytes}
use Rattle.state.specs.State.{State, size}
use Rattle.state.specs.Refusal.{Condition, refusal, buffer_length, other_count, crowded_after, everyone}
use Rattle.state.specs.Outcome.{Outcome, outcome, lengths}
use Rattle.calls.specs.Snapshot.{Written, written, loaded}
use Rattle.schedule.specs.Schedule.{schedule_nodes, linked_at, bad_schedule, record_conditions}

-- the links at minute t as packed bits, spare bits 0
abbrev pub edges_at : List ℕ → ℕ → List ℕ
edges_at schedule t = edges_of (linked_at schedule t) (schedule_nodes schedule)

-- The ordinary sheet for minute t: a byte n - 1, then these.
abbrev pub sheet_at : List ℕ → ℕ → List ℕ
sheet_at schedule t = (schedule_nodes schedule - 1) ∷ edges_at schedule t

-- 9; 2, against the schedule's own n; 4, 5 and 13; 12, at minute t only
abbrev pub write_at_conditions : List ℕ → ℕ → ℕ → List Condition
write_at_conditions schedule t buffer =
    bad_schedule schedule ∷ buffer_length (snapshot_bytes (schedule_nodes schedule)) buffer
    ∷ (record_conditions schedule ++ crowded_after (linked_at schedule t) (schedule_nodes schedule) everyone ∷ [])

-- in a buffer of exactly its length; one that is refused is left as it was
unfoldable pub write_at_call : List ℕ → ℕ → List ℕ → Written
write_at_call schedule t buffer =
    let r = refusal (write_at_conditions schedule t (length buffer)) in
    written r (cond (eqb r 0) (sheet_at schedule t) buffer)

-- of a load into a state of n nodes, after 9, 1 and 2: 4, 5 and 13; 10; 12, at minute t only
abbrev pub load_at_conditions : ℕ → List ℕ → ℕ → List Condition
load_at_conditions n schedule t = record_conditions schedule ++ other_count n schedule ∷ crowded_after (linked_at schedule t) n everyone ∷ []

-- Loading such a sheet at t loads that ordinary sheet. 9 is tested before 1 here.
unfoldable pub load_at_call : State → List ℕ → ℕ → Outcome
load_at_call s schedule t =
    outcome (bad_schedule schedule ∷ (lengths s ++ load_at_conditions (size s) schedule t)) s (loaded (size s) (edges_at schedule t))
