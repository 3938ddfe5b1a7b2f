-- A schedule (02's timed sheet) is a temporal graph: an edge exists at some minutes and not at others. Assumes nothing.
use Rattle.std.specs.Prelude.{Bool, not, ◌&&◌, ◌||◌, List, ◌++◌, ℕ, ◌+◌, ◌-◌, ◌*◌, ◌/◌, ◌%◌, eqb, leb, ltb, length}
use Rattle.arith.specs.Sums.{any_to, tabulate}
use Rattle.packed.specs.Bits.{run_of}
use Rattle.packed.specs.Pairs.{same_pair}
use Rattle.ego.specs.Graph.{Graph}
use Rattle.state.specs.Refusal.{Condition, no_hours, pair_conditions, snapshot_nodes}
use Rattle.schedule.specs.declared.records.Opening.{Opening}

-- byte n - 1,
abbrev pub schedule_nodes : List ℕ → ℕ
schedule_nodes schedule = snapshot_nodes schedule

-- then records of 48 bits, six bytes each,
abbrev pub record_bytes : ℕ
record_bytes = 6

abbrev pub record_count : List ℕ → ℕ
record_count schedule = (length schedule - 1) / record_bytes

-- most significant first: two post numbers (8 bits each), a from minute and a to minute (16 each). Record i:
unfoldable pub opening_at : List ℕ → ℕ → Opening
opening_at schedule i =
    let at : ℕ = 8 * (1 + record_bytes * i) in
    record { a = run_of schedule at 8; b = run_of schedule (at + 8) 8; from = run_of schedule (at + 16) 16; to = run_of schedule (at + 32) 16 }

-- a record is for the pair of a and b, which it names in either order,
unfoldable pub names : Opening → ℕ → ℕ → Bool
names r a b = same_pair r.a r.b a b

-- and has from ≤ t < to
unfoldable pub open_at : Opening → ℕ → Bool
open_at r t = leb r.from t && ltb t r.to

-- A link exists at minute t exactly if some record for the pair has from ≤ t < to.
unfoldable pub linked_at : List ℕ → ℕ → Graph
linked_at schedule t a b = any_to (λ i. names (opening_at schedule i) a b && open_at (opening_at schedule i) t) (record_count schedule)

-- 9. It is empty, or is not the byte and whole records.
unfoldable pub bad_schedule : List ℕ → Condition
bad_schedule schedule = (9, eqb (length schedule) 0 || not (eqb ((length schedule - 1) % record_bytes) 0))

-- 4, 5 and 13, each tested over all records, against the schedule's own n; the first k records:
unfoldable pub conditions_to : List ℕ → ℕ → List Condition
conditions_to schedule k =
    pair_conditions (schedule_nodes schedule) (tabulate (λ i. ((opening_at schedule i).a, (opening_at schedule i).b)) k)
    ++ tabulate (λ i. no_hours (opening_at schedule i).from (opening_at schedule i).to) k

abbrev pub record_conditions : List ℕ → List Condition
record_conditions schedule = conditions_to schedule (record_count schedule)
