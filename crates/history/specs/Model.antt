-- The plain model (01's book). It is fed n and what each call brings, no answers and nothing read from the state. Assumes nothing.
use Rattle.std.specs.Prelude.{◌&&◌, cond, false, true, [], List, ◌∷◌, ◌++◌, ℕ, eqb, ltb, length}
use Rattle.ego.specs.Change.{with_pair}
use Rattle.ego.specs.Graph.{Graph}
use Rattle.merge.specs.Pinned.{Brought, pinned_conditions, stands}
use Rattle.merge.specs.Reconcile.{reconcile_conditions}
use Rattle.packed.specs.Bits.{differ}
use Rattle.packed.specs.Edges.{edge}
use Rattle.edits.specs.Edit.{add_conditions, remove_conditions}
use Rattle.state.specs.Refusal.{Condition, node_count, refusal, snapshot_edges}
use Rattle.calls.specs.Snapshot.{load_conditions}
use Rattle.schedule.specs.Schedule.{bad_schedule, linked_at}
use Rattle.schedule.specs.Sheet.{load_at_conditions}
use Rattle.topk.specs.declared.entries.Entry.{Entry}
use Rattle.topk.specs.List.{list_conditions, wanted}

-- The entries lent to a list: plain numbers in a row, or records.
pub data Entries : Type 0 where
  in_row : List ℕ → Entries
  as_records : List Entry → Entries

-- k, the number of entries
abbrev pub room : Entries → ℕ
room (in_row numbers) = wanted numbers
room (as_records records) = length records

-- What a call brings besides the state: numbers, a sheet, a schedule and a minute, theirs and the original, with pins too, entries and scratch.
pub data Call : Type 0 where
  clear : Call
  load : List ℕ → Call
  load_at : List ℕ → ℕ → Call
  add : ℕ → ℕ → Call
  remove : ℕ → ℕ → Call
  reconcile : List ℕ → List ℕ → Call
  reconcile_pinned : Brought → Call
  list : Entries → List ℕ → Call

-- The model holds a set of pairs, at first none.
abbrev pub no_pairs : Graph
no_pairs a b = false

-- The pairs that it would hold after the call. Clear empties it. Load makes it the sheet's pairs; of a schedule, those that exist at the minute (02).
-- Add puts its pair in. Remove takes its pair out.
-- Reconcile: a pair where theirs differs from the original becomes as in theirs; every other pair stays. With pins (02) it becomes as it stands, mine being
-- the model's pairs. List leaves it.
unfoldable pub would_hold : Graph → Call → Graph
would_hold g clear = no_pairs
would_hold g (load snapshot) = edge (snapshot_edges snapshot)
would_hold g (load_at schedule t) = linked_at schedule t
would_hold g (add a b) = with_pair g a b true
would_hold g (remove a b) = with_pair g a b false
would_hold g (reconcile theirs base) = λ a b. cond (differ (edge theirs a b) (edge base a b)) (edge theirs a b) (g a b)
would_hold g (reconcile_pinned brought) = stands g brought
would_hold g (list entries scratch) = g

-- The conditions of turning back, with the model's pairs as the links (for 12, the pairs it would then hold).
unfoldable pub own_conditions : ℕ → Graph → Call → List Condition
own_conditions n g clear = []
own_conditions n g (load snapshot) = load_conditions n snapshot
own_conditions n g (load_at schedule t) = load_at_conditions n schedule t
own_conditions n g (add a b) = add_conditions n g (would_hold g (add a b)) a b
own_conditions n g (remove a b) = remove_conditions n g a b
own_conditions n g (reconcile theirs base) = reconcile_conditions n g (would_hold g (reconcile theirs base)) theirs base
own_conditions n g (reconcile_pinned brought) = pinned_conditions n g brought
own_conditions n g (list entries scratch) = list_conditions n g (room entries) (length scratch)

-- 9 of a schedule is tested before 1.
abbrev pub early_conditions : Call → List Condition
early_conditions clear = []
early_conditions (load snapshot) = []
early_conditions (load_at schedule t) = bad_schedule schedule ∷ []
early_conditions (add a b) = []
early_conditions (remove a b) = []
early_conditions (reconcile theirs base) = []
early_conditions (reconcile_pinned brought) = []
early_conditions (list entries scratch) = []

-- 1 stands before all the others. 2 stands among them for the buffers that a call brings; for the state's own it cannot apply, and the model does not
-- see them: the first call was accepted, so the state's lengths are those that n requires, and no call changes the length of what it is lent.
unfoldable pub conditions : ℕ → Graph → Call → List Condition
conditions n g call = early_conditions call ++ node_count n ∷ own_conditions n g call

-- The refusal number is the first such condition's, otherwise 0.
unfoldable pub model_refusal : ℕ → Graph → Call → ℕ
model_refusal n g call = refusal (conditions n g call)

-- the pairs of two nodes below n; no other is a pair of the board
unfoldable pub below : ℕ → Graph → Graph
below n g a b = ltb a n && (ltb b n && g a b)

-- Where a condition applies the model stays.
unfoldable pub model : ℕ → Graph → Call → Graph
model n g call = cond (eqb (model_refusal n g call) 0) (below n (would_hold g call)) g
