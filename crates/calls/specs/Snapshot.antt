-- Load a sheet and write one. Assumes nothing.
use Rattle.std.specs.Prelude.{cond, ◌&&◌, List, [], ◌∷◌, ◌++◌, ℕ, zero, suc, ◌+◌, ◌-◌, ◌*◌, eqb, ltb, length}
use Rattle.arith.specs.Sums.{tabulate, pack_to}
use Rattle.packed.specs.Bits.{bit_at}
use Rattle.packed.specs.Edges.{edge}
use Rattle.packed.specs.Pairs.{pair_count}
use Rattle.ego.specs.Graph.{Graph}
use Rattle.ego.specs.Bound.{bound}
use Rattle.state.specs.Sizes.{snapshot_bytes}
use Rattle.state.specs.Marks.{all_stale}
use Rattle.state.specs.State.{State, size, graph}
use Rattle.state.specs.Refusal.{Condition, refusal, buffer_length, bad_snapshot, other_count, crowded_before, crowded_after, everyone, snapshot_edges}
use Rattle.state.specs.Outcome.{Outcome, outcome, lengths}

-- Load: its links, each figure the post's ceiling, all open.
unfoldable pub loaded : ℕ → List ℕ → State
loaded n edges = record { edges = edges; figures = tabulate (bound (edge edges) n) n; marks = all_stale n }

-- 9 and 10 of a load
abbrev pub form_conditions : ℕ → List ℕ → List Condition
form_conditions n snapshot = bad_snapshot snapshot ∷ other_count n snapshot ∷ []

-- the sheet's pairs are the graph after the call
abbrev pub load_conditions : ℕ → List ℕ → List Condition
load_conditions n snapshot = form_conditions n snapshot ++ crowded_after (edge (snapshot_edges snapshot)) n everyone ∷ []

unfoldable pub load_call : State → List ℕ → Outcome
load_call s snapshot = outcome (lengths s ++ load_conditions (size s) snapshot) s (loaded (size s) (snapshot_edges snapshot))

-- Write: the sheet of a state, a byte n - 1, then the link bits, spare bits 0. Byte i of it:
unfoldable pub snapshot_byte : List ℕ → ℕ → ℕ → ℕ
snapshot_byte edges n zero = n - 1
snapshot_byte edges n (suc k) = pack_to (λ j. let i = 8 * k + (7 - j) in ltb i (pair_count n) && bit_at edges i) 8

unfoldable pub snapshot_of : State → List ℕ
snapshot_of s = tabulate (snapshot_byte s.edges (size s)) (snapshot_bytes (size s))

pub record Written : Type 0 where
  pub refusal : ℕ
  pub snapshot : List ℕ

abbrev pub written : ℕ → List ℕ → Written
written refusal snapshot = record { refusal = refusal; snapshot = snapshot }

abbrev pub write_conditions : ℕ → Graph → ℕ → List Condition
write_conditions n g buffer = buffer_length (snapshot_bytes n) buffer ∷ crowded_before g n everyone ∷ []

-- in a buffer of exactly its length; one that is refused is left as it was
unfoldable pub write_call : State → List ℕ → Written
write_call s buffer =
    let r = refusal (lengths s ++ write_conditions (size s) (graph s) (length buffer)) in
    written r (cond (eqb r 0) (snapshot_of s) buffer)
