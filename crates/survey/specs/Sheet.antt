-- The sheet of a survey, for an n and a threshold given with the call. Assumes nothing.
use Rattle.std.specs.Prelude.{cond, List, [], ◌∷◌, ◌++◌, ℕ, ◌-◌, eqb, length}
use Rattle.packed.specs.Edges.{edges_of}
use Rattle.state.specs.Sizes.{snapshot_bytes}
use Rattle.state.specs.Refusal.{Condition, refusal, node_count, buffer_length, part_record, pair_conditions, crowded_after, everyone}
use Rattle.calls.specs.Snapshot.{Written, written}
use Rattle.survey.specs.Survey.{linked_from, record_bytes, record_pairs}

-- a byte n - 1, then the link bits, spare bits 0
abbrev pub sheet_from : List ℕ → ℕ → ℕ → List ℕ
sheet_from survey n threshold = (n - 1) ∷ edges_of (linked_from survey threshold) n

-- 1 and 2; 14, after 2 and before 4; 4 and 5 of the records; 12, a post over the limit in the sheet
abbrev pub sheet_conditions : List ℕ → ℕ → ℕ → ℕ → List Condition
sheet_conditions survey n threshold buffer =
    node_count n ∷ buffer_length (snapshot_bytes n) buffer ∷ part_record record_bytes (length survey)
    ∷ (pair_conditions n (record_pairs survey) ++ crowded_after (linked_from survey threshold) n everyone ∷ [])

-- in a buffer of exactly its length; one that is refused is left as it was
unfoldable pub sheet_call : List ℕ → ℕ → ℕ → List ℕ → Written
sheet_call survey n threshold buffer =
    let r = refusal (sheet_conditions survey n threshold (length buffer)) in
    written r (cond (eqb r 0) (sheet_from survey n threshold) buffer)
