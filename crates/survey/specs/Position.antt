-- For a pair the position of the record that counted (the file's first record is 0), or none if it has no record. Assumes nothing.
use Rattle.std.specs.Prelude.{Bool, true, false, cond, List, [], ◌∷◌, ◌++◌, ℕ, eqb, ltb, length}
use Rattle.arith.specs.Lists.{least_from}
use Rattle.state.specs.Answers.{Found, At, Nowhere, Refused}
use Rattle.state.specs.Refusal.{Condition, refusal, node_count, part_record, pair_conditions}
use Rattle.survey.specs.Survey.{counts, record_bytes, record_count, record_pairs}

-- the position, and the number of records where none counts
unfoldable pub position_of : List ℕ → ℕ → ℕ → ℕ
position_of survey a b = least_from (counts survey a b) 0 (record_count survey)

-- 1; 14; 4 and 5: the records, and the pair asked about, go through them
abbrev pub position_conditions : List ℕ → ℕ → ℕ → ℕ → List Condition
position_conditions survey n a b = node_count n ∷ part_record record_bytes (length survey) ∷ pair_conditions n (record_pairs survey ++ (a, b) ∷ [])

-- 02's numbers: the refusal number, whether the pair has a record, and the position; with a refusal, or with none, 0 beside it
pub record Answer : Type 0 where
  pub refusal : ℕ
  pub some : Bool
  pub position : ℕ

unfoldable pub answer_of : List ℕ → ℕ → ℕ → ℕ → Answer
answer_of survey n a b =
    let r : ℕ = refusal (position_conditions survey n a b) in
    let p : ℕ = position_of survey a b in
    cond (eqb r 0)
    (cond (ltb p (record_count survey)) (record { refusal = 0; some = true; position = p }) (record { refusal = 0; some = false; position = 0 }))
    (record { refusal = r; some = false; position = 0 })

-- these numbers for each case of the answer
unfoldable pub numbers_of : Found ℕ → Answer
numbers_of (At p) = record { refusal = 0; some = true; position = p }
numbers_of Nowhere = record { refusal = 0; some = false; position = 0 }
numbers_of (Refused r) = record { refusal = r; some = false; position = 0 }

-- the answer
unfoldable pub position_call : List ℕ → ℕ → ℕ → ℕ → Found ℕ
position_call survey n a b =
    let r : ℕ = refusal (position_conditions survey n a b) in
    let p : ℕ = position_of survey a b in
    cond (eqb r 0) (cond (ltb p (record_count survey)) (At p) Nowhere) (Refused r)
