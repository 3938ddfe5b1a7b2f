-- What the record that counts is, as a relation between a position and the whole file, and what the two calls say of it. Assumes nothing.
use Rattle.std.specs.Prelude.{true, false, List, ◌↔◌, ◌≢◌, ◌≡◌, ℕ, ◌<◌, ◌≤◌}
use Rattle.state.specs.Answers.{At, Nowhere, Refused}
use Rattle.state.specs.Refusal.{refusal}
use Rattle.survey.specs.Survey.{is_for, linked_from, measurement_at, record_count, supersedes}
use Rattle.survey.specs.Position.{position_call, position_conditions}

-- record i of the file counts for the pair: no other record of the pair supersedes it
pub record Counts (survey : List ℕ) (a b i : ℕ) : Type 0 where
  pub inside : i < record_count survey
  pub named : is_for survey a b i ≡ true
  pub latest : (j : ℕ) → j < record_count survey → is_for survey a b j ≡ true → supersedes survey j i ≡ false

-- the pair has a record
abbrev pub Measured : List ℕ → ℕ → ℕ → Type 0
Measured survey a b = (i : ℕ) × (i < record_count survey) × (is_for survey a b i ≡ true)

-- THE LATEST SURVEY COUNTS. proofs/LatestCounts has its proof.
pub record LatestCounts : Type 0 where
  -- At most one record counts for a pair,
  pub one : (survey : List ℕ) (a b i j : ℕ) → Counts survey a b i → Counts survey a b j → i ≡ j
  -- and one does exactly if the pair has a record.
  pub some : (survey : List ℕ) (a b : ℕ) → ((i : ℕ) × Counts survey a b i) ↔ Measured survey a b
  -- The pair is linked exactly if it has a record and the strength of the one that counts reaches the threshold.
  pub linked : (survey : List ℕ) (threshold a b : ℕ)
      → (linked_from survey threshold a b ≡ true) ↔ ((i : ℕ) × Counts survey a b i × (threshold ≤ (measurement_at survey i).strength))
  -- A position is the answer exactly if its record counts,
  pub position : (survey : List ℕ) (n a b i : ℕ) → refusal (position_conditions survey n a b) ≡ 0
      → (position_call survey n a b ≡ At i) ↔ Counts survey a b i
  -- none exactly if the pair has no record,
  pub none : (survey : List ℕ) (n a b : ℕ) → refusal (position_conditions survey n a b) ≡ 0
      → (position_call survey n a b ≡ Nowhere) ↔ (Measured survey a b → ⊥)
  -- and otherwise the call is refused.
  pub refused : (survey : List ℕ) (n a b : ℕ) → refusal (position_conditions survey n a b) ≢ 0
      → position_call survey n a b ≡ Refused (refusal (position_conditions survey n a b))
