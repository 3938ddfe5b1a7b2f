-- What may be done to a survey, and what a higher threshold does. Assumes nothing.
use Rattle.std.specs.Prelude.{false, true, List, ◌++◌, ◌↔◌, ◌≡◌, ℕ, ◌%◌, ◌<◌, ◌≤◌, length}
use Rattle.survey.specs.Survey.{is_for, linked_from, measurement_at, record_bytes, record_count, supersedes}
use Rattle.survey.specs.Latest.{Counts}
use Rattle.survey.specs.Sheet.{sheet_from}

-- the bytes are whole records
abbrev pub Whole : List ℕ → Type 0
Whole bytes = length bytes % record_bytes ≡ 0

-- another record of its pair supersedes record k
abbrev pub Superseded : List ℕ → ℕ → Type 0
Superseded survey k =
    (j : ℕ) × (j < record_count survey) × (is_for survey (measurement_at survey k).a (measurement_at survey k).b j ≡ true) × (supersedes survey j k ≡ true)

-- proofs/SurveyChanges has the proof.
pub record SurveyChanges : Type 0 where
  -- Appending a record of a pair changes no other pair,
  pub appended : (survey r : List ℕ) (threshold a b : ℕ) → Whole survey → length r ≡ record_bytes → is_for r a b 0 ≡ false
      → linked_from (survey ++ r) threshold a b ≡ linked_from survey threshold a b
  -- nor which record counts for it.
  pub counting : (survey r : List ℕ) (a b i : ℕ) → Whole survey → length r ≡ record_bytes → is_for r a b 0 ≡ false
      → Counts (survey ++ r) a b i ↔ Counts survey a b i
  -- A record that is superseded may be left out without changing the sheet.
  pub left_out : (before r after : List ℕ) (n threshold : ℕ) → Whole before → length r ≡ record_bytes
      → Superseded (before ++ (r ++ after)) (record_count before) → sheet_from (before ++ after) n threshold ≡ sheet_from (before ++ (r ++ after)) n threshold
  -- Threshold up, no link more.
  pub higher : (survey : List ℕ) (low high a b : ℕ) → low ≤ high → linked_from survey high a b ≡ true → linked_from survey low a b ≡ true
