-- The records as the code goes over them, and the pairs by their numbers. Assumes nothing.
use Rattle.std.specs.Prelude.{Bool, false, cond, ◌&&◌, List, Option, Some, None, ◌≡◌, ℕ, zero, suc, ◌+◌, ◌<◌, ◌≤◌, eqb, leb, ltb, length, get_or}
use Rattle.packed.specs.Bits.{bytes_of}
use Rattle.packed.specs.Inside.Windows.{place_in, window}
use Rattle.packed.specs.Pairs.{max_nodes, pair_index}
use Rattle.state.specs.Inside.Earlier.{TwoNodes}
use Rattle.state.specs.Inside.MaxSizes.{max_edge_bytes}
use Rattle.survey.specs.Survey.{measurement_at, record_count}
use Rattle.survey.specs.declared.records.Measurement.{Measurement}

-- ---- the record that counts, so far

-- a record's survey number, and 0 for none; a record is given by 1 more than its position, and none by 0
unfoldable pub number_at : List ℕ → ℕ → ℕ
number_at survey zero = 0
number_at survey (suc j) = (measurement_at survey j).number

-- of the first k records those that pass a test: the last of those with the highest number
unfoldable pub last_to : List ℕ → (ℕ → Bool) → ℕ → ℕ
last_to survey test zero = 0
last_to survey test (suc i) = cond (test i && leb (number_at survey (last_to survey test i)) (measurement_at survey i).number) (suc i) (last_to survey test i)

-- its position
unfoldable pub position_at : ℕ → Option ℕ
position_at zero = None
position_at (suc j) = Some j

-- its strength reaches the threshold
unfoldable pub reached_by : List ℕ → ℕ → ℕ → Bool
reached_by survey threshold zero = false
reached_by survey threshold (suc j) = leb threshold (measurement_at survey j).strength

-- ---- the pairs by their numbers

abbrev pub number_of : Measurement → ℕ
number_of r = pair_index r.a r.b

-- record i is for the pair of number p
unfoldable pub has_number : List ℕ → ℕ → ℕ → Bool
has_number survey p i = eqb (number_of (measurement_at survey i)) p

-- the pair of number p is linked
abbrev pub linked_no : List ℕ → ℕ → ℕ → Bool
linked_no survey threshold p = reached_by survey threshold (last_to survey (has_number survey p) (record_count survey))

-- ---- a pass over the records for the pairs of a window

-- a record decides its pair's link: the pair is in the window, and no record before it has a higher number
unfoldable pub decides : ℕ → List ℕ → Measurement → Bool
decides start latest r = ltb (place_in start (number_of r)) window && leb (get_or latest (place_in start (number_of r)) 0) r.number

-- how many records the pair of number p has seen: all before the window, none past it, and i in it
unfoldable pub seen : List ℕ → ℕ → ℕ → ℕ → ℕ
seen survey start i p = cond (ltb p start) (record_count survey) (cond (ltb p (start + window)) i 0)

unfoldable pub pass_edges : List ℕ → ℕ → ℕ → ℕ → List ℕ
pass_edges survey threshold start i = bytes_of (λ p. reached_by survey threshold (last_to survey (has_number survey p) (seen survey start i p))) max_edge_bytes

-- the numbers of the pairs' records, for each place in the window
pub record Numbers (survey : List ℕ) (start i : ℕ) (latest : List ℕ) : Type 0 where
  pub long : length latest ≡ window
  pub each : (k : ℕ) → k < window → get_or latest k 0 ≡ number_at survey (last_to survey (has_number survey (start + k)) i)

-- ---- records that name two of n nodes

pub record Valid (survey : List ℕ) (n : ℕ) : Type 0 where
  pub few : n ≤ max_nodes
  pub each : (i : ℕ) → i < record_count survey → TwoNodes n (measurement_at survey i).a (measurement_at survey i).b
