-- A survey: walkers measure links several times, and the latest survey counts. Assumes nothing.
use Rattle.std.specs.Prelude.{Bool, not, ◌&&◌, ◌||◌, List, ℕ, ◌+◌, ◌*◌, ◌/◌, eqb, leb, ltb, length}
use Rattle.arith.specs.Sums.{any_to, tabulate}
use Rattle.packed.specs.Bits.{run_of}
use Rattle.packed.specs.Pairs.{same_pair}
use Rattle.ego.specs.Graph.{Graph}
use Rattle.survey.specs.declared.records.Measurement.{Measurement}

-- A survey record is 40 bits, five bytes,
abbrev pub record_bytes : ℕ
record_bytes = 5

abbrev pub record_count : List ℕ → ℕ
record_count survey = length survey / record_bytes

-- most significant first: two posts (8 each), survey number (16), strength (8). Record i, the file's first being 0:
unfoldable pub measurement_at : List ℕ → ℕ → Measurement
measurement_at survey i =
    let at : ℕ = 8 * (record_bytes * i) in
    record { a = run_of survey at 8; b = run_of survey (at + 8) 8; number = run_of survey (at + 16) 16; strength = run_of survey (at + 32) 8 }

-- it is for the pair of a and b, which it names in either order
unfoldable pub is_for : List ℕ → ℕ → ℕ → ℕ → Bool
is_for survey a b i = same_pair (measurement_at survey i).a (measurement_at survey i).b a b

-- The record with the highest survey number supersedes the others, and at equal numbers the one later in the file: record j supersedes record i.
unfoldable pub supersedes : List ℕ → ℕ → ℕ → Bool
supersedes survey j i =
    let x : ℕ = (measurement_at survey j).number in
    let y : ℕ = (measurement_at survey i).number in
    ltb y x || eqb x y && ltb i j

-- Record i counts for the pair of a and b: it is for the pair, and no record for the pair supersedes it.
unfoldable pub counts : List ℕ → ℕ → ℕ → ℕ → Bool
counts survey a b i = is_for survey a b i && not (any_to (λ j. is_for survey a b j && supersedes survey j i) (record_count survey))

-- The pair is linked if that strength reaches a threshold; a pair with no record is unlinked.
unfoldable pub linked_from : List ℕ → ℕ → Graph
linked_from survey threshold a b = any_to (λ i. counts survey a b i && leb threshold (measurement_at survey i).strength) (record_count survey)

-- the pairs that the first k records name, and all
unfoldable pub pairs_to : List ℕ → ℕ → List (ℕ × ℕ)
pairs_to survey k = tabulate (λ i. ((measurement_at survey i).a, (measurement_at survey i).b)) k

abbrev pub record_pairs : List ℕ → List (ℕ × ℕ)
record_pairs survey = pairs_to survey (record_count survey)
