-- The pairs of a schedule by their numbers. Assumes nothing.
use Rattle.std.specs.Prelude.{Bool, ◌&&◌, List, ℕ, eqb, leb}
use Rattle.arith.specs.Sums.{any_to}
use Rattle.packed.specs.Bits.{differ}
use Rattle.packed.specs.Pairs.{pair_index}
use Rattle.schedule.specs.Schedule.{opening_at, open_at, record_count}
use Rattle.schedule.specs.declared.records.Opening.{Opening}

abbrev pub number_of : Opening → ℕ
number_of r = pair_index r.a r.b

-- one of the first k records is for the pair of number p, and open at minute t
unfoldable pub open_to : List ℕ → ℕ → ℕ → ℕ → Bool
open_to schedule t p k = any_to (λ i. eqb (number_of (opening_at schedule i)) p && open_at (opening_at schedule i) t) k

-- the pair of number p is linked at minute t
abbrev pub linked_no : List ℕ → ℕ → ℕ → Bool
linked_no schedule t p = open_to schedule t p (record_count schedule)

-- of the pairs numbered from `start` up to `end`, one at minute m differs from its state at t
unfoldable pub differs_in : List ℕ → ℕ → ℕ → ℕ → ℕ → Bool
differs_in schedule start end t m = any_to (λ p. leb start p && differ (linked_no schedule m p) (linked_no schedule t p)) end
