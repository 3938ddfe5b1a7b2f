-- `packed::degrees::count_run` meets its contract. What is left of the run are the nodes that are not counted yet. Assumes nothing.
use mathlib.Core.List.{List}
use mathlib.Core.Path.{ap, ◌∙◌, ◌≡◌}
use Prim.Native.Nat.{◌+◌, ◌-◌, ◌<◌, ◌≤◌, ℕ}
use native.Mathlib.Nat.{lt_of_lt_of_le}
use native.Mathlib.Omega.{arith}
use lib.Bits.{bit_and}
use lib.Count.{count_trailing_zeros}
use lib.ListN.{get_or, length, set}
use lib.Pow.{pow_mono}
use lib.Seq.{get_or-set_same}
use Rattle.arith.proofs.Sums.{count_to_le}
use Rattle.arith.proofs.Words.{bit_below, LowDigit, low_digit}
use Rattle.packed.proofs.DegreeLaws.{all_counts, Counts, counts_most, first_counts, next_counts, place_of}
use Rattle.packed.proofs.RowLaws.{row_few, row_run, row_within}
use Rattle.packed.specs.Bits.{run_of}
use Rattle.packed.specs.Edges.{edge}
use Rattle.packed.specs.Inside.Degrees.{InRow}
use Rattle.packed.proofs.degrees.count_run.Goals as goal

-- ---- a turn: its digit, the place of its node, and the counts after it

module _ (es counts : List ℕ) (first size b at end own left : ℕ) (r : InRow es first size b at end) (w : Counts es counts first size b at end own left)
    (some : 0 < left) where
  low : LowDigit left (count_trailing_zeros 64 left)
  low = low_digit 64 left (omega arith) (lt_of_lt_of_le w.small (pow_mono {j = 64} (omega (arith, r.short))))

  within : count_trailing_zeros 64 left < end - at
  within = bit_below left _ (count_trailing_zeros 64 left) w.small low.on

  placed : first + (end - first - 1 - count_trailing_zeros 64 left) + count_trailing_zeros 64 left + 1 ≡ end
  placed = place_of first at end (count_trailing_zeros 64 left) within r.after

  -- there is such a place
  inside : end - first - 1 - count_trailing_zeros 64 left < length counts
  inside = omega (arith, placed, w.long, r.held)

  counted : let place = end - first - 1 - count_trailing_zeros 64 left in
      Counts es (set counts place (get_or counts place 0 + 1)) first size b at end (own + 1) (bit_and left (left - 1))
  counted =
      next_counts es counts first size b at end own left (count_trailing_zeros 64 left) (end - first - 1 - count_trailing_zeros 64 left)
      placed r.held low w

  -- its count fits
  few : get_or counts (end - first - 1 - count_trailing_zeros 64 left) 0 + 1 ≤ b + 1
  few =
      let j : ℕ = end - first - 1 - count_trailing_zeros 64 left in
      let most = counts_most _ _ first _ b _ end _ _ j (omega (arith, inside, w.long)) (omega (arith, placed)) counted in
      omega (arith, most, get_or-set_same counts j (get_or counts j 0 + 1) 0 inside)

  few_own : own + 1 ≤ b
  few_own = omega (arith, counted.mine, count_to_le (edge es b) end, r.below)

-- ---- the goals

pub overflow_add-row_start : goal.overflow_add-row_start
overflow_add-row_start c = omega (arith, row_few c.args.b c.requires.0.room, c.requires.0.below)

pub run_of-left-requires : goal.run_of-left-requires
run_of-left-requires c = (
  omega (arith, c.requires.0.some),
  omega (arith, c.requires.0.short),
  omega (arith, row_within c.args.b c.requires.0.room, c.requires.0.below, c.requires.0.some),
)

pub loop-left-init : goal.loop-left-init
loop-left-init c =
    let a = c.args in
    let r = c.requires.0 in
    first_counts a.edges.now a.first (length a.counts.now) a.b a.at a.end c.run_of-left.result (omega (arith, r.some)) r.below
    (c.run_of-left.ensures ∙ ap (λ i. run_of a.edges.now (i + a.at) (a.end - a.at)) c.row_start.ensures
    ∙ row_run a.edges.now a.b a.at (a.end - a.at) (omega (arith, r.below, r.some))) c.requires.1

pub overflow_sub-place-in-loop-left-2 : goal.overflow_sub-place-in-loop-left-2
overflow_sub-place-in-loop-left-2 c =
    omega (arith, placed _ _ _ _ _ _ _ _ _ c.requires.0 c.loop-left.invariant (omega arith))

pub overflow_add-counts : goal.overflow_add-counts
overflow_add-counts c =
    omega (arith, few _ _ _ _ _ _ _ _ _ c.requires.0 c.loop-left.invariant (omega arith), c.requires.0.room.few)

pub overflow_add-own : goal.overflow_add-own
overflow_add-own c =
    omega (arith, few_own _ _ _ _ _ _ _ _ _ c.requires.0 c.loop-left.invariant (omega arith), c.requires.0.room.few)

pub loop-left-preserved : goal.loop-left-preserved
loop-left-preserved c = counted _ _ _ _ _ _ _ _ _ c.requires.0 c.loop-left.invariant (omega arith)

pub returns : goal.returns
returns c = all_counts _ _ _ _ _ _ _ _ c.loop-left.left c.loop-left.invariant c.loop-left-test.false
