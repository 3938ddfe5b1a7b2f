-- Clear and load set the spare bits to 0. Assumes nothing.
use mathlib.Core.Bool.{false}
use mathlib.Core.List.{◌++◌, List}
use mathlib.Core.Path.{refl, subst, sym, ◌∙◌, ◌≡◌}
use Prim.Native.Nat.{◌*◌, ℕ, ◌≤◌}
use native.Mathlib.Decide.{dec_lt}
use native.Mathlib.Omega.{arith}
use borrow.Author.Tests.{le-leb}
use lib.ListN.{length-drop}
use Rattle.arith.proofs.Sums.{any_to_false, length_tabulate}
use Rattle.ego.specs.Bound.{bound}
use Rattle.packed.proofs.BitLaws.{bit_past, bit_zeros}
use Rattle.packed.specs.Bits.{bit_at}
use Rattle.packed.specs.Edges.{edge}
use Rattle.packed.specs.Pairs.{pair_count}
use Rattle.calls.proofs.AcceptLaws.{lengths_rest, outcome_accepted, outcome_refusal}
use Rattle.calls.proofs.SnapshotLaws.{fits_by}
use Rattle.calls.specs.Clear.{clear_call, cleared}
use Rattle.calls.specs.Snapshot.{load_call, load_conditions, loaded}
use Rattle.state.proofs.Spare.{exact_zero, stale_zero}
use Rattle.state.specs.Marks.{mark_bits}
use Rattle.state.specs.Outcome.{lengths}
use Rattle.state.specs.Refusal.{refusal, snapshot_edges, spare_set}
use Rattle.state.specs.Sizes.{edge_bytes}
use Rattle.state.specs.Spare.{SpareZero}
use Rattle.state.specs.State.{size, State}

cleared_zero : (n : ℕ) → SpareZero (cleared n)
unfolding cleared
cleared_zero n = record { edges = λ i h. bit_zeros (edge_bytes n) i; marks = λ i h. exact_zero n i }

pub clear_zero : (s : State) → (clear_call s).refusal ≡ 0 → SpareZero (clear_call s).after
unfolding clear_call
clear_zero s z = rw (outcome_accepted (lengths s) s (cleared (size s)) (sym (outcome_refusal (lengths s) s (cleared (size s))) ∙ z)) (cleared_zero (size s))

-- a sheet that is accepted has no spare bit set
module _ (n : ℕ) (snapshot : List ℕ) (z : refusal (load_conditions n snapshot) ≡ 0) where
  sheet_zero : (i : ℕ) → pair_count n ≤ i → bit_at (snapshot_edges snapshot) i ≡ false
  unfolding spare_set
  sheet_zero i h =
      let f = fits_by n snapshot _ refl z in
      elim (dec_lt i (8 * edge_bytes n)) [
        | yes l ↦ rw (le-leb (pair_count n) i h) at (any_to_false _ (8 * edge_bytes n) f.spare i l)
        | no l ↦ bit_past (snapshot_edges snapshot) i (omega (arith, length-drop 1 snapshot, f.long))
      ]

  loaded_zero : SpareZero (loaded n (snapshot_edges snapshot))
  unfolding loaded
  loaded_zero =
      let nodes = length_tabulate (bound (edge (snapshot_edges snapshot)) n) n in
      record {
        edges = λ i h. sheet_zero i (subst (λ m. pair_count m ≤ i) nodes h);
        marks = λ i h. stale_zero n i (subst (λ m. mark_bits m ≤ i) nodes h);
      }

pub load_zero : (s : State) (snapshot : List ℕ) → (load_call s snapshot).refusal ≡ 0 → SpareZero (load_call s snapshot).after
unfolding load_call
load_zero s snapshot z =
    let cs = lengths s ++ load_conditions (size s) snapshot in
    let e = sym (outcome_refusal cs s (loaded (size s) (snapshot_edges snapshot))) ∙ z in
    rw (outcome_accepted cs s (loaded (size s) (snapshot_edges snapshot)) e) (loaded_zero (size s) snapshot (lengths_rest s _ e))
