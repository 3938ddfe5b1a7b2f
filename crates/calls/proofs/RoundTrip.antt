-- A snapshot that is written and loaded, and one that is loaded and written. Assumes nothing.
use mathlib.Core.Bool.{◌&&◌, Bool}
use mathlib.Core.List.{List}
use mathlib.Core.Path.{ap, refl, sym, ◌∙◌, ◌≡◌}
use Prim.Native.Nat.{◌%◌, ◌*◌, ◌+◌, ◌-◌, ◌/◌, ◌<◌, suc, zero, ℕ}
use native.Mathlib.Decide.{dec_lt, ℕ_discrete}
use native.Mathlib.Omega.{arith}
use borrow.Author.Tests.{le-leb, le-ltb, lt-ltb}
use lib.Dec.{leb, ltb}
use lib.ListN.{get_or, length}
use lib.Seq.{get_or-drop}
use Rattle.arith.proofs.Sums.{any_to_false, get_d_tabulate, length_tabulate, tabulate_is}
use Rattle.arith.proofs.Words.{pack_bit, pack_is}
use Rattle.arith.specs.Digits.{bit_of}
use Rattle.arith.specs.Sums.{tabulate}
use Rattle.ego.specs.Bound.{bound}
use Rattle.packed.proofs.BitLaws.{byte_bit}
use Rattle.packed.proofs.EdgeLaws.{edge_self, edge_two}
use Rattle.packed.proofs.PairLaws.{pair_lt}
use Rattle.packed.specs.Bits.{bit_at}
use Rattle.packed.specs.Inside.Bytes.{Bytes}
use Rattle.packed.specs.Edges.{edge}
use Rattle.packed.specs.Pairs.{pair_count, pair_index}
use Rattle.calls.proofs.SnapshotLaws.{Fits, fits_by}
use Rattle.state.specs.Refusal.{refusal, snapshot_edges, spare_set}
use Rattle.state.specs.Sizes.{edge_bytes, snapshot_bytes}
use Rattle.calls.specs.Snapshot.{load_conditions, loaded, snapshot_byte, snapshot_of}
use Rattle.state.specs.State.{size, State}

-- ---- the bits that are written: those of the pairs, and no spare bit

pub written_bit : (s : State) (i : ℕ) → i < 8 * edge_bytes (size s) → bit_at (snapshot_edges (snapshot_of s)) i ≡ ltb i (pair_count (size s)) && bit_at s.edges i
unfolding bit_at snapshot_of snapshot_byte
written_bit s i h =
    let n = size s in
    let k = i / 8 in
    let j = 7 - i % 8 in
    let f : ℕ → Bool = λ j. ltb (8 * k + (7 - j)) (pair_count n) && bit_at s.edges (8 * k + (7 - j)) in
    let back : 8 * k + (7 - j) ≡ i = omega arith in
    let next : 1 + k ≡ suc k = omega arith in
    ap (λ x. bit_of x j) (get_or-drop 1 (tabulate (snapshot_byte s.edges n) (snapshot_bytes n)) k 0
    ∙ ap (λ m. get_or (tabulate (snapshot_byte s.edges n) (snapshot_bytes n)) m 0) next
    ∙ get_d_tabulate (snapshot_byte s.edges n) (snapshot_bytes n) (suc k) 0 (omega arith))
    ∙ pack_bit f 8 j (omega arith)
    ∙ ap (λ m. ltb m (pair_count n) && bit_at s.edges m) back

-- LOAD OF A WRITTEN SHEET gives the links back.
pub links_back : (s : State) (a b : ℕ) → a < size s → b < size s → edge (snapshot_edges (snapshot_of s)) a b ≡ edge s.edges a b
links_back s a b ha hb = elim (ℕ_discrete a b) [
  | yes e ↦ edge_self _ a b e ∙ sym (edge_self _ a b e)
  | no d ↦
      let l : pair_index a b < pair_count (size s) = pair_lt a b (size s) d ha hb in
      edge_two _ a b d ∙ written_bit s (pair_index a b) (omega arith) ∙ rw (lt-ltb (pair_index a b) (pair_count (size s)) l) (sym (edge_two _ a b d))
]

-- each byte of an accepted sheet is the one that is written
byte_of : (n : ℕ) (snapshot : List ℕ) → Bytes snapshot → Fits n snapshot → (i : ℕ) → i < snapshot_bytes n
    → get_or snapshot i 0 ≡ snapshot_byte (snapshot_edges snapshot) n i
unfolding snapshot_byte spare_set
byte_of n snapshot small fits zero h = omega (arith, fits.nodes)
byte_of n snapshot small fits (suc k) h =
    let edges = snapshot_edges snapshot in
    let pc = pair_count n in
    let at : get_or edges k 0 ≡ get_or snapshot (suc k) 0 = get_or-drop 1 snapshot k 0 ∙ ap (λ m. get_or snapshot m 0) (let q : 1 + k ≡ suc k = omega arith in q) in
    pack_is 8 (get_or snapshot (suc k) 0) (λ j. ltb (8 * k + (7 - j)) pc && bit_at edges (8 * k + (7 - j))) (small (suc k)) (λ j l.
    let i = 8 * k + (7 - j) in
    let bit = byte_bit edges k j l ∙ ap (λ x. bit_of x j) at in
    elim (dec_lt i pc) [
      | yes b ↦ sym (rw (lt-ltb i pc b) bit)
      | no b ↦
          let none = any_to_false (λ i. leb pc i && bit_at edges i) (8 * edge_bytes n) fits.spare i (omega arith) in
          sym bit ∙ (rw (le-leb pc i (omega arith)) at none) ∙ sym (rw (le-ltb i pc (omega arith)))
    ])

-- WRITE OF A LOADED SHEET gives the sheet back.
pub sheet_back : (n : ℕ) (snapshot : List ℕ) → Bytes snapshot → refusal (load_conditions n snapshot) ≡ 0
    → snapshot_of (loaded n (snapshot_edges snapshot)) ≡ snapshot
unfolding snapshot_of loaded
sheet_back n snapshot small e =
    let fits = fits_by n snapshot _ refl e in
    let edges = snapshot_edges snapshot in
    let m : length (tabulate (bound (edge edges) n) n) ≡ n = length_tabulate (bound (edge edges) n) n in
    ap (λ m. tabulate (snapshot_byte edges m) (snapshot_bytes m)) m
    ∙ sym (tabulate_is (snapshot_byte edges n) 0 snapshot (λ i h. byte_of n snapshot small fits i (omega (arith, fits.long)))
    ∙ ap (tabulate (snapshot_byte edges n)) fits.long)
