-- The sheet of a schedule at a minute: the bits that the records link one after the other, and the links. Assumes nothing.
use mathlib.Core.Bool.{cond, false, or-false, true, ◌&&◌, ◌||◌}
use mathlib.Core.List.{List}
use mathlib.Core.Logic.{inl, inr}
use mathlib.Core.Path.{ap, refl, sym, ◌∙◌, ◌≡◌}
use Prim.Native.Nat.{◌+◌, suc, ℕ, ◌≤◌}
use native.Mathlib.Nat.{le_refl}
use native.Mathlib.Numerals.{add-one}
use native.Mathlib.Omega.{arith}
use lib.Dec.{eqb}
use lib.ListN.{length, replicate}
use Rattle.arith.proofs.Tests.{and_all, and-false, test}
use Rattle.arith.specs.Sums.{any_to}
use Rattle.packed.proofs.BitLaws.{clear_bytes_of, length-bytes_of, set-bytes_of}
use Rattle.packed.proofs.EdgeLaws.{with_two}
use Rattle.packed.proofs.GraphLaws.{edge-edges_of, numbered_comm}
use Rattle.packed.proofs.PairLaws.{pair_lt}
use Rattle.packed.specs.Bits.{bytes_of}
use Rattle.packed.specs.Edges.{edge, with_edge}
use Rattle.packed.specs.Inside.Room.{Room}
use Rattle.packed.specs.Pairs.{max_nodes}
use Rattle.ego.proofs.Agreement.{Agree}
use Rattle.state.specs.Inside.MaxSizes.{max_edge_bytes}
use Rattle.state.specs.Sizes.{edge_bytes, snapshot_bytes}
use Rattle.calls.proofs.MadeLaws.{made_room}
use Rattle.calls.proofs.SnapshotLaws.{bytes_small}
use Rattle.schedule.proofs.NumberLaws.{schedule_numbered}
use Rattle.schedule.specs.Schedule.{linked_at, open_at, opening_at, schedule_nodes}
use Rattle.schedule.specs.Sheet.{edges_at}
use Rattle.schedule.specs.declared.records.Opening.{Opening}
use Rattle.schedule.specs.Inside.Numbers.{number_of, open_to}
use Rattle.schedule.specs.Inside.Records.{Sound, Sounds}

-- ---- the records that are open, one after the other

-- the bits of the first k records
abbrev pub bits_to : List ℕ → ℕ → ℕ → List ℕ
bits_to schedule t k = bytes_of (λ p. open_to schedule t p k) max_edge_bytes

pub bits_none : (schedule : List ℕ) (t : ℕ) → replicate max_edge_bytes 0 ≡ bits_to schedule t 0
unfolding open_to any_to
bits_none schedule t = clear_bytes_of (λ p. open_to schedule t p 0) max_edge_bytes (λ p. refl)

pub bits_long : (schedule : List ℕ) (t k : ℕ) → length (bits_to schedule t k) ≡ max_edge_bytes
bits_long schedule t k = length-bytes_of (λ p. open_to schedule t p k) max_edge_bytes

pub bits_room : (schedule : List ℕ) (t k : ℕ) → Room max_nodes (bits_to schedule t k)
bits_room schedule t k = made_room max_nodes (λ p. open_to schedule t p k) (le_refl max_nodes)

-- a record more
module _ (schedule : List ℕ) (t i : ℕ) where
  abbrev this : Opening
  this = opening_at schedule i

  open_more : open_at this t ≡ true → (p : ℕ) → open_to schedule t p i || eqb (number_of this) p ≡ open_to schedule t p (suc i)
  unfolding open_to any_to
  open_more o p = ap (λ x. open_to schedule t p i || x) (sym (ap (λ x. eqb (number_of this) p && x) o ∙ and_all (eqb (number_of this) p)))

  shut_more : open_at this t ≡ false → (p : ℕ) → open_to schedule t p i ≡ open_to schedule t p (suc i)
  unfolding open_to any_to
  shut_more o p =
      sym (ap (λ x. open_to schedule t p i || x) (ap (λ x. eqb (number_of this) p && x) o ∙ and-false (eqb (number_of this) p)) ∙ or-false (open_to schedule t p i))

  pub bits_more : Sound max_nodes this
      → cond (open_at this t) (with_edge (bits_to schedule t i) this.a this.b true) (bits_to schedule t i) ≡ bits_to schedule t (i + 1)
  bits_more s = elim (test (open_at this t)) [
    | inl o ↦
        let two = s.nodes in
        rw (o, add-one) (with_two (bits_to schedule t i) this.a this.b true two.apart
        ∙ set-bytes_of (λ p. open_to schedule t p i) max_edge_bytes (number_of this)
        (omega (arith, pair_lt this.a this.b max_nodes two.apart two.first two.second, (bits_room schedule t i).bits, bits_long schedule t i))
        ∙ (λ j. bytes_of (λ p. open_more o p j) max_edge_bytes))
    | inr o ↦ rw (o, add-one) (λ j. bytes_of (λ p. shut_more o p j) max_edge_bytes)
  ]

-- the sheet's edges are the links
pub sheet_agree : (schedule : List ℕ) (t : ℕ) → Sounds schedule → Agree (schedule_nodes schedule) (edge (edges_at schedule t)) (linked_at schedule t)
sheet_agree schedule t v =
    let h = schedule_numbered schedule v t in
    edge-edges_of (linked_at schedule t) (schedule_nodes schedule) (numbered_comm h) h.self

-- ---- how long the sheet is, from what `nodes` and `edge_bytes` answer

module _ (schedule : List ℕ) {n e : ℕ} (is : n ≡ schedule_nodes schedule) (q : e ≡ edge_bytes n) where
  pub size_is : 1 + e ≡ snapshot_bytes (schedule_nodes schedule)
  size_is = ap (λ k. 1 + k) q ∙ ap snapshot_bytes is

  -- it is a part of what is made
  pub size_within : n ≤ max_nodes → 1 + e ≤ suc max_edge_bytes
  size_within h = omega (arith, bytes_small n h)
