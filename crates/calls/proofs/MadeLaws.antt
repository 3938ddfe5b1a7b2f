-- Snapshots that a call makes of a file: zeros with the first byte of a snapshot, the edges by the numbers of the pairs, and how the write of one ends.
-- Assumes nothing.
use mathlib.Core.Bool.{Bool, cond, false, true}
use mathlib.Core.List.{List, [], ◌∷◌}
use mathlib.Core.Logic.{inl, inr}
use mathlib.Core.Path.{ap, refl, ◌∙◌, ◌≡◌}
use Prim.Native.Nat.{◌*◌, ◌-◌, suc, ℕ, ◌≤◌}
use native.Mathlib.Omega.{arith}
use borrow.Author.Tests.{ne_eqb}
use borrow.Rule.Slice.PartMut.{put_mid}
use Rattle.std.proofs.Common.{Result, IsErrAnd}
use lib.Dec.{eqb}
use lib.ListN.{drop, length, length-replicate, replicate, set, take}
use Rattle.arith.proofs.Tests.{test}
use Rattle.packed.proofs.BitLaws.{length-bytes_of, take-bytes_of}
use Rattle.packed.proofs.GraphLaws.{edge_numbered, edges_numbered, Numbered}
use Rattle.packed.proofs.PairLaws.{pairs_mono}
use Rattle.packed.specs.Bits.{bytes_of}
use Rattle.packed.specs.Edges.{edge, edges_of}
use Rattle.packed.specs.Inside.Room.{Room}
use Rattle.packed.specs.Pairs.{max_nodes, pair_count}
use Rattle.ego.proofs.Agreement.{Agree}
use Rattle.ego.specs.Graph.{Graph}
use Rattle.state.proofs.AnswerLaws.{number_some, passed_on}
use Rattle.state.proofs.CrowdedLaws.{too_many_agree}
use Rattle.state.proofs.RefusalLaws.{passed_after, refusal_none, refused_after}
use Rattle.state.specs.Answers.{number, refusal_of}
use Rattle.state.specs.declared.refusal.Refusal.{Refusal}
use Rattle.state.specs.Inside.MaxSizes.{max_edge_bytes}
use Rattle.state.specs.Refusal.{Condition, crowded_after, everyone, refusal, too_many}
use Rattle.state.specs.Sizes.{edge_bytes, snapshot_bytes}
use Rattle.calls.proofs.SnapshotLaws.{bytes_small, part_is, put_after}
use Rattle.calls.specs.Inside.Made.{made_call}
use Rattle.calls.specs.Snapshot.{written}

-- ---- zeros with the first byte of a snapshot, and the part after it

module _ {buffer : List ℕ} (x : ℕ) (zeros : buffer ≡ replicate (suc max_edge_bytes) 0) where
  headed : set buffer 0 x ≡ x ∷ replicate max_edge_bytes 0
  headed = ap (λ l. set l 0 x) zeros

  pub headed_long : length (set buffer 0 x) ≡ suc max_edge_bytes
  headed_long = ap length headed ∙ ap suc (length-replicate {A = ℕ} max_edge_bytes 0)

  pub headed_rest : take (length (set buffer 0 x) - 1) (drop 1 (set buffer 0 x)) ≡ replicate max_edge_bytes 0
  headed_rest = part_is (set buffer 0 x) ∙ ap (drop 1) headed

  pub headed_put : {rest : List ℕ} → put_mid 1 (length (set buffer 0 x) - 1) (set buffer 0 x) rest ≡ x ∷ rest
  headed_put {rest} = ap (λ l. put_mid 1 (length l - 1) l rest) headed ∙ put_after x (replicate max_edge_bytes 0) rest

-- ---- the write

module _ (made : List ℕ) (n : ℕ) (buffer : List ℕ) where
  pub made_crowded : too_many (edge (drop 1 made)) n everyone ≡ true → written 12 buffer ≡ made_call made n buffer
  unfolding made_call
  made_crowded e = rw e

  pub made_written : too_many (edge (drop 1 made)) n everyone ≡ false → written 0 (take (length buffer) made) ≡ made_call made n buffer
  unfolding made_call
  made_written e = rw e

-- refused by a check, whose refusal `?` hands on: the buffer is as it was
pub written_on : {A : Type 0} (x : Result A Refusal) (r : Refusal) (cs : List Condition) (buffer out : List ℕ) → IsErrAnd x (λ e. e ≡ r)
    → number r ≡ refusal cs → written (refusal_of x) buffer ≡ (let n : ℕ = refusal cs in written n (cond (eqb n 0) out buffer))
written_on x r cs buffer out h e = rw (passed_on x r h ∙ e, ne_eqb (refusal cs) 0 (λ z. number_some r (e ∙ z)))

-- ---- the edges by the numbers of the pairs

pub most_pairs : pair_count max_nodes ≡ 8 * max_edge_bytes
unfolding pair_count
most_pairs = refl

module _ (n : ℕ) (f : ℕ → Bool) where
  -- the first byte, and a bit for each pair of the most nodes
  abbrev pub made_of : List ℕ
  made_of = (n - 1) ∷ bytes_of f max_edge_bytes

  pub made_long : length made_of ≡ suc max_edge_bytes
  made_long = ap suc (length-bytes_of f max_edge_bytes)

  pub made_room : n ≤ max_nodes → Room n (drop 1 made_of)
  made_room h = record { few = h; bits = omega (arith, pairs_mono h, most_pairs, length-bytes_of f max_edge_bytes) }

module _ {g : Graph} {n : ℕ} {f : ℕ → Bool} (h : Numbered g n f) (few : n ≤ max_nodes) where
  -- its first bytes are the snapshot of the graph
  pub made_sheet : take (snapshot_bytes n) (made_of n f) ≡ (n - 1) ∷ edges_of g n
  made_sheet =
      let more : snapshot_bytes n ≡ suc (edge_bytes n) = omega arith in
      ap (λ m. take m (made_of n f)) more
      ∙ ap (λ xs. (n - 1) ∷ xs) (take-bytes_of f (edge_bytes n) max_edge_bytes (bytes_small n few) ∙ edges_numbered h)

  made_agree : Agree n (edge (bytes_of f max_edge_bytes)) g
  made_agree a b ha hb = edge_numbered h max_edge_bytes (omega (arith, pairs_mono few, most_pairs)) a b ha hb

  -- the write answers by the graph: refusal 12, or the snapshot
  pub made_call_lem : (buffer : List ℕ) → length buffer ≡ snapshot_bytes n
      → made_call (made_of n f) n buffer
      ≡ (let r : ℕ = refusal (crowded_after g n everyone ∷ []) in written r (cond (eqb r 0) ((n - 1) ∷ edges_of g n) buffer))
  unfolding made_call
  made_call_lem buffer l =
      let over = too_many_agree n (edge (bytes_of f max_edge_bytes)) g everyone everyone made_agree (λ p h. refl) in
      elim (test (too_many g n everyone)) [
        | inl e ↦ rw (over ∙ e, refused_after [] g n everyone e)
        | inr e ↦ rw (over ∙ e, passed_after [] g n everyone e ∙ refusal_none, l, made_sheet)
      ]
