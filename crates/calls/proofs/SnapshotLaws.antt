-- A snapshot's refusals and its parts. Assumes nothing.
use mathlib.Core.Bool.{◌&&◌, Bool, not-not, false, not, true}
use mathlib.Core.List.{◌++◌, [], append-nil, List, ◌∷◌}
use mathlib.Core.Path.{ap, subst, sym, ◌∙◌, ◌≡◌}
use Prim.Native.Nat.{◌*◌, ◌+◌, ◌-◌, ◌/◌, ◌<◌, ◌^◌, suc, ℕ, ◌≤◌}
use native.Mathlib.Decide.{dec_lt, ℕ_discrete}
use native.Mathlib.Nat.{lt_of_le_of_lt, mul-le-mul}
use native.Mathlib.Omega.{arith}
use borrow.Author.Tests.{eq-eqb, eqb-true, le-leb, le-ltb, lt-leb, lt-ltb, ne_eqb, not-false}
use borrow.Rule.Slice.PartMut.{put_mid}
use lib.Dec.{eqb, leb, ltb}
use lib.ListN.{drop, get_or, length, length-drop, length-set, set, take}
use lib.Seq.{drop-length, get_or-set_other, get_or-set_same, take-length}
use Rattle.arith.proofs.Sums.{any_to_cat, any_to_ext, any_to_never, any_to_none, tabulate_first, tabulate_is}
use Rattle.arith.proofs.Tests.{or_false_both}
use Rattle.arith.proofs.Words.{pack_is, trim_high, trim_le, trim_low}
use Rattle.arith.specs.Sums.{any_to, tabulate}
use Rattle.packed.proofs.BitLaws.{byte_bit}
use Rattle.packed.proofs.RunLaws.{run_none_set}
use Rattle.packed.specs.Bits.{bit_at, run_of}
use Rattle.packed.specs.Inside.Bytes.{Bytes}
use Rattle.packed.specs.Edges.{edge}
use Rattle.packed.specs.Pairs.{max_nodes, pair_count}
use Rattle.calls.proofs.AcceptLaws.{passes}
use Rattle.state.proofs.LimitLaws.{few_each}
use Rattle.state.proofs.RefusalLaws.{append_refused, Fitted, fitted_append, passed_after, passed_before, passed_length, refusal_none, refused_after, refused_before, refused_length}
use Rattle.state.specs.Outcome.{lengths, state_lengths}
use Rattle.state.specs.Refusal.{bad_snapshot, Condition, crowded_after, everyone, other_count, refusal, snapshot_edges, snapshot_nodes, spare_set, too_many}
use Rattle.state.specs.Sizes.{edge_bytes, snapshot_bytes}
use Rattle.state.specs.Inside.Bounds.{Boundable}
use Rattle.state.specs.Inside.MaxSizes.{max_edge_bytes}
use Rattle.calls.specs.Snapshot.{form_conditions, load_conditions, snapshot_byte, snapshot_of, write_call, write_conditions, written}
use Rattle.state.specs.State.{graph, size, State}

module _ (cs : List Condition) (snapshot : List ℕ) where
  pub refused_empty : length snapshot ≡ 0 → refusal (bad_snapshot snapshot ∷ cs) ≡ 9
  unfolding refusal bad_snapshot
  refused_empty e = rw (eq-eqb (length snapshot) 0 e)

  pub refused_other_length : (length snapshot ≡ 0 → ⊥) → (length snapshot ≡ snapshot_bytes (snapshot_nodes snapshot) → ⊥)
      → refusal (bad_snapshot snapshot ∷ cs) ≡ 9
  unfolding refusal bad_snapshot
  refused_other_length d e = rw (ne_eqb (length snapshot) 0 d, ne_eqb (length snapshot) (snapshot_bytes (snapshot_nodes snapshot)) e)

  module _ (some : length snapshot ≡ 0 → ⊥) (long : length snapshot ≡ snapshot_bytes (snapshot_nodes snapshot)) where
    pub refused_spare : spare_set (snapshot_nodes snapshot) (snapshot_edges snapshot) ≡ true → refusal (bad_snapshot snapshot ∷ cs) ≡ 9
    unfolding refusal bad_snapshot
    refused_spare e = rw (ne_eqb (length snapshot) 0 some, eq-eqb (length snapshot) (snapshot_bytes (snapshot_nodes snapshot)) long, e)

    pub passed_snapshot : spare_set (snapshot_nodes snapshot) (snapshot_edges snapshot) ≡ false → refusal (bad_snapshot snapshot ∷ cs) ≡ refusal cs
    unfolding refusal bad_snapshot
    passed_snapshot e = rw (ne_eqb (length snapshot) 0 some, eq-eqb (length snapshot) (snapshot_bytes (snapshot_nodes snapshot)) long, e)

-- the spare bits are the run past the pairs
module _ (n : ℕ) (edges : List ℕ) (start count : ℕ) (e : start ≡ pair_count n) (l : start + count ≡ 8 * edge_bytes n) where
  spare_is : any_to (λ i. bit_at edges (start + i)) count ≡ spare_set n edges
  unfolding spare_set
  spare_is =
      let spare : ℕ → Bool = λ i. leb (pair_count n) i && bit_at edges i in
      any_to_ext (λ i. bit_at edges (start + i)) (λ i. spare (start + i)) count (λ i b. rw (le-leb (pair_count n) (start + i) (omega arith)))
      ∙ sym (ap (any_to spare) (sym l) ∙ any_to_cat spare start count ∙ rw (any_to_never spare start (λ i b. rw (lt-leb (pair_count n) i (omega arith)))))

  pub spare_none : count ≡ 0 → false ≡ spare_set n edges
  spare_none z = sym (any_to_none _) ∙ ap (any_to (λ i. bit_at edges (start + i))) (sym z) ∙ spare_is

  pub spare_run : {run : ℕ} → run ≡ run_of edges start count → not (eqb run 0) ≡ spare_set n edges
  spare_run q = ap (λ x. not (eqb x 0)) q ∙ ap not (run_none_set (bit_at edges) start count) ∙ not-not _ ∙ spare_is

-- what a load that is accepted knows of its snapshot
pub record Fits (n : ℕ) (snapshot : List ℕ) : Type 0 where
  pub nodes : snapshot_nodes snapshot ≡ n
  pub long : length snapshot ≡ snapshot_bytes n
  pub spare : spare_set n (snapshot_edges snapshot) ≡ false

pub fits_by : (n : ℕ) (snapshot : List ℕ) (cs : List Condition) {r : ℕ} → r ≡ refusal (bad_snapshot snapshot ∷ other_count n snapshot ∷ cs) → r ≡ 0
    → Fits n snapshot
unfolding bad_snapshot other_count
fits_by n snapshot cs e z =
    let a = passes (bad_snapshot snapshot) _ (λ q. omega arith) (sym e ∙ z) in
    let b = passes (other_count n snapshot) _ (λ q. omega arith) a.1 in
    let is : snapshot_nodes snapshot ≡ n = eqb-true (snapshot_nodes snapshot) n (not-false (eqb (snapshot_nodes snapshot) n) b.0) in
    let form = or_false_both _ _ (or_false_both (eqb (length snapshot) 0) _ a.0).1 in
    record {
      nodes = is;
      long = eqb-true (length snapshot) _ (not-false _ form.0) ∙ ap snapshot_bytes is;
      spare = subst (λ m. spare_set m (snapshot_edges snapshot) ≡ false) is form.1;
    }

-- ---- how a load's refusals go on after those of the form

module _ (n : ℕ) (snapshot : List ℕ) {r : ℕ} (form : r ≡ refusal (form_conditions n snapshot)) where
  abbrev crowded : Condition
  crowded = crowded_after (edge (snapshot_edges snapshot)) n everyone

  pub form_refused : (r ≡ 0 → ⊥) → r ≡ refusal (load_conditions n snapshot)
  form_refused d = sym (append_refused (form_conditions n snapshot) (crowded ∷ []) (sym form) d)

  module _ (z : r ≡ 0) where
    form_passed : refusal (load_conditions n snapshot) ≡ refusal (crowded ∷ [])
    unfolding refusal bad_snapshot other_count
    form_passed =
        let a = passes (bad_snapshot snapshot) (other_count n snapshot ∷ []) (λ q. omega arith) (sym form ∙ z) in
        let b = passes (other_count n snapshot) [] (λ q. omega arith) a.1 in
        rw (a.0, b.0)

    pub load_crowded : too_many (edge (snapshot_edges snapshot)) n everyone ≡ true → 12 ≡ refusal (load_conditions n snapshot)
    load_crowded t = sym (form_passed ∙ refused_after [] _ n everyone t)

    pub load_passed : too_many (edge (snapshot_edges snapshot)) n everyone ≡ false → 0 ≡ refusal (load_conditions n snapshot)
    load_passed t = sym (form_passed ∙ passed_after [] _ n everyone t ∙ refusal_none)

-- a sheet's length is small
pub bytes_small : (n : ℕ) → n ≤ max_nodes → edge_bytes n ≤ max_edge_bytes
unfolding pair_count
bytes_small n h = omega (arith, mul-le-mul {n₂ = 256} {m₂ = 255} h (let l : n - 1 ≤ 255 = omega arith in l))

-- the part of a sheet after its first byte
pub part_is : (snapshot : List ℕ) → take (length snapshot - 1) (drop 1 snapshot) ≡ snapshot_edges snapshot
part_is snapshot = ap (λ m. take m (drop 1 snapshot)) (sym (length-drop 1 snapshot)) ∙ take-length (drop 1 snapshot)

pub part_length : (snapshot : List ℕ) {m : ℕ} → length snapshot ≡ 1 + m → length (take (length snapshot - 1) (drop 1 snapshot)) ≡ m
part_length snapshot e = ap length (part_is snapshot) ∙ length-drop 1 snapshot ∙ omega arith

-- its edges, once they are copied, have bounds
pub copied_bounds : {n : ℕ} {snapshot edges : List ℕ} → n ≤ max_nodes → Fits n snapshot → edges ≡ snapshot_edges snapshot
    → too_many (edge (snapshot_edges snapshot)) n everyone ≡ false → Boundable edges n
copied_bounds {n} {snapshot} few f e over = rw e (record {
  room = record { few = few; bits = omega (arith, length-drop 1 snapshot, f.long) };
  few = few_each (edge (snapshot_edges snapshot)) n over;
})

-- ---- the bytes that are written

module _ (edges : List ℕ) (n k : ℕ) (small : get_or edges k 0 < 256) where
  -- a byte of pairs alone is copied
  whole_byte : 8 * suc k ≤ pair_count n → get_or edges k 0 ≡ snapshot_byte edges n (suc k)
  unfolding snapshot_byte
  whole_byte h =
      pack_is 8 (get_or edges k 0) (λ j. ltb (8 * k + (7 - j)) (pair_count n) && bit_at edges (8 * k + (7 - j))) small
      (λ j l. sym (rw (lt-ltb (8 * k + (7 - j)) (pair_count n) (omega arith)) (byte_bit edges k j l)))

  -- of the last byte the spare bits are left out
  last_byte : pair_count n < 8 * suc k → 8 * k ≤ pair_count n
      → get_or edges k 0 / 2 ^ (8 * suc k - pair_count n) * 2 ^ (8 * suc k - pair_count n) ≡ snapshot_byte edges n (suc k)
  unfolding snapshot_byte
  last_byte h g =
      let x = get_or edges k 0 in
      let s = 8 * suc k - pair_count n in
      pack_is 8 (x / 2 ^ s * 2 ^ s) (λ j. ltb (8 * k + (7 - j)) (pair_count n) && bit_at edges (8 * k + (7 - j))) (lt_of_le_of_lt (trim_le x s) small)
      (λ j l. elim (dec_lt j s) [
        | yes b ↦ trim_low x s j b ∙ sym (rw (le-ltb (8 * k + (7 - j)) (pair_count n) (omega arith)))
        | no b ↦ trim_high x s j (omega arith) ∙ sym (rw (lt-ltb (8 * k + (7 - j)) (pair_count n) (omega arith)) (byte_bit edges k j l))
      ])

-- the bytes after the first, where the edges end with a pair and where their last byte is trimmed
module _ (edges : List ℕ) (n : ℕ) (small : Bytes edges) (long : length edges ≡ edge_bytes n) where
  pub pairs_whole : 8 * length edges - pair_count n ≡ 0 → edges ≡ tabulate (λ k. snapshot_byte edges n (suc k)) (edge_bytes n)
  pairs_whole z = tabulate_is _ 0 edges (λ k b. whole_byte edges n k (small k) (omega arith)) ∙ ap (tabulate _) long

  pub pairs_trimmed : (last : ℕ) {spare r : ℕ} → suc last ≡ length edges → spare ≡ 8 * length edges - pair_count n → (spare ≡ 0 → ⊥)
      → r ≡ get_or edges last 0 / 2 ^ spare * 2 ^ spare → set edges last r ≡ tabulate (λ k. snapshot_byte edges n (suc k)) (edge_bytes n)
  pairs_trimmed last {spare} {r} end e some q =
      let is : spare ≡ 8 * suc last - pair_count n = e ∙ ap (λ m. 8 * m - pair_count n) (sym end) in
      tabulate_is _ 0 (set edges last r) (λ k b. elim (ℕ_discrete k last) [
        | yes i ↦ rw i (get_or-set_same edges last r 0 (omega arith) ∙ (rw is at q) ∙ last_byte edges n last (small last) (omega arith) (omega arith))
        | no d ↦ get_or-set_other edges last k r 0 d ∙ whole_byte edges n k (small k) (omega (arith, length-set edges last r))
      ]) ∙ ap (tabulate _) (length-set edges last r ∙ long)

-- what is put in the place of all bytes after the first
pub put_after : (x : ℕ) (xs rest : List ℕ) → put_mid 1 (length (x ∷ xs) - 1) (x ∷ xs) rest ≡ x ∷ rest
put_after x xs rest =
    let end : suc (length xs) - 1 ≡ length xs = omega arith in
    ap (λ after. x ∷ (rest ++ after)) (ap (λ m. drop m xs) end ∙ drop-length xs) ∙ ap (λ after. x ∷ after) (append-nil rest)

-- the byte n - 1 is written in front of them
pub sheet_is : (s : State) (buffer : List ℕ) {rest : List ℕ} → length buffer ≡ snapshot_bytes (size s)
    → rest ≡ tabulate (λ k. snapshot_byte s.edges (size s) (suc k)) (edge_bytes (size s))
    → put_mid 1 (length (set buffer 0 (size s - 1)) - 1) (set buffer 0 (size s - 1)) rest ≡ snapshot_of s
unfolding snapshot_of snapshot_byte
sheet_is s [] l e = absurd (omega (arith, l))
sheet_is s (x ∷ xs) {rest} l e =
    let f = snapshot_byte s.edges (size s) in
    let more : snapshot_bytes (size s) ≡ suc (edge_bytes (size s)) = omega arith in
    put_after (size s - 1) xs rest ∙ ap (λ after. (size s - 1) ∷ after) e ∙ sym (ap (tabulate f) more ∙ tabulate_first f (edge_bytes (size s)))

-- ---- how a write ends

module _ (s : State) (buffer : List ℕ) where
  abbrev conditions : List Condition
  conditions = write_conditions (size s) (graph s) (length buffer)

  write_refused : {r : ℕ} → r ≡ refusal (lengths s ++ conditions) → (r ≡ 0 → ⊥) → written r buffer ≡ write_call s buffer
  unfolding write_call
  write_refused {r} e d = rw (sym e, ne_eqb r 0 d)

  pub write_lengths : {r : ℕ} → r ≡ refusal (state_lengths (size s) (length s.edges) (length s.marks)) → (r ≡ 0 → ⊥)
      → written r buffer ≡ write_call s buffer
  unfolding lengths
  write_lengths e d = write_refused (sym (append_refused (lengths s) conditions (sym e) d)) d

  module _ (f : Fitted (size s) (length s.edges) (length s.marks)) where
    fitted : refusal (lengths s ++ conditions) ≡ refusal conditions
    unfolding lengths
    fitted = fitted_append (size s) (length s.edges) (length s.marks) conditions f

    pub write_buffer : (length buffer ≡ snapshot_bytes (size s) → ⊥) → written 2 buffer ≡ write_call s buffer
    write_buffer d = write_refused (sym (fitted ∙ refused_length _ (snapshot_bytes (size s)) (length buffer) d)) (λ e. omega arith)

    module _ (l : length buffer ≡ snapshot_bytes (size s)) where
      pub write_crowded : too_many (graph s) (size s) everyone ≡ true → written 11 buffer ≡ write_call s buffer
      write_crowded t =
          write_refused (sym (fitted ∙ passed_length _ (snapshot_bytes (size s)) (length buffer) l ∙ refused_before [] (graph s) (size s) everyone t))
          (λ e. omega arith)

      pub write_accepted : too_many (graph s) (size s) everyone ≡ false → {out : List ℕ} → out ≡ snapshot_of s → written 0 out ≡ write_call s buffer
      unfolding write_call
      write_accepted t q =
          rw (fitted ∙ passed_length _ (snapshot_bytes (size s)) (length buffer) l ∙ passed_before [] (graph s) (size s) everyone t ∙ refusal_none, q)
