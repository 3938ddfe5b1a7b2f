-- Spare bits in a call: an outcome keeps them, and clear, load, write and score do not depend on them. Assumes nothing.
use mathlib.Core.Bool.{◌&&◌, cond}
use mathlib.Core.List.{◌++◌, [], List, ◌∷◌}
use mathlib.Core.Path.{ap, ap₂, refl, subst, sym, ◌∙◌, ◌≡◌}
use Prim.Native.Nat.{◌*◌, ◌+◌, ◌-◌, ◌<◌, ◌^◌, suc, zero, ℕ}
use native.Mathlib.Decide.{dec_lt, ℕ_discrete}
use native.Mathlib.Omega.{arith}
use borrow.Author.Tests.{le-ltb, leb-false, ne_eqb}
use lib.Dec.{eqb, ltb}
use lib.ListN.{length}
use Rattle.arith.proofs.Sums.{sum_to_ext, tabulate_ext}
use Rattle.arith.specs.Sums.{bit, tabulate}
use Rattle.ego.proofs.Agreement.{score_agree}
use Rattle.packed.specs.Bits.{bit_at}
use Rattle.packed.specs.Edges.{edge}
use Rattle.packed.specs.Pairs.{pair_count}
use Rattle.calls.proofs.AcceptLaws.{append_same, outcome_accepted, outcome_refusal, outcome_refused, passes}
use Rattle.calls.specs.Clear.{clear_call, cleared}
use Rattle.calls.specs.Score.{score_call}
use Rattle.calls.specs.Snapshot.{load_call, load_conditions, loaded, snapshot_byte, snapshot_of, write_call, write_conditions, written}
use Rattle.calls.specs.Score.{Scored}
use Rattle.state.proofs.CrowdedLaws.{before_agree}
use Rattle.state.proofs.Spare.{alike_lengths, alike_links, alike_nodes, alike_refl, same_agree, spare_refl}
use Rattle.state.specs.Outcome.{edge_lengths, lengths, Outcome, outcome}
use Rattle.state.specs.Refusal.{buffer_length, Condition, crowded_before, everyone, node_count, node_number, refusal, snapshot_edges}
use Rattle.state.specs.Sizes.{edge_bytes, snapshot_bytes}
use Rattle.state.specs.Spare.{Alike, SameBits, SpareKept}
use Rattle.state.specs.State.{graph, size, State}

-- ---- a call that leaves an outcome

-- what two calls leave differs in spare bits at most
pub record AlikeOutcome (o p : Outcome) : Type 0 where
  pub refusal : o.refusal ≡ p.refusal
  pub after : Alike o.after p.after

pub outcome_spare : (cs : List Condition) (s t : State) → (refusal cs ≡ 0 → SpareKept s t) → SpareKept s (outcome cs s t).after
outcome_spare cs s t h = elim (ℕ_discrete (refusal cs) 0) [
  | yes z ↦ rw (outcome_accepted cs s t z) (h z)
  | no d ↦ rw (outcome_refused cs s t d) (spare_refl s)
]

module _ {s t : State} (h : Alike s t) (cs ds : List Condition) where
  pub rest_alike : refusal cs ≡ refusal ds → refusal (lengths s ++ cs) ≡ refusal (lengths t ++ ds)
  rest_alike e = ap (λ ls. refusal (ls ++ cs)) (alike_lengths h) ∙ append_same (lengths t) cs ds e

  -- s' and t' are what an accepted call leaves
  pub outcome_alike : (s' t' : State) → refusal cs ≡ refusal ds → (refusal cs ≡ 0 → Alike s' t') → AlikeOutcome (outcome cs s s') (outcome ds t t')
  outcome_alike s' t' e f = record {
    refusal = outcome_refusal cs s s' ∙ e ∙ sym (outcome_refusal ds t t');
    after = elim (ℕ_discrete (refusal cs) 0) [
      | yes z ↦ rw (outcome_accepted cs s s' z, outcome_accepted ds t t' (sym e ∙ z)) (f z)
      | no d ↦ rw (outcome_refused cs s s' d, outcome_refused ds t t' (λ z. d (e ∙ z))) h
    ];
  }

-- ---- clear, load and write

module _ {s t : State} (h : Alike s t) where
  pub same_build : (build : ℕ → State) → Alike (build (size s)) (build (size t))
  same_build build = subst (λ n. Alike (build (size s)) (build n)) (alike_nodes h) (alike_refl (build (size s)))

  pub clear_alike : AlikeOutcome (clear_call s) (clear_call t)
  unfolding clear_call
  clear_alike = outcome_alike h (lengths s) (lengths t) _ _ (ap refusal (alike_lengths h)) (λ z. same_build cleared)

  pub load_alike : (snapshot : List ℕ) → AlikeOutcome (load_call s snapshot) (load_call t snapshot)
  unfolding load_call
  load_alike snapshot = outcome_alike h _ _ _ _
      (rest_alike h (load_conditions (size s) snapshot) (load_conditions (size t) snapshot) (ap (λ n. refusal (load_conditions n snapshot)) (alike_nodes h)))
      (λ z. same_build (λ n. loaded n (snapshot_edges snapshot)))

module _ (n : ℕ) {x y : List ℕ} (e : SameBits (pair_count n) x y) where
  same_used : (i : ℕ) → (ltb i (pair_count n) && bit_at x i) ≡ (ltb i (pair_count n) && bit_at y i)
  same_used i = elim (dec_lt i (pair_count n)) [
    | yes h ↦ rw (e.bits i h)
    | no h ↦ rw (le-ltb i (pair_count n) (omega arith))
  ]

  same_byte : (i : ℕ) → snapshot_byte x n i ≡ snapshot_byte y n i
  unfolding snapshot_byte
  same_byte zero = refl
  same_byte (suc k) = sum_to_ext _ _ 8 (λ j l. ap (λ t. bit t * 2 ^ j) (same_used (8 * k + (7 - j))))

module _ {s t : State} (h : Alike s t) (buffer : List ℕ) where
  same_sheet : snapshot_of s ≡ snapshot_of t
  unfolding snapshot_of
  same_sheet =
      tabulate_ext _ _ (snapshot_bytes (size s)) (λ i l. same_byte (size s) h.edges i)
      ∙ ap (λ n. tabulate (snapshot_byte t.edges n) (snapshot_bytes n)) (alike_nodes h)

  write_same : refusal (lengths s ++ write_conditions (size s) (graph s) (length buffer))
      ≡ refusal (lengths t ++ write_conditions (size t) (graph t) (length buffer))
  write_same = rest_alike h _ _ (rw (before_agree (size s) (graph s) (graph t) everyone everyone (alike_links h) (λ p l. refl), alike_nodes h))

  pub write_alike : write_call s buffer ≡ write_call t buffer
  unfolding write_call
  write_alike = ap₂ (λ r sheet. written r (cond (eqb r 0) sheet buffer)) write_same same_sheet

-- ---- score

abbrev scored_as : ℕ → ℕ → Scored
scored_as r grains = record { refusal = r; score = cond (eqb r 0) grains 0 }

module _ (n p : ℕ) where
  abbrev conditions : List ℕ → List Condition
  conditions edges = edge_lengths n (length edges) ++ node_number n p ∷ crowded_before (edge edges) n (eqb p) ∷ []

  node_below : (edges : List ℕ) → refusal (conditions edges) ≡ 0 → p < n
  unfolding node_count buffer_length node_number
  node_below edges z =
      let a = passes (node_count n) _ (λ q. omega arith) z in
      let b = passes (buffer_length (edge_bytes n) (length edges)) _ (λ q. omega arith) a.1 in
      leb-false n p (passes (node_number n p) _ (λ q. omega arith) b.1).0

  module _ {x y : List ℕ} (e : SameBits (pair_count n) x y) where
    score_same : refusal (conditions x) ≡ refusal (conditions y)
    score_same = rw (e.long, before_agree n (edge x) (edge y) (eqb p) (eqb p) (same_agree e) (λ q l. refl))

    pub score_alike : score_call x n p ≡ score_call y n p
    unfolding score_call
    score_alike = elim (ℕ_discrete (refusal (conditions x)) 0) [
      | yes z ↦ ap₂ scored_as score_same (score_agree n p (node_below x z) (same_agree e))
      | no d ↦ rw (← score_same, ne_eqb (refusal (conditions x)) 0 d)
    ]
