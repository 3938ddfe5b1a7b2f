-- The answers of the score call. Assumes nothing.
use mathlib.Core.Bool.{◌&&◌}
use mathlib.Core.List.{◌++◌, [], List, ◌∷◌}
use mathlib.Core.Logic.{inl, inr}
use mathlib.Core.Path.{ap, sym, ◌∙◌, ◌≡◌}
use Prim.Native.Nat.{◌<◌, ℕ, ◌≤◌}
use native.Mathlib.Decide.{ℕ_discrete}
use native.Mathlib.Omega.{arith}
use borrow.Author.Tests.{eq-eqb, leb-false, le-ltb, ltb-false, lt-ltb, ne_eqb}
use lib.Dec.{eqb, ltb}
use lib.ListN.{length}
use Rattle.arith.proofs.Sums.{any_to_here, any_to_never}
use Rattle.arith.proofs.Tests.{eqb_same, test}
use Rattle.ego.specs.Graph.{degree, Graph}
use Rattle.ego.specs.Limits.{limit}
use Rattle.ego.specs.Score.{score}
use Rattle.packed.specs.Edges.{edge}
use Rattle.state.proofs.RefusalLaws.{append_refused, passed_before, passed_node, refusal_none, refused_before, refused_node, Sized, sized-append}
use Rattle.state.specs.Outcome.{edge_lengths}
use Rattle.state.specs.Refusal.{buffer_length, Condition, crowded_before, node_count, node_number, refusal, too_many}
use Rattle.state.specs.Sizes.{edge_bytes}
use Rattle.calls.proofs.AcceptLaws.{passes}
use Rattle.calls.specs.Score.{score_call, scored}

-- looking at one node
pub one_over : (g : Graph) (n p : ℕ) → p < n → too_many g n (eqb p) ≡ ltb limit (degree g n p)
unfolding too_many
one_over g n p h = elim (test (ltb limit (degree g n p))) [
  | inl t ↦ any_to_here (λ q. eqb p q && ltb limit (degree g n q)) n p h (rw (eqb_same p) t) ∙ sym t
  | inr t ↦ any_to_never (λ q. eqb p q && ltb limit (degree g n q)) n (λ q l. elim (ℕ_discrete p q) [
    | yes e ↦ rw (eq-eqb p q e) (ap (λ r. ltb limit (degree g n r)) (sym e) ∙ t)
    | no d ↦ rw (ne_eqb p q d)
  ]) ∙ sym t
]

module _ (edges : List ℕ) (n p : ℕ) where
  abbrev conditions : List Condition
  conditions = node_number n p ∷ crowded_before (edge edges) n (eqb p) ∷ []

  refused_with : {r : ℕ} → refusal (edge_lengths n (length edges) ++ conditions) ≡ r → (r ≡ 0 → ⊥) → scored r 0 ≡ score_call edges n p
  unfolding score_call
  refused_with {r} e d = rw (e, ne_eqb r 0 d)

  pub score_sizes : {r : ℕ} → r ≡ refusal (edge_lengths n (length edges)) → (r ≡ 0 → ⊥) → scored r 0 ≡ score_call edges n p
  score_sizes e d = refused_with (append_refused (edge_lengths n (length edges)) conditions (sym e) d) d

  module _ (s : Sized n (length edges)) where
    pub score_node : n ≤ p → scored 4 0 ≡ score_call edges n p
    score_node h = refused_with (sized-append n (length edges) conditions s ∙ refused_node _ n p h) (λ e. omega arith)

    pub score_crowded : p < n → limit < degree (edge edges) n p → scored 11 0 ≡ score_call edges n p
    score_crowded h k =
        refused_with (sized-append n (length edges) conditions s ∙ passed_node _ n p h
        ∙ refused_before [] (edge edges) n (eqb p) (one_over (edge edges) n p h ∙ lt-ltb _ _ k)) (λ e. omega arith)

    pub score_accepted : {r : ℕ} → p < n → degree (edge edges) n p ≤ limit → r ≡ score (edge edges) n p → scored 0 r ≡ score_call edges n p
    unfolding score_call
    score_accepted h k q =
        rw (
          sized-append n (length edges) conditions s ∙ passed_node _ n p h
              ∙ passed_before [] (edge edges) n (eqb p) (one_over (edge edges) n p h ∙ le-ltb _ _ k) ∙ refusal_none,
          q,
        )

  -- ---- a call that is accepted

  module _ (z : (score_call edges n p).refusal ≡ 0) where
    node_fits : (p < n) × (degree (edge edges) n p ≤ limit)
    unfolding score_call node_count buffer_length node_number crowded_before
    node_fits =
        let a = passes (node_count n) _ (λ e. omega arith) z in
        let b = passes (buffer_length (edge_bytes n) (length edges)) _ (λ e. omega arith) a.1 in
        let c = passes (node_number n p) _ (λ e. omega arith) b.1 in
        let d = passes (crowded_before (edge edges) n (eqb p)) [] (λ e. omega arith) c.1 in
        let h = leb-false n p c.0 in
        (h, ltb-false limit (degree (edge edges) n p) (sym (one_over (edge edges) n p h) ∙ d.0))

    -- what the named node keeps to
    pub accepted_degree : degree (edge edges) n p ≤ limit
    accepted_degree = node_fits.1

    pub accepted_score : (score_call edges n p).score ≡ score (edge edges) n p
    unfolding score_call
    accepted_score = rw z
