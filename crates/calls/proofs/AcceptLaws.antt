-- What a call that is accepted knows of its lengths, and what an accepted and a refused call leave. Assumes nothing.
use mathlib.Core.Bool.{false}
use mathlib.Core.List.{◌++◌, [], List, ◌∷◌}
use mathlib.Core.Logic.{inl, inr}
use mathlib.Core.Path.{ap, refl, sym, ◌∙◌, ◌≡◌}
use Prim.Native.Nat.{ℕ}
use native.Mathlib.Omega.{arith}
use borrow.Author.Tests.{eq-eqb, eqb-true, ne_eqb, not-false}
use lib.Dec.{eqb}
use lib.ListN.{length, length-drop}
use Rattle.arith.proofs.Tests.{or_false_both, test}
use Rattle.state.proofs.RefusalLaws.{append_none, Fitted, fitted_append, fitted_by}
use Rattle.state.specs.Outcome.{lengths, outcome}
use Rattle.state.specs.Refusal.{bad_snapshot, Condition, other_count, refusal, snapshot_edges, snapshot_nodes}
use Rattle.state.specs.Sizes.{edge_bytes}
use Rattle.calls.specs.Snapshot.{load_conditions}
use Rattle.state.specs.State.{size, State}

-- ---- lists of conditions

pub passes : (c : Condition) (cs : List Condition) → (c.0 ≡ 0 → ⊥) → refusal (c ∷ cs) ≡ 0 → (c.1 ≡ false) × (refusal cs ≡ 0)
unfolding refusal
passes c cs d e = elim (test c.1) [ inl t ↦ absurd (d (rw t at e)) | inr t ↦ (t, rw t at e) ]

-- the rest matters only where the first condition does not apply
pub same_rest : (c : Condition) (cs ds : List Condition) → (c.1 ≡ false → refusal cs ≡ refusal ds) → refusal (c ∷ cs) ≡ refusal (c ∷ ds)
unfolding refusal
same_rest c cs ds h = elim (test c.1) [ inl t ↦ rw t | inr t ↦ rw t (h t) ]

pub append_same : (ls cs ds : List Condition) → refusal cs ≡ refusal ds → refusal (ls ++ cs) ≡ refusal (ls ++ ds)
append_same [] cs ds e = e
append_same (c ∷ ls) cs ds e = same_rest c (ls ++ cs) (ls ++ ds) (λ t. append_same ls cs ds e)

-- ---- the lengths of the state

pub lengths_fit : (s : State) (cs : List Condition) → refusal (lengths s ++ cs) ≡ 0 → Fitted (size s) (length s.edges) (length s.marks)
unfolding lengths
lengths_fit s cs e = fitted_by refl (append_none (lengths s) cs e)

pub lengths_pass : (s : State) (cs : List Condition) → Fitted (size s) (length s.edges) (length s.marks) → refusal (lengths s ++ cs) ≡ refusal cs
unfolding lengths
lengths_pass s cs f = fitted_append (size s) (length s.edges) (length s.marks) cs f

-- what an accepted call is asked besides
pub lengths_rest : (s : State) (cs : List Condition) → refusal (lengths s ++ cs) ≡ 0 → refusal cs ≡ 0
lengths_rest s cs z = sym (lengths_pass s cs (lengths_fit s cs z)) ∙ z

-- ---- what a call leaves

module _ (cs : List Condition) (s t : State) where
  pub outcome_refusal : (outcome cs s t).refusal ≡ refusal cs
  unfolding outcome
  outcome_refusal = refl

  pub outcome_accepted : refusal cs ≡ 0 → (outcome cs s t).after ≡ t
  unfolding outcome
  outcome_accepted e = rw (eq-eqb (refusal cs) 0 e)

  pub outcome_refused : (refusal cs ≡ 0 → ⊥) → (outcome cs s t).after ≡ s
  unfolding outcome
  outcome_refused d = rw (ne_eqb (refusal cs) 0 d)

-- a sheet that is accepted has as many edge bytes as n nodes need
pub load_accepted : (n : ℕ) (snapshot : List ℕ) → refusal (load_conditions n snapshot) ≡ 0 → length (snapshot_edges snapshot) ≡ edge_bytes n
unfolding bad_snapshot other_count
load_accepted n snapshot e =
    let r = passes (bad_snapshot snapshot) _ (λ z. omega arith) e in
    let q = passes (other_count n snapshot) _ (λ z. omega arith) r.1 in
    let nodes = eqb-true (snapshot_nodes snapshot) n (not-false (eqb (snapshot_nodes snapshot) n) q.0) in
    let bytes = (or_false_both _ _ (or_false_both (eqb (length snapshot) 0) _ r.0).1).0 in
    let l = eqb-true (length snapshot) _ (not-false _ bytes) in
    omega (arith, length-drop 1 snapshot, l, ap edge_bytes nodes)
