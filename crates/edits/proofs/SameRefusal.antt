-- Whether a call turns back depends on the edges among the nodes below n alone. Assumes nothing.
use mathlib.Core.List.{List, ◌∷◌}
use mathlib.Core.Logic.{◌≢◌}
use mathlib.Core.Path.{refl, ◌≡◌}
use Prim.Native.Nat.{◌<◌, ℕ}
use borrow.Author.Tests.{eqb-false, leb-false}
use Rattle.ego.proofs.Agreement.{Agree}
use Rattle.ego.specs.Graph.{Graph}
use Rattle.calls.proofs.AcceptLaws.{same_rest}
use Rattle.edits.proofs.EditLaws.{touched_agree}
use Rattle.edits.specs.Edit.{add_conditions, remove_conditions}
use Rattle.state.proofs.CrowdedLaws.{after_agree, before_agree}
use Rattle.state.specs.Refusal.{Condition, edge_absent, edge_present, ends, node_number, refusal, same_nodes, touched}

module _ (n : ℕ) (g g' : Graph) (a b : ℕ) (same : Agree n g g') where
  -- the conditions on the two nodes, then others that may count on them
  named_agree : (cs ds : List Condition) → (a < n → b < n → a ≢ b → refusal cs ≡ refusal ds)
      → refusal (node_number n a ∷ node_number n b ∷ same_nodes a b ∷ cs) ≡ refusal (node_number n a ∷ node_number n b ∷ same_nodes a b ∷ ds)
  unfolding node_number same_nodes
  named_agree cs ds h =
      same_rest (node_number n a) _ _ (λ ha. same_rest (node_number n b) _ _ (λ hb. same_rest (same_nodes a b) cs ds (λ d.
      h (leb-false n a ha) (leb-false n b hb) (eqb-false a b d))))

  pub add_agree : (h h' : Graph) → (a < n → b < n → a ≢ b → Agree n h h') → refusal (add_conditions n g h a b) ≡ refusal (add_conditions n g' h' a b)
  unfolding edge_present
  add_agree h h' after = named_agree _ _ (λ ha hb d.
      rw (
        same a b ha hb,
        before_agree n g g' (touched g a b) (touched g' a b) same (touched_agree a b ha hb same),
        after_agree n h h' (ends a b) (ends a b) (after ha hb d) (λ p l. refl),
      ))

  pub remove_agree : refusal (remove_conditions n g a b) ≡ refusal (remove_conditions n g' a b)
  unfolding edge_absent
  remove_agree = named_agree _ _ (λ ha hb d.
      rw (same a b ha hb, before_agree n g g' (touched g a b) (touched g' a b) same (touched_agree a b ha hb same)))
