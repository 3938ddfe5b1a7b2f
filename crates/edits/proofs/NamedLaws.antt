-- What an edit that is accepted knows of its pair, and when an edit of such a pair is accepted. Assumes nothing.
use mathlib.Core.Bool.{Bool, beq, cond, false, not, true}
use mathlib.Core.List.{◌++◌, [], List, ◌∷◌}
use mathlib.Core.Logic.{◌≢◌}
use mathlib.Core.Path.{refl, sym, ◌∙◌, ◌≡◌}
use Prim.Native.Nat.{◌<◌, ℕ}
use native.Mathlib.Omega.{arith}
use borrow.Author.Tests.{eqb-false, leb-false, not-false}
use Rattle.ego.specs.Graph.{Graph}
use Rattle.calls.proofs.AcceptLaws.{passes}
use Rattle.edits.specs.Edit.{add_conditions, remove_conditions}
use Rattle.edits.specs.Inside.Change.{pair_conditions}
use Rattle.state.proofs.AnswerLaws.{refused_by}
use Rattle.state.specs.Answers.{number}
use Rattle.state.specs.declared.refusal.Refusal.{Refusal}
use Rattle.state.proofs.PairConditions.{pair_one}
use Rattle.state.specs.Inside.Earlier.{TwoNodes}
use Rattle.state.specs.Refusal.{pair_conditions as each_pair}
use Rattle.state.proofs.RefusalLaws.{passed_absent, passed_after, passed_before, passed_node, passed_present, passed_same, refusal_none, refused_absent, refused_present}
use Rattle.state.specs.Refusal.{Condition, edge_absent, edge_present, ends, node_number, refusal, same_nodes, too_many, touched}

-- a and b are two nodes, and linked or not
pub record Named (n : ℕ) (g : Graph) (a b : ℕ) (on : Bool) : Type 0 where
  pub first : a < n
  pub second : b < n
  pub two : a ≢ b
  pub was : g a b ≡ on

-- what is read of the pair, compared with what is asked
pub unlike : (t on : Bool) → not (beq t on) ≡ true → t ≡ not on
unlike true true e = sym e
unlike true false e = refl
unlike false true e = refl
unlike false false e = e

pub alike : (t on : Bool) → not (beq t on) ≡ false → t ≡ on
alike true true e = refl
alike true false e = e
alike false true e = sym e
alike false false e = refl

module _ (n : ℕ) (g : Graph) (a b : ℕ) where
  two_named : (cs : List Condition) → refusal (node_number n a ∷ node_number n b ∷ same_nodes a b ∷ cs) ≡ 0 → (a < n) × (b < n) × (a ≢ b) × (refusal cs ≡ 0)
  unfolding node_number same_nodes
  two_named cs e =
      let r = passes (node_number n a) _ (λ z. omega arith) e in
      let q = passes (node_number n b) _ (λ z. omega arith) r.1 in
      let t = passes (same_nodes a b) cs (λ z. omega arith) q.1 in
      (leb-false n a r.0, leb-false n b q.0, eqb-false a b t.0, t.1)

  -- 4 and 5 of the pair, before the others
  pub named_refused : (cs : List Condition) (r : Refusal) → number r ≡ refusal (each_pair n ((a, b) ∷ []))
      → number r ≡ refusal (node_number n a ∷ node_number n b ∷ same_nodes a b ∷ cs)
  named_refused cs r e = refused_by (node_number n a ∷ node_number n b ∷ same_nodes a b ∷ []) cs r (e ∙ pair_one n a b)

  pub named_by : 0 ≡ refusal (each_pair n ((a, b) ∷ [])) → TwoNodes n a b
  named_by e = let r = two_named [] (sym (e ∙ pair_one n a b)) in record { first = r.0; second = r.1; apart = r.2 }

  pub two_passed : (cs : List Condition) → a < n → b < n → a ≢ b → refusal (node_number n a ∷ node_number n b ∷ same_nodes a b ∷ cs) ≡ refusal cs
  two_passed cs ha hb d = passed_node _ n a ha ∙ passed_node _ n b hb ∙ passed_same cs a b d

  -- 6 and 7: the edge is as the edit would make it
  asked_named : (on : Bool) (cs : List Condition) → refusal (cond on (edge_present g a b) (edge_absent g a b) ∷ cs) ≡ 0 → g a b ≡ not on
  unfolding edge_present edge_absent
  asked_named true cs e = (passes (edge_present g a b) cs (λ z. omega arith) e).0
  asked_named false cs e = not-false (g a b) (passes (edge_absent g a b) cs (λ z. omega arith) e).0

  asked_passed : (on : Bool) (cs : List Condition) → g a b ≡ not on → refusal (cond on (edge_present g a b) (edge_absent g a b) ∷ cs) ≡ refusal cs
  asked_passed true cs e = passed_present cs g a b e
  asked_passed false cs e = passed_absent cs g a b e

  pub asked_refused : (on : Bool) (cs : List Condition) → g a b ≡ on → refusal (cond on (edge_present g a b) (edge_absent g a b) ∷ cs) ≡ cond on 6 7
  asked_refused true cs e = refused_present cs g a b e
  asked_refused false cs e = refused_absent cs g a b e

  pub pair_accepted : (on : Bool) (cs : List Condition) → refusal (pair_conditions n g a b on ++ cs) ≡ 0 → Named n g a b (not on)
  pair_accepted on cs e = let r = two_named _ e in record { first = r.0; second = r.1; two = r.2; was = asked_named on cs r.3 }

  pub pair_passed : (on : Bool) (cs : List Condition) → Named n g a b (not on) → refusal (pair_conditions n g a b on ++ cs) ≡ refusal cs
  pair_passed on cs d = two_passed _ d.first d.second d.two ∙ asked_passed on cs d.was

  pub add_accepted : (g' : Graph) → refusal (add_conditions n g g' a b) ≡ 0 → Named n g a b false
  add_accepted g' e = pair_accepted true _ e

  pub remove_accepted : refusal (remove_conditions n g a b) ≡ 0 → Named n g a b true
  remove_accepted e = pair_accepted false _ e

  -- AN EDIT OF SUCH A PAIR is accepted where the nodes that it looks at keep to the limit.
  pub add_passed : (g' : Graph) → Named n g a b false → too_many g n (touched g a b) ≡ false → too_many g' n (ends a b) ≡ false
      → refusal (add_conditions n g g' a b) ≡ 0
  add_passed g' d h k = pair_passed true _ d ∙ passed_before _ g n (touched g a b) h ∙ passed_after [] g' n (ends a b) k ∙ refusal_none

  pub remove_passed : Named n g a b true → too_many g n (touched g a b) ≡ false → refusal (remove_conditions n g a b) ≡ 0
  remove_passed d h = pair_passed false _ d ∙ passed_before [] g n (touched g a b) h ∙ refusal_none
