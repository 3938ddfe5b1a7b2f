-- `state::refusal::check_pair` meets its contract. Assumes nothing.
use Rattle.std.proofs.Common.{arith, sym, ◌∙◌, inl, inr}
use Rattle.state.proofs.PairConditions.{pair_one}
use Rattle.state.proofs.RefusalLaws.{passed_node, passed_same, refusal_none, refused_node, refused_same}
use Rattle.state.proofs.refusal.check_pair.Goals as goal

pub returns-then-n-a : goal.returns-then-n-a
returns-then-n-a c =
    let t = c.args in
    sym (pair_one _ _ _ ∙ elim c.then-n-a.either [
      | inl h ↦ refused_node _ t.n t.a (omega (arith, h))
      | inr h ↦ passed_node _ t.n t.a (omega (arith, h.0)) ∙ refused_node _ t.n t.b (omega (arith, h.1))
    ])

pub returns-then-a-b : goal.returns-then-a-b
returns-then-a-b c =
    let t = c.args in
    sym (pair_one _ _ _ ∙ passed_node _ t.n t.a (omega arith) ∙ passed_node _ t.n t.b (omega arith) ∙ refused_same _ t.a t.b c.if-a-b.true)

pub returns : goal.returns
returns c =
    let t = c.args in
    sym (pair_one _ _ _ ∙ passed_node _ t.n t.a (omega arith) ∙ passed_node _ t.n t.b (omega arith) ∙ passed_same _ t.a t.b c.if-a-b.false ∙ refusal_none)
