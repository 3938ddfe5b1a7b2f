-- `state::sizes::check_count` meets its contract. Assumes nothing.
use Rattle.std.proofs.Common.{sym, ◌∙◌, inl, inr}
use Rattle.state.proofs.RefusalLaws.{passed_count, refusal_none, refused_above, refused_zero}
use Rattle.state.proofs.sizes.check_count.Goals as goal

pub returns-then-n-eq0 : goal.returns-then-n-eq0
returns-then-n-eq0 c = elim c.then-n-eq0.either [
  | inl e ↦ sym (refused_zero _ _ e)
  | inr h ↦ sym (refused_above _ _ h.1)
]

pub returns : goal.returns
returns c = sym (passed_count _ _ c.if-n-eq0.false c.if-n-gt-MAX_NODES.false ∙ refusal_none)
