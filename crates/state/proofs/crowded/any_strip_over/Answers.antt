-- `state::crowded::any_strip_over` meets its contract. Assumes nothing.
use Rattle.std.proofs.Common.{ℕ, Bool, ltb, refl, ◌∙◌, arith, rules, tests}
use native.Mathlib.Nat.{sub-zero}
use Rattle.std.proofs.lemmas.Iterator.{YieldsList-from_range}
use Rattle.std.proofs.lemmas.Iterator.Search.{any_from_yields_List}
use Rattle.ego.specs.Graph.{degree}
use Rattle.ego.specs.Limits.{limit}
use Rattle.packed.specs.Edges.{edge}
use Rattle.state.proofs.DegreeLaws.{any_strip, strips_all}
use Rattle.state.specs.Refusal.{too_many}
use Rattle.state.proofs.crowded.any_strip_over.Goals as goal

pub returns : goal.returns
unfolding too_many
returns c =
    let n = c.args.n in
    let over : ℕ → Bool = λ p. ltb limit (degree (edge c.args.edges.now) n p) in
    any_from_yields_List (any_strip over n) _ _ _ c.any.ensures.ran (YieldsList-from_range 0 c.div_ceil.result c.div_ceil.result refl (sub-zero _)) (λ x b q k. search (rules, tests))
    ∙ strips_all over n _ (omega (arith, c.div_ceil.ensures))
