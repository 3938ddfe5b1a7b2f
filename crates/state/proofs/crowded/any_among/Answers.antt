-- `state::crowded::any_among` meets its contract. Assumes nothing.
use Rattle.std.proofs.Common.{ltb, take, ◌∙◌, rules, tests}
use Rattle.std.proofs.lemmas.Iterator.{YieldsList-from_slice}
use Rattle.std.proofs.lemmas.Iterator.Search.{any_from_yields_List}
use Rattle.ego.specs.Limits.{limit}
use Rattle.state.proofs.DegreeLaws.{any_listed}
use Rattle.state.proofs.crowded.any_among.Goals as goal

pub returns : goal.returns
returns c =
    any_from_yields_List (ltb limit) _ _ _ c.any.ensures.ran (YieldsList-from_slice (take c.args.n c.args.degrees.now) cc) (λ x b q k. search (rules, tests))
    ∙ any_listed (ltb limit) c.args.degrees.now c.args.n c.requires
