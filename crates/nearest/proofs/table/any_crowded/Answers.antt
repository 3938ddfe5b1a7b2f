-- `nearest::table::any_crowded` meets its contract. Assumes nothing.
use Rattle.std.proofs.Common.{arith, ltb, refl, rules, ◌∙◌}
use Rattle.std.proofs.lemmas.Iterator.{YieldsList-from_range}
use Rattle.std.proofs.lemmas.Iterator.Search.{any_from_yields_List}
use borrow.Author.Tests.{tests}
use Rattle.arith.specs.Sums.{count_to}
use Rattle.ego.specs.Limits.{limit}
use Rattle.nearest.proofs.TableLaws.{any_range}
use Rattle.nearest.specs.Inside.Strips.{in_row, places}
use Rattle.nearest.proofs.table.any_crowded.Goals as goal

pub returns : goal.returns
returns c =
    any_from_yields_List (λ p. ltb limit (count_to (in_row c.args.rows.now p) places)) _ _ c.any.result c.any.ensures.ran
    (YieldsList-from_range 0 c.args.n c.args.n refl (omega arith)) (λ x b q k. search (rules, tests))
    ∙ any_range _ c.args.n
