-- `nearest::table::row_size` meets its contract: the sum of the ones of the row's words. Assumes nothing.
use Rattle.std.proofs.Common.{ap, arith, drop, rules, take, ◌*◌, ◌+◌, ◌-◌, ◌≡◌, ◌^◌, ◌∙◌}
use Rattle.std.proofs.lemmas.Iterator.{YieldsList-from_map, YieldsList-from_slice}
use Rattle.std.proofs.lemmas.Iterator.Consumers.{fits_by_from_yields_list, sum_by_from_yields_List}
use lib.Count.{ones}
use Rattle.arith.proofs.Sums.{count_to_le}
use Rattle.nearest.proofs.TableLaws.{row_ones}
use Rattle.nearest.specs.Inside.Strips.{in_row, places, strips}
use Rattle.nearest.proofs.table.row_size.Goals as goal

pub sum-requires-clause-fits : goal.sum-requires-clause-fits
sum-requires-clause-fits c =
    let few : strips * c.args.p + strips - strips * c.args.p ≡ strips = omega arith in
    let row = take strips (drop (strips * c.args.p) c.args.rows.now) in
    let is_row = ap (λ i. i.rest.now) c.map.ensures.source ∙ c.iter.ensures.rest ∙ ap (λ m. take m (drop (strips * c.args.p) c.args.rows.now)) few in
    fits_by_from_yields_list ones row c.map.result (2 ^ 64)
    (YieldsList-from_map _ ones (YieldsList-from_slice row is_row) c.map.ensures.closure (λ x r q k. search rules))
    (omega (arith, row_ones c.args.rows.now c.args.p c.requires.0 c.requires.1 strips (omega arith), count_to_le (in_row c.args.rows.now c.args.p) places))

pub returns : goal.returns
returns c =
    let few : strips * c.args.p + strips - strips * c.args.p ≡ strips = omega arith in
    let row = take strips (drop (strips * c.args.p) c.args.rows.now) in
    let is_row = ap (λ i. i.rest.now) c.map.ensures.source ∙ c.iter.ensures.rest ∙ ap (λ m. take m (drop (strips * c.args.p) c.args.rows.now)) few in
    sum_by_from_yields_List ones row c.map.result c.sum.result c.sum.ensures.ran
    (YieldsList-from_map _ ones (YieldsList-from_slice row is_row) c.map.ensures.closure (λ x r q k. search rules))
    ∙ row_ones c.args.rows.now c.args.p c.requires.0 c.requires.1 strips (omega arith)
