-- `nearest::table::link_row` meets its contract. Assumes nothing.
use Rattle.std.proofs.Common.{arith, ◌*◌, ◌<◌}
use Rattle.ego.proofs.FoundLaws.{simple_edges}
use Rattle.packed.specs.Inside.Runs.{max_run}
use Rattle.packed.specs.Pairs.{max_nodes}
use Rattle.nearest.proofs.LinkLaws.{link_all, link_few, link_next, link_none, link_small, link_table}
use Rattle.nearest.proofs.table.link_row.Goals as goal

pub loop-k-init : goal.loop-k-init
loop-k-init c = link_none c.requires.1

pub mirror-requires : goal.mirror-requires
mirror-requires c =
    let few : c.args.b < max_nodes = omega (arith, c.requires.0.few) in
    let here : max_run * c.loop-k.k < c.args.b = omega arith in
    let e = c.word_below-word.ensures in
    (link_small c.loop-k.invariant few here e, omega arith, few, link_few c.loop-k.invariant few here e, link_table c.loop-k.invariant few here e)

pub loop-k-preserved : goal.loop-k-preserved
loop-k-preserved c = link_next c.loop-k.invariant (omega (arith, c.requires.0.few)) (omega arith) c.word_below-word.ensures c.mirror.ensures

pub returns : goal.returns
returns c = link_all (simple_edges _) c.loop-k.invariant (omega arith)
