-- `replay::records::on_nodes` meets its contract: the bytes of n nodes are no more than those of the most.
use Rattle.std.proofs.Common.{arith, rules}
use Rattle.calls.proofs.SnapshotLaws.{bytes_small}
use Rattle.replay.proofs.records.on_nodes.Goals as goal

pub slice_bounds-edges-end : goal.slice_bounds-edges-end
slice_bounds-edges-end g c = omega (arith, bytes_small c.args.n c.requires.2)

pub slice_bounds-from_cleared-end : goal.slice_bounds-from_cleared-end
slice_bounds-from_cleared-end g c = search (rules, bytes_small c.args.n c.requires.2)
