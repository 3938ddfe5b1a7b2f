-- `packed::edges::link` meets its contract, in either order of the two nodes. Assumes nothing.
use mathlib.Core.Path.{sym}
use Rattle.packed.proofs.PairLaws.{pair_within}
use Rattle.packed.proofs.EdgeLaws.{with_two, with_self}
use Rattle.packed.proofs.edges.link.Goals as goal

pub put-requires : goal.put-requires
put-requires c = rw c.number.ensures (pair_within c.args.a c.args.b _ c.if-a-b.true c.requires.bits)

pub returns-then-a-b : goal.returns-then-a-b
returns-then-a-b c = cc (with_two c.args.edges.now c.args.a c.args.b c.args.on c.if-a-b.true)

pub returns-else-a-b : goal.returns-else-a-b
returns-else-a-b c = sym (with_self c.args.edges.now c.args.a c.args.b c.args.on c.if-a-b.false)
