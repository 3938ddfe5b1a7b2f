-- `packed::edges::has` meets its contract, in either order of the two nodes. Assumes nothing.
use mathlib.Core.Path.{sym}
use borrow.Author.Tests.{eq-eqb}
use Rattle.packed.proofs.PairLaws.{pair_within}
use Rattle.packed.proofs.EdgeLaws.{edge_two, edge_self}
use Rattle.packed.proofs.edges.has.Goals as goal

pub get-requires : goal.get-requires
get-requires c = rw c.number.ensures (pair_within c.args.a c.args.b _ c.if-a-b.true c.requires.bits)

pub returns-then-a-b : goal.returns-then-a-b
returns-then-a-b c = cc (edge_two c.args.edges.now c.args.a c.args.b c.if-a-b.true)

pub returns-else-a-b : goal.returns-else-a-b
returns-else-a-b c = rw (eq-eqb c.args.a c.args.b c.if-a-b.false) (sym (edge_self c.args.edges.now c.args.a c.args.b c.if-a-b.false))
