-- `packed::edges::same_pair` meets its contract. Assumes nothing.
use Rattle.packed.specs.Pairs.{same_pair}
use Rattle.packed.proofs.edges.same_pair.Goals as goal

pub returns-then-eq : goal.returns-then-eq
unfolding same_pair
returns-then-eq c = rw (← c.eq.ensures, c.if-eq.true)

pub returns-else-eq : goal.returns-else-eq
unfolding same_pair
returns-else-eq c = rw (← c.eq.ensures, c.if-eq.false) c.eq-else-eq.ensures
