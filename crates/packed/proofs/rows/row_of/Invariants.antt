-- What the loop of `packed::rows::row_of` keeps: before the turn of q the row has the neighbours below q, and i is the bit of p and q.
use mathlib.Core.Path.{◌≡◌}
use Prim.Native.Nat.{◌+◌, ◌<◌, ◌≤◌}
use Rattle.packed.specs.Pairs.{pair_count}
use Rattle.packed.specs.Inside.Rows.{row_of}
use Rattle.packed.proofs.rows.row_of.Given as goal

abbrev pub invariant-loop-q : goal.invariant-loop-q
invariant-loop-q l = (l.p < l.q) × (l.q ≤ l.n) × (l.i ≡ pair_count l.q + l.p) × (l.row ≡ row_of l.edges l.q l.p)
