-- The loop of `topk::next::head_of`: before the turn for i, `best` is the best of the block's nodes before i.
use Rattle.std.proofs.Common.{◌*◌, ◌-◌, length}
use Rattle.topk.specs.Inside.Next.{best_from, block_size, looking_in, Names}
use Rattle.topk.proofs.next.head_of.Given as goal

abbrev pub invariant-loop-i : goal.invariant-loop-i
invariant-loop-i l = Names (length l.figures) (best_from (looking_in l.figures l.taken) (block_size * l.b) (l.i - block_size * l.b)) l.best
