-- The loop of `topk::next::next_node`: after some turns `best` is the best of as many heads.
use Rattle.std.proofs.Common.{length}
use Rattle.topk.specs.Inside.Next.{best_head, Names}
use Rattle.topk.proofs.next.next_node.Given as goal

abbrev pub invariant-loop-head : goal.invariant-loop-head
invariant-loop-head l = Names (length l.figures) (best_head l.figures l.heads l.head-index) l.best
