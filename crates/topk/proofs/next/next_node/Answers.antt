-- `topk::next::next_node` meets its contract. Assumes nothing.
use Rattle.std.proofs.Common.{◌≡◌, ◌<◌, get_or-take, length, sym, ap, arith, ◌∙◌}
use Rattle.topk.proofs.HeadLaws.{best_head_more, best_head_none}
use Rattle.topk.proofs.NextLaws.{next_of_node, next_of_none}
use Rattle.topk.specs.Inside.Next.{best_head, blocks_for}
use Rattle.topk.proofs.next.next_node.Goals as goal

pub loop-head-init : goal.loop-head-init
loop-head-init c = record { within = omega arith; named = best_head_none _ _ }

pub loop-head-preserved : goal.loop-head-preserved
loop-head-preserved c =
    let l = c.loop-head in
    let f = c.first_of-best.ensures in
    let within : l.head-index < c.blocks_for.result = omega arith in
    record { within = f.within; named = best_head_more _ _ l.head-index _ _ l.invariant.named (rw get_or-take at f.named) }

pub returns-then-best-n : goal.returns-then-best-n
returns-then-best-n c =
    let l = c.loop-head in
    let done : l.head-index ≡ blocks_for (length c.args.figures.now) = omega arith in
    record { within = c.if-best-n.true; named = sym (next_of_node c.if-best-n.true) ∙ l.invariant.named ∙ ap (best_head _ _) done }

pub returns-else-best-n : goal.returns-else-best-n
returns-else-best-n c =
    let l = c.loop-head in
    let done : l.head-index ≡ blocks_for (length c.args.figures.now) = omega arith in
    record { within = tt; named = sym (next_of_none c.if-best-n.false) ∙ l.invariant.named ∙ ap (best_head _ _) done }
