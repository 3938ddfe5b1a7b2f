-- `topk::next::head_of` meets its contract. Assumes nothing.
use Rattle.std.proofs.Common.{◌≡◌, ◌+◌, ◌*◌, length, min, arith, ◌∙◌, refl}
use Rattle.topk.proofs.HeadLaws.{best_of_more, best_of_none, head_done}
use Rattle.topk.specs.Inside.Next.{block_size, looking_in}
use Rattle.topk.proofs.next.head_of.Goals as goal

pub loop-i-init : goal.loop-i-init
loop-i-init c = record { within = omega arith; named = best_of_none _ _ (block_size * c.args.b) _ refl }

pub loop-i-preserved : goal.loop-i-preserved
loop-i-preserved c =
    let l = c.loop-i in
    let b = c.better-best.ensures in
    record { within = b.within; named = best_of_more _ _ _ l.i _ _ l.auto.i l.invariant.named b.named }

pub returns : goal.returns
returns c =
    let a = c.args in
    let l = c.loop-i in
    let done : l.i ≡ min (block_size * a.b + block_size) (length a.figures.now) = omega arith in
    record { within = l.invariant.within; named = l.invariant.named ∙ head_done (looking_in a.figures.now a.taken.now) a.b l.i done }
