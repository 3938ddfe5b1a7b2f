-- `topk::next::first_of` meets its contract. Assumes nothing.
use Rattle.std.proofs.Common.{◌≡◌, false, true, arith}
use Rattle.topk.proofs.HeadLaws.{first_is_none, second_after, second_first, second_none}
use Rattle.topk.proofs.NextLaws.{figure_of}
use Rattle.topk.specs.Entries.{ranks_before}
use Rattle.topk.proofs.next.first_of.Goals as goal

pub returns-then-figures-b : goal.returns-then-figures-b
returns-then-figures-b c = record { within = omega arith; named = second_none _ _ _ c.if-figures-b.true }

pub returns-then-figures-a : goal.returns-then-figures-a
returns-then-figures-a c = record { within = omega arith; named = first_is_none _ _ _ c.if-figures-a.true }

pub returns-then-ranks_before : goal.returns-then-ranks_before
returns-then-ranks_before c =
    let F = c.args.figures.now in
    let t : ranks_before (figure_of F c.args.b) (figure_of F c.args.a) ≡ true = cc in
    record { within = omega arith; named = second_first _ _ _ (omega arith) (omega arith) t }

pub returns-else-ranks_before : goal.returns-else-ranks_before
returns-else-ranks_before c =
    let F = c.args.figures.now in
    let t : ranks_before (figure_of F c.args.b) (figure_of F c.args.a) ≡ false = cc in
    record { within = omega arith; named = second_after _ _ _ (omega arith) (omega arith) t }
