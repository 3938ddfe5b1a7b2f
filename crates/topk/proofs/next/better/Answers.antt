-- `topk::next::better` meets its contract. Assumes nothing.
use Rattle.std.proofs.Common.{ap, sym, arith, ◌∙◌, length}
use Rattle.topk.proofs.HeadLaws.{better_first, better_skips}
use Rattle.topk.proofs.NextLaws.{next_of_node}
use Rattle.topk.proofs.TakenLaws.{bit_free, bit_taken}
use Rattle.topk.specs.Inside.Next.{first_of, looking_in, next_of}
use Rattle.topk.proofs.next.better.Goals as goal

pub returns-then-get : goal.returns-then-get
returns-then-get c =
    let taken = bit_taken _ _ _ c.requires.0 (sym c.get.ensures ∙ c.if-get.true) in
    record { within = omega arith; named = sym (better_skips _ _ _ taken) }

pub returns : goal.returns
returns c =
    let a = c.args in
    let F = a.figures.now in
    let free = bit_free (length F) _ _ c.requires.0 (sym c.get.ensures ∙ c.if-get.false) in
    let x = next_of (length F) a.best in
    record {
      within = c.first_of.ensures.within;
      named =
          c.first_of.ensures.named ∙ ap (first_of F x) (next_of_node c.requires.0)
          ∙ sym (better_first (looking_in F a.taken.now) a.i x free);
    }
