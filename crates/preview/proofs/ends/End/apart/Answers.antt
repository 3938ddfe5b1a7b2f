-- `preview::ends::End::apart` meets its contract: the shifted 1 loses nothing. Assumes nothing.
use Rattle.std.proofs.Common.{ap, arith, bit_or, get_or, not, ◌*◌, ◌^◌, ◌∙◌}
use Rattle.arith.proofs.Sums.{sum_to_ext}
use Rattle.arith.specs.Digits.{bit_of}
use Rattle.arith.specs.Sums.{bit}
use Rattle.packed.proofs.RunLaws.{shifted_one}
use Rattle.preview.proofs.RuleLaws.{lacks_other}
use Rattle.preview.proofs.ends.End.apart.Goals as goal

pub returns : goal.returns
returns c =
    let e = c.args.self.now in
    let word = get_or e.words e.at 0 in
    c.lacking.ensures
    ∙ sum_to_ext _ _ e.near.count (λ k _. ap (λ t. bit t * 2 ^ k)
    (ap (λ y. not (bit_of (bit_or word y) k)) (shifted_one e.at (omega arith)) ∙ lacks_other word e.at k))
