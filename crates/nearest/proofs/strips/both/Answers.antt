-- `nearest::strips::both` meets its contract. Assumes nothing.
use Rattle.std.proofs.Common.{bit_and, get_or, rules, ◌&&◌}
use native.Mathlib.Nat.{lt_of_le_of_lt}
use lib.Bits.{and_le_l}
use Rattle.arith.proofs.Words.{bit-and}
use Rattle.nearest.proofs.SetLaws.{made_all, set_op}
use Rattle.nearest.specs.Inside.Strips.{in_strips}
use Rattle.nearest.proofs.strips.both.Goals as goal

pub returns : goal.returns
unfolding in_strips
returns c =
    set_op ◌&&◌ (λ k. bit_and (get_or c.args.x k 0) (get_or c.args.y k 0)) (λ k. get_or c.args.x k 0) (λ k. get_or c.args.y k 0) (λ k j _. bit-and _ _ j)
    (λ k. lt_of_le_of_lt (and_le_l _ _) (c.requires k)) (made_all _ _ _ (λ k y q h. search rules) c.from_fn.ensures.items)
