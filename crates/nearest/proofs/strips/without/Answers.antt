-- `nearest::strips::without` meets its contract. Assumes nothing.
use Rattle.std.proofs.Common.{arith, bit_and, get_or, not, rules, ◌&&◌, ◌-◌, ◌^◌}
use native.Mathlib.Nat.{lt_of_le_of_lt}
use lib.Bits.{and_le_l}
use Rattle.nearest.proofs.SetLaws.{bit_without, made_all, set_op}
use Rattle.nearest.specs.Inside.Strips.{in_strips}
use Rattle.nearest.proofs.strips.without.Goals as goal

pub returns : goal.returns
unfolding in_strips
returns c =
    set_op (λ a b. a && not b) (λ k. bit_and (get_or c.args.x k 0) (2 ^ 64 - 1 - get_or c.args.y k 0)) (λ k. get_or c.args.x k 0) (λ k. get_or c.args.y k 0)
    (λ k j l. bit_without _ _ j (omega (arith, c.requires.1 k)) (omega arith)) (λ k. lt_of_le_of_lt (and_le_l _ _) (c.requires.0 k))
    (made_all _ _ _ (λ k y q h. search rules) c.from_fn.ensures.items)
