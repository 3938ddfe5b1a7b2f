-- `packed::rows::contains` meets its contract. Assumes nothing.
use mathlib.Core.Path.{refl}
use Rattle.arith.specs.Digits.{bit_of, digit}
use Rattle.packed.specs.Inside.Rows.{in_set}
use Rattle.packed.proofs.rows.contains.Goals as goal

pub returns : goal.returns
unfolding in_set bit_of digit
returns c = refl
