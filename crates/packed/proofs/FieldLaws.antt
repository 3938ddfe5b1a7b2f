-- The fields of a packed record that are whole bytes: a byte, and two, the first the higher. Assumes nothing.
use mathlib.Core.List.{List}
use mathlib.Core.Path.{ap, refl, sym, ◌∙◌, ◌≡◌}
use Prim.Native.Nat.{◌*◌, ◌+◌, ◌<◌, ℕ}
use native.Mathlib.Omega.{arith}
use lib.ListN.{get_or}
use Rattle.packed.proofs.RunLaws.{run_byte, run_cat}
use Rattle.packed.specs.Bits.{bit_at, run_of}

module _ (bs : List ℕ) (small : (k : ℕ) → get_or bs k 0 < 256) where
  pub field_of_byte : (k : ℕ) {from r : ℕ} → from ≡ 8 * k → r ≡ get_or bs k 0 → r ≡ run_of bs from 8
  field_of_byte k at e = e ∙ sym (ap (λ i. run_of bs i 8) at ∙ run_byte bs k (small k))

  pub field_of_two : (k l : ℕ) {from r : ℕ} → l ≡ k + 1 → from ≡ 8 * k → r ≡ get_or bs k 0 * 256 + get_or bs l 0 → r ≡ run_of bs from 16
  field_of_two k l {from} next at e =
      let x : get_or bs k 0 ≡ run_of bs from 8 = field_of_byte k at refl in
      let y : get_or bs l 0 ≡ run_of bs (from + 8) 8 = field_of_byte l (omega arith) refl in
      omega (arith, run_cat (bit_at bs) from 8 8, x, y)
