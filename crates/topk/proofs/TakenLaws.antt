-- The taken nodes as bits of the scratch. Assumes nothing.
use mathlib.Core.Bool.{false, true}
use mathlib.Core.List.{List}
use mathlib.Core.Path.{ap, sym, ◌∙◌, ◌≡◌}
use Prim.Native.Nat.{◌*◌, ◌<◌, ℕ, ◌≤◌}
use native.Mathlib.Decide.{ℕ_discrete}
use native.Mathlib.Omega.{arith}
use lib.ListN.{get_or, length, length-set, replicate, set}
use lib.Seq.{ext_get_or, get_or-set_other, get_or-set_same}
use Rattle.arith.proofs.Sums.{get_d_tabulate, length_tabulate, tabulate_ext, tabulate_same}
use Rattle.arith.specs.Sums.{bit}
use Rattle.packed.proofs.BitLaws.{bit_with_other, bit_with_same, bit_zeros}
use Rattle.packed.specs.Bits.{bit_at, with_bit}
use Rattle.topk.proofs.NextLaws.{Free, Taken}
use Rattle.topk.specs.Inside.Next.{taken_of}

pub length_taken : (n : ℕ) (S : List ℕ) → length (taken_of n S) ≡ n
unfolding taken_of
length_taken n S = length_tabulate (λ p. bit (bit_at S p)) n

pub get_or_taken : (n : ℕ) (S : List ℕ) (p : ℕ) → p < n → get_or (taken_of n S) p 0 ≡ bit (bit_at S p)
unfolding taken_of
get_or_taken n S p l = get_d_tabulate (λ p. bit (bit_at S p)) n p 0 l

pub bit_taken : (n : ℕ) (S : List ℕ) (p : ℕ) → p < n → bit_at S p ≡ true → Taken (taken_of n S) p
bit_taken n S p l t z = let e : get_or (taken_of n S) p 0 ≡ 1 = get_or_taken n S p l ∙ ap bit t in omega arith

pub bit_free : (n : ℕ) (S : List ℕ) (p : ℕ) → p < n → bit_at S p ≡ false → Free (taken_of n S) p
bit_free n S p l t = get_or_taken n S p l ∙ ap bit t

-- a scratch of zeros: none is taken
pub taken_none : (n m : ℕ) → taken_of n (replicate m 0) ≡ replicate n 0
unfolding taken_of
taken_none n m = tabulate_ext (λ p. bit (bit_at (replicate m 0) p)) (λ p. 0) n (λ p l. rw (bit_zeros m p)) ∙ tabulate_same 0 n

-- a bit more is set: one node more is taken
pub taken_put : (n : ℕ) (S : List ℕ) (p : ℕ) → p < n → n ≤ 8 * length S → taken_of n (with_bit S p true) ≡ set (taken_of n S) p 1
taken_put n S p l room =
    let new = taken_of n (with_bit S p true) in
    let old = taken_of n S in
    ext_get_or 0 new (set old p 1) (length_taken n (with_bit S p true) ∙ sym (length-set old p 1 ∙ length_taken n S)) (λ q b.
    let m : q < n = omega (arith, length_taken n (with_bit S p true)) in
    get_or_taken n (with_bit S p true) q m ∙ elim (ℕ_discrete q p) [
      | yes e ↦
          ap (λ (i : ℕ). bit (bit_at (with_bit S p true) i)) e
          ∙ ap bit (bit_with_same S p true (omega arith))
          ∙ sym (ap (λ (i : ℕ). get_or (set old p 1) i 0) e ∙ get_or-set_same old p 1 0 (omega (arith, length_taken n S)))
      | no d ↦ ap bit (bit_with_other S p q true d) ∙ sym (get_or-set_other old p q 1 0 d ∙ get_or_taken n S q m)
    ])
