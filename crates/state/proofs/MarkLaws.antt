-- The laws of marks: what is marked is read back, every other mark is as it was, and lengths are kept. Assumes nothing.
use mathlib.Core.Bool.{Bool, false, true, ◌||◌}
use mathlib.Core.List.{List}
use mathlib.Core.Logic.{inl, inr, ◌≢◌}
use mathlib.Core.Path.{ap, refl, sym, ◌∙◌, ◌≡◌}
use Prim.Native.Nat.{◌%◌, ◌*◌, ◌+◌, ◌-◌, ◌/◌, ◌<◌, ◌^◌, suc, zero, ℕ, ◌≤◌}
use native.Mathlib.Decide.{dec_lt, ℕ_discrete}
use native.Mathlib.Omega.{arith}
use borrow.Author.Tests.{eqb-true, le-ltb, lt-ltb}
use lib.Dec.{eqb, ltb}
use lib.ListN.{get_or, get_or-replicate, length, length-replicate, length-set, replicate, set}
use lib.Seq.{get_or-set_other, get_or-set_same}
use Rattle.arith.proofs.Sums.{sum_to_ext, tabulate_is}
use Rattle.arith.proofs.Tests.{each_at, test}
use Rattle.arith.specs.Sums.{bit, pack_to, sum_to, tabulate}
use Rattle.packed.proofs.BitLaws.{bit-bytes_of, bit_with_other, bit_with_same, bit_zeros, length-bytes_of, length_with_bit}
use Rattle.packed.specs.Bits.{bytes_of}
use Rattle.state.specs.Marks.{all_exact, all_stale, mark_bytes, stale, stale_to, with_mark}

pub length-with_mark : (marks : List ℕ) (p : ℕ) (on : Bool) → length (with_mark marks p on) ≡ length marks
unfolding with_mark
length-with_mark marks p on = length_with_bit marks p on

pub stale_same : (marks : List ℕ) (p : ℕ) (on : Bool) → mark_bytes (p + 1) ≤ length marks → stale (with_mark marks p on) p ≡ on
unfolding stale with_mark
stale_same marks p on h = bit_with_same marks p on (omega arith)

pub stale_other : (marks : List ℕ) (p q : ℕ) (on : Bool) → q ≢ p → stale (with_mark marks p on) q ≡ stale marks q
unfolding stale with_mark
stale_other marks p q on d = bit_with_other marks p q on d

-- ---- nodes made stale

pub length-stale_to : (f : ℕ → Bool) (marks : List ℕ) (n : ℕ) → length (stale_to f marks n) ≡ length marks
unfolding stale_to
length-stale_to f marks zero = refl
length-stale_to f marks (suc n) = elim (test (f n)) [
  | inl e ↦ rw e (length-with_mark (stale_to f marks n) n true ∙ length-stale_to f marks n)
  | inr e ↦ rw e (length-stale_to f marks n)
]

-- the places from n on are as they were, spare bits too
pub stale_to_past : (f : ℕ → Bool) (marks : List ℕ) (n p : ℕ) → n ≤ p → stale (stale_to f marks n) p ≡ stale marks p
unfolding stale_to
stale_to_past f marks zero p h = refl
stale_to_past f marks (suc n) p h = elim (test (f n)) [
  | inl e ↦ rw e (stale_other (stale_to f marks n) n p true (λ q. omega arith) ∙ stale_to_past f marks n p (omega arith))
  | inr e ↦ rw e (stale_to_past f marks n p (omega arith))
]

pub stale_to_at : (f : ℕ → Bool) (marks : List ℕ) (n p : ℕ) → n ≤ 8 * length marks → p < n → stale (stale_to f marks n) p ≡ (f p || stale marks p)
unfolding stale_to
stale_to_at f marks zero p room h = absurd (omega arith)
stale_to_at f marks (suc n) p room h = elim (ℕ_discrete p n) [
  | yes q ↦ rw q (elim (test (f n)) [
    | inl e ↦ rw e (stale_same (stale_to f marks n) n true (omega (arith, length-stale_to f marks n)))
    | inr e ↦ rw e (stale_to_past f marks n n (omega arith))
  ])
  | no d ↦ elim (test (f n)) [
    | inl e ↦ rw e (stale_other (stale_to f marks n) n p true d ∙ stale_to_at f marks n p (omega arith) (omega arith))
    | inr e ↦ rw e (stale_to_at f marks n p (omega arith) (omega arith))
  ]
]

-- ---- all nodes

pub length-all_exact : (n : ℕ) → length (all_exact n) ≡ mark_bytes n
unfolding all_exact
length-all_exact n = length-replicate {A = ℕ} (mark_bytes n) 0

pub length-all_stale : (n : ℕ) → length (all_stale n) ≡ mark_bytes n
unfolding all_stale
length-all_stale n = length-bytes_of (λ i. ltb i n) (mark_bytes n)

pub all_exact_lem : (n p : ℕ) → stale (all_exact n) p ≡ false
unfolding stale all_exact
all_exact_lem n p = bit_zeros (mark_bytes n) p

pub all_stale_lem : (n p : ℕ) → p < n → stale (all_stale n) p ≡ true
unfolding stale all_stale
all_stale_lem n p h = bit-bytes_of (λ i. ltb i n) (mark_bytes n) p (omega arith) ∙ lt-ltb p n h

-- ---- the bytes of n nodes that are all stale

some_bits : (count : ℕ) → count < 8 → 255 - 255 / 2 ^ count ≡ pack_to (λ j. ltb (7 - j) count) 8
unfolding sum_to
some_bits count h = eqb-true _ _ (each_at (λ count. eqb (255 - 255 / 2 ^ count) (pack_to (λ j. ltb (7 - j) count) 8)) 8 count refl h)

ones : 255 ≡ pack_to (λ j. true) 8
unfolding sum_to
ones = refl

all_bits : (count : ℕ) → 8 ≤ count → 255 ≡ pack_to (λ j. ltb (7 - j) count) 8
all_bits count h = ones ∙ sum_to_ext _ _ 8 (λ j l. ap (λ b. bit b * 2 ^ j) (sym (lt-ltb (7 - j) count (omega arith))))

abbrev stale_byte : ℕ → ℕ → ℕ
stale_byte n k = pack_to (λ j. ltb (8 * k + (7 - j)) n) 8

stale_byte_lem : (n k : ℕ) {x : ℕ} → 8 * k < n → x ≡ pack_to (λ j. ltb (7 - j) (n - 8 * k)) 8 → x ≡ stale_byte n k
stale_byte_lem n k h e = e ∙ sum_to_ext _ _ 8 (λ j l. ap (λ b. bit b * 2 ^ j) (same (7 - j)))
  where
    same : (i : ℕ) → ltb i (n - 8 * k) ≡ ltb (8 * k + i) n
    same i = elim (dec_lt i (n - 8 * k)) [
      | yes b ↦ lt-ltb i (n - 8 * k) b ∙ sym (lt-ltb (8 * k + i) n (omega arith))
      | no b ↦ le-ltb i (n - 8 * k) (omega arith) ∙ sym (le-ltb (8 * k + i) n (omega arith))
    ]

stale_bytes : (n : ℕ) {marks : List ℕ} {m : ℕ} → m ≡ mark_bytes n → marks ≡ tabulate (stale_byte n) m → marks ≡ all_stale n
unfolding all_stale bytes_of
stale_bytes n e h = h ∙ ap (tabulate (stale_byte n)) e

whole_byte : (n k : ℕ) → 8 * k + 8 ≤ n → 255 ≡ stale_byte n k
whole_byte n k h = stale_byte_lem n k (omega arith) (all_bits (n - 8 * k) (omega arith))

-- bytes of ones are all nodes stale, where the last is whole,
module _ (n : ℕ) {m : ℕ} {ones : List ℕ} (bytes : m ≡ mark_bytes n) (e : ones ≡ replicate m 255) where
  ones_long : length ones ≡ mark_bytes n
  ones_long = ap length e ∙ length-replicate {A = ℕ} m 255 ∙ bytes

  one_at : (k : ℕ) → k < mark_bytes n → get_or ones k 0 ≡ 255
  one_at k h = ap (λ l. get_or l k 0) e ∙ get_or-replicate m k 255 0 (omega arith)

  pub stale_whole : n % 8 ≡ 0 → ones ≡ all_stale n
  stale_whole z =
      stale_bytes n ones_long (tabulate_is (stale_byte n) 0 ones (λ k h. let l : k < mark_bytes n = omega (arith, ones_long) in
      one_at k l ∙ whole_byte n k (omega arith)))

  -- or has the nodes that are left
  pub stale_part : (n % 8 ≡ 0 → ⊥) → set ones (n / 8) (255 - 255 / 2 ^ (n % 8)) ≡ all_stale n
  stale_part d =
      let x : ℕ = 255 - 255 / 2 ^ (n % 8) in
      let rest : n % 8 ≡ n - 8 * (n / 8) = omega arith in
      let last : x ≡ stale_byte n (n / 8) =
      stale_byte_lem n (n / 8) (omega arith) (some_bits (n % 8) (omega arith) ∙ ap (λ r. pack_to (λ j. ltb (7 - j) r) 8) rest) in
      let long = length-set ones (n / 8) x ∙ ones_long in
      stale_bytes n long (tabulate_is (stale_byte n) 0 (set ones (n / 8) x) (λ k h. elim (ℕ_discrete k (n / 8)) [
        | yes q ↦ rw q (get_or-set_same ones (n / 8) x 0 (omega (arith, ones_long)) ∙ last)
        | no f ↦
            let l : k < mark_bytes n = omega (arith, long) in
            get_or-set_other ones (n / 8) k x 0 f ∙ one_at k l ∙ whole_byte n k (omega arith)
      ]))
