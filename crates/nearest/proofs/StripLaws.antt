-- The laws of words of 56 bits, a strip of nodes each: which nodes a word has, how many, and a loop over them. Assumes nothing.
use mathlib.Core.Bool.{◌&&◌, and-false, Bool, false, or-false, or-true, true, ◌||◌}
use mathlib.Core.Path.{ap, sym, ◌∙◌, ◌≡◌}
use Prim.Native.Nat.{◌%◌, ◌*◌, ◌+◌, ◌-◌, ◌/◌, ◌<◌, ◌^◌, min, ℕ, zero-le}
use native.Mathlib.Decide.{ℕ_discrete}
use native.Mathlib.Nat.{lt_of_le_of_lt, lt_of_lt_of_le}
use native.Mathlib.Omega.{arith}
use borrow.Author.Tests.{eq-eqb, le-ltb, lt-ltb, ne_eqb}
use lib.Bits.{and_le_l, bit_and, bit_or}
use lib.Count.{ones, count_trailing_zeros}
use lib.Dec.{eqb, lit<, lit≤, ltb}
use lib.Pow.{pow_mono, shl_exact}
use Rattle.arith.proofs.Tests.{eqb_same}
use Rattle.arith.proofs.Words.{bit_below, bits_eq, LowDigit, low_digit, or_other, or_same, past_top}
use Rattle.arith.specs.Digits.{bit_of}
use Rattle.arith.specs.Sums.{count_to}
use Rattle.packed.proofs.RunLaws.{run_bit, run_cat, run_clear, run_ext, run_lt}
use Rattle.packed.proofs.SetLaws.{ones_word}
use Rattle.packed.specs.Bits.{word_of}
use Rattle.packed.specs.Pairs.{max_nodes}
use Rattle.packed.specs.Inside.Runs.{max_run}
use Rattle.nearest.specs.Inside.Strips.{in_strip, in_word}

-- a word's nodes are its bits
word_is : (x k : ℕ) → x < 2 ^ max_run → x ≡ word_of (in_word x) (max_run * k) max_run
unfolding in_word
word_is x k h = bits_eq max_run x (word_of (in_word x) (max_run * k) max_run) h (run_lt (in_word x) (max_run * k) max_run) (λ i l.
    let at : max_run - 1 - (max_run * k + (max_run - 1 - i)) % max_run ≡ i = omega arith in
    let place : max_run - 1 - (max_run - 1 - i) ≡ i = omega arith in
    sym (ap (bit_of (word_of (in_word x) (max_run * k) max_run)) (sym place) ∙ run_bit (in_word x) (max_run * k) max_run (max_run - 1 - i) (omega arith)
    ∙ ap (bit_of x) at))

pub word_none : (q : ℕ) → in_word 0 q ≡ false
unfolding in_word
word_none q = past_top 0 0 (max_run - 1 - q % max_run) (lit< tt) zero-le

-- one node more
pub word_with : (w b y : ℕ) → y / max_run ≡ b / max_run → in_word (bit_or w (2 ^ (max_run - 1 - b % max_run))) y ≡ in_word w y || eqb y b
unfolding in_word
word_with w b y e = elim (ℕ_discrete y b) [
  | yes d ↦ rw (d, eqb_same b, or_same w (max_run - 1 - b % max_run)) (sym (or-true (in_word w b)))
  | no d ↦ rw (ne_eqb y b d) (or_other w (max_run - 1 - b % max_run) (max_run - 1 - y % max_run) (λ q. d (omega arith)) ∙ sym (or-false (in_word w y)))
]

-- how many nodes a word has
pub strip_ones : (x k : ℕ) → x < 2 ^ max_run → ones x ≡ count_to (λ j. in_word x (max_run * k + j)) max_run
strip_ones x k h = ap ones (word_is x k h) ∙ ones_word (in_word x) (max_run * k) max_run

-- the nodes of a run
pub strip_run : (f : ℕ → Bool) (k x : ℕ) → in_strip (word_of f (max_run * k) max_run) k x ≡ eqb (x / max_run) k && f x
unfolding in_strip in_word
strip_run f k x = elim (ℕ_discrete (x / max_run) k) [
  | yes e ↦ let at : max_run * k + x % max_run ≡ x = omega arith in
      ap (λ b. eqb (x / max_run) k && b) (run_bit f (max_run * k) max_run (x % max_run) (omega arith) ∙ ap f at)
  | no d ↦ rw (ne_eqb (x / max_run) k d)
]

-- as code shifts the run of the nodes before b to its place
pub strip_word : (f : ℕ → Bool) (b k : ℕ) {x count : ℕ} → max_run * k < b → count ≡ min (b - max_run * k) max_run → x ≡ word_of f (max_run * k) count
    → x * 2 ^ (max_run - count) % 2 ^ 64 ≡ word_of (λ y. ltb y b && f y) (max_run * k) max_run
strip_word f b k {x} {count} h e q =
    let i : ℕ = max_run * k in
    let g : ℕ → Bool = λ y. ltb y b && f y in
    let s : ℕ = max_run - count in
    let all : count + s ≡ max_run = omega arith in
    let same : word_of f i count ≡ word_of g i count = run_ext f g i i count (λ j l. sym (ap (λ t. t && f (i + j)) (lt-ltb (i + j) b (omega arith)))) in
    let none : word_of g (i + count) s ≡ 0 = run_clear g (i + count) s (λ j l. ap (λ t. t && f (i + count + j)) (le-ltb (i + count + j) b (omega arith))) in
    ap (λ y. y * 2 ^ s % 2 ^ 64) (q ∙ same) ∙ shl_exact count s 64 (run_lt g i count) (omega arith) ∙ omega (arith, none, run_cat g i count s)
    ∙ ap (word_of g i) all

-- ---- a loop over the nodes of a word, the last one first

-- a word of strip k has the bits of the strip, and its nodes are such as a graph may have
pub record Nodes (word k : ℕ) : Type 0 where
  pub small : word < 2 ^ max_run
  pub few : (x : ℕ) → in_strip word k x ≡ true → x < max_nodes

pub strip_none : (k x : ℕ) → in_strip 0 k x ≡ false
unfolding in_strip
strip_none k x = rw (word_none x) (and-false (eqb (x / max_run) k))

-- the last node is that of the lowest digit
abbrev pub last_node : ℕ → ℕ → ℕ
last_node word k = max_run * k + max_run - 1 - count_trailing_zeros 64 word

-- the word without it
abbrev pub rest : ℕ → ℕ
rest word = bit_and word (word - 1)

module _ {word k : ℕ} (n : Nodes word k) (some : 0 < word) where
  low : LowDigit word (count_trailing_zeros 64 word)
  low = low_digit 64 word some (lt_of_lt_of_le n.small (pow_mono {i = max_run} {j = 64} (lit≤ tt)))

  pub last_digit : count_trailing_zeros 64 word < max_run
  last_digit = bit_below word max_run (count_trailing_zeros 64 word) n.small low.on

  pub last_node_lem : (x : ℕ) → in_strip word k x ≡ eqb x (last_node word k) || in_strip (rest word) k x
  unfolding in_strip in_word
  last_node_lem x = elim (ℕ_discrete x (last_node word k)) [
    | yes e ↦ let at : max_run - 1 - x % max_run ≡ count_trailing_zeros 64 word = omega (arith, last_digit) in
        rw (eq-eqb x (last_node word k) e, eq-eqb (x / max_run) k (omega (arith, last_digit))) (ap (bit_of word) at ∙ low.on)
    | no d ↦ rw (ne_eqb x (last_node word k) d) (elim (ℕ_discrete (x / max_run) k) [
      | yes e ↦ ap (λ b. eqb (x / max_run) k && b) (sym (low.others (max_run - 1 - x % max_run) (λ q. d (omega (arith, last_digit)))))
      | no g ↦ rw (ne_eqb (x / max_run) k g)
    ])
  ]

  pub last_few : last_node word k < max_nodes
  last_few = n.few (last_node word k) (last_node_lem (last_node word k) ∙ rw (eqb_same (last_node word k)))

  pub rest_nodes : Nodes (rest word) k
  rest_nodes = record {
    small = lt_of_le_of_lt (and_le_l word (word - 1)) n.small;
    few = λ x t. n.few x (last_node_lem x ∙ rw t (or-true (eqb x (last_node word k))));
  }
