-- The laws of runs: a run is two runs, one after the other; its digits are its bits; it is 0 where no bit is set; a byte is the run of its
-- eight bits. Assumes nothing.
use mathlib.Core.Bool.{Bool, false, not, true, ◌&&◌, ◌||◌}
use mathlib.Core.List.{List}
use mathlib.Core.Path.{ap, ap₂, refl, sym, ◌∙◌, ◌≡◌}
use Prim.Native.Nat.{◌%◌, ◌*◌, ◌+◌, ◌-◌, ◌/◌, ◌<◌, ◌^◌, suc, zero, ℕ, ◌≤◌}
use native.Mathlib.Nat.{add_assoc, add-suc, add-zero, div-eq_of_lt, le_refl, mod-eq_of_lt, mul_assoc, pow-suc, suc-mul, zero-add, zero-mul, one-mul}
use native.Mathlib.Omega.{arith}
use borrow.Author.Tests.{eq-eqb, ne_eqb, not-true}
use lib.Bits.{bit_or, or_shifted}
use lib.Dec.{eqb, eqb-suc-zero, lit<}
use lib.ListN.{get_or, length, get_or-eq_default}
use lib.Pow.{high, low, pow-lt, pow_pos, shl_exact, shr-shr}
use Rattle.arith.proofs.Sums.{any_to_false}
use Rattle.arith.specs.Digits.{bit_of, digit}
use Rattle.arith.specs.Sums.{any_to, bit}
use Rattle.packed.proofs.BitLaws.{bit_back, bit_two}
use Rattle.packed.specs.Bits.{bit_at, run_of, word_of}
use Rattle.packed.specs.Inside.Bytes.{Bytes}
use Rattle.std.specs.Int.{from_be_bytes, w64}
use Rattle.std.proofs.Common.{drop, get_or-drop, get_or-take, take}

pub run_none : (f : ℕ → Bool) (from : ℕ) → word_of f from 0 ≡ 0
unfolding word_of
run_none f from = refl

pub run_lt : (f : ℕ → Bool) (from n : ℕ) → word_of f from n < 2 ^ n
unfolding word_of
run_lt f from zero = omega arith
run_lt f from (suc n) = omega (arith, run_lt f from n, pow-suc 2 n, bit_two (f (from + n)))

-- tests that agree have the same run, wherever it starts
pub run_ext : (f g : ℕ → Bool) (i j n : ℕ) → ((k : ℕ) → k < n → f (i + k) ≡ g (j + k)) → word_of f i n ≡ word_of g j n
unfolding word_of
run_ext f g i j zero h = refl
run_ext f g i j (suc n) h = ap₂ (λ x t. x * 2 + bit t) (run_ext f g i j n (λ k l. h k (omega arith))) (h n (le_refl _))

-- two runs
pub run_cat : (f : ℕ → Bool) (from n m : ℕ) → word_of f from (n + m) ≡ word_of f from n * 2 ^ m + word_of f (from + n) m
unfolding word_of
run_cat f from n zero = ap (word_of f from) (add-zero n) ∙ omega arith
run_cat f from n (suc m) =
    let x : ℕ = word_of f from n in
    let twice : x * 2 ^ suc m ≡ x * 2 ^ m * 2 = ap (λ y. x * y) (pow-suc 2 m) ∙ sym (mul_assoc x (2 ^ m) 2) in
    let same = ap (λ i. bit (f i)) (add_assoc from n m) in
    ap (word_of f from) (add-suc n m) ∙ omega (arith, run_cat f from n m, twice, same)

run_one : (f : ℕ → Bool) (q : ℕ) → word_of f q 1 ≡ bit (f q)
unfolding word_of
run_one f q = zero-add _ ∙ ap (λ i. bit (f i)) (add-zero q)

-- the middle of a run
pub run_cut : (f : ℕ → Bool) (from s m t : ℕ) → word_of f from (s + m + t) / 2 ^ t % 2 ^ m ≡ word_of f (from + s) m
run_cut f from s m t =
    ap (λ x. x / 2 ^ t % 2 ^ m) (run_cat f from (s + m) t)
    ∙ ap (λ x. x % 2 ^ m) (high (word_of f from (s + m)) t (run_lt f (from + (s + m)) t) ∙ run_cat f from s m)
    ∙ low (word_of f from s) m (run_lt f (from + s) m)

-- digit n - 1 - j is bit j
pub run_bit : (f : ℕ → Bool) (from n j : ℕ) → j < n → bit_of (word_of f from n) (n - 1 - j) ≡ f (from + j)
unfolding bit_of digit
run_bit f from n j h =
    let t : ℕ = n - 1 - j in
    let all : n ≡ j + 1 + t = omega arith in
    ap (λ m. eqb (word_of f from m / 2 ^ t % 2) 1) all ∙ ap (λ x. eqb x 1) (run_cut f from j 1 t ∙ run_one f (from + j)) ∙ bit_back (f (from + j))

-- of a run up to `end`, digit end - 1 - p is that of p
pub run_at : (f : ℕ → Bool) (q end p : ℕ) {run : ℕ} → run ≡ word_of f q (end - q) → q ≤ p → p < end → bit_of run (end - 1 - p) ≡ f p
run_at f q end p e a b =
    let at : q + (p - q) ≡ p = omega arith in
    let place : end - q - 1 - (p - q) ≡ end - 1 - p = omega arith in
    ap₂ bit_of e (sym place) ∙ run_bit f q (end - q) (p - q) (omega arith) ∙ ap f at

-- a field of a record: `count` of its bits, after its first `before`
pub run_field : (bs : List ℕ) (from before count after : ℕ) {run r : ℕ} → run ≡ run_of bs from (before + count + after) → r ≡ run / 2 ^ after % 2 ^ count
    → r ≡ run_of bs (from + before) count
run_field bs from before count after e g = g ∙ ap (λ y. y / 2 ^ after % 2 ^ count) e ∙ run_cut (bit_at bs) from before count after

-- as code takes it from the 64 bits of its first byte on
pub run_word : (bs : List ℕ) (from count : ℕ) {x r : ℕ} → from % 8 + count ≤ 64 → x ≡ run_of bs (8 * (from / 8)) 64
    → r ≡ x / 2 ^ (64 - from % 8 - count) % 2 ^ count → r ≡ run_of bs from count
run_word bs from count h e g =
    let s : ℕ = from % 8 in
    let t : ℕ = 64 - s - count in
    let all : 64 ≡ s + count + t = omega arith in
    let start : 8 * (from / 8) + s ≡ from = omega arith in
    run_field bs (8 * (from / 8)) s count t (e ∙ ap (run_of bs (8 * (from / 8))) all) g ∙ ap (λ i. run_of bs i count) start

-- `1 << k`
pub shifted_one : (k : ℕ) → k < 64 → 1 * 2 ^ k % 2 ^ 64 ≡ 2 ^ k
shifted_one k h = mod-eq_of_lt (omega (arith, one-mul (2 ^ k), pow-lt h)) ∙ one-mul (2 ^ k)

-- ---- a run that is 0

zero_cat : (x m y : ℕ) → eqb (x * 2 ^ m + y) 0 ≡ eqb x 0 && eqb y 0
zero_cat zero m y = rw (zero-mul (2 ^ m), zero-add y)
zero_cat (suc x) m y = rw (eqb-suc-zero x) (ne_eqb (suc x * 2 ^ m + y) 0 (λ z. omega (arith, suc-mul x (2 ^ m), pow_pos m)))

-- both of its parts are
pub run_cat_zero : (f : ℕ → Bool) (from n m : ℕ) → eqb (word_of f from (n + m)) 0 ≡ eqb (word_of f from n) 0 && eqb (word_of f (from + n) m) 0
run_cat_zero f from n m = ap (λ x. eqb x 0) (run_cat f from n m) ∙ zero_cat (word_of f from n) m (word_of f (from + n) m)

-- none of its bits is set
pub run_none_set : (f : ℕ → Bool) (from n : ℕ) → eqb (word_of f from n) 0 ≡ not (any_to (λ i. f (from + i)) n)
unfolding any_to word_of
run_none_set f from zero = refl
run_none_set f from (suc n) =
    let last : Bool = f (from + n) in
    zero_cat (word_of f from n) 1 (bit last) ∙ ap (λ t. t && eqb (bit last) 0) (run_none_set f from n) ∙ neither (any_to (λ i. f (from + i)) n) last
  where
    neither : (x y : Bool) → not x && eqb (bit y) 0 ≡ not (x || y)
    neither true y = refl
    neither false true = refl
    neither false false = refl

pub run_zero : (f : ℕ → Bool) (q n : ℕ) → word_of f q n ≡ 0 → (i : ℕ) → q ≤ i → i < q + n → f i ≡ false
run_zero f q n e i a b =
    let at : i ≡ q + (i - q) = omega arith in
    ap (f) at ∙ any_to_false (λ k. f (q + k)) n (not-true _ (sym (run_none_set f q n) ∙ eq-eqb (word_of f q n) 0 e)) (i - q) (omega arith)

pub run_clear : (f : ℕ → Bool) (from n : ℕ) → ((k : ℕ) → k < n → f (from + k) ≡ false) → word_of f from n ≡ 0
unfolding word_of
run_clear f from zero h = refl
run_clear f from (suc n) h = rw (run_clear f from n (λ k l. h k (omega arith)), h n (le_refl _))

-- ---- bytes

digit_bit : (d : ℕ) → d < 2 → bit (eqb d 1) ≡ d
digit_bit zero h = refl
digit_bit (suc zero) h = refl
digit_bit (suc (suc d)) h = absurd (omega arith)

-- the first bits of a byte are its highest digits
high_digits : (bs : List ℕ) (k j : ℕ) → get_or bs k 0 < 256 → j ≤ 8 → run_of bs (8 * k) j ≡ get_or bs k 0 / 2 ^ (8 - j)
unfolding word_of bit_at bit_of digit
high_digits bs k zero h l = sym (div-eq_of_lt h)
high_digits bs k (suc j) h l =
    let x : ℕ = get_or bs k 0 in
    let y : ℕ = x / 2 ^ (7 - j) in
    let half : x / 2 ^ (8 - j) ≡ y / 2 = ap (λ m. x / 2 ^ m) {y = 7 - j + 1} (omega arith) ∙ sym (shr-shr x (7 - j) 1) in
    let q : (8 * k + j) / 8 ≡ k = omega arith in
    let r : (8 * k + j) % 8 ≡ j = omega arith in
    let last : bit (bit_at bs (8 * k + j)) ≡ y % 2 = rw (q, r) (digit_bit (y % 2) (omega arith)) in
    let whole : x / 2 ^ (8 - suc j) ≡ y = ap (λ m. x / 2 ^ m) (omega arith) in
    omega (arith, high_digits bs k j h (omega arith), half, last, whole)

pub run_byte : (bs : List ℕ) (k : ℕ) → get_or bs k 0 < 256 → run_of bs (8 * k) 8 ≡ get_or bs k 0
run_byte bs k h = high_digits bs k 8 h (le_refl 8) ∙ omega arith

-- one byte more
run_next : (bs : List ℕ) (k n : ℕ) → get_or bs (k + n) 0 < 256 → run_of bs (8 * k) (8 * (n + 1)) ≡ run_of bs (8 * k) (8 * n) * 256 + get_or bs (k + n) 0
run_next bs k n h =
    let all : 8 * n + 8 ≡ 8 * (n + 1) = omega arith in
    let at : 8 * k + 8 * n ≡ 8 * (k + n) = omega arith in
    ap (run_of bs (8 * k)) (sym all) ∙ run_cat (bit_at bs) (8 * k) (8 * n) 8
    ∙ ap (λ y. run_of bs (8 * k) (8 * n) * 256 + y) (ap (λ i. run_of bs i 8) at ∙ run_byte bs (k + n) h)

-- the bytes of `bits[k..k + n]`
pub chunk_at : (bs : List ℕ) (k n : ℕ) {chunk : List ℕ} → chunk ≡ take (k + n - k) (drop k bs) → (i : ℕ) → i < n → get_or chunk i 0 ≡ get_or bs (k + i) 0
chunk_at bs k n e i h =
    let within : i < k + n - k = omega arith in
    ap (λ l. get_or l i 0) e ∙ rw (get_or-take, get_or-drop)

-- past the end there are zeros
pub run_past : (bs : List ℕ) (k : ℕ) → length bs ≤ k → run_of bs (8 * k) 8 ≡ 0
run_past bs k h = let e = get_or-eq_default bs 0 h in run_byte bs k (rw e (lit< tt)) ∙ e

-- the bytes from byte k on, and zeros past the end
module _ (bs word : List ℕ) (k : ℕ) (bytes : Bytes bs) where
  next : (n : ℕ) → run_of bs (8 * k) (8 * (n + 1)) ≡ run_of bs (8 * k) (8 * n) * 256 + get_or bs (k + n) 0
  next n = run_next bs k n (bytes (k + n))

  first_four : run_of bs (8 * k) 32 ≡ get_or bs (k + 0) 0 * 16777216 + get_or bs (k + 1) 0 * 65536 + get_or bs (k + 2) 0 * 256 + get_or bs (k + 3) 0
  first_four = omega (arith, run_none (bit_at bs) (8 * k), next 0, next 1, next 2, next 3)

  pub run_eight : ((i : ℕ) → i < 8 → get_or word i 0 ≡ get_or bs (k + i) 0) → from_be_bytes w64 word ≡ run_of bs (8 * k) 64
  run_eight same =
      omega (arith, first_four, next 4, next 5, next 6, next 7, same 0 (lit< tt), same 1 (lit< tt), same 2 (lit< tt), same 3 (lit< tt), same 4 (lit< tt), same 5 (lit< tt), same 6 (lit< tt), same 7 (lit< tt))

-- `u << 8 * b | v`, of a bytes and the b after them
pub run-or : (bs : List ℕ) (k a b : ℕ) {u v : ℕ} → 8 * a + 8 * b ≤ 64 → u ≡ run_of bs (8 * k) (8 * a) → v ≡ run_of bs (8 * (k + a)) (8 * b)
    → bit_or (u * 2 ^ (8 * b) % 2 ^ 64) v ≡ run_of bs (8 * k) (8 * (a + b))
run-or bs k a b h eu ev =
    let x : ℕ = run_of bs (8 * k) (8 * a) in
    let y : ℕ = run_of bs (8 * k + 8 * a) (8 * b) in
    let at : 8 * (k + a) ≡ 8 * k + 8 * a = omega arith in
    let all : 8 * a + 8 * b ≡ 8 * (a + b) = omega arith in
    ap₂ (λ u v. bit_or (u * 2 ^ (8 * b) % 2 ^ 64) v) eu (ev ∙ ap (λ i. run_of bs i (8 * b)) at)
    ∙ ap (λ z. bit_or z y) (shl_exact (8 * a) (8 * b) 64 (run_lt (bit_at bs) (8 * k) (8 * a)) h)
    ∙ or_shifted x (8 * b) y (run_lt (bit_at bs) (8 * k + 8 * a) (8 * b))
    ∙ sym (run_cat (bit_at bs) (8 * k) (8 * a) (8 * b)) ∙ ap (run_of bs (8 * k)) all
