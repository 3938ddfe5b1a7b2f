-- The laws of packed bits: a bit that was written is read back, every other bit is as it was, the length and the bytes' range are kept, and a
-- list of bytes is known by its bits. `get_is`, `on_is` and `off_is` say what the masks of the code compute. Assumes nothing.
use mathlib.Core.Bool.{Bool, cond, false, not, or-false, or-true, true, ◌||◌}
use mathlib.Core.List.{List}
use mathlib.Core.Logic.{◌≢◌}
use mathlib.Core.Path.{ap, ap₂, refl, sym, ◌∙◌, ◌≡◌}
use Prim.Native.Nat.{◌%◌, ◌*◌, ◌+◌, ◌-◌, ◌/◌, ◌<◌, ◌^◌, suc, zero, ℕ, ◌≤◌}
use native.Mathlib.Decide.{dec_lt, ℕ_discrete}
use native.Mathlib.Nat.{add-mul-div_right, add-mul-mod_self_right, div-add-mod, div-eq_of_lt, div-lt_iff_lt-mul, mod-eq_of_lt, mod-lt, mul_comm, mul-le-mul_right, one-mul, suc-mul, zero-add, zero-div, zero-mul}
use native.Mathlib.Omega.{arith}
use borrow.Author.Tests.{eq-eqb, ne_eqb}
use lib.Bits.{bit_and, bit_or}
use lib.Dec.{eqb, lit<}
use lib.ListN.{get_or, get_or-replicate, length, length-replicate, length-set, get_or-eq_default, replicate, set, take}
use lib.Pow.{pow-lt, pow_pos}
use lib.Seq.{ext_get_or, get_or-set_other, get_or-set_same, set_out}
use Rattle.arith.proofs.Digits.{and_not_is, and_pow, digit_two, mask_is, or_is, with_lt, with_other, with_same}
use Rattle.arith.proofs.Sums.{get_d_tabulate, length_tabulate, take_tabulate}
use Rattle.arith.proofs.Words.{bits_eq, pack_bit, pack_lt}
use Rattle.arith.specs.Digits.{bit_of, digit, with_digit}
use Rattle.arith.specs.Sums.{bit, pack_to, tabulate}
use Rattle.packed.specs.Bits.{bit_at, bytes_of, with_bit}
use Rattle.packed.specs.Inside.Bytes.{Bytes}

pub bit_two : (on : Bool) → bit on < 2
bit_two true = lit< tt
bit_two false = lit< tt

pub bit_back : (on : Bool) → eqb (bit on) 1 ≡ on
bit_back true = refl
bit_back false = refl

-- ---- what the code computes

nonzero : (d p : ℕ) → d < 2 → 0 < p → not (eqb (d * p) 0) ≡ eqb d 1
nonzero zero p hd hp = rw zero-mul
nonzero (suc zero) p hd hp = rw (one-mul, ne_eqb p 0 (omega arith))
nonzero (suc (suc d)) p hd hp = absurd (omega arith)

-- `b & (128 >> j) != 0`
pub get_is : (b i : ℕ) → not (eqb (bit_and b (128 / 2 ^ (i % 8))) 0) ≡ bit_of b (7 - i % 8)
unfolding bit_of
get_is b i =
    let k : ℕ = 7 - i % 8 in
    rw (mask_is (i % 8) (omega arith), and_pow b k) (nonzero (digit b k) (2 ^ k) (digit_two b k) (pow_pos k))

-- `b | (128 >> j)`
pub on_is : (b i : ℕ) → bit_or b (128 / 2 ^ (i % 8)) ≡ with_digit b (7 - i % 8) 1
on_is b i = rw (mask_is (i % 8) (omega arith)) (or_is b (7 - i % 8))

-- `b & !(128 >> j)`
pub off_is : (b i : ℕ) → b < 256 → bit_and b (255 - 128 / 2 ^ (i % 8)) ≡ with_digit b (7 - i % 8) 0
off_is b i h = rw (mask_is (i % 8) (omega arith)) (and_not_is 8 b (7 - i % 8) h (pow-lt {j = 8} (omega arith)))

-- ---- words of w bits: bit i is digit w - 1 - i % w of word i / w

module _ (w : ℕ) (z : 0 < w) where
  abbrev bit_in : List ℕ → ℕ → Bool
  bit_in xs i = bit_of (get_or xs (i / w) 0) (w - 1 - i % w)

  -- with its bit i replaced
  abbrev pub with_in : List ℕ → ℕ → Bool → List ℕ
  with_in xs i on = set xs (i / w) (with_digit (get_or xs (i / w) 0) (w - 1 - i % w) (bit on))

  here : (i j : ℕ) → j / w ≡ i / w → w - 1 - j % w ≡ w - 1 - i % w → j ≡ i
  here i j e f = omega (arith, div-add-mod i w, div-add-mod j w, mod-lt i z, mod-lt j z, ap (λ k. w * k) e)

  pub in_same : (xs : List ℕ) (i : ℕ) (on : Bool) → i / w < length xs → bit_in (with_in xs i on) i ≡ on
  unfolding bit_of
  in_same xs i on h =
      let x : ℕ = get_or xs (i / w) 0 in
      let k : ℕ = w - 1 - i % w in
      rw (get_or-set_same xs (i / w) (with_digit x k (bit on)) 0 h, with_same x k (bit on) (bit_two on)) (bit_back on)

  pub in_other : (xs : List ℕ) (i j : ℕ) (on : Bool) → j ≢ i → bit_in (with_in xs i on) j ≡ bit_in xs j
  unfolding bit_of
  in_other xs i j on n =
      let x : ℕ = get_or xs (i / w) 0 in
      let k : ℕ = w - 1 - i % w in
      elim (dec_lt (i / w) (length xs)) [
        | yes h ↦ elim (ℕ_discrete (j / w) (i / w)) [
          | yes e ↦ rw (e, get_or-set_same xs (i / w) (with_digit x k (bit on)) 0 h)
              (ap (λ (y : ℕ). eqb y 1) (with_other x k (bit on) (bit_two on) (w - 1 - j % w) (λ q. n (here i j e q))))
          | no d ↦ ap (λ (y : ℕ). eqb (digit y (w - 1 - j % w)) 1) (get_or-set_other xs (i / w) (j / w) _ 0 d)
        ]
        | no h ↦ ap (λ l. bit_in l j) (set_out xs (i / w) _ (omega arith))
      ]

  pub in_lt : (xs : List ℕ) (i : ℕ) (on : Bool) → ((k : ℕ) → get_or xs k 0 < 2 ^ w) → (k : ℕ) → get_or (with_in xs i on) k 0 < 2 ^ w
  in_lt xs i on f k =
      let x : ℕ = get_or xs (i / w) 0 in
      let d : ℕ = w - 1 - i % w in
      elim (dec_lt (i / w) (length xs)) [
        | yes h ↦ elim (ℕ_discrete k (i / w)) [
          | yes e ↦ rw (e, get_or-set_same xs (i / w) (with_digit x d (bit on)) 0 h) (with_lt x d (bit on) (bit_two on) w (omega (arith, mod-lt i z)) (f (i / w)))
          | no g ↦ rw (get_or-set_other xs (i / w) k (with_digit x d (bit on)) 0 g) (f k)
        ]
        | no h ↦ rw (set_out xs (i / w) (with_digit x d (bit on)) (omega arith)) (f k)
      ]

  -- they are known by their bits
  pub same_words : (xs ys : List ℕ) → length xs ≡ length ys → ((k : ℕ) → get_or xs k 0 < 2 ^ w) → ((k : ℕ) → get_or ys k 0 < 2 ^ w)
      → ((i : ℕ) → i < w * length xs → bit_in xs i ≡ bit_in ys i) → xs ≡ ys
  same_words xs ys e f g h = ext_get_or 0 xs ys e (λ q l. bits_eq w (get_or xs q 0) (get_or ys q 0) (f q) (g q) (λ k b.
      let r : ℕ = w - 1 - k in
      let i : ℕ = r + q * w in
      let low : r < w = omega arith in
      let eq : i / w ≡ q = add-mul-div_right r q z ∙ ap (λ m. m + q) (div-eq_of_lt low) ∙ zero-add q in
      let er : i % w ≡ r = add-mul-mod_self_right r q w ∙ mod-eq_of_lt low in
      let ek : w - 1 - i % w ≡ k = omega arith in
      let most : i < w * length xs = omega (arith, mul-le-mul_right w l, suc-mul q w, mul_comm w (length xs)) in
      let t = h i most in
      rw (eq, ek) at t))

  -- made of their bits
  pub bit_packed : (f : ℕ → Bool) (m i : ℕ) → i < w * m → bit_in (tabulate (λ k. pack_to (λ j. f (w * k + (w - 1 - j))) w) m) i ≡ f i
  bit_packed f m i h =
      let j : ℕ = w - 1 - i % w in
      let low : i % w < w = mod-lt i z in
      let at : w * (i / w) + (w - 1 - j) ≡ i = omega (arith, div-add-mod i w) in
      ap (λ x. bit_of x j) (get_d_tabulate (λ k. pack_to (λ j. f (w * k + (w - 1 - j))) w) m (i / w) 0 ((div-lt_iff_lt-mul z).1 (rw (mul_comm m w) h)))
      ∙ pack_bit (λ j. f (w * (i / w) + (w - 1 - j))) w j (omega arith) ∙ ap f at

  pub packed_lt : (f : ℕ → Bool) (m k : ℕ) → get_or (tabulate (λ k. pack_to (λ j. f (w * k + (w - 1 - j))) w) m) k 0 < 2 ^ w
  packed_lt f m k =
      let word : ℕ → ℕ = λ k. pack_to (λ j. f (w * k + (w - 1 - j))) w in
      elim (dec_lt k m) [
        | yes h ↦ rw (get_d_tabulate word m k 0 h) (pack_lt (λ j. f (w * k + (w - 1 - j))) w)
        | no h ↦ let past : length (tabulate word m) ≤ k = omega (arith, length_tabulate word m) in
            rw (get_or-eq_default (tabulate word m) 0 past) (pow_pos w)
      ]

-- ---- the laws

pub length_with_bit : (xs : List ℕ) (i : ℕ) (on : Bool) → length (with_bit xs i on) ≡ length xs
unfolding with_bit
length_with_bit xs i on = length-set xs (i / 8) _

pub bit_with_same : (xs : List ℕ) (i : ℕ) (on : Bool) → i / 8 < length xs → bit_at (with_bit xs i on) i ≡ on
unfolding bit_at with_bit
bit_with_same = in_same 8 (lit< tt)

pub bit_with_other : (xs : List ℕ) (i j : ℕ) (on : Bool) → j ≢ i → bit_at (with_bit xs i on) j ≡ bit_at xs j
unfolding bit_at with_bit
bit_with_other = in_other 8 (lit< tt)

pub bytes_with_bit : (xs : List ℕ) (i : ℕ) (on : Bool) → Bytes xs → Bytes (with_bit xs i on)
unfolding with_bit
bytes_with_bit = in_lt 8 (lit< tt)

-- the bytes are known by their bits
pub same_bits : (xs ys : List ℕ) → length xs ≡ length ys → Bytes xs → Bytes ys → ((i : ℕ) → i < 8 * length xs → bit_at xs i ≡ bit_at ys i) → xs ≡ ys
unfolding bit_at
same_bits = same_words 8 (lit< tt)

digit_zero : (k : ℕ) → digit 0 k ≡ 0
unfolding digit
digit_zero k = rw (zero-div (2 ^ k))

-- zeros, and past them
pub zero_at : (m j : ℕ) → ◌≡◌ {A = ℕ} (get_or (replicate m 0) j 0) 0
zero_at m j = elim (dec_lt j m) [
  | yes h ↦ get_or-replicate m j 0 0 h
  | no h ↦ get_or-eq_default (replicate m 0) 0 (omega (arith, length-replicate {A = ℕ} m 0))
]

bytes_zeros : (m : ℕ) → Bytes (replicate m 0)
bytes_zeros m k = omega (arith, zero_at m k)

-- no bit of zeros is set
pub bit_zeros : (n i : ℕ) → bit_at (replicate n 0) i ≡ false
unfolding bit_at bit_of
bit_zeros n i = rw (zero_at n (i / 8), digit_zero (7 - i % 8))

-- a bit past the bytes is not written
pub with_bit_past : (x : List ℕ) (i : ℕ) (on : Bool) → length x ≤ i / 8 → with_bit x i on ≡ x
unfolding with_bit
with_bit_past x i on h = set_out x (i / 8) _ h

-- and is 0
pub bit_past : (x : List ℕ) (i : ℕ) → length x ≤ i / 8 → bit_at x i ≡ false
unfolding bit_at
bit_past x i h = ap (λ b. bit_of b (7 - i % 8)) (get_or-eq_default x 0 h) ∙ bit_zeros 0 i

-- ---- bytes made of their bits

pub length-bytes_of : (f : ℕ → Bool) (m : ℕ) → length (bytes_of f m) ≡ m
unfolding bytes_of
length-bytes_of f m = length_tabulate _ m

pub bit-bytes_of : (f : ℕ → Bool) (m i : ℕ) → i < 8 * m → bit_at (bytes_of f m) i ≡ f i
unfolding bit_at bytes_of
bit-bytes_of = bit_packed 8 (lit< tt)

pub bytes_bytes_of : (f : ℕ → Bool) (m : ℕ) → Bytes (bytes_of f m)
unfolding bytes_of
bytes_bytes_of = packed_lt 8 (lit< tt)

-- the first bytes
pub take-bytes_of : (f : ℕ → Bool) (m n : ℕ) → m ≤ n → take m (bytes_of f n) ≡ bytes_of f m
unfolding bytes_of
take-bytes_of f m n h = take_tabulate _ m n h

-- bit j of byte k
pub byte_bit : (xs : List ℕ) (k j : ℕ) → j < 8 → bit_at xs (8 * k + (7 - j)) ≡ bit_of (get_or xs k 0) j
unfolding bit_at
byte_bit xs k j h =
    let i : ℕ = 8 * k + (7 - j) in
    let q : i / 8 ≡ k = omega arith in
    let d : 7 - i % 8 ≡ j = omega arith in
    ap₂ (λ m e. bit_of (get_or xs m 0) e) q d

-- one bit is put
pub put_bytes_of : (f : ℕ → Bool) (m p : ℕ) (on : Bool) → p / 8 < m → with_bit (bytes_of f m) p on ≡ bytes_of (λ i. cond (eqb p i) on (f i)) m
put_bytes_of f m p on h =
    let g : ℕ → Bool = λ i. cond (eqb p i) on (f i) in
    let long : length (with_bit (bytes_of f m) p on) ≡ m = length_with_bit (bytes_of f m) p on ∙ length-bytes_of f m in
    same_bits (with_bit (bytes_of f m) p on) (bytes_of g m) (long ∙ sym (length-bytes_of g m)) (bytes_with_bit (bytes_of f m) p on (bytes_bytes_of f m))
    (bytes_bytes_of g m) (λ i l.
    let inside : i < 8 * m = omega (arith, long) in
    elim (ℕ_discrete i p) [
      | yes e ↦
          ap (bit_at (with_bit (bytes_of f m) p on)) e ∙ bit_with_same (bytes_of f m) p on (omega (arith, length-bytes_of f m))
          ∙ sym (bit-bytes_of g m i inside ∙ ap (λ t. cond t on (f i)) (eq-eqb p i (sym e)))
      | no d ↦
          bit_with_other (bytes_of f m) p i on d ∙ bit-bytes_of f m i inside
          ∙ sym (bit-bytes_of g m i inside ∙ ap (λ t. cond t on (f i)) (ne_eqb p i (λ e. d (sym e))))
    ])

-- one bit more is set
pub set-bytes_of : (f : ℕ → Bool) (m p : ℕ) → p / 8 < m → with_bit (bytes_of f m) p true ≡ bytes_of (λ i. f i || eqb p i) m
set-bytes_of f m p h = put_bytes_of f m p true h ∙ (λ j. bytes_of (λ i. either (eqb p i) (f i) j) m)
  where
    either : (t x : Bool) → cond t true x ≡ x || t
    either true x = sym (or-true x)
    either false x = sym (or-false x)

-- none is
pub clear_bytes_of : (f : ℕ → Bool) (m : ℕ) → ((i : ℕ) → f i ≡ false) → replicate m 0 ≡ bytes_of f m
clear_bytes_of f m h =
    same_bits (replicate m 0) (bytes_of f m) (length-replicate m 0 ∙ sym (length-bytes_of f m)) (bytes_zeros m) (bytes_bytes_of f m)
    (λ i l. bit_zeros m i ∙ sym (bit-bytes_of f m i (omega (arith, length-replicate {A = ℕ} m 0)) ∙ h i))
