-- Digits as tests: what a count of ones counts, what a number with one bit more has and what a packed one, and a number without its lowest digits, or its lowest one. Assumes nothing.
use mathlib.Core.Bool.{◌&&◌, Bool, false, not, true, true≢false, ◌||◌}
use mathlib.Core.Logic.{inl, inr, ◌≢◌, ⊎_elim}
use mathlib.Core.Path.{ap, ap₂, fun_ext, refl, sym, ◌∙◌, ◌≡◌}
use Prim.Native.Nat.{◌%◌, ◌*◌, ◌+◌, ◌-◌, ◌/◌, ◌<◌, ◌^◌, max, min, suc, zero, ℕ, ◌≤◌}
use native.Mathlib.Decide.{dec_lt, ℕ_discrete}
use native.Mathlib.Nat.{add_comm, add-mul-div_right, add-mul-mod_self_right, add-zero, div-eq_of_lt, div-mul-le_self, div-one, eq-or-lt_of_le, lt_of_le_of_lt, lt_of_lt_of_le, mod-eq_of_lt, mod-lt, mod-one, mul-add-mod_self_right, mul_assoc, one-mul, pow-suc, zero-add, zero-mul}
use native.Mathlib.Numerals.{one-add}
use native.Mathlib.Omega.{arith}
use borrow.Author.Tests.{eq-eqb, eqb-false, eqb-true, ne_eqb}
use lib.Bits.{and_le_l, and_self, and_shr, and_step, bit_and, bit_or, or_shr, or_step}
use lib.Count.{ones, ones_cat, count_trailing_zeros}
use lib.Dec.{eqb}
use lib.Pow.{field, mod-mod-pow, mod-pow-add, pow-add, pow_mono, pow_pos, shl-shr, shr-shr}
use Rattle.arith.proofs.Digits.{digit_two, digits_eq, or_is, with_other, with_same}
use Rattle.arith.proofs.Sums.{count_to_ext}
use Rattle.arith.proofs.Tests.{test}
use Rattle.arith.specs.Digits.{bit_of, digit}
use Rattle.arith.specs.Sums.{bit, count_to, pack_to, sum_to}

-- a digit below 2 is 0 or 1: what holds of both holds of it
below_two : (P : ℕ → Type 0) → P 0 → P 1 → (n : ℕ) → n < 2 → P n
below_two P a b zero h = a
below_two P a b (suc zero) h = b
below_two P a b (suc (suc n)) h = absurd (omega arith)

-- ---- the bits of an and, and of an or: those of an operation that goes digit by digit
module _ (op low : ℕ → ℕ → ℕ) (logic : Bool → Bool → Bool) (step : (a b : ℕ) → op a b ≡ op (a / 2) (b / 2) * 2 + low (a % 2) (b % 2))
    (shr : (a b k : ℕ) → op a b / 2 ^ k ≡ op (a / 2 ^ k) (b / 2 ^ k)) (small : (x y : ℕ) → x < 2 → y < 2 → low x y < 2)
    (is : (x y : ℕ) → x < 2 → y < 2 → eqb (low x y) 1 ≡ logic (eqb x 1) (eqb y 1)) where
  op_low : (a b : ℕ) → op a b % 2 ≡ low (a % 2) (b % 2)
  op_low a b =
      ap (λ (x : ℕ). x % 2) (step a b) ∙ mul-add-mod_self_right (op (a / 2) (b / 2)) 2 (low (a % 2) (b % 2))
      ∙ mod-eq_of_lt (small (a % 2) (b % 2) (omega arith) (omega arith))

  bit_op : (a b k : ℕ) → bit_of (op a b) k ≡ logic (bit_of a k) (bit_of b k)
  unfolding bit_of digit
  bit_op a b k =
      ap (λ (x : ℕ). eqb x 1) (ap (λ (x : ℕ). x % 2) (shr a b k) ∙ op_low (a / 2 ^ k) (b / 2 ^ k))
      ∙ is (a / 2 ^ k % 2) (b / 2 ^ k % 2) (omega arith) (omega arith)

-- what holds of both digits of two
of_two : (P : ℕ → ℕ → Type 0) → P 0 0 → P 0 1 → P 1 0 → P 1 1 → (x y : ℕ) → x < 2 → y < 2 → P x y
of_two P a b c d x y hx hy = below_two (λ x. P x y) (below_two (P 0) a b y hy) (below_two (P 1) c d y hy) x hx

pub bit-and : (a b k : ℕ) → bit_of (bit_and a b) k ≡ bit_of a k && bit_of b k
bit-and = bit_op bit_and min ◌&&◌ and_step and_shr (λ x y hx hy. omega arith) (of_two (λ x y. eqb (min x y) 1 ≡ eqb x 1 && eqb y 1) refl refl refl refl)

pub bit-or : (a b k : ℕ) → bit_of (bit_or a b) k ≡ bit_of a k || bit_of b k
bit-or = bit_op bit_or max ◌||◌ or_step or_shr (λ x y hx hy. omega arith) (of_two (λ x y. eqb (max x y) 1 ≡ eqb x 1 || eqb y 1) refl refl refl refl)

-- ---- one bit more
module _ (x k : ℕ) where
  pub or_same : bit_of (bit_or x (2 ^ k)) k ≡ true
  unfolding bit_of
  or_same = eq-eqb _ 1 (ap (λ y. digit y k) (or_is x k) ∙ with_same x k 1 (omega arith))

  pub or_other : (m : ℕ) → m ≢ k → bit_of (bit_or x (2 ^ k)) m ≡ bit_of x m
  unfolding bit_of
  or_other m d = ap (λ (y : ℕ). eqb y 1) (ap (λ y. digit y m) (or_is x k) ∙ with_other x k 1 (omega arith) m d)

-- ---- the count of the ones among the n lowest digits
one : (d : ℕ) → d < 2 → ones d ≡ bit (eqb d 1)
unfolding ones
one d h = below_two (λ d. ones d ≡ bit (eqb d 1)) refl refl d h

pub ones_mod : (n x : ℕ) → ones (x % 2 ^ n) ≡ count_to (bit_of x) n
unfolding sum_to bit_of digit ones
ones_mod zero x = ap ones (mod-one x)
ones_mod (suc n) x =
    ap (λ (m : ℕ). ones (x % 2 ^ m)) (sym (one-add n)) ∙ ap ones (mod-pow-add x 1 n)
    ∙ ones_cat n (x / 2 ^ n % 2) (x % 2 ^ n) (mod-lt x (pow_pos n))
    ∙ add_comm _ _
    ∙ ap₂ (λ (s t : ℕ). s + t) (ones_mod n x) (one (x / 2 ^ n % 2) (omega arith))

-- the count of the ones of an and, the first of whose words has n digits
pub ones_and : (n a b : ℕ) → a < 2 ^ n → ones (bit_and a b) ≡ count_to (λ k. bit_of a k && bit_of b k) n
ones_and n a b ha =
    ap ones (sym (mod-eq_of_lt (lt_of_le_of_lt (and_le_l a b) ha)))
    ∙ ones_mod n (bit_and a b)
    ∙ count_to_ext _ _ n (λ k h. bit-and a b k)

-- ---- a packed number has the bits that were packed, and no other
pub pack_lt : (p : ℕ → Bool) (n : ℕ) → pack_to p n < 2 ^ n
unfolding sum_to
pack_lt p zero = omega arith
pack_lt p (suc n) = omega (arith, pack_lt p n, pow-suc 2 n, top_le (p n))
  where
    top_le : (b : Bool) → bit b * 2 ^ n ≤ 2 ^ n
    top_le true = omega (arith, one-mul (2 ^ n))
    top_le false = omega (arith, zero-mul (2 ^ n))

-- the bits below n are those of the n lowest digits
pub bit_mod : (n x k : ℕ) → k < n → bit_of (x % 2 ^ n) k ≡ bit_of x k
unfolding bit_of digit
bit_mod n x k h =
    ap (λ (y : ℕ). eqb (y % 2) 1) (ap (λ (m : ℕ). x % 2 ^ m / 2 ^ k) {y = (n - k - 1 + 1) + k} (omega arith) ∙ field x (n - k - 1 + 1) k)
    ∙ ap (λ (y : ℕ). eqb y 1) (mod-mod-pow (x / 2 ^ k) (n - k - 1) 1)

-- no digit above a number's length is set
pub past_top : (x m k : ℕ) → x < 2 ^ m → m ≤ k → bit_of x k ≡ false
unfolding bit_of digit
past_top x m k h l = ap (λ (y : ℕ). eqb (y % 2) 1) (div-eq_of_lt (lt_of_lt_of_le h (pow_mono l)))

digit_eq : (b : Bool) → eqb (bit b % 2) 1 ≡ b
digit_eq true = refl
digit_eq false = refl

-- a digit that is set stands below a number's length
pub bit_below : (x m i : ℕ) → x < 2 ^ m → bit_of x i ≡ true → i < m
bit_below x m i h t = elim (dec_lt i m) [ yes l ↦ l | no g ↦ absurd (true≢false (sym t ∙ past_top x m i h (omega arith))) ]

pub pack_bit : (p : ℕ → Bool) (n k : ℕ) → k < n → bit_of (pack_to p n) k ≡ p k
unfolding sum_to bit_of digit
pack_bit p zero k h = absurd (omega arith)
pack_bit p (suc n) k h =
    ⊎_elim
    (λ (e : k ≡ n).
    rw e
    (ap (λ (x : ℕ). eqb (x % 2) 1) (add-mul-div_right (pack_to p n) (bit (p n)) (pow_pos n)
    ∙ ap (λ (x : ℕ). x + bit (p n)) (div-eq_of_lt (pack_lt p n)) ∙ zero-add _)
    ∙ digit_eq (p n)))
    (λ (b : k < n).
    sym (bit_mod n (pack_to p (suc n)) k b)
    ∙ ap (λ (x : ℕ). bit_of x k) (add-mul-mod_self_right (pack_to p n) (bit (p n)) (2 ^ n) ∙ mod-eq_of_lt (pack_lt p n))
    ∙ pack_bit p n k b)
    (eq-or-lt_of_le (omega arith))

-- ---- the lowest digit first
pub pack_first : (p : ℕ → Bool) (n : ℕ) → pack_to p (suc n) ≡ pack_to (λ k. p (suc k)) n * 2 + bit (p 0)
unfolding sum_to
pack_first p zero = omega arith
pack_first p (suc n) = omega (arith, pack_first p n, ap (λ x. bit (p (suc n)) * x) (pow-suc 2 n) ∙ sym (mul_assoc (bit (p (suc n))) (2 ^ n) 2))

-- a loop that puts p m below the digits from m + 1 on
pub pack_below : (p : ℕ → Bool) (m n : ℕ) {x : ℕ} {on : Bool} → m < n → x ≡ pack_to (λ k. p (m + 1 + k)) (n - (m + 1)) → on ≡ p m
    → x * 2 + bit on ≡ pack_to (λ k. p (m + k)) (n - m)
pack_below p m n h e o =
    let more : suc (n - (m + 1)) ≡ n - m = omega arith in
    ap₂ (λ y b. y * 2 + bit b) (e ∙ ap (λ f. pack_to f (n - (m + 1))) (fun_ext (λ k. ap p {x = m + 1 + k} {y = m + suc k} (omega arith))))
    (o ∙ ap p (sym (add-zero m)))
    ∙ sym (pack_first (λ k. p (m + k)) (n - (m + 1))) ∙ ap (pack_to (λ k. p (m + k))) more

-- ---- a number is known by its digits as tests

same_digit : (x y : ℕ) → x < 2 → y < 2 → eqb x 1 ≡ eqb y 1 → x ≡ y
same_digit x y hx hy e = elim (ℕ_discrete y 1) [
  | yes q ↦ eqb-true x 1 (e ∙ eq-eqb y 1 q) ∙ sym q
  | no d ↦ let g = eqb-false x 1 (e ∙ ne_eqb y 1 d) in omega arith
]

pub bits_eq : (w x y : ℕ) → x < 2 ^ w → y < 2 ^ w → ((k : ℕ) → k < w → bit_of x k ≡ bit_of y k) → x ≡ y
unfolding bit_of
bits_eq w x y hx hy h = digits_eq w x y hx hy (λ k l. same_digit (digit x k) (digit y k) (digit_two x k) (digit_two y k) (h k l))

pub pack_is : (w x : ℕ) (f : ℕ → Bool) → x < 2 ^ w → ((k : ℕ) → k < w → bit_of x k ≡ f k) → x ≡ pack_to f w
pack_is w x f hx h = bits_eq w x (pack_to f w) hx (pack_lt f w) (λ k l. h k l ∙ sym (pack_bit f w k l))

-- the lowest digits of a number, and those that it lacks
pub low_pack : (x n : ℕ) → x % 2 ^ n ≡ pack_to (bit_of x) n
low_pack x n = pack_is n (x % 2 ^ n) (bit_of x) (mod-lt x (pow_pos n)) (bit_mod n x)

pub pack_not : (p : ℕ → Bool) (n : ℕ) → pack_to p n + pack_to (λ k. not (p k)) n + 1 ≡ 2 ^ n
unfolding sum_to
pack_not p zero = refl
pack_not p (suc n) = elim (test (p n)) [
  | inl t ↦ rw t (omega (arith, pack_not p n, pow-suc 2 n, one-mul (2 ^ n), zero-mul (2 ^ n)))
  | inr t ↦ rw t (omega (arith, pack_not p n, pow-suc 2 n, one-mul (2 ^ n), zero-mul (2 ^ n)))
]

-- ---- a number without its lowest s digits

pub trim_le : (x s : ℕ) → x / 2 ^ s * 2 ^ s ≤ x
trim_le x s = div-mul-le_self x (2 ^ s)

pub trim_high : (x s j : ℕ) → s ≤ j → bit_of (x / 2 ^ s * 2 ^ s) j ≡ bit_of x j
unfolding bit_of digit
trim_high x s j h =
    let e : s + (j - s) ≡ j = omega arith in
    let down : (y : ℕ) → y / 2 ^ j ≡ y / 2 ^ s / 2 ^ (j - s) = λ y. ap (λ m. y / 2 ^ m) (sym e) ∙ sym (shr-shr y s (j - s)) in
    ap (λ y. eqb (y % 2) 1) (down (x / 2 ^ s * 2 ^ s) ∙ ap (λ y. y / 2 ^ (j - s)) (shl-shr (x / 2 ^ s) s) ∙ sym (down x))

pub trim_low : (x s j : ℕ) → j < s → bit_of (x / 2 ^ s * 2 ^ s) j ≡ false
unfolding bit_of digit
trim_low x s j h =
    let a : ℕ = x / 2 ^ s in
    let r : ℕ = s - suc j in
    let e : r + 1 + j ≡ s = omega arith in
    let p : a * 2 ^ s ≡ a * 2 ^ r * 2 * 2 ^ j =
    ap (λ m. a * 2 ^ m) (sym e) ∙ ap (λ y. a * y) (pow-add 2 (r + 1) j ∙ ap (λ y. y * 2 ^ j) (pow-add 2 r 1))
    ∙ sym (mul_assoc a (2 ^ r * 2) (2 ^ j)) ∙ ap (λ y. y * 2 ^ j) (sym (mul_assoc a (2 ^ r) 2)) in
    ap (λ y. eqb (y % 2) 1) (ap (λ y. y / 2 ^ j) p ∙ shl-shr (a * 2 ^ r * 2) j) ∙ ne_eqb (a * 2 ^ r * 2 % 2) 1 (λ q. omega arith)

-- ---- a number without the lowest digit that is set: `x & (x - 1)`

-- t is that digit
pub record LowDigit (x t : ℕ) : Type 0 where
  pub on : bit_of x t ≡ true
  pub off : bit_of (bit_and x (x - 1)) t ≡ false
  pub others : (i : ℕ) → i ≢ t → bit_of (bit_and x (x - 1)) i ≡ bit_of x i

low_bit : (x : ℕ) → bit_of x 0 ≡ eqb (x % 2) 1
unfolding bit_of digit
low_bit x = ap (λ (y : ℕ). eqb (y % 2) 1) (div-one x)

bit_half : (x i : ℕ) → bit_of x (suc i) ≡ bit_of (x / 2) i
unfolding bit_of digit
bit_half x i = ap (λ (y : ℕ). eqb (y % 2) 1) (ap (λ (m : ℕ). x / 2 ^ m) (sym (one-add i)) ∙ sym (shr-shr x 1 i))

twice_low : (z : ℕ) → bit_of (z * 2) 0 ≡ false
twice_low z = low_bit (z * 2) ∙ ne_eqb (z * 2 % 2) 1 (λ e. omega arith)

twice_high : (z i : ℕ) → bit_of (z * 2) (suc i) ≡ bit_of z i
twice_high z i = bit_half (z * 2) i ∙ ap (λ (y : ℕ). bit_of y i) {x = z * 2 / 2} {y = z} (omega arith)

module _ (x : ℕ) (p : 0 < x) where
  -- of an even number twice what is left of its half is left, and of an odd one twice its half
  left_even : x % 2 ≡ 0 → bit_and x (x - 1) ≡ bit_and (x / 2) (x / 2 - 1) * 2
  left_even e =
      let half : (x - 1) / 2 ≡ x / 2 - 1 = omega arith in
      and_step x (x - 1) ∙ ap (λ y. bit_and (x / 2) y * 2 + min (x % 2) ((x - 1) % 2)) half ∙ omega arith

  left_odd : x % 2 ≡ 1 → bit_and x (x - 1) ≡ x / 2 * 2
  left_odd e =
      let half : (x - 1) / 2 ≡ x / 2 = omega arith in
      and_step x (x - 1) ∙ ap (λ y. bit_and (x / 2) y * 2 + min (x % 2) ((x - 1) % 2)) half ∙ omega (arith, and_self (x / 2))

  low_even : x % 2 ≡ 0 → {t : ℕ} → LowDigit (x / 2) t → LowDigit x (suc t)
  low_even e {t} l = record {
    on = bit_half x t ∙ l.on;
    off = ap (λ y. bit_of y (suc t)) (left_even e) ∙ twice_high _ t ∙ l.off;
    others = others;
  }
    where
      others : (i : ℕ) → i ≢ suc t → bit_of (bit_and x (x - 1)) i ≡ bit_of x i
      others zero d = ap (λ y. bit_of y 0) (left_even e) ∙ twice_low _ ∙ sym (low_bit x ∙ ne_eqb (x % 2) 1 (λ q. omega arith))
      others (suc i) d = ap (λ y. bit_of y (suc i)) (left_even e) ∙ twice_high _ i ∙ l.others i (λ q. d (ap suc q)) ∙ sym (bit_half x i)

  low_odd : x % 2 ≡ 1 → LowDigit x 0
  low_odd e = record {
    on = low_bit x ∙ eq-eqb (x % 2) 1 e;
    off = ap (λ y. bit_of y 0) (left_odd e) ∙ twice_low _;
    others = others;
  }
    where
      others : (i : ℕ) → i ≢ 0 → bit_of (bit_and x (x - 1)) i ≡ bit_of x i
      others zero d = absurd (d refl)
      others (suc i) d = ap (λ y. bit_of y (suc i)) (left_odd e) ∙ twice_high _ i ∙ sym (bit_half x i)

-- as code finds it in a word of w digits, by the zeros below it
pub low_digit : (w x : ℕ) → 0 < x → x < 2 ^ w → LowDigit x (count_trailing_zeros w x)
unfolding count_trailing_zeros
low_digit zero x p h = absurd (omega arith)
low_digit (suc w) x p h = elim (ℕ_discrete (x % 2) 0) [
  | yes e ↦ rw e (low_even x p e (low_digit w (x / 2) (omega arith) (omega (arith, pow-suc 2 w))))
  | no d ↦ let e : x % 2 ≡ 1 = omega arith in rw e (low_odd x p e)
]
