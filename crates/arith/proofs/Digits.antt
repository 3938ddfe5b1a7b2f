-- The digits of a number: what the masks of the code compute, and the laws of `digit` and `with_digit`.
-- Assumes nothing.
use mathlib.Core.Path.{◌≡◌, sym, ap, ap₂, ◌∙◌, subst}
use mathlib.Core.Logic.{◌≢◌}
use Prim.Native.Nat.{ℕ, zero, suc, ◌+◌, ◌-◌, ◌*◌, ◌/◌, ◌%◌, ◌^◌, ◌<◌, min, suc-le-suc}
use native.Mathlib.Nat.{add-mul, div-add-mod', mod-lt, pow-suc, zero-lt-suc}
use native.Mathlib.Decide.{dec_lt}
use native.Mathlib.Numerals.{one-add}
use native.Mathlib.Omega.{arith}
use lib.Arith.{lt-one, digits_lt}
use lib.Bits.{bit_and, bit_or, and_high, and_step, or_add_and}
use lib.Dec.{lit<}
use lib.Pow.{pow_pos, pow-add, split, high, low, field, mod-mod-pow, shr-shr, shr_lt, shl-shr}
use Rattle.arith.specs.Digits.{digit, with_digit}

pub digit_two : (b k : ℕ) → digit b k < 2
unfolding digit
digit_two b k = mod-lt (b / 2 ^ k) (lit< tt)

-- ---- the masks

-- a byte against one digit
pub and_pow : (b k : ℕ) → bit_and b (2 ^ k) ≡ digit b k * 2 ^ k
unfolding digit
and_pow b k =
    let e : 2 ^ k ≡ 2 ^ (1 + k) - 2 ^ k = omega (arith, pow-add 2 1 k) in
    ap (bit_and b) e ∙ and_high b 1 k

-- the digits of a sum
sums : (x' y' p q : ℕ) {x y h l b : ℕ} → x ≡ x' * 2 + p → y ≡ y' * 2 + q → x' + y' ≡ h → p + q ≡ l → h * 2 + l ≡ b → x + y ≡ b
sums x' y' p q e f g i j = omega arith

mins : (x y : ℕ) → x < 2 → y < 2 → min x (1 - y) + min x y ≡ x
mins x y hx hy = omega arith

-- a number of w digits keeps what a mask and its complement keep
pub and_complement : (w b m : ℕ) → b < 2 ^ w → m < 2 ^ w → bit_and b (2 ^ w - 1 - m) + bit_and b m ≡ b
and_complement zero b m hb hm = rw (lt-one hb)
and_complement (suc w) b m hb hm =
    let n : ℕ = 2 ^ suc w - 1 - m in
    let h : n / 2 ≡ 2 ^ w - 1 - m / 2 = omega (arith, pow-suc 2 w) in
    let o : n % 2 ≡ 1 - m % 2 = omega (arith, pow-suc 2 w) in
    let s : bit_and b n ≡ bit_and (b / 2) (2 ^ w - 1 - m / 2) * 2 + min (b % 2) (1 - m % 2) =
    and_step b n ∙ ap₂ (λ (x y : ℕ). bit_and (b / 2) x * 2 + min (b % 2) y) h o in
    let ih = and_complement w (b / 2) (m / 2) (omega (arith, pow-suc 2 w)) (omega (arith, pow-suc 2 w)) in
    let l = mins (b % 2) (m % 2) (mod-lt b (lit< tt)) (mod-lt m (lit< tt)) in
    sums _ _ _ _ s (and_step b m) ih l (div-add-mod' b 2)

-- a digit replaced, as a sum
pub with_sum : (b k v : ℕ) → with_digit b k v + digit b k * 2 ^ k ≡ b + v * 2 ^ k
unfolding digit with_digit
with_sum b k v =
    let h : ℕ = b / 2 ^ k / 2 * 2 in
    let e = ap (λ (x : ℕ). x * 2 ^ k) (div-add-mod' (b / 2 ^ k) 2) in
    omega (arith, split b k, add-mul h v (2 ^ k), add-mul h (b / 2 ^ k % 2) (2 ^ k))

pub or_is : (b k : ℕ) → bit_or b (2 ^ k) ≡ with_digit b k 1
or_is b k = omega (arith, or_add_and b (2 ^ k), and_pow b k, with_sum b k 1)

pub and_not_is : (w b k : ℕ) → b < 2 ^ w → 2 ^ k < 2 ^ w → bit_and b (2 ^ w - 1 - 2 ^ k) ≡ with_digit b k 0
and_not_is w b k hb hk = omega (arith, and_complement w b (2 ^ k) hb hk, and_pow b k, with_sum b k 0)

-- `128 >> j`
pub mask_is : (j : ℕ) → j < 8 → 128 / 2 ^ j ≡ 2 ^ (7 - j)
mask_is j h =
    let e : 7 - j + j ≡ 7 = omega arith in
    ap (λ (x : ℕ). x / 2 ^ j) (sym (ap (λ (x : ℕ). 2 ^ x) e) ∙ pow-add 2 (7 - j) j) ∙ shl-shr (2 ^ (7 - j)) j

-- ---- a digit after one was replaced

-- a digit is one of the low part, or one of the high part
digit_low : (n m k : ℕ) → m < k → digit n m ≡ n % 2 ^ k % 2 ^ (1 + m) / 2 ^ m
unfolding digit
digit_low n m k h =
    let j : ℕ = k - (1 + m) in
    let e : j + (1 + m) ≡ k = omega arith in
    sym (field n 1 m) ∙ ap (λ (x : ℕ). x / 2 ^ m) (sym (mod-mod-pow n j (1 + m)) ∙ ap (λ (x : ℕ). n % 2 ^ x % 2 ^ (1 + m)) e)

digit_high : (n m k : ℕ) → k < m → digit n m ≡ n / 2 ^ k / 2 / 2 ^ (m - (k + 1)) % 2
unfolding digit
digit_high n m k h =
    let j : ℕ = m - (k + 1) in
    let e : k + 1 + j ≡ m = omega arith in
    ap (λ (x : ℕ). x % 2) (sym (ap (λ (x : ℕ). x / 2 ^ j) (shr-shr n k 1) ∙ shr-shr n (k + 1) j ∙ ap (λ (x : ℕ). n / 2 ^ x) e))

module _ (b k v : ℕ) (hv : v < 2) where
  pub with_same : digit (with_digit b k v) k ≡ v
  unfolding digit with_digit
  with_same = rw (high (b / 2 ^ k / 2 * 2 + v) k (mod-lt b (pow_pos k))) (omega arith)

  with_low : with_digit b k v % 2 ^ k ≡ b % 2 ^ k
  unfolding with_digit
  with_low = low (b / 2 ^ k / 2 * 2 + v) k (mod-lt b (pow_pos k))

  with_high : with_digit b k v / 2 ^ k / 2 ≡ b / 2 ^ k / 2
  unfolding with_digit
  with_high = rw (high (b / 2 ^ k / 2 * 2 + v) k (mod-lt b (pow_pos k))) (omega arith)

  pub with_other : (m : ℕ) → m ≢ k → digit (with_digit b k v) m ≡ digit b m
  with_other m n = elim (dec_lt m k) [
    | yes h ↦ digit_low (with_digit b k v) m k h ∙ ap (λ (x : ℕ). x % 2 ^ (1 + m) / 2 ^ m) with_low ∙ sym (digit_low b m k h)
    | no h ↦ let g : k < m = omega arith in
        digit_high (with_digit b k v) m k g ∙ ap (λ (x : ℕ). x / 2 ^ (m - (k + 1)) % 2) with_high ∙ sym (digit_high b m k g)
  ]

  pub with_lt : (w : ℕ) → k < w → b < 2 ^ w → with_digit b k v < 2 ^ w
  unfolding with_digit
  with_lt w hk hb =
      let j : ℕ = w - suc k in
      let e : suc j + k ≡ w = omega arith in
      let hd : b / 2 ^ k < 2 ^ suc j = shr_lt (suc j) k (subst (λ (x : ℕ). b < 2 ^ x) (sym e) hb) in
      let hq : b / 2 ^ k / 2 * 2 + v < 2 ^ suc j = omega (arith, pow-suc 2 j) in
      subst (λ (x : ℕ). with_digit b k v < x) (sym (pow-add 2 (suc j) k) ∙ ap (λ (x : ℕ). 2 ^ x) e)
      (digits_lt hq (mod-lt b (pow_pos k)))

-- ---- a number is known by its digits

digit_half : (b k : ℕ) → digit (b / 2) k ≡ digit b (suc k)
unfolding digit
digit_half b k = ap (λ (x : ℕ). x % 2) (shr-shr b 1 k ∙ ap (λ (x : ℕ). b / 2 ^ x) (one-add k))

pub digits_eq : (w b c : ℕ) → b < 2 ^ w → c < 2 ^ w → ((k : ℕ) → k < w → digit b k ≡ digit c k) → b ≡ c
unfolding digit
digits_eq zero b c hb hc f = lt-one hb ∙ sym (lt-one hc)
digits_eq (suc w) b c hb hc f =
    let p = pow-suc 2 w in
    let ih = digits_eq w (b / 2) (c / 2) (omega arith) (omega arith) (λ k h. digit_half b k ∙ f (suc k) (suc-le-suc h) ∙ sym (digit_half c k)) in
    omega (arith, f 0 (zero-lt-suc w))
