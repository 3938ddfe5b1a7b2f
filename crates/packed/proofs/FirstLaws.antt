-- The first number that passes a test, and the first bit that is set: in a word by the count of its leading zeros, in packed bytes by a walk over words.
-- Assumes nothing.
use mathlib.Core.Bool.{Bool, false, true, true≢false}
use mathlib.Core.List.{List}
use mathlib.Core.Logic.{inl, inr}
use mathlib.Core.Path.{ap, ap₂, refl, subst, sym, ◌∙◌, ◌≡◌}
use Prim.Native.Nat.{◌%◌, ◌*◌, ◌+◌, ◌-◌, ◌/◌, ◌<◌, ◌^◌, suc, zero, zero-le, ℕ, ◌≤◌}
use native.Mathlib.Decide.{dec_lt}
use native.Mathlib.Nat.{le_refl, lt_of_lt_of_le, mod-eq_of_lt, mod-lt, mul-add-mod_self_right, one-mul, pow-suc, zero-lt-suc}
use native.Mathlib.Omega.{arith}
use borrow.Author.Tests.{eq-eqb, eqb-true, ne_eqb, not-false}
use lib.Bits.{and_mask, bit_and, bit_xor, xor_shr, xor_step}
use lib.Bits as Lib
use lib.Count.{leading_le, leading_of_zero, leading_top, count_leading_zeros}
use lib.Dec.{eqb}
use lib.Pow.{high, low, ones_lt, ones_split, pow_mono, pow_pos}
use Rattle.arith.proofs.Least.{least_from_hit, least_from_miss}
use Rattle.arith.proofs.Tests.{test}
use Rattle.arith.proofs.Words.{bit_mod, past_top}
use Rattle.arith.specs.Digits.{bit_of, digit}
use Rattle.arith.specs.Lists.{least_from}
use Rattle.packed.proofs.RunLaws.{run_at, run_bit, run_cat, run_lt, shifted_one}
use Rattle.std.proofs.Common.{Option, Some, None}
use Rattle.packed.specs.Bits.{bit_at, differ, run_of, word_of}
use Rattle.packed.specs.Inside.Search.{FirstFrom, FirstIn, other_word, WordHas}

-- ---- `FirstFrom` fixes one number

module _ (passes : ℕ → Bool) where
  least_from_lem : (m from r : ℕ) → FirstFrom passes from (from + m) r → r ≡ least_from passes from m
  least_from_lem zero from r f = omega (arith, f.start, f.stop)
  least_from_lem (suc m) from r f = elim (test (passes from)) [
    | inl t ↦ elim (dec_lt from r) [
      | yes l ↦ absurd (true≢false (sym t ∙ f.none from (le_refl from) l))
      | no l ↦ omega (arith, f.start, least_from_hit passes from m t)
    ]
    | inr t ↦ elim (dec_lt from r) [
      | yes l ↦ least_from_lem m (suc from) r
          (record { start = l; stop = omega (arith, f.stop); none = λ i a b. f.none i (omega arith) b; some = λ b. f.some (omega arith) })
          ∙ sym (least_from_miss passes from m t)
      | no l ↦ let e : r ≡ from = omega (arith, f.start) in absurd (true≢false (sym (f.some (omega arith)) ∙ ap passes e ∙ t))
    ]
  ]

  -- the least from `from` on that passes, and `to` where none does
  pub first_least : {from to r : ℕ} → FirstFrom passes from to r → r ≡ least_from passes from (to - from)
  first_least {from} {to} {r} f =
      let e : from + (to - from) ≡ to = omega (arith, f.start, f.stop) in
      least_from_lem (to - from) from r (subst (λ t. FirstFrom passes from t r) (sym e) f)

  -- and that least is the first
  pub least_first : (from m : ℕ) → FirstFrom passes from (from + m) (least_from passes from m)
  least_first from zero = record {
    start = le_refl from;
    stop = omega arith;
    none = λ i a b. absurd (omega arith);
    some = λ l. absurd (omega arith);
  }
  least_first from (suc m) = elim (test (passes from)) [
    | inl t ↦ rw (least_from_hit passes from m t)
        (record { start = le_refl from; stop = omega arith; none = λ i a b. absurd (omega arith); some = λ _. t })
    | inr t ↦
        let f = least_first (suc from) m in
        rw (least_from_miss passes from m t) (record {
          start = omega (arith, f.start);
          stop = omega (arith, f.stop);
          none = λ i a b. elim (dec_lt from i) [
            | yes l ↦ f.none i l b
            | no l ↦ let e : i ≡ from = omega arith in ap passes e ∙ t
          ];
          some = λ l. f.some (omega arith);
        })
  ]

  pub first_unique : {from to r r' : ℕ} → FirstFrom passes from to r → FirstFrom passes from to r' → r ≡ r'
  first_unique f g = first_least f ∙ sym (first_least g)

  -- and `FirstIn` one answer
  pub first_in_unique : (from to : ℕ) {o o' : Option ℕ} → FirstIn passes from to o → FirstIn passes from to o' → o ≡ o'
  first_in_unique from to {o = Some r} {o' = Some r'} f g = ap Some (first_unique f.0 g.0)
  first_in_unique from to {o = Some r} {o' = None} f g = absurd (omega (arith, first_unique f.0 g, f.1))
  first_in_unique from to {o = None} {o' = Some r'} f g = absurd (omega (arith, first_unique f g.0, g.1))
  first_in_unique from to {o = None} {o' = None} f g = refl

-- ---- in a word

-- a number's top digit is set
at_top : (x k : ℕ) → 2 ^ k ≤ x → x < 2 ^ suc k → bit_of x k ≡ true
unfolding bit_of digit
at_top x k lo hi =
    let split : x ≡ 1 * 2 ^ k + (x - 2 ^ k) = omega (arith, one-mul (2 ^ k)) in
    let rest : x - 2 ^ k < 2 ^ k = omega (arith, pow-suc 2 k, pow_pos k) in
    ap (λ (y : ℕ). eqb (y % 2) 1) (ap (λ (y : ℕ). y / 2 ^ k) split ∙ high 1 k rest)

leading_first : (x : ℕ) → x < 2 ^ 64 → FirstFrom (λ j. bit_of x (63 - j)) 0 64 (count_leading_zeros 64 x)
leading_first zero h = record {
  start = zero-le;
  stop = leading_le 64 0;
  none = λ i _ _. past_top 0 0 (63 - i) (zero-lt-suc zero) zero-le;
  some = λ l. absurd (omega (arith, leading_of_zero 64));
}
leading_first (suc n) h =
    let top = leading_top 64 (suc n) (zero-lt-suc n) h in
    let k : ℕ = top.0 in
    let e : 63 - count_leading_zeros 64 (suc n) ≡ k = omega (arith, top.1) in
    record {
      start = zero-le;
      stop = leading_le 64 (suc n);
      none = λ i _ l. past_top (suc n) (suc k) (63 - i) top.3 (omega (arith, top.1));
      some = λ _. ap (bit_of (suc n)) e ∙ at_top (suc n) k top.2 top.3;
    }

-- ---- in a run

-- a is the first from q on that passes, of those before `end`; `rest` come after it, and theirs is what is left of the run without its top digit
pub record Top (f : ℕ → Bool) (q end run a rest : ℕ) : Type 0 where
  pub first : FirstFrom f q end a
  pub places : a + 1 + rest ≡ end
  pub after : run ≡ 2 ^ rest + word_of f (a + 1) rest

-- as code finds it, by the leading zeros
module _ (f : ℕ → Bool) (q end run : ℕ) (h : q ≤ end) (l : end ≤ q + 64) (e : run ≡ word_of f q (end - q)) (pos : 0 < run) where
  small : run < 2 ^ (end - q)
  small = rw e (run_lt f q (end - q))

  top : (j : ℕ) × (count_leading_zeros 64 run + suc j ≡ 64) × (2 ^ j ≤ run) × (run < 2 ^ suc j)
  top = leading_top 64 run pos (lt_of_lt_of_le small (pow_mono {j = 64} (omega arith)))

  within : top.0 < end - q
  within = elim (dec_lt top.0 (end - q)) [ yes b ↦ b | no g ↦ absurd (omega (arith, pow_mono {i = end - q} {j = top.0} (omega arith), small, top.2)) ]

  bit_is : (p : ℕ) → q ≤ p → p < end → f p ≡ bit_of run (end - 1 - p)
  bit_is p a b = sym (run_at f q end p e a b)

  pub top_of : (count_leading_zeros 64 run ≤ 63) × Top f q end run (end - 1 - (63 - count_leading_zeros 64 run)) (63 - count_leading_zeros 64 run)
  top_of =
      let rest : ℕ = 63 - count_leading_zeros 64 run in
      let a : ℕ = end - 1 - rest in
      let same : rest ≡ top.0 = omega (arith, top.1) in
      let lo : 2 ^ rest ≤ run = omega (arith, ap (λ m. 2 ^ m) same, top.2) in
      let hi : run < 2 ^ suc rest = omega (arith, ap (λ m. 2 ^ suc m) same, top.3) in
      let in-run : rest < end - q = omega (arith, within) in
      let all : end - q ≡ a + 1 - q + rest = omega arith in
      let next : q + (a + 1 - q) ≡ a + 1 = omega arith in
      let tail : run % 2 ^ rest ≡ word_of f (a + 1) rest =
      ap (λ x. x % 2 ^ rest) (e ∙ ap (word_of f q) all ∙ run_cat f q (a + 1 - q) rest) ∙ low (word_of f q (a + 1 - q)) rest (run_lt f (q + (a + 1 - q)) rest)
      ∙ ap (λ i. word_of f i rest) next in
      let split : run ≡ 1 * 2 ^ rest + (run - 2 ^ rest) = omega (arith, one-mul (2 ^ rest)) in
      let left : run % 2 ^ rest ≡ run - 2 ^ rest = ap (λ x. x % 2 ^ rest) split ∙ low 1 rest (omega (arith, pow-suc 2 rest, pow_pos rest)) in (
        omega (arith, top.1),
        record {
          first = record {
            start = omega arith;
            stop = omega arith;
            none = λ p b c. bit_is p b (omega arith) ∙ past_top run (suc rest) (end - 1 - p) hi (omega arith);
            some = λ b. bit_is a (omega arith) (omega arith) ∙ ap (bit_of run) {y = rest} (omega arith) ∙ at_top run rest lo hi;
          };
          places = omega arith;
          after = omega (arith, tail, left);
        },
      )

-- what code leaves of the run
pub top_rest : {f : ℕ → Bool} {q end run a rest : ℕ} → Top f q end run a rest → rest < 64
    → (2 ^ rest ≡ 1 * 2 ^ rest % 2 ^ 64) × (run - 1 * 2 ^ rest % 2 ^ 64 ≡ word_of f (a + 1) (end - (a + 1)))
top_rest {f} {end = end} {a = a} {rest = rest} t h =
    let e = shifted_one rest h in
    (sym e, omega (arith, e, t.after, ap (word_of f (a + 1)) {x = rest} {y = end - (a + 1)} (omega (arith, t.places))))

-- the ones of a word, `>> from`
ones_is : (from : ℕ) → from < 64 → 18446744073709551615 / 2 ^ from ≡ 2 ^ (64 - from) - 1
ones_is from h =
    let e : 64 - from + from ≡ 64 = omega arith in
    ap (λ (y : ℕ). y / 2 ^ from) (ap (λ (m : ℕ). 2 ^ m - 1) (sym e) ∙ ones_split (64 - from) from) ∙ high (2 ^ (64 - from) - 1) from (ones_lt from)

-- the first of the lowest digits
masked : (word from r : ℕ) → from < 64 → FirstFrom (λ j. bit_of (word % 2 ^ (64 - from)) (63 - j)) 0 64 r → FirstFrom (λ j. bit_of word (63 - j)) from 64 r
masked word from r h f =
    let s : ℕ = 64 - from in
    let start : from ≤ r = elim (dec_lt r from) [
      | yes l ↦ absurd (true≢false (sym (f.some (omega arith)) ∙ past_top (word % 2 ^ s) s (63 - r) (mod-lt word (pow_pos s)) (omega arith)))
      | no l ↦ omega arith
    ] in
    record {
      start = start;
      stop = f.stop;
      none = λ i a b. sym (bit_mod s word (63 - i) (omega (arith, f.stop))) ∙ f.none i zero-le b;
      some = λ l. sym (bit_mod s word (63 - r) (omega (arith, start))) ∙ f.some l;
    }

-- `leading_zeros(word & (ones >> from))`
pub first_one_is : (word from : ℕ) → from < 64
    → FirstFrom (λ j. bit_of word (63 - j)) from 64 (count_leading_zeros 64 (bit_and word (18446744073709551615 / 2 ^ from)))
first_one_is word from h =
    let s : ℕ = 64 - from in
    let few : word % 2 ^ s < 2 ^ 64 = lt_of_lt_of_le (mod-lt word (pow_pos s)) (pow_mono {j = 64} (omega arith)) in
    rw (ones_is from h, and_mask word s) (masked word from (count_leading_zeros 64 (word % 2 ^ s)) h (leading_first (word % 2 ^ s) few))

-- ---- the bits of an exclusive or

xor_low : (a b : ℕ) → bit_xor a b % 2 ≡ Lib.differ (a % 2) (b % 2)
xor_low a b =
    ap (λ (x : ℕ). x % 2) (xor_step a b) ∙ mul-add-mod_self_right (bit_xor (a / 2) (b / 2)) 2 (Lib.differ (a % 2) (b % 2))
    ∙ low (a % 2) (b % 2) (omega arith) (omega arith)
  where
    low : (x y : ℕ) → x < 2 → y < 2 → Lib.differ x y % 2 ≡ Lib.differ x y
    low zero y hx hy = mod-eq_of_lt hy
    low (suc zero) zero hx hy = refl
    low (suc zero) (suc zero) hx hy = refl
    low (suc zero) (suc (suc y)) hx hy = absurd (omega arith)
    low (suc (suc x)) y hx hy = absurd (omega arith)

either : (x y : ℕ) → x < 2 → y < 2 → eqb (Lib.differ x y) 1 ≡ differ (eqb x 1) (eqb y 1)
either zero y hx hy = refl
either (suc zero) zero hx hy = refl
either (suc zero) (suc zero) hx hy = refl
either (suc zero) (suc (suc y)) hx hy = absurd (omega arith)
either (suc (suc x)) y hx hy = absurd (omega arith)

pub bit-xor : (a b k : ℕ) → bit_of (bit_xor a b) k ≡ differ (bit_of a k) (bit_of b k)
unfolding bit_of digit
bit-xor a b k =
    ap (λ (x : ℕ). eqb x 1) (ap (λ (x : ℕ). x % 2) (xor_shr a b k) ∙ xor_low (a / 2 ^ k) (b / 2 ^ k))
    ∙ either (a / 2 ^ k % 2) (b / 2 ^ k % 2) (omega arith) (omega arith)

-- ---- in packed bytes

pub word_has_bits : (xs : List ℕ) (k : ℕ) {w : ℕ} → w ≡ run_of xs (8 * k) 64 → WordHas (bit_at xs) k w
word_has_bits xs k e j h = sym (ap (λ x. bit_of x (63 - j)) e ∙ run_bit (bit_at xs) (8 * k) 64 j h)

pub word_has_differing : (xs ys : List ℕ) (k : ℕ) {u v : ℕ} → u ≡ run_of xs (8 * k) 64 → v ≡ run_of ys (8 * k) 64
    → WordHas (λ i. differ (bit_at xs i) (bit_at ys i)) k (bit_xor u v)
word_has_differing xs ys k {u} {v} e f j h = ap₂ differ (word_has_bits xs k e j h) (word_has_bits ys k f j h) ∙ sym (bit-xor u v (63 - j))

-- a walk from `from` to `to` has come to i, and none before i passes the test
pub record Passed (test : ℕ → Bool) (from to i : ℕ) : Type 0 where
  pub start : from ≤ i
  pub stop : i ≤ to
  pub none : (k : ℕ) → from ≤ k → k < i → test k ≡ false

pub passed_none : (test : ℕ → Bool) (from to : ℕ) → from ≤ to → Passed test from to from
passed_none test from to h = record { start = le_refl from; stop = h; none = λ k a b. absurd (omega arith) }

pub passed_all : {test : ℕ → Bool} {from to i : ℕ} → Passed test from to i → to ≤ i → FirstFrom test from to to
passed_all {from = from} {to} {i} p h = record {
  start = omega (arith, p.start, p.stop);
  stop = le_refl to;
  none = λ k a b. p.none k a (omega arith);
  some = λ l. absurd (omega arith);
}

pub passed_found : {test : ℕ → Bool} {from to i : ℕ} → Passed test from to i → i < to → test i ≡ true → FirstFrom test from to i
passed_found p l e = record { start = p.start; stop = p.stop; none = p.none; some = λ _. e }

-- none of the next ones passes the test either
pub passed_over : {test : ℕ → Bool} {from to i : ℕ} (j : ℕ) → Passed test from to i → i ≤ j → j ≤ to → ((k : ℕ) → i ≤ k → k < j → test k ≡ false)
    → Passed test from to j
passed_over {i = i} j p h l none = record {
  start = omega (arith, p.start);
  stop = l;
  none = λ k a b. elim (dec_lt k i) [ yes m ↦ p.none k a m | no m ↦ none k (omega arith) b ];
}

pub passed_next : {test : ℕ → Bool} {from to i : ℕ} → Passed test from to i → i < to → test i ≡ false → Passed test from to (i + 1)
passed_next {i = i} p l e = passed_over (i + 1) p (omega arith) (omega arith) (λ k a b. let q : k ≡ i = omega arith in rw q e)

-- a word of two buffers, from their own
module _ (x y : List ℕ) (from m : ℕ) {u v : ℕ} (e : u ≡ run_of x (8 * (from + 8 * m)) 64) (f : v ≡ run_of y (8 * (from + 8 * m)) 64) where
  pub word_is_other : (u ≡ v → ⊥) → other_word x y from m ≡ true
  unfolding other_word
  word_is_other d = rw (← e, ← f, ne_eqb u v d) refl

  pub word_is_same : u ≡ v → other_word x y from m ≡ false
  unfolding other_word
  word_is_same q = rw (← e, ← f, eq-eqb u v q) refl

-- words that are the same have the same bits
pub same_bits : (x y : List ℕ) (from : ℕ) {count r : ℕ} → FirstFrom (other_word x y from) 0 count r
    → (i : ℕ) → 8 * from ≤ i → i < 8 * (from + 8 * r) → bit_at x i ≡ bit_at y i
unfolding other_word
same_bits x y from {r = r} f i h l =
    let m : ℕ = (i - 8 * from) / 64 in
    let j : ℕ = (i - 8 * from) % 64 in
    let k : ℕ = from + 8 * m in
    let at : i ≡ 8 * k + j = omega arith in
    let same = eqb-true (run_of x (8 * k) 64) (run_of y (8 * k) 64) (not-false _ (f.none m zero-le (omega arith))) in
    let in_word_lem : j < 64 = omega arith in
    ap (bit_at x) at ∙ word_has_bits x k refl j in_word_lem ∙ sym (ap (bit_at y) at ∙ word_has_bits y k same j in_word_lem)

pub differ_same : {a b : Bool} → a ≡ b → differ a b ≡ false
differ_same {a} {b} e = rw e (self b)
  where
    self : (b : Bool) → differ b b ≡ false
    self true = refl
    self false = refl

-- the walk's turn, by what was found in the word from i's byte on
module _ (word : ℕ) {test : ℕ → Bool} {from to i found : ℕ} (p : Passed test from to i) (holds : WordHas test (i / 8) word)
    (f : FirstFrom (λ j. bit_of word (63 - j)) (i % 8) 64 found) where
  clear : (k : ℕ) → from ≤ k → k < i + (found - i % 8) → test k ≡ false
  clear k a b = elim (dec_lt k i) [
    | yes l ↦ p.none k a l
    | no g ↦
        let j : ℕ = k - 8 * (i / 8) in
        let e : k ≡ 8 * (i / 8) + j = omega arith in
        ap test e ∙ holds j (omega (arith, f.stop)) ∙ f.none j (omega arith) (omega (arith, f.start))
  ]

  pub turn_ends : to - i ≤ found - i % 8 → FirstFrom test from to to
  turn_ends h = record {
    start = omega (arith, p.start, p.stop);
    stop = le_refl to;
    none = λ k a b. clear k a (omega (arith, p.stop));
    some = λ l. absurd (omega arith);
  }

  pub turn_finds : found - i % 8 < to - i → found < 64 → FirstFrom test from to (i + (found - i % 8))
  turn_finds h l =
      let e : i + (found - i % 8) ≡ 8 * (i / 8) + found = omega (arith, f.start) in
      record {
        start = omega (arith, p.start);
        stop = omega arith;
        none = clear;
        some = λ _. ap test e ∙ holds found l ∙ f.some l;
      }

  pub turn_goes : found - i % 8 < to - i → 64 ≤ found → Passed test from to (i + (64 - i % 8))
  turn_goes h l = record { start = omega (arith, p.start); stop = omega (arith, f.stop); none = λ k a b. clear k a (omega arith) }
