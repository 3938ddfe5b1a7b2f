-- Lists of numbers that go up, the range among them: how often a number stands there, and what a concatenation over them is. Assumes nothing.
use mathlib.Core.Bool.{Bool, cond, false, true, true≢false}
use mathlib.Core.List.Memᴰ
use mathlib.Core.List.{◌++◌, [], append-nil, List, Memᴰ, ◌∷◌}
use mathlib.Core.Logic.{inl, inr, ◌≢◌}
use mathlib.Core.Path.{ap, ap₂, refl, sym, ◌∙◌, ◌≡◌}
use Prim.Native.Nat.{◌+◌, ◌-◌, ◌<◌, suc, zero, ℕ, ◌≤◌}
use native.Mathlib.Decide.{dec_lt, ℕ_discrete}
use native.Mathlib.Nat.{add-suc, add-zero, eq-or-lt_of_le, le_refl, ne_of_lt, suc-add, suc_inj, suc-ne-zero, zero-add}
use native.Mathlib.Omega.{arith}
use borrow.Author.Tests.{eq-eqb, eqb-false, eqb-true, ne_eqb}
use lib.Dec.{eqb}
use lib.ListN.{get_or, length, length-append}
use Rattle.arith.proofs.Filter.{filter-append, filter_none}
use Rattle.arith.proofs.Tests.{eqb_same, test}
use Rattle.arith.specs.Lists.{concat_map, cons_if, count, Distinct, filter, range}
use Rattle.arith.specs.Sums.{count_to, sum_to, tabulate}

abbrev pub Up : ℕ → List ℕ → Type 0
Up k [] = Unit {0}
Up k (x ∷ xs) = (k ≤ x) × Up (suc x) xs

pub up_range : (k n : ℕ) → Up k (range k n)
up_range k zero = tt
up_range k (suc n) = (le_refl k, up_range (suc k) n)

up_lower : {j k : ℕ} (xs : List ℕ) → j ≤ k → Up k xs → Up j xs
up_lower [] h u = tt
up_lower (x ∷ xs) h u = (omega (arith, u.0), u.1)

pub up_filter : (f : ℕ → Bool) (k : ℕ) (xs : List ℕ) → Up k xs → Up k (filter f xs)
up_filter f k [] u = tt
up_filter f k (x ∷ xs) u =
    let rest = up_filter f (suc x) xs u.1 in
    elim (test (f x)) [ inl e ↦ rw e (u.0, rest) | inr e ↦ rw e (up_lower (filter f xs) (omega (arith, u.0)) rest) ]

pub mem_up : {v k : ℕ} (xs : List ℕ) → Up k xs → Memᴰ v xs → k ≤ v
mem_up [] u m = absurd (Memᴰ.not-nil m)
mem_up (x ∷ xs) u m =
    elim (Memᴰ.cases_cons m) [ inl e ↦ omega (arith, u.0) | inr d ↦ omega (arith, u.0, mem_up xs u.1 d) ]

pub up_distinct : (k : ℕ) (xs : List ℕ) → Up k xs → Distinct xs
up_distinct k [] u = tt
up_distinct k (x ∷ xs) u = (λ m. omega (arith, mem_up xs u.1 m), up_distinct (suc x) xs u.1)

-- what is in reach of `range`
pub mem_range : {q : ℕ} (k n : ℕ) → Memᴰ q (range k n) → (k ≤ q) × (q < k + n)
mem_range k zero m = absurd (Memᴰ.not-nil m)
mem_range {q} k (suc n) m =
    elim (Memᴰ.cases_cons m) [
      | inl e ↦ omega arith
      | inr d ↦ let r : (suc k ≤ q) × (q < suc k + n) = mem_range (suc k) n d in omega arith
    ]

pub range_mem : {q : ℕ} (k n : ℕ) → k ≤ q → q < k + n → Memᴰ q (range k n)
range_mem k zero h l = absurd (let z : ⊥ = omega arith in z)
range_mem k (suc n) h l =
    elim (eq-or-lt_of_le h) [ inl e ↦ Memᴰ.head (sym e) | inr j ↦ Memᴰ.tail (range_mem (suc k) n j (omega arith)) ]

-- kept posts, over all posts
pub range_last : (k n : ℕ) → range k (suc n) ≡ range k n ++ (k + n) ∷ []
range_last k zero = ap (λ i. i ∷ []) (sym (add-zero k))
range_last k (suc n) = ap (λ l. k ∷ l) (range_last (suc k) n ∙ ap (λ i. range (suc k) n ++ i ∷ []) (suc-add k n ∙ sym (add-suc k n)))

pub range-append : (k m n : ℕ) → range k m ++ range (k + m) n ≡ range k (m + n)
range-append k zero n = rw (add-zero, zero-add)
range-append k (suc m) n = rw (add-suc k m, ← suc-add k m, suc-add m n) (ap (λ l. k ∷ l) (range-append (suc k) m n))

pub tabulate_range : (n : ℕ) → tabulate (λ i. i) n ≡ range 0 n
unfolding tabulate
tabulate_range zero = refl
tabulate_range (suc n) = ap (λ l. l ++ n ∷ []) (tabulate_range n) ∙ sym (range_last 0 n ∙ ap (λ i. range 0 n ++ i ∷ []) (zero-add n))

pub filter_last : (q : ℕ → Bool) (n : ℕ) → filter q (range 0 (suc n)) ≡ filter q (range 0 n) ++ cons_if (q n) n []
filter_last q n = ap (filter q) (range_last 0 n ∙ ap (λ i. range 0 n ++ i ∷ []) (zero-add n)) ∙ filter-append q (range 0 n) (n ∷ [])

-- a search that stood at q finds none before a
pub filter_skip : (f : ℕ → Bool) (i q a : ℕ) → i ≤ q → q ≤ a → ((p : ℕ) → q ≤ p → p < a → f p ≡ false) → filter f (range i (a - i)) ≡ filter f (range i (q - i))
filter_skip f i q a h l none =
    let all : a - i ≡ q - i + (a - q) = omega arith in
    let at : i + (q - i) ≡ q = omega arith in
    let rest : filter f (range (i + (q - i)) (a - q)) ≡ [] =
    filter_none f (range (i + (q - i)) (a - q)) (λ p m. let b = mem_range (i + (q - i)) (a - q) m in none p (omega (arith, b)) (omega (arith, b))) in
    ap (λ m. filter f (range i m)) all ∙ ap (filter f) (sym (range-append i (q - i) (a - q))) ∙ filter-append f (range i (q - i)) (range (i + (q - i)) (a - q))
    ∙ ap (λ l. filter f (range i (q - i)) ++ l) rest ∙ append-nil (filter f (range i (q - i)))

-- and finds a
pub filter_hit : (f : ℕ → Bool) (i q a : ℕ) → i ≤ q → q ≤ a → ((p : ℕ) → q ≤ p → p < a → f p ≡ false) → f a ≡ true
    → filter f (range i (a + 1 - i)) ≡ filter f (range i (q - i)) ++ a ∷ []
filter_hit f i q a h l none some =
    let all : a + 1 - i ≡ suc (a - i) = omega arith in
    let at : i + (a - i) ≡ a = omega arith in
    ap (λ m. filter f (range i m)) all ∙ ap (filter f) (range_last i (a - i) ∙ ap (λ x. range i (a - i) ++ x ∷ []) at)
    ∙ filter-append f (range i (a - i)) (a ∷ [])
    ∙ ap₂ (λ l t. l ++ cons_if t a []) (filter_skip f i q a h l none) some

abbrev pub times : ℕ → List ℕ → ℕ
times v h = count (λ x. eqb x v) h

pub times_below : (v k : ℕ) (xs : List ℕ) → Up k xs → v < k → times v xs ≡ 0
times_below v k [] u h = refl
times_below v k (x ∷ xs) u h = rw (ne_eqb x v (omega (arith, u.0))) (times_below v (suc x) xs u.1 (omega (arith, u.0)))

pub times_up : {v : ℕ} (k : ℕ) (xs : List ℕ) → Up k xs → Memᴰ v xs → times v xs ≡ 1
times_up k [] u m = absurd (Memᴰ.not-nil m)
times_up {v} k (x ∷ xs) u m =
    elim (Memᴰ.cases_cons m) [
      | inl e ↦ rw (← e, eqb_same v, times_below v (suc x) xs u.1 (omega (arith, u.0))) refl
      | inr d ↦ rw (ne_eqb x v (omega (arith, mem_up xs u.1 d))) (times_up (suc x) xs u.1 d)
    ]

pub times_kept : (f : ℕ → Bool) (v : ℕ) (xs : List ℕ) → f v ≡ true → times v (filter f xs) ≡ times v xs
times_kept f v [] e = refl
times_kept f v (x ∷ xs) e =
    elim (test (f x)) [
      | inl d ↦ rw d (elim (test (eqb x v)) [ inl q ↦ rw q (ap suc (times_kept f v xs e)) | inr q ↦ rw q (times_kept f v xs e) ])
      | inr d ↦ rw (d, ne_eqb x v (λ p. true≢false (sym e ∙ ap f (sym p) ∙ d))) (times_kept f v xs e)
    ]

pub times_left : (f : ℕ → Bool) (v : ℕ) (xs : List ℕ) → f v ≡ false → times v (filter f xs) ≡ 0
times_left f v [] e = refl
times_left f v (x ∷ xs) e =
    elim (test (f x)) [
      | inl d ↦ rw (d, ne_eqb x v (λ p. true≢false (sym d ∙ ap f p ∙ e))) (times_left f v xs e)
      | inr d ↦ rw d (times_left f v xs e)
    ]

module _ {B : Type 0} (F : ℕ → List B) (v : ℕ) (z : (x : ℕ) → x ≢ v → F x ≡ []) (q : ℕ → Bool) where
  pub concat_none : (h : List ℕ) → times v h ≡ 0 → concat_map F (filter q h) ≡ []
  concat_none [] o = refl
  concat_none (x ∷ xs) o =
      elim (test (eqb x v)) [
        | inl e ↦ absurd (suc-ne-zero _ (rw e at o))
        | inr e ↦ let ih : concat_map F (filter q xs) ≡ [] = concat_none xs (rw e at o) in
            elim (test (q x)) [ inl d ↦ rw (d, z x (eqb-false x v e)) ih | inr d ↦ rw d ih ]
      ]

  pub concat_once : (h : List ℕ) → times v h ≡ 1 → concat_map F (filter q h) ≡ cond (q v) (F v) []
  concat_once [] o = absurd (suc-ne-zero 0 (sym o))
  concat_once (x ∷ xs) o =
      elim (test (eqb x v)) [
        | inl e ↦ let ih : concat_map F (filter q xs) ≡ [] = concat_none xs (suc_inj (rw e at o)) in
            rw (eqb-true x v e) (elim (test (q v)) [ inl d ↦ rw (d, ih) (append-nil (F v)) | inr d ↦ rw d ih ])
        | inr e ↦ let ih : concat_map F (filter q xs) ≡ cond (q v) (F v) [] = concat_once xs (rw e at o) in
            elim (test (q x)) [ inl d ↦ rw (d, z x (eqb-false x v e)) ih | inr d ↦ rw d ih ]
      ]

-- ---- by places

pub length_range : (k n : ℕ) → length (range k n) ≡ n
length_range k zero = refl
length_range k (suc n) = ap suc (length_range (suc k) n)

pub mem_place : (xs : List ℕ) (i : ℕ) → i < length xs → Memᴰ (get_or xs i 0) xs
mem_place [] i h = absurd (omega arith)
mem_place (x ∷ xs) zero h = Memᴰ.head refl
mem_place (x ∷ xs) (suc i) h = Memᴰ.tail (mem_place xs i (omega arith))

-- where an element stands
pub record PlaceOf (xs : List ℕ) (p : ℕ) : Type 0 where
  pub at : ℕ
  pub inside : at < length xs
  pub same : get_or xs at 0 ≡ p

pub place_of : {p : ℕ} (xs : List ℕ) → Memᴰ p xs → PlaceOf xs p
place_of [] m = absurd (Memᴰ.not-nil m)
place_of {p} (x ∷ xs) m = elim (Memᴰ.cases_cons m) [
  | inl e ↦ record { at = 0; inside = omega arith; same = sym e }
  | inr d ↦ let r : PlaceOf xs p = place_of xs d in record { at = suc r.at; inside = omega (arith, r.inside); same = r.same }
]

pub up_places : (k : ℕ) (xs : List ℕ) → Up k xs → (i j : ℕ) → i < j → j < length xs → get_or xs i 0 < get_or xs j 0
up_places k [] u i j l h = absurd (omega arith)
up_places k (x ∷ xs) u i zero l h = absurd (omega arith)
up_places k (x ∷ xs) u zero (suc j) l h = mem_up xs u.1 (mem_place xs j (omega arith))
up_places k (x ∷ xs) u (suc i) (suc j) l h = up_places (suc x) xs u.1 i j (omega arith) (omega arith)

-- no number of them stands at two places
pub up_apart : (k : ℕ) (xs : List ℕ) → Up k xs → (i j : ℕ) → i < length xs → j < length xs → eqb i j ≡ eqb (get_or xs i 0) (get_or xs j 0)
up_apart k xs u i j hi hj = elim (ℕ_discrete i j) [
  | yes e ↦ eq-eqb i j e ∙ sym (eq-eqb (get_or xs i 0) (get_or xs j 0) (ap (λ a. get_or xs a 0) e))
  | no d ↦ ne_eqb i j d ∙ sym (ne_eqb (get_or xs i 0) (get_or xs j 0) (elim (dec_lt i j) [
    | yes l ↦ ne_of_lt (up_places k xs u i j l hj)
    | no g ↦ λ e. ne_of_lt (up_places k xs u j i (omega arith) hi) (sym e)
  ]))
]

-- a count over a range is a count of the numbers below its end
pub count_range : (q : ℕ → Bool) (n : ℕ) → count q (range 0 n) ≡ count_to q n
unfolding sum_to
count_range q zero = refl
count_range q (suc n) =
    ap length (filter_last q n) ∙ length-append (filter q (range 0 n)) (cons_if (q n) n [])
    ∙ ap (λ m. m + length (cons_if (q n) n [])) (count_range q n)
    ∙ elim (test (q n)) [ inl e ↦ rw e | inr e ↦ rw e ]
