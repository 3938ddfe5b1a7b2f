-- The laws of `sum_to`, of counts, and of lists filled by a loop. Assumes nothing.
use mathlib.Core.Bool.{◌&&◌, and-or_distrib_right, Bool, cond, false, or_assoc, or-false, or-true, true, true≢false, ◌||◌}
use mathlib.Core.List.{◌++◌, [], List, ◌∷◌}
use mathlib.Core.Logic.{inl, inr, ◌≢◌, ⊎_elim}
use mathlib.Core.Path.{ap, ap₂, refl, sym, ◌∙◌, ◌≡◌}
use Prim.Native.Nat.{◌*◌, ◌+◌, ◌<◌, suc, zero, zero-le, ℕ, ◌≤◌}
use native.Mathlib.Decide.{dec_lt}
use native.Mathlib.Nat.{add-suc, add-zero, eq-or-lt_of_le, le_antisymm, le_refl, ne_of_lt, suc-mul}
use native.Mathlib.Numerals.{add-one}
use native.Mathlib.Omega.{arith}
use borrow.Author.Tests.{eqb-true}
use lib.Dec.{eqb}
use lib.ListN.{get_or, get_or-replicate, length, length-append, length-replicate, length-set, get_or-append, replicate, set, take}
use lib.Seq.{ext_get_or, get_or_at, get_or-set_other, get_or-set_same, take-suc}
use Rattle.arith.proofs.Tests.{and-true, each, each_at, eqb_same, same_test, test}
use Rattle.arith.specs.Sums.{any_to, bit, count_to, sum_to, tabulate}
use Rattle.arith.specs.Inside.Fill.{fill_to}

pub sum_to_none : (f : ℕ → ℕ) → sum_to f 0 ≡ 0
unfolding sum_to
sum_to_none f = refl

-- one turn more, as a loop has it
pub sum_to_more : (f : ℕ → ℕ) (n : ℕ) → sum_to f (n + 1) ≡ sum_to f n + f n
unfolding sum_to
sum_to_more f n = rw add-one

-- only the terms below n count
pub sum_to_ext : (f g : ℕ → ℕ) (n : ℕ) → ((i : ℕ) → i < n → f i ≡ g i) → sum_to f n ≡ sum_to g n
unfolding sum_to
sum_to_ext f g zero h = refl
sum_to_ext f g (suc n) h = ap₂ (λ (x y : ℕ). x + y) (sum_to_ext f g n (λ i k. h i (omega arith))) (h n (le_refl _))

pub sum_to_le : (f : ℕ → ℕ) (b n : ℕ) → ((i : ℕ) → i < n → f i ≤ b) → sum_to f n ≤ n * b
unfolding sum_to
sum_to_le f b zero h = zero-le
sum_to_le f b (suc n) h = omega (arith, suc-mul n b, sum_to_le f b n (λ i k. h i (omega arith)), h n (le_refl _))

pub sum_to_first : (f : ℕ → ℕ) (n : ℕ) → sum_to f (suc n) ≡ f 0 + sum_to (λ i. f (suc i)) n
unfolding sum_to
sum_to_first f zero = omega arith
sum_to_first f (suc n) = omega (arith, sum_to_first f n)

-- the terms below m, and the n from m on
pub sum_to_cat : (f : ℕ → ℕ) (m n : ℕ) → sum_to f (m + n) ≡ sum_to f m + sum_to (λ i. f (m + i)) n
unfolding sum_to
sum_to_cat f m zero = ap (sum_to f) (add-zero m) ∙ omega arith
sum_to_cat f m (suc n) = ap (sum_to f) (add-suc m n) ∙ omega (arith, sum_to_cat f m n)

pub sum_to_add : (f g : ℕ → ℕ) (n : ℕ) → sum_to (λ i. f i + g i) n ≡ sum_to f n + sum_to g n
unfolding sum_to
sum_to_add f g zero = refl
sum_to_add f g (suc n) = omega (arith, sum_to_add f g n)

-- a term that is 0 in the one sum and not in the other
pub sum_to_gain : (f g : ℕ → ℕ) (n k : ℕ) → k < n → f k ≡ 0 → ((j : ℕ) → j ≢ k → f j ≡ g j) → sum_to g n ≡ sum_to f n + g k
unfolding sum_to
sum_to_gain f g zero k l a h = absurd (omega arith)
sum_to_gain f g (suc n) k l a h = elim (dec_lt k n) [
  | yes s ↦ omega (arith, sum_to_gain f g n k s a h, h n (omega arith))
  | no s ↦ let e : n ≡ k = omega arith in omega (arith, sum_to_ext f g n (λ j i. h j (omega arith)), ap f e ∙ a, ap g e)
]

-- a test before a sum is a test before each of its terms
pub sum_to_if : (t : Bool) (f : ℕ → ℕ) (n : ℕ) → cond t (sum_to f n) 0 ≡ sum_to (λ i. cond t (f i) 0) n
unfolding sum_to
sum_to_if true f n = refl
sum_to_if false f zero = refl
sum_to_if false f (suc n) = omega (arith, sum_to_if false f n)

-- what gives b at most, or nothing
pub cond_most : (t : Bool) {x b : ℕ} → x ≤ b → cond t x 0 ≤ b
cond_most true h = h
cond_most false h = zero-le

-- ---- a loop that adds f i at turn i: the sum after a turn, a bound on it, and the sum at the end

pub sum_step : (f : ℕ → ℕ) (n : ℕ) {s r : ℕ} → s ≡ sum_to f n → r ≡ f n → s + r ≡ sum_to f (n + 1)
sum_step f n p q = ap₂ (λ (x y : ℕ). x + y) p q ∙ sym (sum_to_more f n)

pub sum_bound : (f : ℕ → ℕ) (b n : ℕ) {s r : ℕ} → ((i : ℕ) → i < n + 1 → f i ≤ b) → s ≡ sum_to f n → r ≡ f n → s + r ≤ n * b + b
sum_bound f b n h p q = omega (arith, sum_to_le f b n (λ i k. h i (omega arith)), h n (omega arith))

pub sum_end : (f : ℕ → ℕ) {i n s : ℕ} → i ≤ n → n ≤ i → s ≡ sum_to f i → s ≡ sum_to f n
sum_end f a b h = h ∙ ap (sum_to f) (le_antisymm a b)

-- ---- counts

pub bit_le : (t : Bool) → bit t ≤ 1
bit_le true = le_refl 1
bit_le false = zero-le

pub count_more : (p : ℕ → Bool) (n : ℕ) (t : Bool) → p n ≡ t → count_to p (n + 1) ≡ count_to p n + bit t
count_more p n t e = sum_to_more _ n ∙ ap (λ (x : Bool). count_to p n + bit x) e

pub count_to_le : (p : ℕ → Bool) (n : ℕ) → count_to p n ≤ n
unfolding sum_to
count_to_le p zero = zero-le
count_to_le p (suc n) = omega (arith, count_to_le p n, bit_le (p n))

-- tests that agree below n count the same
pub count_to_ext : (p q : ℕ → Bool) (n : ℕ) → ((i : ℕ) → i < n → p i ≡ q i) → count_to p n ≡ count_to q n
count_to_ext p q n h = sum_to_ext _ _ n (λ i k. ap bit (h i k))

-- a test that passes at one number more
pub count_gain : (p q : ℕ → Bool) (n k : ℕ) → k < n → p k ≡ false → q k ≡ true → ((j : ℕ) → j ≢ k → p j ≡ q j) → count_to q n ≡ count_to p n + 1
count_gain p q n k l a b h =
    sum_to_gain (λ j. bit (p j)) (λ j. bit (q j)) n k l (ap bit a) (λ j d. ap bit (h j d)) ∙ ap (λ (t : Bool). count_to p n + bit t) b

-- ---- a loop that stores f i at place i

module _ {A : Type 0} where
  pub fill_to_none : (f : ℕ → A) (l : List A) → fill_to f l 0 ≡ l
  unfolding fill_to
  fill_to_none f l = refl

  pub fill_step : (f : ℕ → A) (l : List A) (n : ℕ) {a : List A} {r : A} → a ≡ fill_to f l n → r ≡ f n → set a n r ≡ fill_to f l (n + 1)
  unfolding fill_to
  fill_step f l n p q = rw add-one (ap₂ (λ (x : List A) (y : A). set x n y) p q)

  pub fill_end : (f : ℕ → A) (l : List A) {i n : ℕ} {a : List A} → i ≤ n → n ≤ i → a ≡ fill_to f l i → a ≡ fill_to f l n
  fill_end f l a b h = h ∙ ap (fill_to f l) (le_antisymm a b)

  pub length_fill_to : (f : ℕ → A) (l : List A) (n : ℕ) → length (fill_to f l n) ≡ length l
  unfolding fill_to
  length_fill_to f l zero = refl
  length_fill_to f l (suc n) = length-set (fill_to f l n) n (f n) ∙ length_fill_to f l n

  pub fill_length : (f : ℕ → A) (l : List A) (n : ℕ) {a : List A} → a ≡ fill_to f l n → length a ≡ length l
  fill_length f l n e = ap length e ∙ length_fill_to f l n

  pub get_or_fill_to : (f : ℕ → A) (l : List A) (d : A) (n i : ℕ) → i < n → n ≤ length l → get_or (fill_to f l n) i d ≡ f i
  unfolding fill_to
  get_or_fill_to f l d zero i h k = absurd (omega arith)
  get_or_fill_to f l d (suc n) i h k =
      ⊎_elim
      (λ (e : i ≡ n). rw e (get_or-set_same (fill_to f l n) n (f n) d (omega (arith, length_fill_to f l n))))
      (λ (b : i < n). get_or-set_other (fill_to f l n) n i (f n) d (ne_of_lt b) ∙ get_or_fill_to f l d n i b (omega arith))
      (eq-or-lt_of_le (omega arith))

  -- the places from n on are as they were
  pub get_or_fill_to_past : (f : ℕ → A) (l : List A) (d : A) (n i : ℕ) → n ≤ i → get_or (fill_to f l n) i d ≡ get_or l i d
  unfolding fill_to
  get_or_fill_to_past f l d zero i h = refl
  get_or_fill_to_past f l d (suc n) i h =
      get_or-set_other (fill_to f l n) n i (f n) d (λ e. omega arith) ∙ get_or_fill_to_past f l d n i (omega arith)

-- ---- a test that some number below n passes

pub any_to_none : (p : ℕ → Bool) → any_to p 0 ≡ false
unfolding any_to
any_to_none p = refl

pub any_to_more : (p : ℕ → Bool) (n : ℕ) {t : Bool} → any_to p n ≡ false → p n ≡ t → any_to p (n + 1) ≡ t
unfolding any_to
any_to_more p n e q = rw (add-one, e) q

-- one that passes, below the end
pub any_to_here : (p : ℕ → Bool) (n i : ℕ) → i < n → p i ≡ true → any_to p n ≡ true
unfolding any_to
any_to_here p zero i h e = absurd (omega arith)
any_to_here p (suc n) i h e = elim (dec_lt i n) [
  | yes l ↦ rw (any_to_here p n i l e)
  | no l ↦ let s : n ≡ i = omega arith in rw (ap p s ∙ e) (or-true (any_to p n))
]

-- a number below the end that passes
pub record Some (f : ℕ → Bool) (n : ℕ) : Type 0 where
  pub at : ℕ
  pub inside : at < n
  pub passes : f at ≡ true

pub some_of : (f : ℕ → Bool) (n : ℕ) → any_to f n ≡ true → Some f n
unfolding any_to
some_of f zero e = absurd (true≢false (sym e))
some_of f (suc n) e = elim (test (any_to f n)) [
  | inl t ↦ let s : Some f n = some_of f n t in record { at = s.at; inside = omega (arith, s.inside); passes = s.passes }
  | inr t ↦ record { at = n; inside = omega arith; passes = rw t at e }
]

pub any_to_false : (p : ℕ → Bool) (n : ℕ) → any_to p n ≡ false → (i : ℕ) → i < n → p i ≡ false
any_to_false p n e i h = elim (test (p i)) [ inl t ↦ absurd (true≢false (sym (any_to_here p n i h t) ∙ e)) | inr t ↦ t ]

pub any_to_never : (p : ℕ → Bool) (n : ℕ) → ((i : ℕ) → i < n → p i ≡ false) → any_to p n ≡ false
unfolding any_to
any_to_never p zero h = refl
any_to_never p (suc n) h = rw (any_to_never p n (λ i k. h i (omega arith)), h n (omega arith))

-- one of the first m does, or one of the n after them
pub any_to_cat : (p : ℕ → Bool) (m n : ℕ) → any_to p (m + n) ≡ any_to p m || any_to (λ i. p (m + i)) n
unfolding any_to
any_to_cat p m zero = ap (any_to p) (add-zero m) ∙ sym (or-false (any_to p m))
any_to_cat p m (suc n) =
    ap (any_to p) (add-suc m n) ∙ ap (λ b. b || p (m + n)) (any_to_cat p m n) ∙ or_assoc (any_to p m) (any_to (λ i. p (m + i)) n) (p (m + n))

pub any_to_first : (p : ℕ → Bool) (n : ℕ) → any_to p (suc n) ≡ p 0 || any_to (λ i. p (suc i)) n
unfolding any_to
any_to_first p zero = sym (or-false (p 0))
any_to_first p (suc n) = ap (λ b. b || p (suc n)) (any_to_first p n) ∙ or_assoc (p 0) (any_to (λ i. p (suc i)) n) (p (suc n))

pub any_to_ext : (p q : ℕ → Bool) (n : ℕ) → ((i : ℕ) → i < n → p i ≡ q i) → any_to p n ≡ any_to q n
unfolding any_to
any_to_ext p q zero h = refl
any_to_ext p q (suc n) h = rw (any_to_ext p q n (λ i k. h i (omega arith)), h n (omega arith))

-- a number that passes one of two tests
pub any_to_or : (p q : ℕ → Bool) (n : ℕ) → any_to (λ i. p i || q i) n ≡ any_to p n || any_to q n
unfolding any_to
any_to_or p q zero = refl
any_to_or p q (suc n) = ap (λ b. b || (p n || q n)) (any_to_or p q n) ∙ swap (any_to p n) (any_to q n) (p n) (q n)
  where
    swap : (a b c d : Bool) → (a || b) || (c || d) ≡ (a || c) || (b || d)
    swap true b c d = refl
    swap false true true d = refl
    swap false true false d = refl
    swap false false c d = refl

-- one number alone
any_to_one : (p : ℕ → Bool) (n k : ℕ) → k < n → any_to (λ i. eqb i k && p i) n ≡ p k
any_to_one p n k h = same_test _ (p k)
    (λ e.
    let s = some_of (λ i. eqb i k && p i) n e in
    let r = and-true (eqb s.at k) (p s.at) s.passes in
    ap p (sym (eqb-true s.at k r.0)) ∙ r.1)
    (λ e. any_to_here (λ i. eqb i k && p i) n k h (rw (eqb_same k, e)))

-- one number more
pub any_to_with : (p q : ℕ → Bool) (n k : ℕ) → k < n → any_to (λ i. (eqb i k || p i) && q i) n ≡ q k || any_to (λ i. p i && q i) n
any_to_with p q n k h =
    any_to_ext _ _ n (λ i _. and-or_distrib_right (eqb i k) (p i) (q i)) ∙ any_to_or (λ i. eqb i k && q i) (λ i. p i && q i) n
    ∙ ap (λ b. b || any_to (λ i. p i && q i) n) (any_to_one q n k h)

-- ---- tables

module _ {A : Type 0} where
  pub length_tabulate : (f : ℕ → A) (n : ℕ) → length (tabulate f n) ≡ n
  unfolding tabulate
  length_tabulate f zero = refl
  length_tabulate f (suc n) = length-append (tabulate f n) (f n ∷ []) ∙ add-one (length (tabulate f n)) ∙ ap suc (length_tabulate f n)

  pub get_d_tabulate : (f : ℕ → A) (n i : ℕ) (d : A) → i < n → get_or (tabulate f n) i d ≡ f i
  unfolding tabulate
  get_d_tabulate f zero i d h = absurd (omega arith)
  get_d_tabulate f (suc n) i d h = elim (dec_lt i n) [
    | yes l ↦ get_or-append (tabulate f n) (f n ∷ []) d i (omega (arith, length_tabulate f n)) ∙ get_d_tabulate f n i d l
    | no g ↦ let e : n ≡ i = omega arith in get_or_at (tabulate f n) (f n) [] d i (length_tabulate f n ∙ e) ∙ ap f e
  ]

  pub tabulate_first : (f : ℕ → A) (n : ℕ) → tabulate f (suc n) ≡ f 0 ∷ tabulate (λ i. f (suc i)) n
  unfolding tabulate
  tabulate_first f zero = refl
  tabulate_first f (suc n) = ap (λ l. l ++ f (suc n) ∷ []) (tabulate_first f n)

  -- the first m of them
  pub take_tabulate : (f : ℕ → A) (m n : ℕ) → m ≤ n → take m (tabulate f n) ≡ tabulate f m
  unfolding tabulate
  take_tabulate f zero n h = refl
  take_tabulate f (suc m) n h =
      take-suc (tabulate f n) m (f 0) (omega (arith, length_tabulate f n))
      ∙ ap₂ (λ xs x. xs ++ x ∷ []) (take_tabulate f m n (omega arith)) (get_d_tabulate f n m (f 0) h)

  -- only the elements below n count
  pub tabulate_ext : (f g : ℕ → A) (n : ℕ) → ((i : ℕ) → i < n → f i ≡ g i) → tabulate f n ≡ tabulate g n
  unfolding tabulate
  tabulate_ext f g zero h = refl
  tabulate_ext f g (suc n) h = ap₂ (λ (l : List A) (x : A). l ++ x ∷ []) (tabulate_ext f g n (λ i k. h i (omega arith))) (h n (le_refl _))

  -- a list of n elements is a table of them
  pub tabulate_is : (f : ℕ → A) (d : A) (l : List A) → ((i : ℕ) → i < length l → get_or l i d ≡ f i) → l ≡ tabulate f (length l)
  tabulate_is f d l h =
      ext_get_or d l (tabulate f (length l)) (sym (length_tabulate f (length l))) (λ i b. h i b ∙ sym (get_d_tabulate f (length l) i d b))

  -- a list that a loop filled as far as its elements were not right already
  pub fill_rest : (f : ℕ → A) (l : List A) (d : A) (n : ℕ) → n ≤ length l → ((i : ℕ) → n ≤ i → i < length l → get_or l i d ≡ f i)
      → fill_to f l n ≡ tabulate f (length l)
  fill_rest f l d n h past =
      let long = length_fill_to f l n in
      tabulate_is f d (fill_to f l n) (λ i b. elim (dec_lt i n) [
        | yes s ↦ get_or_fill_to f l d n i s h
        | no s ↦ get_or_fill_to_past f l d n i (omega arith) ∙ past i (omega arith) (omega (arith, long))
      ]) ∙ ap (tabulate f) long

  -- a list that a loop filled to its end
  pub fill_table : (f : ℕ → A) (l : List A) (d : A) {i n : ℕ} {a : List A} → n ≡ length l → i ≤ n → n ≤ i → a ≡ fill_to f l i → a ≡ tabulate f n
  fill_table f l d {i} {n} e a b h =
      h ∙ ap (fill_to f l) (le_antisymm a b ∙ e) ∙ fill_rest f l d (length l) (le_refl (length l)) (λ k g i. absurd (omega arith)) ∙ ap (tabulate f) (sym e)

  pub tabulate_same : (x : A) (n : ℕ) → tabulate (λ i. x) n ≡ replicate n x
  tabulate_same x n =
      ext_get_or x (tabulate (λ i. x) n) (replicate n x) (length_tabulate (λ i. x) n ∙ sym (length-replicate n x))
      (λ i b. let h : i < n = omega (arith, length_tabulate (λ (i : ℕ). x) n) in get_d_tabulate (λ i. x) n i x h ∙ sym (get_or-replicate n i x x h))

-- a list that is written out, entry by entry as the checker computes it
pub table_by : (f : ℕ → ℕ) (n : ℕ) (l : List ℕ) → length l ≡ n → each (λ i. eqb (get_or l i 0) (f i)) n ≡ true → l ≡ tabulate f n
table_by f n l e t = ext_get_or 0 l (tabulate f n) (e ∙ sym (length_tabulate f n)) (λ i h.
    eqb-true (get_or l i 0) (f i) (each_at (λ i. eqb (get_or l i 0) (f i)) n i t (omega arith)) ∙ sym (get_d_tabulate f n i 0 (omega arith)))

-- ---- a loop over every place of a list: before turn i the first i elements are f's

module _ {A : Type 0} where
  pub record Filling (f : ℕ → A) (l₀ : List A) (end : ℕ) (l : List A) (i : ℕ) : Type 0 where
    pub most : i ≤ end
    pub all : end ≡ length l₀
    pub done : l ≡ fill_to f l₀ i

  pub filling_none : (f : ℕ → A) (l : List A) → Filling f l (length l) l 0
  filling_none f l = record { most = zero-le; all = refl; done = sym (fill_to_none f l) }

  module _ {f : ℕ → A} {l₀ l : List A} {end i : ℕ} (w : Filling f l₀ end l i) where
    pub filling_length : length l ≡ length l₀
    filling_length = fill_length f l₀ i w.done

    pub filling_more : {r : A} → i < end → r ≡ f i → Filling f l₀ end (set l i r) (i + 1)
    filling_more h e = record { most = omega arith; all = w.all; done = fill_step f l₀ i w.done e }

    pub filling_all : (d : A) → end ≤ i → l ≡ tabulate f (length l₀)
    filling_all d h = fill_table f l₀ d w.all w.most h w.done ∙ ap (tabulate f) w.all

  pub filling_same : {x : A} {l₀ l : List A} {end i : ℕ} → Filling (λ _. x) l₀ end l i → end ≤ i → l ≡ replicate (length l₀) x
  filling_same {x} {l₀} w h = filling_all w x h ∙ tabulate_same x (length l₀)
