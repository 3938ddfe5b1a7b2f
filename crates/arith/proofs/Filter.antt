-- What a filter keeps and how many a count counts. Assumes nothing.
use mathlib.Core.Bool.{◌&&◌, and_comm, Bool, cond, false, not, true, true≢false}
use mathlib.Core.List.{◌++◌, [], List, Memᴰ, map, ◌∷◌}
use mathlib.Core.Logic.{inl, inr, ◌≢◌}
use mathlib.Core.Path.{ap, fun_ext, refl, sym, ◌∙◌, ◌≡◌}
use Prim.Native.Nat.{◌+◌, ◌<◌, suc, ℕ, ◌≤◌}
use native.Mathlib.Omega.{arith}
use borrow.Author.Tests.{eq-eqb, ne_eqb}
use lib.Dec.{eqb}
use lib.ListN.{length}
use Rattle.arith.proofs.Tests.{test}
use Rattle.arith.specs.Lists.{cons_if, count, Distinct, filter, non_empty, pairs}

module _ {A : Type 0} where
  pub cons_if_cond : (b : Bool) (x : A) → cond b (x ∷ []) [] ≡ cons_if b x []
  cons_if_cond true x = refl
  cons_if_cond false x = refl

  pub filter_ext : {f f' : A → Bool} (xs : List A) → ((x : A) → f x ≡ f' x) → filter f xs ≡ filter f' xs
  filter_ext xs e = ap (λ f. filter f xs) (fun_ext e)

  pub filter_mem : (f f' : A → Bool) (xs : List A) → ((x : A) → Memᴰ x xs → f x ≡ f' x) → filter f xs ≡ filter f' xs
  filter_mem f f' [] e = refl
  filter_mem f f' (x ∷ xs) e = rw (e x (mathlib.Core.List.Memᴰ.head refl), filter_mem f f' xs (λ y m. e y (mathlib.Core.List.Memᴰ.tail m)))

  pub filter_none : (f : A → Bool) (xs : List A) → ((x : A) → Memᴰ x xs → f x ≡ false) → filter f xs ≡ []
  filter_none f [] e = refl
  filter_none f (x ∷ xs) e = rw (e x (mathlib.Core.List.Memᴰ.head refl)) (filter_none f xs (λ y m. e y (mathlib.Core.List.Memᴰ.tail m)))

  pub mem_filter : (f : A → Bool) (xs : List A) {x : A} → Memᴰ x (filter f xs) → Memᴰ x xs × (f x ≡ true)
  mem_filter f [] m = absurd (mathlib.Core.List.Memᴰ.not-nil m)
  mem_filter f (y ∷ ys) {x} m = elim (test (f y)) [
    | inl e ↦ elim (mathlib.Core.List.Memᴰ.cases_cons (rw e at m)) [
      | inl p ↦ (mathlib.Core.List.Memᴰ.head p, ap f p ∙ e)
      | inr d ↦ let r : Memᴰ x ys × (f x ≡ true) = mem_filter f ys d in (mathlib.Core.List.Memᴰ.tail r.0, r.1)
    ]
    | inr e ↦ let r : Memᴰ x ys × (f x ≡ true) = mem_filter f ys (rw e at m) in (mathlib.Core.List.Memᴰ.tail r.0, r.1)
  ]

  pub filter_in : (f : A → Bool) (xs : List A) {x : A} → Memᴰ x xs → f x ≡ true → Memᴰ x (filter f xs)
  filter_in f [] m e = absurd (mathlib.Core.List.Memᴰ.not-nil m)
  filter_in f (y ∷ ys) m e =
      elim (test (f y)) [
        | inl d ↦ rw d (elim (mathlib.Core.List.Memᴰ.cases_cons m) [ inl p ↦ mathlib.Core.List.Memᴰ.head p | inr i ↦ mathlib.Core.List.Memᴰ.tail (filter_in f ys i e) ])
        | inr d ↦ rw d (elim (mathlib.Core.List.Memᴰ.cases_cons m) [ inl p ↦ absurd (true≢false (sym e ∙ ap f p ∙ d)) | inr i ↦ filter_in f ys i e ])
      ]

  pub filter-filter : (f f' : A → Bool) (xs : List A) → filter f (filter f' xs) ≡ filter (λ x. f' x && f x) xs
  filter-filter f f' [] = refl
  filter-filter f f' (x ∷ xs) = elim (test (f' x)) [
    | inl e ↦ rw (e, filter-filter f f' xs)
    | inr e ↦ rw e (filter-filter f f' xs)
  ]

  pub any_filter : (f : A → Bool) (xs : List A) {x : A} → Memᴰ x xs → f x ≡ true → non_empty (filter f xs) ≡ true
  any_filter f [] m e = absurd (mathlib.Core.List.Memᴰ.not-nil m)
  any_filter f (y ∷ ys) m e =
      elim (test (f y)) [
        | inl d ↦ rw d
        | inr d ↦ elim (mathlib.Core.List.Memᴰ.cases_cons m) [ inl p ↦ absurd (true≢false (sym e ∙ ap f p ∙ d)) | inr i ↦ rw d (any_filter f ys i e) ]
      ]

pub filter-append : {A : Type 0} (q : A → Bool) (xs ys : List A) → filter q (xs ++ ys) ≡ filter q xs ++ filter q ys
filter-append q [] ys = refl
filter-append q (x ∷ xs) ys = elim (test (q x)) [ inl e ↦ rw (e, filter-append q xs ys) | inr e ↦ rw e (filter-append q xs ys) ]

module _ {A : Type 0} where
  pub any_map : {B : Type 0} (F : A → B) (xs : List A) → non_empty (map F xs) ≡ non_empty xs
  any_map F [] = refl
  any_map F (x ∷ xs) = refl

  pub count_le : (f f' : A → Bool) (xs : List A) → ((x : A) → f x ≡ true → f' x ≡ true) → count f xs ≤ count f' xs
  count_le f f' [] h = omega arith
  count_le f f' (x ∷ xs) h =
      elim (test (f x)) [
        | inl e ↦ rw (e, h x e) (omega (arith, count_le f f' xs h))
        | inr e ↦ elim (test (f' x)) [ inl d ↦ rw (e, d) (omega (arith, count_le f f' xs h)) | inr d ↦ rw (e, d) (count_le f f' xs h) ]
      ]

  pub count_most : (f : A → Bool) (xs : List A) → count f xs ≤ length xs
  count_most f [] = omega arith
  count_most f (x ∷ xs) = elim (test (f x)) [ inl e ↦ rw e (omega (arith, count_most f xs)) | inr e ↦ rw e (omega (arith, count_most f xs)) ]

  -- those that pass a test, and those that do not
  pub count_not : (f : A → Bool) (xs : List A) → count f xs + count (λ x. not (f x)) xs ≡ length xs
  count_not f [] = refl
  count_not f (x ∷ xs) = elim (test (f x)) [ inl e ↦ rw e (omega (arith, count_not f xs)) | inr e ↦ rw e (omega (arith, count_not f xs)) ]

  pub count_miss : (f : A → Bool) (xs : List A) {x : A} → Memᴰ x xs → f x ≡ false → count f xs < length xs
  count_miss f [] m e = absurd (mathlib.Core.List.Memᴰ.not-nil m)
  count_miss f (y ∷ ys) m e =
      elim (test (f y)) [
        | inl d ↦ elim (mathlib.Core.List.Memᴰ.cases_cons m) [
          | inl p ↦ absurd (true≢false (sym d ∙ ap f (sym p) ∙ e))
          | inr i ↦ rw d (omega (arith, count_miss f ys i e))
        ]
        | inr d ↦ rw d (omega (arith, count_most f ys))
      ]

  -- a test that one element more passes
  pub count_one_more : (f f' : A → Bool) (xs : List A) {c : A} → Distinct xs → Memᴰ c xs → f c ≡ false → f' c ≡ true
      → ((x : A) → Memᴰ x xs → x ≢ c → f x ≡ f' x) → count f' xs ≡ count f xs + 1
  count_one_more f f' [] d m e e' h = absurd (mathlib.Core.List.Memᴰ.not-nil m)
  count_one_more f f' (x ∷ xs) {c} d m e e' h = elim (mathlib.Core.List.Memᴰ.cases_cons m) [
    | inl p ↦
        let rest = ap length (filter_mem f f' xs (λ y i. h y (mathlib.Core.List.Memᴰ.tail i) (λ q. d.0 (mathlib.Core.List.Memᴰ.cast (sym (q ∙ p)) i)))) in
        rw (ap f (sym p) ∙ e, ap f' (sym p) ∙ e') (omega (arith, rest))
    | inr i ↦
        let rest = count_one_more f f' xs d.1 i e e' (λ y j. h y (mathlib.Core.List.Memᴰ.tail j)) in
        let same = h x (mathlib.Core.List.Memᴰ.head refl) (λ q. d.0 (mathlib.Core.List.Memᴰ.cast q i)) in
        elim (test (f' x)) [ inl t ↦ rw (same ∙ t, t) (omega (arith, rest)) | inr t ↦ rw (same ∙ t, t) rest ]
  ]

  pub count_miss_two : (f : A → Bool) (xs : List A) {x y : A} → Memᴰ (x, y) (pairs xs) → f x ≡ false → f y ≡ false → count f xs + 2 ≤ length xs
  count_miss_two f [] m e d = absurd (mathlib.Core.List.Memᴰ.not-nil m)
  count_miss_two f (z ∷ zs) {x} {y} m e d =
      elim (mathlib.Core.List.Memᴰ.append_cases (map (λ w. (z, w)) zs) m) [
        | inl i ↦
            let (a, j, q) = mathlib.Core.List.Memᴰ.of_map (λ (w : A). (z, w)) zs i in
            rw (ap f (ap (λ t. t.0) q) ∙ e) (omega (arith, count_miss f zs j (ap f (ap (λ t. t.1) q) ∙ d)))
        | inr j ↦ elim (test (f z)) [
          | inl q ↦ rw q (omega (arith, count_miss_two f zs j e d))
          | inr q ↦ rw q (omega (arith, count_miss_two f zs j e d))
        ]
      ]

module _ {A B : Type 0} where
  pub count_map : (f : B → Bool) (F : A → B) (xs : List A) → count f (map F xs) ≡ count (λ x. f (F x)) xs
  count_map f F [] = refl
  count_map f F (x ∷ xs) = elim (test (f (F x))) [ inl e ↦ rw e (ap suc (count_map f F xs)) | inr e ↦ rw e (count_map f F xs) ]

-- the numbers of a list but v
abbrev pub without : ℕ → List ℕ → List ℕ
without v xs = filter (λ x. not (eqb x v)) xs

pub without_none : (v : ℕ) (xs : List ℕ) → (Memᴰ v xs → ⊥) → without v xs ≡ xs
without_none v [] out = refl
without_none v (x ∷ xs) out =
    rw (ne_eqb x v (λ e. out (mathlib.Core.List.Memᴰ.head (sym e)))) (ap (λ l. x ∷ l) (without_none v xs (λ m. out (mathlib.Core.List.Memᴰ.tail m))))

pub without_turned : (u v : ℕ) (xs : List ℕ) → without u (without v xs) ≡ without v (without u xs)
without_turned u v xs =
    filter-filter (λ x. not (eqb x u)) (λ x. not (eqb x v)) xs
    ∙ filter_ext xs (λ x. and_comm (not (eqb x v)) (not (eqb x u)))
    ∙ sym (filter-filter (λ x. not (eqb x v)) (λ x. not (eqb x u)) xs)

pub mem_without : (v : ℕ) (xs : List ℕ) {x : ℕ} → Memᴰ x (without v xs) → Memᴰ x xs × (x ≢ v)
mem_without v xs {x} m = let r = mem_filter (λ x. not (eqb x v)) xs m in (r.0, λ e. true≢false (sym r.1 ∙ ap not (eq-eqb x v e)))
