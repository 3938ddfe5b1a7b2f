-- Least common multiples, from a certificate that the checker computes. Assumes nothing.
use mathlib.Core.Path.{◌≡◌, ap, subst, ◌∙◌}
use mathlib.Core.Bool.{Bool, true, ◌&&◌}
use mathlib.Core.List.{List, [], ◌∷◌}
use Prim.Native.Nat.{ℕ, zero, suc, ◌+◌, ◌-◌, ◌*◌, ◌/◌, ◌%◌, ◌∣◌}
use native.Mathlib.Nat.{mul_comm, mul-sub, add-mul, one-mul, mul-mul-mul_comm, one-dvd, dvd-mul_right, dvd_of_mod-eq-zero, div-mul_cancel}
use native.Mathlib.Omega.{arith}
use borrow.Author.Tests.{eqb-true, leb-true, ltb-true}
use lib.Dec.{eqb, leb, ltb}
use Rattle.arith.specs.Divides.{Multiple, LeastCommonMultiple}
use Rattle.arith.proofs.Tests.{each, each_at, and-true}

-- x * a = y * b + 1 shows that a and b have no divisor in common: what both divide, a * b divides
pub coprime_divides : (a b x y m : ℕ) → x * a ≡ y * b + 1 → a ∣ m → b ∣ m → a * b ∣ m
coprime_divides a b x y m bezout p q =
    let k = m / a in
    let j = m / b in
    let xs : a * b * (x * j) ≡ y * b * m + m =
    mul_comm (a * b) (x * j) ∙ mul-mul-mul_comm x j a b ∙ ap (λ t. x * a * t) (div-mul_cancel b q)
    ∙ ap (λ t. t * m) bezout ∙ add-mul (y * b) 1 m ∙ ap (λ t. y * b * m + t) (one-mul m) in
    let ys : a * b * (y * k) ≡ y * b * m =
    mul_comm (a * b) (y * k) ∙ ap (λ t. y * k * t) (mul_comm a b) ∙ mul-mul-mul_comm y k b a ∙ ap (λ t. y * b * t) (div-mul_cancel a p) in
    let e : a * b * (x * j - y * k) ≡ m = mul-sub (a * b) (x * j) (y * k) ∙ omega arith in
    subst (λ t. a * b ∣ t) e (dvd-mul_right (a * b) (x * j - y * k))

-- A certificate: factors b, each at most n, with x and y that show it prime to the product a of those after it.
pub record Factor : Type 0 where
  pub b : ℕ
  pub x : ℕ
  pub y : ℕ

abbrev pub factor : ℕ → ℕ → ℕ → Factor
factor b x y = record { b = b; x = x; y = y }

abbrev pub product : List Factor → ℕ
product [] = 1
product (f ∷ fs) = product fs * f.b

abbrev pub sound_factors : ℕ → List Factor → Bool
sound_factors n [] = true
sound_factors n (f ∷ fs) = ltb 0 f.b && (leb f.b n && (eqb (f.x * product fs) (f.y * f.b + 1) && sound_factors n fs))

product_divides : (n m : ℕ) (fs : List Factor) → sound_factors n fs ≡ true → Multiple n m → product fs ∣ m
product_divides n m [] t h = one-dvd m
product_divides n m (f ∷ fs) t h =
    let a = and-true (ltb 0 f.b) _ t in
    let b = and-true (leb f.b n) _ a.1 in
    let c = and-true (eqb (f.x * product fs) (f.y * f.b + 1)) (sound_factors n fs) b.1 in
    coprime_divides (product fs) f.b f.x f.y m (eqb-true _ _ c.0) (product_divides n m fs c.1 h)
    (h f.b (ltb-true 0 f.b a.0) (leb-true f.b n b.0))

-- d + 1 divides m, as a test
abbrev pub divides? : ℕ → ℕ → Bool
divides? m d = eqb (m % suc d) 0

pub multiple_by : (n m : ℕ) → each (divides? m) n ≡ true → Multiple n m
multiple_by n m t zero h l = absurd (omega arith)
multiple_by n m t (suc d) h l = dvd_of_mod-eq-zero (suc d) (eqb-true _ 0 (each_at (divides? m) n d t l))

pub least_by : (n m : ℕ) (fs : List Factor) → ltb 0 m ≡ true → each (divides? m) n ≡ true → sound_factors n fs ≡ true → product fs ≡ m → LeastCommonMultiple n m
least_by n m fs p t s e = record {
  positive = ltb-true 0 m p;
  common = multiple_by n m t;
  least = λ k h. subst (λ x. x ∣ k) e (product_divides n k fs s h);
}
