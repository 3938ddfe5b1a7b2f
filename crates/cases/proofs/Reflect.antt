-- Statements that a computed test decides, and how they combine. Assumes nothing.
use mathlib.Core.Bool.{◌&&◌, Bool, beq, false, not, true, true≢false, ◌||◌}
use mathlib.Core.List.Memᴰ
use mathlib.Core.List.{[], cons≢nil, head-eq_of_cons-eq, List, Memᴰ, nil≢cons, tail-eq_of_cons-eq, ◌∷◌}
use mathlib.Core.Logic.{inl, inr}
use mathlib.Core.Path.{ap, ap₂, refl, sym, ◌∙◌, ◌≡◌}
use Prim.Native.Nat.{◌<◌, suc, zero, ℕ, ◌≤◌}
use native.Mathlib.Omega.{arith}
use borrow.Author.Tests.{eqb-false, eqb-true, leb-false, leb-true}
use lib.Dec.{eqb, leb}
use Rattle.arith.proofs.Tests.{and-true, each, each_at, test}

-- P holds exactly where the test passes
pub record Reflects (P : Type 0) (b : Bool) : Type 0 where
  pub holds : b ≡ true → P
  pub fails : b ≡ false → P → ⊥

pub always : Reflects (Unit {0}) true
always = record { holds = λ e. tt; fails = λ e u. true≢false e }

pub numbers : (x y : ℕ) → Reflects (x ≡ y) (eqb x y)
numbers x y = record { holds = eqb-true x y; fails = eqb-false x y }

pub orders : (x y : ℕ) → Reflects (x ≤ y) (leb x y)
orders x y = record { holds = leb-true x y; fails = λ e l. let h = leb-false x y e in omega arith }

pub bits : (x y : Bool) → Reflects (x ≡ y) (beq x y)
bits true true = record { holds = λ e. refl; fails = λ e p. true≢false e }
bits true false = record { holds = λ e. absurd (true≢false (sym e)); fails = λ e p. true≢false p }
bits false true = record { holds = λ e. absurd (true≢false (sym e)); fails = λ e p. true≢false (sym p) }
bits false false = record { holds = λ e. refl; fails = λ e p. true≢false e }

module _ {P Q : Type 0} where
  pub both : (b c : Bool) → Reflects P b → Reflects Q c → Reflects (P × Q) (b && c)
  both true c r q = record { holds = λ e. (r.holds refl, q.holds e); fails = λ e p. q.fails e p.1 }
  both false c r q = record { holds = λ e. absurd (true≢false (sym e)); fails = λ e p. r.fails refl p.0 }

  pub whenever : (b c : Bool) → Reflects P b → Reflects Q c → Reflects (P → Q) (not b || c)
  whenever true c r q = record { holds = λ e p. q.holds e; fails = λ e f. q.fails e (f (r.holds refl)) }
  whenever false c r q = record { holds = λ e p. absurd (r.fails refl p); fails = λ e f. true≢false e }

-- at each number below n
pub everywhere : {P : ℕ → Type 0} (f : ℕ → Bool) → ((p : ℕ) → Reflects (P p) (f p)) → (n : ℕ) → Reflects ((p : ℕ) → p < n → P p) (each f n)
everywhere {P} f r n = record { holds = λ e p l. (r p).holds (each_at f n p e l); fails = λ e h. missed n e h }
  where
    missed : (n : ℕ) → each f n ≡ false → ((p : ℕ) → p < n → P p) → ⊥
    missed zero e h = true≢false e
    missed (suc n) e h = elim (test (f n)) [
      | inl t ↦ missed n (rw t at e) (λ p l. h p (omega arith))
      | inr t ↦ (r n).fails t (h n (omega arith))
    ]

module _ {A : Type 0} (same : A → A → Bool) where
  -- element by element
  abbrev pub same_lists : List A → List A → Bool
  same_lists [] [] = true
  same_lists [] (y ∷ ys) = false
  same_lists (x ∷ xs) [] = false
  same_lists (x ∷ xs) (y ∷ ys) = same x y && same_lists xs ys

  pub lists : ((x y : A) → Reflects (x ≡ y) (same x y)) → (xs ys : List A) → Reflects (xs ≡ ys) (same_lists xs ys)
  lists r [] [] = record { holds = λ e. refl; fails = λ e p. true≢false e }
  lists r [] (y ∷ ys) = record { holds = λ e. absurd (true≢false (sym e)); fails = λ e p. nil≢cons p }
  lists r (x ∷ xs) [] = record { holds = λ e. absurd (true≢false (sym e)); fails = λ e p. cons≢nil p }
  lists r (x ∷ xs) (y ∷ ys) =
      let h = both (same x y) (same_lists xs ys) (r x y) (lists r xs ys) in
      record {
        holds = λ e. let t = h.holds e in ap₂ (λ a l. a ∷ l) t.0 t.1;
        fails = λ e p. h.fails e (head-eq_of_cons-eq p, tail-eq_of_cons-eq p);
      }

pub said_as : {P Q : Type 0} {b : Bool} → (P → Q) → (Q → P) → Reflects P b → Reflects Q b
said_as to from r = record { holds = λ e. to (r.holds e); fails = λ e q. r.fails e (from q) }

-- ---- tests over a list

module _ {A : Type 0} (f : A → Bool) where
  abbrev pub all_of : List A → Bool
  all_of [] = true
  all_of (x ∷ xs) = f x && all_of xs

  pub all_at : (xs : List A) → all_of xs ≡ true → {x : A} → Memᴰ x xs → f x ≡ true
  all_at [] e m = absurd (Memᴰ.not-nil m)
  all_at (y ∷ ys) e m =
      let r = and-true (f y) (all_of ys) e in
      elim (Memᴰ.cases_cons m) [ inl p ↦ ap f p ∙ r.0 | inr i ↦ all_at ys r.1 i ]

  abbrev pub any_of : List A → Bool
  any_of [] = false
  any_of (x ∷ xs) = f x || any_of xs

  pub any_at : (xs : List A) → any_of xs ≡ true → (x : A) × Memᴰ x xs × (f x ≡ true)
  any_at [] e = absurd (true≢false (sym e))
  any_at (y ∷ ys) e = elim (test (f y)) [
    | inl t ↦ (y, Memᴰ.head refl, t)
    | inr t ↦ let (x, m, h) = any_at ys (rw t at e) in (x, Memᴰ.tail m, h)
  ]
