-- The laws of a pair's place in a window. Assumes nothing.
use mathlib.Core.Bool.{◌&&◌}
use mathlib.Core.Logic.{inl, inr, ◌⊎◌, ◌≢◌}
use mathlib.Core.Path.{sym, ◌∙◌, ◌≡◌}
use Prim.Native.Nat.{◌+◌, ◌-◌, ◌<◌, ℕ, ◌≤◌}
use native.Mathlib.Omega.{arith}
use borrow.Author.Tests.{le-leb, le-ltb, leb-true, lt-leb, lt-ltb, ltb-true}
use lib.Dec.{leb, ltb}
use Rattle.arith.proofs.Tests.{and-true, test}
use Rattle.std.proofs.Common.{Option, Some, None}
use Rattle.std.proofs.lemmas.Option.{cond_some, none-some}
use Rattle.packed.specs.Inside.Windows.{place_in, placed, window}

-- the pair of number p is in the window
pub record Inside (start p : ℕ) : Type 0 where
  pub number : p ≡ start + place_in start p
  pub below : place_in start p < window

module _ (start p : ℕ) where
  pub place_before : p < start → window ≡ place_in start p
  unfolding place_in
  place_before h = rw (lt-leb start p h)

  pub place_past : start ≤ p → window ≤ p - start → window ≡ place_in start p
  unfolding place_in
  place_past h l = rw (le-leb start p h, le-ltb p (start + window) (omega arith))

  pub place_in_lem : start ≤ p → p - start < window → p - start ≡ place_in start p
  unfolding place_in
  place_in_lem h l = rw (le-leb start p h, lt-ltb p (start + window) (omega arith))

  -- it is there, or its place is `window`
  pub place-or : Inside start p ⊎ (place_in start p ≡ window)
  unfolding place_in
  place-or = elim (test (leb start p && ltb p (start + window))) [
    | inl e ↦
        let b = and-true (leb start p) (ltb p (start + window)) e in
        let low : start ≤ p = leb-true _ _ b.0 in
        let high : p < start + window = ltb-true _ _ b.1 in
        inl (record { number = rw e (omega arith); below = rw e (omega arith) })
    | inr e ↦ inr (rw e)
  ]

  pub place_inside : place_in start p ≢ window → Inside start p
  place_inside d = elim place-or [ inl i ↦ i | inr e ↦ absurd (d e) ]

-- ---- the place that code finds

module _ (start p : ℕ) {o : Option ℕ} (e : o ≡ placed start p) where
  pub placed_some : {k : ℕ} → o ≡ Some k → (start ≤ p) × (p ≡ start + k) × (k < window) × (place_in start p ≡ k)
  unfolding placed place_in
  placed_some {k} f =
      let s = cond_some (leb start p && ltb p (start + window)) (p - start) k (sym e ∙ f) in
      let b = and-true (leb start p) (ltb p (start + window)) s.0 in
      let low : start ≤ p = leb-true _ _ b.0 in
      let high : p < start + window = ltb-true _ _ b.1 in
      (low, omega (arith, s.1), omega (arith, s.1), rw s.0 s.1)

  pub placed_none : o ≡ None → place_in start p ≡ window
  unfolding placed place_in
  placed_none f = elim (test (leb start p && ltb p (start + window))) [
    | inl t ↦ absurd (none-some (p - start) (sym f ∙ e ∙ rw t))
    | inr t ↦ rw t
  ]
