-- The walks of one and of two links. Assumes nothing.
use mathlib.Core.Bool.{◌&&◌}
use mathlib.Core.List.{[], List, map, ◌∷◌}
use mathlib.Core.Logic.{inl, inr, ◌≢◌}
use mathlib.Core.Path.{ap, refl, ◌∙◌, ◌≡◌}
use Prim.Native.Nat.{ℕ}
use borrow.Author.Tests.{ne_eqb}
use Rattle.arith.proofs.Filter.{cons_if_cond}
use Rattle.arith.proofs.Members.{concat_ext}
use Rattle.arith.proofs.Range.{concat_once, times}
use Rattle.arith.proofs.Tests.{eqb_same, test}
use Rattle.arith.specs.Lists.{concat_map, cons_if, filter}
use Rattle.ego.specs.Graph.{Graph, walks}

pub walks_none : (g : Graph) (h : List ℕ) (u v : ℕ) → u ≢ v → walks g h 0 u v ≡ []
unfolding walks
walks_none g h u v n = rw (ne_eqb u v n)

two : (g : Graph) (u v : ℕ) (h : List ℕ) → concat_map (λ w. map (λ l. u ∷ l) (cons_if (g w v) (w ∷ v ∷ []) [])) (filter (g u) h) ≡ map
    (λ w. u ∷ w ∷ v ∷ []) (filter (λ w. g u w && g w v) h)
two g u v [] = refl
two g u v (x ∷ xs) =
    elim (test (g u x)) [
      | inl e ↦ elim (test (g x v)) [ inl d ↦ rw (e, d, two g u v xs) | inr d ↦ rw (e, d) (two g u v xs) ]
      | inr e ↦ rw e (two g u v xs)
    ]

module _ (g : Graph) (h : List ℕ) (v : ℕ) (once : times v h ≡ 1) where
  pub walks_one : (w : ℕ) → walks g h 1 w v ≡ cons_if (g w v) (w ∷ v ∷ []) []
  unfolding walks
  walks_one w = concat_once (λ x. map (λ l. w ∷ l) (walks g h 0 x v)) v (λ x n. rw (ne_eqb x v n) refl) (g w) h once
      ∙ rw (eqb_same v) (cons_if_cond (g w v) (w ∷ v ∷ []))

  pub walks_two : (u : ℕ) → walks g h 2 u v ≡ map (λ w. u ∷ w ∷ v ∷ []) (filter (λ w. g u w && g w v) h)
  walks_two u = unfold walks in (concat_ext (filter (g u) h) (λ w. ap (map (λ l. u ∷ l)) (walks_one w)) ∙ two g u v h)
