-- The listed nodes: refusal 4 of each, and which nodes are listed, place by place. Assumes nothing.
use mathlib.Core.Bool.{cond, false, ◌||◌}
use mathlib.Core.List.{◌++◌, [], List, map, ◌∷◌}
use mathlib.Core.Path.{ap, refl, sym, ◌∙◌, ◌≡◌}
use Prim.Native.Nat.{◌+◌, ◌<◌, suc, suc-le-suc, zero, ℕ, ◌≤◌}
use native.Mathlib.Decide.{dec_lt}
use native.Mathlib.Nat.{le_antisymm}
use native.Mathlib.Numerals.{add-one}
use native.Mathlib.Omega.{arith}
use lib.Dec.{eqb, leb}
use mathlib.Core.Logic.{inl, inr}
use Rattle.std.specs.List.{list_any}
use lib.ListN.{get_or, length}
use Rattle.arith.proofs.Places.{elem_places}
use Rattle.arith.proofs.Sums.{any_to_none}
use Rattle.arith.proofs.Tests.{eqb_turned, test}
use Rattle.arith.specs.Lists.{elem}
use Rattle.arith.specs.Sums.{any_to}
use Rattle.state.proofs.RefusalLaws.{passed_node, refused_node}
use Rattle.state.specs.Refusal.{Condition, node_number, refusal}
use Rattle.nearest.proofs.SetLaws.{set_ext}
use Rattle.nearest.specs.Inside.Strips.{in_strips, SetOf}

module _ (n : ℕ) where
  abbrev Nodes : List ℕ → Type 0
  Nodes l = (i : ℕ) → i < length l → get_or l i 0 < n

  pub numbers_passed : (l : List ℕ) (cs : List Condition) → Nodes l → refusal (map (node_number n) l ++ cs) ≡ refusal cs
  numbers_passed [] cs h = refl
  numbers_passed (x ∷ l) cs h = passed_node (map (node_number n) l ++ cs) n x (h 0 (omega arith)) ∙ numbers_passed l cs (λ i b. h (suc i) (suc-le-suc b))

  pub numbers_refused : (l : List ℕ) (i : ℕ) → i < length l → n ≤ get_or l i 0 → refusal (map (node_number n) l) ≡ 4
  numbers_refused [] i b a = absurd (let z : ⊥ = omega arith in z)
  numbers_refused (x ∷ l) zero b a = refused_node (map (node_number n) l) n x a
  numbers_refused (x ∷ l) (suc i) b a = elim (dec_lt x n) [
    | yes h ↦ passed_node (map (node_number n) l) n x h ∙ numbers_refused l i (omega arith) a
    | no h ↦ refused_node (map (node_number n) l) n x (omega arith)
  ]

  -- one of them is none
  pub numbers_any : (l : List ℕ) → refusal (map (node_number n) l) ≡ cond (list_any (leb n) l) 4 0
  unfolding refusal node_number
  numbers_any [] = refl
  numbers_any (x ∷ l) = elim (test (leb n x)) [ inl t ↦ rw t | inr t ↦ rw t (numbers_any l) ]

  pub numbers_each : (l : List ℕ) → refusal (map (node_number n) l) ≡ 0 → Nodes l
  numbers_each l z i b = elim (dec_lt (get_or l i 0) n) [ yes h ↦ h | no h ↦ absurd (let e : ⊥ = omega (arith, numbers_refused l i b (omega arith)) in e) ]

-- ---- the list as a set, after its first i places

module _ (l : List ℕ) {s : List ℕ} where
  pub listed_none : SetOf s (λ q. false) → SetOf s (λ q. any_to (λ j. eqb (get_or l j 0) q) 0)
  listed_none h = set_ext h (λ q b. sym (any_to_none _))

  module _ (i : ℕ) (h : SetOf s (λ q. any_to (λ j. eqb (get_or l j 0) q) i)) where
    pub listed_more : {r : List ℕ} → SetOf r (λ q. in_strips s q || eqb q (get_or l i 0)) → SetOf r (λ q. any_to (λ j. eqb (get_or l j 0) q) (i + 1))
    unfolding any_to
    listed_more e = set_ext e (λ q b. rw (h.has q b, eqb_turned q (get_or l i 0), add-one i))

    pub listed_all : i ≤ length l → length l ≤ i → SetOf s (λ q. elem q l)
    listed_all a b = set_ext h (λ q c. ap (any_to (λ j. eqb (get_or l j 0) q)) (le_antisymm a b) ∙ sym (elem_places q l))
