-- How the call ends: which condition turns it back, and what an accepted call knows. Assumes nothing.
use mathlib.Core.Bool.{false, true}
use mathlib.Core.List.{◌++◌, [], List, map, ◌∷◌}
use mathlib.Core.Logic.{inl, inr}
use mathlib.Core.Path.{ap, refl, sym, ◌∙◌, ◌≡◌}
use Prim.Native.Nat.{◌<◌, ℕ}
use native.Mathlib.Decide.{dec_lt}
use native.Mathlib.Omega.{arith}
use borrow.Author.Tests.{ne_eqb}
use lib.Dec.{eqb, ltb}
use lib.ListN.{get_or, length}
use Rattle.arith.proofs.Tests.{test}
use Rattle.packed.specs.Edges.{edge}
use Rattle.state.proofs.RefusalLaws.{append_none, append_refused, passed_before, passed_node, refusal_none, refused_before, refused_node, Sized, sized-append, sized_by}
use Rattle.state.specs.Outcome.{edge_lengths}
use Rattle.state.specs.Refusal.{Condition, crowded_before, everyone, node_number, refusal, too_many}
use Rattle.nearest.proofs.ListedLaws.{numbers_each, numbers_passed}
use Rattle.nearest.specs.Nearest.{answer_of, fewest_links, nearest_call, nearest_conditions, nearest_of, numbers_of}
use Rattle.nearest.specs.declared.search.Near.{Near}
use Rattle.state.specs.Answers.{Found, found, Refused}
use Rattle.std.proofs.Common.{Ok, Option}

-- what a search answers as what is found
pub as_found : {x y : Option Near} → x ≡ y → found (Ok x) ≡ found (Ok y)
as_found e = ap (λ (o : Option Near). found (Ok o)) e

module _ (edges : List ℕ) (n p : ℕ) (listed : List ℕ) (limit : ℕ) where
  pub refused_is : {r : ℕ} → r ≡ refusal (nearest_conditions edges n p listed) → (r ≡ 0 → ⊥) → Refused r ≡ nearest_call edges n p listed limit
  unfolding nearest_call
  refused_is {r} e d = rw (← e, ne_eqb r 0 d)

  pub accepted_is : {x : Found Near} → refusal (nearest_conditions edges n p listed) ≡ 0 → x ≡ found (Ok (nearest_of (edge edges) n p listed limit))
      → x ≡ nearest_call edges n p listed limit
  unfolding nearest_call
  accepted_is z e = rw z e

  numbers_are : numbers_of (nearest_call edges n p listed limit) ≡ answer_of edges n p listed limit
  unfolding nearest_call nearest_of answer_of numbers_of
  numbers_are = elim (test (eqb (refusal (nearest_conditions edges n p listed)) 0)) [
    | inl t ↦ rw t (elim (test (ltb limit (fewest_links (edge edges) n p listed limit))) [ inl l ↦ rw l | inr l ↦ rw l ])
    | inr t ↦ rw t
  ]

  -- the answer, with its numbers
  pub answered_by : {x : Found Near} → x ≡ nearest_call edges n p listed limit
      → (x ≡ nearest_call edges n p listed limit) × (numbers_of x ≡ answer_of edges n p listed limit)
  answered_by e = (e, ap numbers_of e ∙ numbers_are)

-- ---- the conditions, in order

module _ (edges : List ℕ) (n p : ℕ) (listed : List ℕ) where
  abbrev nodes : List Condition
  nodes = node_number n p ∷ map (node_number n) listed

  abbrev crowded : List Condition
  crowded = crowded_before (edge edges) n everyone ∷ []

  -- 1 and 2
  pub edges_refused : (limit : ℕ) {r : ℕ} → r ≡ refusal (edge_lengths n (length edges)) → (r ≡ 0 → ⊥) → Refused r ≡ nearest_call edges n p listed limit
  edges_refused limit e d = refused_is edges n p listed limit (sym (append_refused (edge_lengths n (length edges)) _ (sym e) d)) d

  module _ (s : Sized n (length edges)) where
    -- 4
    pub nodes_refused : (limit : ℕ) {r : ℕ} → r ≡ refusal nodes → (r ≡ 0 → ⊥) → Refused r ≡ nearest_call edges n p listed limit
    nodes_refused limit e d = refused_is edges n p listed limit (sym (sized-append n (length edges) _ s ∙ append_refused nodes crowded (sym e) d)) d

    module _ (z : refusal nodes ≡ 0) where
      pub node_inside : p < n
      node_inside = elim (dec_lt p n) [ yes h ↦ h | no h ↦ absurd (let e : ⊥ = omega (arith, refused_node (map (node_number n) listed) n p (omega arith)) in e) ]

      pub listed_inside : (i : ℕ) → i < length listed → get_or listed i 0 < n
      listed_inside = numbers_each n listed (sym (passed_node (map (node_number n) listed) n p node_inside) ∙ z)

      rest : refusal (nearest_conditions edges n p listed) ≡ refusal crowded
      rest = sized-append n (length edges) _ s ∙ passed_node _ n p node_inside ∙ numbers_passed n listed crowded listed_inside

      -- 11
      pub crowded_refused : (limit : ℕ) → too_many (edge edges) n everyone ≡ true → Refused 11 ≡ nearest_call edges n p listed limit
      crowded_refused limit t = refused_is edges n p listed limit (sym (rest ∙ refused_before [] (edge edges) n everyone t)) (λ e. omega arith)

      pub accepted : too_many (edge edges) n everyone ≡ false → refusal (nearest_conditions edges n p listed) ≡ 0
      accepted t = rest ∙ passed_before [] (edge edges) n everyone t ∙ refusal_none

  -- what a call that is not refused knows
  pub accepted_knows : refusal (nearest_conditions edges n p listed) ≡ 0 → Sized n (length edges) × (p < n)
  accepted_knows z =
      let s = sized_by refl (append_none (edge_lengths n (length edges)) (nodes ++ crowded) z) in
      (s, node_inside s (append_none nodes crowded (sym (sized-append n (length edges) (nodes ++ crowded) s) ∙ z)))
