-- EACH SINGLE STEP OF AN ACCEPTED RECONCILE is an accepted remove or add. Assumes nothing.
use mathlib.Core.Bool.{Bool, false, not, true}
use mathlib.Core.List.{◌++◌, [], append-nil, List, map, map-append, ◌∷◌}
use mathlib.Core.Logic.{inl, inr}
use mathlib.Core.Path.{ap, refl, subst, sym, ◌∙◌, ◌≡◌}
use Prim.Native.Nat.{◌<◌, suc, zero, ℕ, ◌≤◌}
use native.Mathlib.Nat.{le_refl}
use native.Mathlib.Omega.{arith}
use lib.ListN.{length}
use Rattle.arith.proofs.Filter.{filter-append}
use Rattle.arith.proofs.Tests.{test}
use Rattle.arith.specs.Lists.{filter}
use Rattle.ego.specs.Graph.{Graph}
use Rattle.packed.specs.Edges.{edge, with_edge}
use Rattle.state.proofs.RefusalLaws.{Fitted}
use Rattle.state.specs.Refusal.{ends, too_many, touched}
use Rattle.state.specs.State.{graph, size, State}
use Rattle.calls.proofs.AcceptLaws.{lengths_pass, outcome_accepted, outcome_refusal}
use Rattle.edits.proofs.NamedLaws.{add_passed, Named, remove_passed}
use Rattle.edits.specs.Edit.{add_call, added, edited, remove_call, removed}
use Rattle.merge.proofs.BitOrder.{row_below_more, row_below}
use Rattle.merge.proofs.MergeLaws.{chosen, chosen_was, new, old, taking}
use Rattle.merge.proofs.PairOrder.{halfway_next}
use Rattle.merge.proofs.Way.{fits, on_the_way, way_shows, way_start, way_state}
use Rattle.merge.specs.Reconcile.{over_pairs, over_row, reconcile_call, reconciled}
use Rattle.merge.specs.Single.{Accepts, addition, Change, change_each, changes, make, pairs_below, removal}

accepts_append : (s t u : State) (cs ds : List Change) → Accepts s cs t → Accepts t ds u → Accepts s (cs ++ ds) u
accepts_append s t u [] ds e h = subst (λ x. Accepts x ds u) (sym e) h
accepts_append s t u (c ∷ cs) ds e h = (e.0, accepts_append (make s c).after t u cs ds e.1 h)

-- ---- a walk over the pairs, of which each turn makes its change where the pair is chosen

module _ (choice : Graph) (single : ℕ → ℕ → Change) (change : ℕ → ℕ → State → State) (n : ℕ) (s : State) where
  abbrev picked : List (ℕ × ℕ) → List Change
  picked = change_each single choice

  picked_append : (xs ys : List (ℕ × ℕ)) → picked (xs ++ ys) ≡ picked xs ++ picked ys
  picked_append xs ys =
      ap (map (λ c. single c.0 c.1)) (filter-append (λ c. choice c.0 c.1) xs ys)
      ∙ map-append (λ c. single c.0 c.1) (filter (λ c. choice c.0 c.1) xs) (filter (λ c. choice c.0 c.1) ys)

  module _ (one : (a b : ℕ) → a < b → b < n
      → Accepts (over_row change b a (over_pairs change b s)) (picked ((a, b) ∷ [])) (change a b (over_row change b a (over_pairs change b s)))) where
    row_accepts : (a b : ℕ) → a ≤ b → b < n → Accepts s (picked (pairs_below b)) (over_pairs change b s)
        → Accepts s (picked (pairs_below b ++ row_below b a)) (over_row change b a (over_pairs change b s))
    unfolding over_row
    row_accepts zero b h l e = subst (λ ps. Accepts s (picked ps) (over_pairs change b s)) (sym (append-nil (pairs_below b))) e
    row_accepts (suc a) b h l e =
        let t = over_row change b a (over_pairs change b s) in
        let before = pairs_below b ++ row_below b a in
        subst (λ cs. Accepts s cs (change a b t)) (sym (ap picked (row_below_more b a) ∙ picked_append before ((a, b) ∷ [])))
        (accepts_append s t (change a b t) (picked before) (picked ((a, b) ∷ [])) (row_accepts a b (omega arith) l e) (one a b h l))

    rows_accept : (b : ℕ) → b ≤ n → Accepts s (picked (pairs_below b)) (over_pairs change b s)
    unfolding over_pairs pairs_below
    rows_accept zero h = refl
    rows_accept (suc b) h = row_accepts b b (le_refl b) h (rows_accept b (omega arith))

-- ---- one change, on a state whose nodes keep to the limit

module _ (t : State) {n : ℕ} (e : size t ≡ n) (f : Fitted n (length t.edges) (length t.marks)) (a b : ℕ) where
  removal_made : Named n (graph t) a b true → too_many (graph t) n (touched (graph t) a b) ≡ false → Accepts t (removal a b ∷ []) (removed t a b)
  unfolding make remove_call
  removal_made d h =
      let y = lengths_pass t _ (rw e f) ∙ remove_passed (size t) (graph t) a b (rw e d) (rw e h) in
      (outcome_refusal _ t (removed t a b) ∙ y, outcome_accepted _ t (removed t a b) y)

  addition_made : Named n (graph t) a b false → too_many (graph t) n (touched (graph t) a b) ≡ false
      → too_many (edge (with_edge t.edges a b true)) n (ends a b) ≡ false → Accepts t (addition a b ∷ []) (added t a b)
  unfolding make add_call
  addition_made d h k =
      let y = lengths_pass t _ (rw e f) ∙ add_passed (size t) (graph t) a b (edge (with_edge t.edges a b true)) (rw e d) (rw e h) (rw e k) in
      (outcome_refusal _ t (added t a b) ∙ y, outcome_accepted _ t (added t a b) y)

-- ---- the reconcile

module _ (s : State) (theirs base : List ℕ) (z : (reconcile_call s theirs base).refusal ≡ 0) where
  abbrev single : Bool → ℕ → ℕ → Change
  single true = addition
  single false = removal

  -- the pair that comes next on the way, where it is chosen
  named : (on : Bool) (a b : ℕ) → a < b → b < size s → chosen (graph s) (edge theirs) (edge base) on a b ≡ true
      → Named (size s) (graph (way_state s theirs base on b a)) a b (not on)
  named on a b h l q = record {
    first = omega arith;
    second = l;
    two = λ e. omega arith;
    was = (way_shows s theirs base (fits s theirs base z) on a b (omega arith) l).links a b (omega arith) l
        ∙ halfway_next (new (graph s) (edge theirs) (edge base) on) (old (graph s) (edge theirs) (edge base) on) a b h
        ∙ chosen_was (graph s) (edge theirs) (edge base) on a b q;
  }

  one : (on : Bool) (a b : ℕ) → a < b → b < size s
      → Accepts (way_state s theirs base on b a) (change_each (single on) (chosen (graph s) (edge theirs) (edge base) on) ((a, b) ∷ []))
      (taking (graph s) (edge theirs) (edge base) on a b (way_state s theirs base on b a))
  unfolding over_row added edited
  one true a b h l =
      let t = way_state s theirs base true b a in
      let w = way_shows s theirs base (fits s theirs base z) true a b (omega arith) l in
      elim (test (chosen (graph s) (edge theirs) (edge base) true a b)) [
        | inl q ↦ rw q (addition_made t w.nodes w.fits a b (named true a b h l q)
            (on_the_way s theirs base z true a b (omega arith) l (touched (graph t) a b)) (rw q at (on_the_way s theirs base z true (suc a) b h l (ends a b))))
        | inr q ↦ rw q refl
      ]
  one false a b h l =
      let t = way_state s theirs base false b a in
      let w = way_shows s theirs base (fits s theirs base z) false a b (omega arith) l in
      elim (test (chosen (graph s) (edge theirs) (edge base) false a b)) [
        | inl q ↦ rw q (removal_made t w.nodes w.fits a b (named false a b h l q)
            (on_the_way s theirs base z false a b (omega arith) l (touched (graph t) a b)))
        | inr q ↦ rw q refl
      ]

  abbrev singles : Bool → List Change
  singles on = change_each (single on) (chosen (graph s) (edge theirs) (edge base) on) (pairs_below (size s))

  each : (on : Bool)
      → Accepts (way_start s theirs base on) (singles on) (over_pairs (taking (graph s) (edge theirs) (edge base) on) (size s) (way_start s theirs base on))
  each on =
      rows_accept (chosen (graph s) (edge theirs) (edge base) on) (single on) (taking (graph s) (edge theirs) (edge base) on) (size s)
      (way_start s theirs base on) (one on) (size s) (le_refl (size s))

  -- MADE ONE AFTER THE OTHER, the removals and then the additions in bit order are each accepted, and the last leaves what the reconcile leaves.
  pub single_steps : Accepts s (changes s theirs base) (reconcile_call s theirs base).after
  unfolding changes reconcile_call reconciled
  single_steps =
      rw (outcome_accepted _ s (reconciled s theirs base) (sym (outcome_refusal _ s (reconciled s theirs base)) ∙ z))
      (accepts_append s (way_start s theirs base true) (reconciled s theirs base) (singles false) (singles true) (each false) (each true))
