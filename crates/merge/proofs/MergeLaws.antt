-- Reconcile leaves the merged graph: each pair as the editor who changed it left it, otherwise as in the common original. Assumes nothing.
use mathlib.Core.Bool.{◌&&◌, Bool, beq, cond, false, not, true, true≢false}
use mathlib.Core.List.{List}
use mathlib.Core.Logic.{inl, inr}
use mathlib.Core.Path.{ap, refl, sym, ◌∙◌, ◌≡◌}
use Prim.Native.Nat.{◌+◌, ◌<◌, ℕ, ◌≤◌}
use native.Mathlib.Omega.{arith}
use lib.ListN.{length}
use Rattle.arith.proofs.Tests.{and-true, test}
use Rattle.arith.specs.Rank.{before}
use Rattle.ego.proofs.Agreement.{Agree}
use Rattle.ego.proofs.FoundLaws.{simple_edges}
use Rattle.ego.proofs.WithPair.{pair_is}
use Rattle.ego.proofs.Within.{Within}
use Rattle.ego.specs.Change.{with_pair}
use Rattle.ego.specs.Graph.{Graph, Simple}
use Rattle.merge.proofs.PairOrder.{halfway, halfway_within, over_pairs_lem, over_same, over_some}
use Rattle.merge.proofs.StepLaws.{taken_was}
use Rattle.merge.specs.Reconcile.{adding, merged, over_pairs, over_row, reconcile_call, reconcile_conditions, reconciled, removing, takes}
use Rattle.merge.specs.Inside.Steps.{stepped}
use Rattle.packed.specs.Bits.{differ}
use Rattle.packed.specs.Edges.{edge}
use Rattle.packed.specs.Pairs.{pair_count}
use Rattle.calls.proofs.AcceptLaws.{lengths_fit, outcome_accepted, outcome_refusal}
use Rattle.edits.proofs.NamedLaws.{Named}
use Rattle.state.proofs.CrowdedLaws.{after_agree, before_agree}
use Rattle.state.proofs.RefusalLaws.{Fitted}
use Rattle.edits.proofs.Sound.{added_shows, added_sound, removed_shows, removed_sound, Shows, shows_agree, shows_symmetric, Sound, sound_agree}
use Rattle.edits.specs.Edit.{added, removed}
use Rattle.state.specs.Refusal.{everyone, refusal}
use Rattle.state.specs.State.{graph, size, State}

-- ---- one pair: theirs, the original, mine

-- mine without the pairs that are taken from it
abbrev less : Bool → Bool → Bool → Bool
less t o m = cond (differ t o && differ t m && not t) false m

-- whether a pair is added is the same once the removals are made
addition_same : (t o m : Bool) → (differ t o && differ t (less t o m) && beq t true) ≡ (differ t o && differ t m && t)
addition_same true true m = refl
addition_same true false true = refl
addition_same true false false = refl
addition_same false true true = refl
addition_same false true false = refl
addition_same false false m = refl

beq_false : (t : Bool) → beq t false ≡ not t
beq_false true = refl
beq_false false = refl

-- taking where theirs differs from both is taking where it differs from the original
taken : (t o m : Bool) → cond (differ t o && differ t m) t m ≡ cond (differ t o) t m
taken true true m = refl
taken true false true = refl
taken true false false = refl
taken false true true = refl
taken false true false = refl
taken false false m = refl

-- the editor who changed the pair decides, otherwise the original stands
pub decides : (t o m : Bool) → cond (differ t o) t m ≡ cond (differ t o) t (cond (differ m o) m o)
decides t true true = refl
decides t true false = refl
decides t false true = refl
decides t false false = refl

-- ---- the graphs

pub merged_is : (mine theirs base : Graph) (a b : ℕ) → merged mine theirs base a b ≡ cond (differ (theirs a b) (base a b)) (theirs a b) (mine a b)
unfolding merged takes
merged_is mine theirs base a b = taken (theirs a b) (base a b) (mine a b)

-- mine without the pairs that are removed
unfoldable pub thinned : Graph → Graph → Graph → Graph
thinned mine theirs base a b = cond (takes mine theirs base a b && not (theirs a b)) false (mine a b)

-- what a change of a pair that is named keeps of a state and the graph that it shows
pub record KeptByChange (n : ℕ) (P : Graph → State → Type 0) : Type 0 where
  pub agree : (g g' : Graph) (s : State) → Agree n g g' → P g s → P g' s
  pub shows : (g : Graph) (s : State) → P g s → Shows n g s
  pub adds : (g : Graph) (s : State) (a b : ℕ) → Named n g a b false → P g s → P (with_pair g a b true) (added s a b)
  pub removes : (g : Graph) (s : State) (a b : ℕ) → Named n g a b true → P g s → P (with_pair g a b false) (removed s a b)

pub shows_kept : (n : ℕ) → KeptByChange n (Shows n)
shows_kept n = record {
  agree = λ g g' s. shows_agree;
  shows = λ g s h. h;
  adds = λ g s a b. added_shows a b;
  removes = λ g s a b. removed_shows a b;
}

sound_kept : (n : ℕ) → KeptByChange n (Sound n)
sound_kept n = record {
  agree = λ g g' s. sound_agree;
  shows = λ g s h. h.shows;
  adds = λ g s a b. added_sound a b;
  removes = λ g s a b. removed_sound a b;
}

module _ (mine theirs base : Graph) where
  -- the additions where `on`, the removals elsewhere: the graph before them, the graph after them, and the change at a pair
  abbrev pub old : Bool → Graph
  old true = thinned mine theirs base
  old false = mine

  abbrev pub new : Bool → Graph
  new true = merged mine theirs base
  new false = thinned mine theirs base

  abbrev pub taking : Bool → ℕ → ℕ → State → State
  taking true = adding mine theirs base
  taking false = removing mine theirs base

  -- whether a pair is added, or removed; before that it was not there, or was
  abbrev pub chosen : Bool → Graph
  chosen true a b = takes mine theirs base a b && theirs a b
  chosen false a b = takes mine theirs base a b && not (theirs a b)

  pub chosen_was : (on : Bool) (a b : ℕ) → chosen on a b ≡ true → old on a b ≡ not on
  unfolding thinned
  chosen_was true a b q =
      let r = and-true (takes mine theirs base a b) (theirs a b) q in
      rw (r.0, r.1) ((taken_was mine theirs base a b r.0).1 ∙ ap not r.1)
  chosen_was false a b q = let r = and-true (takes mine theirs base a b) (not (theirs a b)) q in (taken_was mine theirs base a b r.0).1 ∙ r.1

  -- a pair that is added is there after the additions, and another is as before them
  addition_is_there : (a b : ℕ) → chosen true a b ≡ true → merged mine theirs base a b ≡ true
  unfolding merged
  addition_is_there a b q = let r = and-true (takes mine theirs base a b) (theirs a b) q in rw r.0 r.1

  no_addition_is : (a b : ℕ) → chosen true a b ≡ false → merged mine theirs base a b ≡ thinned mine theirs base a b
  unfolding merged thinned
  no_addition_is a b q = elim (test (takes mine theirs base a b)) [ inl t ↦ let u : theirs a b ≡ false = rw t at q in rw (t, u) | inr t ↦ rw t ]

  -- each graph on the way lies within mine during the removals, and within the merged graph during the additions
  abbrev pub cover : Bool → Graph
  cover true = merged mine theirs base
  cover false = mine

  pub way_within : (n : ℕ) (on : Bool) (i : ℕ) → Within n (halfway (new on) (old on) i) (cover on)
  unfolding thinned
  way_within n true i = halfway_within i (λ a b ha hb t. t) (λ a b ha hb t. elim (test (chosen true a b)) [
    | inl q ↦ addition_is_there a b q
    | inr q ↦ no_addition_is a b q ∙ t
  ])
  way_within n false i = halfway_within i (λ a b ha hb t. elim (test (chosen false a b)) [
    | inl q ↦ absurd (true≢false (sym (rw q at t)))
    | inr q ↦ rw q at t
  ]) (λ a b ha hb t. t)

  module _ (m : Simple mine) (t : Simple theirs) (o : Simple base) where
    thinned_simple : Simple (thinned mine theirs base)
    unfolding thinned takes
    thinned_simple = record {
      symmetric = λ a b. rw (m.symmetric a b, t.symmetric a b, o.symmetric a b);
      loopless = λ a. rw (m.loopless a, t.loopless a, o.loopless a);
    }

    pub merged_simple : Simple (merged mine theirs base)
    unfolding merged takes
    merged_simple = record {
      symmetric = λ a b. rw (m.symmetric a b, t.symmetric a b, o.symmetric a b);
      loopless = λ a. rw (m.loopless a, t.loopless a, o.loopless a);
    }

    old_simple : (on : Bool) → Simple (old on)
    old_simple true = thinned_simple
    old_simple false = m

    new_simple : (on : Bool) → Simple (new on)
    new_simple true = merged_simple
    new_simple false = thinned_simple

  -- ---- the state

  module _ (n : ℕ) (P : Graph → State → Type 0) (k : KeptByChange n P) where
    -- the pair set as it stands
    stays : (g : Graph) (s : State) (a b : ℕ) → a < n → b < n → (on : Bool) → g a b ≡ on → P g s → P (with_pair g a b on) s
    stays g s a b ha hb on e p =
        k.agree g (with_pair g a b on) s
        (λ x y hx hy. pair_is g g a b on x y (λ q r. rw (q, r) e) (λ q r. rw (q, r) (shows_symmetric (k.shows g s p) b a hb ha ∙ e)) (λ q r. refl)) p

    pair_done : (on : Bool) (a b : ℕ) → a < b → b < n → (g : Graph) (s : State) → g a b ≡ old on a b → P g s → P (with_pair g a b (new on a b)) (taking on a b s)
    unfolding thinned
    pair_done true a b h l g s e p = elim (test (takes mine theirs base a b && theirs a b)) [
      | inl q ↦ rw (q, addition_is_there a b q)
          (k.adds g s a b (record { first = omega arith; second = l; two = λ z. omega arith; was = e ∙ chosen_was true a b q }) p)
      | inr q ↦ rw (q, no_addition_is a b q) (stays g s a b (omega arith) l _ e p)
    ]
    pair_done false a b h l g s e p = elim (test (takes mine theirs base a b && not (theirs a b))) [
      | inl q ↦ rw q
          (k.removes g s a b (record { first = omega arith; second = l; two = λ z. omega arith; was = e ∙ chosen_was false a b q }) p)
      | inr q ↦ rw q (stays g s a b (omega arith) l (mine a b) e p)
    ]

    -- the pair decided from the state that the loops stand at
    same : (on : Bool) (a b : ℕ) → a < b → b < n → (g : Graph) (s : State) → g a b ≡ old on a b → P g s → stepped on theirs base a b s ≡ taking on a b s
    unfolding stepped thinned takes
    same true a b h l g s e p = rw ((k.shows g s p).links a b (omega arith) l ∙ e, addition_same (theirs a b) (base a b) (mine a b))
    same false a b h l g s e p = rw ((k.shows g s p).links a b (omega arith) l ∙ e, beq_false (theirs a b))

    module _ (m : Simple mine) (t : Simple theirs) (o : Simple base) where
      pub all_done : (on : Bool) (s : State) → P (old on) s → P (new on) (over_pairs (taking on) n s)
      all_done on = over_pairs_lem (new on) (old on) (new_simple m t o on) (old_simple m t o on) n P k.agree (taking on) (pair_done on)

      pub all_same : (on : Bool) (s : State) → P (old on) s → over_pairs (stepped on theirs base) n s ≡ over_pairs (taking on) n s
      all_same on =
          over_same (new on) (old on) (new_simple m t o on) (old_simple m t o on) n P k.agree (taking on) (pair_done on) (stepped on theirs base) (same on)

      -- on the way, after the rows before b and the first a pairs of b
      pub some_done : (on : Bool) (a b : ℕ) (s : State) → a ≤ b → b < n → P (old on) s
          → P (halfway (new on) (old on) (pair_count b + a)) (over_row (taking on) b a (over_pairs (taking on) b s))
      some_done on = over_some (new on) (old on) (new_simple m t o on) (old_simple m t o on) n P k.agree (taking on) (pair_done on)

      module _ (s : State) (p : P mine s) where
        merges : P (merged mine theirs base) (over_pairs (adding mine theirs base) n (over_pairs (removing mine theirs base) n s))
        merges = all_done true _ (all_done false s p)

        steps_same : over_pairs (stepped true theirs base) n (over_pairs (stepped false theirs base) n s)
            ≡ over_pairs (adding mine theirs base) n (over_pairs (removing mine theirs base) n s)
        steps_same = ap (over_pairs (stepped true theirs base) n) (all_same false s p) ∙ all_same true _ (all_done false s p)

module _ (s : State) (theirs base : List ℕ) where
  abbrev result : Graph
  result = merged (graph s) (edge theirs) (edge base)

  -- the loops, which decide each pair from the state they stand at, leave what the definition leaves
  pub steps_reconcile : {t u : State} → Fitted (size s) (length s.edges) (length s.marks)
      → u ≡ over_pairs (stepped false (edge theirs) (edge base)) (size s) s → size u ≡ size s
      → t ≡ over_pairs (stepped true (edge theirs) (edge base)) (size u) u → t ≡ reconciled s theirs base
  unfolding reconciled
  steps_reconcile {u = u} f d k e =
      e ∙ ap (λ n. over_pairs (stepped true (edge theirs) (edge base)) n u) k ∙ ap (over_pairs (stepped true (edge theirs) (edge base)) (size s)) d
      ∙ steps_same (graph s) (edge theirs) (edge base) (size s) (Shows (size s)) (shows_kept (size s))
      (simple_edges s.edges) (simple_edges theirs) (simple_edges base) s (record { nodes = refl; fits = f; links = λ x y hx hy. refl })

  pub reconciled_shows : Shows (size s) (graph s) s → Shows (size s) result (reconciled s theirs base)
  unfolding reconciled
  reconciled_shows =
      merges (graph s) (edge theirs) (edge base) (size s) (Shows (size s)) (shows_kept (size s))
      (simple_edges s.edges) (simple_edges theirs) (simple_edges base) s

  pub reconciled_sound : Sound (size s) (graph s) s → Sound (size s) result (reconciled s theirs base)
  unfolding reconciled
  reconciled_sound =
      merges (graph s) (edge theirs) (edge base) (size s) (Sound (size s)) (sound_kept (size s))
      (simple_edges s.edges) (simple_edges theirs) (simple_edges base) s

  -- AFTER AN ACCEPTED CALL each pair is as the editor who changed it left it, otherwise as in the common original.
  pub pair_stands : (reconcile_call s theirs base).refusal ≡ 0 → (a b : ℕ) → a < size s → b < size s
      → graph (reconcile_call s theirs base).after a b
      ≡ cond (differ (edge theirs a b) (edge base a b)) (edge theirs a b) (cond (differ (graph s a b) (edge base a b)) (graph s a b) (edge base a b))
  unfolding reconcile_call
  pair_stands e a b ha hb =
      let z = sym (outcome_refusal _ s (reconciled s theirs base)) ∙ e in
      let h = reconciled_shows (record { nodes = refl; fits = lengths_fit s _ z; links = λ x y hx hy. refl }) in
      rw (outcome_accepted _ s (reconciled s theirs base) z)
      (h.links a b ha hb ∙ merged_is (graph s) (edge theirs) (edge base) a b ∙ decides (edge theirs a b) (edge base a b) (graph s a b))

-- whether a reconcile turns back depends on the edges below n alone
pub reconcile_agree : (n : ℕ) (g g' h h' : Graph) (theirs base : List ℕ) → Agree n g g' → Agree n h h'
    → refusal (reconcile_conditions n g h theirs base) ≡ refusal (reconcile_conditions n g' h' theirs base)
reconcile_agree n g g' h h' theirs base before after =
    rw (before_agree n g g' everyone everyone before (λ p l. refl), after_agree n h h' everyone everyone after (λ p l. refl))
