-- EVERY GRAPH ON THE WAY of an accepted reconcile keeps to the limit: during the removals it lies within mine, during the additions within the
-- merged graph. Assumes nothing.
use mathlib.Core.Bool.{◌&&◌, Bool, cond, false, not, true, ◌||◌}
use mathlib.Core.List.{List}
use mathlib.Core.Path.{refl, sym, ◌∙◌, ◌≡◌}
use Prim.Native.Nat.{◌+◌, ◌<◌, ℕ, ◌≤◌}
use native.Mathlib.Nat.{le_trans}
use native.Mathlib.Omega.{arith}
use borrow.Author.Tests.{eqb-true, not-false}
use lib.ListN.{length}
use Rattle.ego.proofs.FoundLaws.{simple_edges}
use Rattle.ego.proofs.Within.{Within, within_agree, within_degree}
use Rattle.packed.specs.Bits.{differ}
use Rattle.packed.specs.Edges.{edge}
use Rattle.packed.specs.Pairs.{pair_count}
use Rattle.state.proofs.LimitLaws.{few_each, within_few}
use Rattle.state.proofs.RefusalLaws.{Fitted, sized_room}
use Rattle.state.specs.Refusal.{buffer_length, crowded_after, crowded_before, everyone, refusal, too_many}
use Rattle.state.specs.Sizes.{edge_bytes}
use Rattle.state.specs.State.{graph, size, State}
use Rattle.calls.proofs.AcceptLaws.{lengths_fit, lengths_pass, outcome_refusal, passes}
use Rattle.edits.proofs.Sound.{Shows}
use Rattle.merge.proofs.MergeLaws.{all_done, all_same, cover, new, old, shows_kept, some_done, taking, thinned, way_within}
use Rattle.merge.proofs.PairOrder.{halfway}
use Rattle.merge.specs.Reconcile.{merged, over_pairs, over_row, reconcile_call, reconciled, removing, takes}
use Rattle.merge.specs.Inside.Steps.{cap, merge_conditions, Ready, stepped}

pub or_none : (x : Bool) → (x || false) ≡ true → x ≡ true
or_none true e = refl
or_none false e = e

come_within : (t o m : Bool) → (cond (differ t o && differ t m && not t) false m || (t && differ t o)) ≡ true → cond (differ t o && differ t m) t m ≡ true
come_within true true m e = or_none m e
come_within true false true e = refl
come_within true false false e = refl
come_within false true true e = e
come_within false true false e = e
come_within false false m e = or_none m e

module _ (s : State) (theirs base : List ℕ) where
  -- the state before the removals, and before the additions
  abbrev pub way_start : Bool → State
  way_start false = s
  way_start true = over_pairs (removing (graph s) (edge theirs) (edge base)) (size s) s

  -- the state on the way, after the rows before b and the first a pairs of b
  abbrev pub way_state : Bool → ℕ → ℕ → State
  way_state on b a = over_row (taking (graph s) (edge theirs) (edge base) on) b a (over_pairs (taking (graph s) (edge theirs) (edge base) on) b (way_start on))

  module _ (f : Fitted (size s) (length s.edges) (length s.marks)) where
    begins : Shows (size s) (graph s) s
    begins = record { nodes = refl; fits = f; links = λ x y hx hy. refl }

    pub way_start_shows : (on : Bool) → Shows (size s) (old (graph s) (edge theirs) (edge base) on) (way_start on)
    way_start_shows false = begins
    way_start_shows true =
        all_done (graph s) (edge theirs) (edge base) (size s) (Shows (size s)) (shows_kept (size s))
        (simple_edges s.edges) (simple_edges theirs) (simple_edges base) false s begins

    module _ (on : Bool) (a b : ℕ) (h : a ≤ b) (l : b < size s) where
      pub way_shows : Shows (size s)
          (halfway (new (graph s) (edge theirs) (edge base) on) (old (graph s) (edge theirs) (edge base) on) (pair_count b + a)) (way_state on b a)
      way_shows =
          some_done (graph s) (edge theirs) (edge base) (size s) (Shows (size s)) (shows_kept (size s))
          (simple_edges s.edges) (simple_edges theirs) (simple_edges base) on a b (way_start on) h l (way_start_shows on)

      pub way_lies : Within (size s) (graph (way_state on b a)) (cover (graph s) (edge theirs) (edge base) on)
      way_lies = within_agree way_shows.links (way_within (graph s) (edge theirs) (edge base) (size s) on (pair_count b + a))

      pub way_few : (which : ℕ → Bool) → too_many (cover (graph s) (edge theirs) (edge base) on) (size s) everyone ≡ false
          → too_many (graph (way_state on b a)) (size s) which ≡ false
      way_few which e = within_few (size s) (graph (way_state on b a)) (cover (graph s) (edge theirs) (edge base) on) which way_lies e

    -- the loops, which decide each pair from the state they stand at, start their additions at that state
    pub way_start_stepped : over_pairs (stepped false (edge theirs) (edge base)) (size s) s ≡ way_start true
    way_start_stepped =
        all_same (graph s) (edge theirs) (edge base) (size s) (Shows (size s)) (shows_kept (size s))
        (simple_edges s.edges) (simple_edges theirs) (simple_edges base) false s begins

    -- what is still to come lies within the same
    start_within : (on : Bool) → Within (size s) (cap on (edge theirs) (edge base) (graph (way_start on))) (cover (graph s) (edge theirs) (edge base) on)
    unfolding cap thinned merged takes
    start_within true x y hx hy q =
        come_within (edge theirs x y) (edge base x y) (graph s x y) (rw ((way_start_shows true).links x y hx hy) at q)
    start_within false x y hx hy q = or_none (graph s x y) q

  -- ---- what an accepted reconcile knows: its lengths fit, and by 11 and 12 neither mine nor the merged graph has a node with too many edges

  module _ (z : refusal (merge_conditions (size s) s.edges theirs base) ≡ 0) where
    reconcile_accepted : (length theirs ≡ edge_bytes (size s)) × (length base ≡ edge_bytes (size s))
        × ((on : Bool) → too_many (cover (graph s) (edge theirs) (edge base) on) (size s) everyone ≡ false)
    unfolding buffer_length crowded_before crowded_after
    reconcile_accepted =
        let g = graph s in
        let g' = merged (graph s) (edge theirs) (edge base) in
        let n = size s in
        let c = passes (buffer_length (edge_bytes n) (length theirs)) _ (λ e. omega arith) z in
        let d = passes (buffer_length (edge_bytes n) (length base)) _ (λ e. omega arith) c.1 in
        let before = passes (crowded_before g n everyone) _ (λ e. omega arith) d.1 in
        let after = passes (crowded_after g' n everyone) _ (λ e. omega arith) before.1 in (
          eqb-true _ _ (not-false _ c.0),
          eqb-true _ _ (not-false _ d.0),
          λ on. elim on as (λ k. too_many (cover g (edge theirs) (edge base) k) n everyone ≡ false) [ true ↦ after.0 | false ↦ before.0 ],
        )

    -- what the loops need at the state before the removals, and before the additions
    ready_way : Fitted (size s) (length s.edges) (length s.marks) → (on : Bool) {t : State}
        → t ≡ way_start on → Ready on theirs base t
    ready_way f on e =
        let w = way_start_shows f on in
        let n = w.nodes in
        let few = f.sizes.few in
        rw e (record {
          room = rw n (sized_room w.fits.sizes);
          marked = rw n (omega (arith, w.fits.marks_fit));
          theirs_room = rw n (record { few = few; bits = omega (arith, reconcile_accepted.0) });
          base_room = rw n (record { few = few; bits = omega (arith, reconcile_accepted.1) });
          capped = λ p h. rw n
              (le_trans (within_degree (start_within f on) p (omega (arith, n))) (few_each _ (size s) (reconcile_accepted.2 on) p (omega (arith, n))));
        })

  module _ (z : (reconcile_call s theirs base).refusal ≡ 0) where
    pub fits : Fitted (size s) (length s.edges) (length s.marks)
    unfolding reconcile_call
    fits = lengths_fit s _ (sym (outcome_refusal _ s (reconciled s theirs base)) ∙ z)

    tested : refusal (merge_conditions (size s) s.edges theirs base) ≡ 0
    unfolding reconcile_call
    tested = sym (lengths_pass s _ fits) ∙ sym (outcome_refusal _ s (reconciled s theirs base)) ∙ z

    pub ready : (on : Bool) {t : State} → t ≡ way_start on → Ready on theirs base t
    ready on e = ready_way tested fits on e

    -- SO ON THE WAY no node has too many edges
    pub on_the_way : (on : Bool) (a b : ℕ) → a ≤ b → b < size s → (which : ℕ → Bool) → too_many (graph (way_state on b a)) (size s) which ≡ false
    on_the_way on a b h l which = way_few fits on a b h l which ((reconcile_accepted tested).2 on)
