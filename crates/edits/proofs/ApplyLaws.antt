-- What an edit writes, from the list of the nodes that it touches. Assumes nothing.
use mathlib.Core.Bool.{Bool, cond, false, true}
use mathlib.Core.List.{List}
use mathlib.Core.Logic.{inl, inr}
use mathlib.Core.Path.{ap, refl, sym, ◌∙◌, ◌≡◌}
use Prim.Native.Nat.{◌+◌, ◌<◌, ℕ, ◌≤◌}
use native.Mathlib.Omega.{arith}
use lib.ListN.{get_or, length}
use Rattle.arith.proofs.Tests.{test}
use Rattle.calls.proofs.OutcomeLaws.{accepted_is, state_is}
use Rattle.ego.proofs.Bounds.{bound_most}
use Rattle.arith.specs.Inside.Fill.{padded}
use Rattle.ego.proofs.FoundLaws.{found_degree, found_of}
use Rattle.ego.specs.Bound.{bound}
use Rattle.ego.specs.Inside.Words.{Ascending, first_neighbours}
use Rattle.ego.specs.Limits.{limit}
use Rattle.ego.specs.declared.neighbours.Neighbours.{Neighbours}
use Rattle.packed.specs.Inside.Room.{Room}
use Rattle.packed.specs.Pairs.{max_nodes}
use Rattle.packed.proofs.EdgeLaws.{length_with_edge}
use Rattle.packed.proofs.PairLaws.{room_within}
use Rattle.packed.specs.Inside.Bytes.{Bytes}
use Rattle.packed.specs.Edges.{edge, with_edge}
use Rattle.state.specs.Marks.{mark_bytes}
use Rattle.state.specs.State.{graph, size, state, State}
use Rattle.state.specs.Refusal.{Condition, refusal, touched}
use Rattle.edits.proofs.EditLaws.{changed_is, renewing}
use Rattle.edits.proofs.ListedLaws.{count_two, each_node, listed, listed_ends, listed_touched, lists_by, near_ready, node_below, stale_each_is}
use Rattle.edits.proofs.RenewalLaws.{renew_each_is}
use Rattle.edits.specs.Inside.Change.{Appliable, changed, Editable, renewal_of, Renews, Steppable}
use Rattle.edits.specs.Edit.{edited}
use Rattle.edits.specs.Inside.Renewal.{Renewable, renewal_by, renewed_by}
use Rattle.edits.specs.Inside.Touched.{of_each, stale_each, touched_near}
use Rattle.edits.specs.declared.renewal.Renewal.{Renewal}
use Rattle.std.proofs.Common.{Ok}
use Rattle.edits.specs.declared.touched.Touched.{Touched}

taken_within : (on : Bool) {count : ℕ} → 2 ≤ count → cond on 2 count ≤ count
taken_within true h = h
taken_within false h = omega arith

module _ {es : List ℕ} {n a b : ℕ} {on : Bool} {t : Touched} (e : Editable es n a b on t) where
  below : (i : ℕ) → i < t.count → get_or t.nodes i 0 < n
  below = node_below e.listed e.pair.first_below e.pair.second_below

  pub apply_ready : {marks : List ℕ} → mark_bytes n ≤ length marks → Appliable es marks n a b on t
  apply_ready marked = record {
    room = room_within a b n es e.pair.first_below e.pair.second_below e.pair.room;
    marking = record {
      among = record { few = e.listed.few; small = omega arith; below = λ i h. omega (arith, below i h, e.pair.room.few) };
      room = λ i h. omega (arith, below i h, marked);
    };
    bounding = record {
      room = record { few = e.pair.room.few; bits = omega (arith, e.pair.room.bits, length_with_edge es a b on) };
      few = e.listed.few;
      below = below;
      within = e.few_after;
    };
  }

  module _ {r : Renewal} (q : r ≡ renewal_by on t (with_edge es a b on) n) where
    pub renew_ready : Renewable r n
    renew_ready = rw q (record {
      few = e.listed.few;
      small = λ i h. omega (arith, below i h, e.pair.room.few);
      below = below;
      fits = λ i h.
          let g = edge (with_edge es a b on) in
          omega (arith, each_node (bound g n) t.nodes t.count refl e.listed.few i h, bound_most g n (get_or t.nodes i 0) (e.few_after i h));
    })

    renewal_is : r ≡ renewal_of es n a b on
    unfolding renewal_of
    renewal_is = q ∙ ap (λ u. renewal_by on u (with_edge es a b on) n) e.listed.all

    taken_are_lem : (p : ℕ) → p < n → listed t.nodes (cond on 2 t.count) p ≡ renewing (edge es) a b on p
    taken_are_lem p h = elim (test on) [
      | inl z ↦ rw z (listed_ends e.listed p)
      | inr z ↦ rw z (listed_touched e.listed p h)
    ]

-- the state that it leaves, of any figures
module _ {es edges' marks' : List ℕ} (marks : List ℕ) {n a b : ℕ} {on : Bool} {t : Touched} {r : Renewal}
    (bytes : Bytes marks) (q : r ≡ renewal_by on t (with_edge es a b on) n) (f : edges' ≡ with_edge es a b on)
    (m : marks' ≡ stale_each t.nodes marks t.count) (marked : mark_bytes n ≤ length marks) (e : Editable es n a b on t) where
  pub changed_by_lem : (figures : List ℕ) {figures' : List ℕ} → length figures ≡ n → figures' ≡ renewed_by r figures
      → state edges' figures' marks' ≡ changed (state es figures marks) a b on
  unfolding edited
  changed_by_lem figures long l =
      let g = edge (with_edge es a b on) in
      state_is f
      (l ∙ ap (λ x. renewed_by x figures) q
      ∙ renew_each_is g t.nodes (of_each (bound g n) t.nodes t.count) figures (cond on 2 t.count) (renewing (edge es) a b on) (touched (edge es) a b) t.count
      (taken_within on (count_two e.listed))
      (λ i h. omega (arith, below e i h))
      (λ i h. each_node (bound g n) t.nodes t.count refl e.listed.few i h ∙ ap (λ k. bound g k (get_or t.nodes i 0)) (sym long))
      (λ p h. taken_are_lem e q p (omega arith))
      (λ p h. listed_touched e.listed p (omega arith)))
      (m ∙ stale_each_is t.nodes marks (length figures) (omega (arith, marked)) (touched (edge es) a b) t.count bytes
      (λ i h. omega (arith, below e i h))
      (λ p h. listed_touched e.listed p (omega arith)))
      ∙ sym (changed_is (state es figures marks) a b on)

  pub applied : (cs : List Condition) → refusal cs ≡ 0 → Renews cs es marks n a b on (Ok r) edges' marks'
  applied cs z = record {
    answer = sym z;
    ready = (renewal_is e q, renew_ready e q);
    whole = λ figures l. accepted_is cs (state es figures marks) _ z (changed_by_lem figures l refl);
  }

-- ---- where no node's edges refuse it

module _ {s : State} {a b : ℕ} {on : Bool} (p : Steppable s a b on) {near : Neighbours} (e : near ≡ first_neighbours s.edges (size s) a) where
  near_few : near.count ≤ limit
  near_few = omega (arith, found_degree (found_of e), p.few_before a p.pair.first_below)

  pub step_near : Ascending s.edges near.nodes near.count × (a < max_nodes) × Room (b + 1) s.edges
  step_near = near_ready (found_of e) near_few p.pair.first_below p.pair.second_below p.pair.room

  pub step_ready : {t : Touched} → t ≡ touched_near (graph s) (padded near.count near.nodes) a b → Editable s.edges (size s) a b on t
  step_ready {t} q =
      let l = lists_by (found_of e) near_few b q in
      let below = node_below l p.pair.first_below p.pair.second_below in
      record {
        pair = p.pair;
        listed = l;
        few_before = λ i h. p.few_before (get_or t.nodes i 0) (below i h);
        few_after = λ i h. p.few_after (get_or t.nodes i 0) (below i h);
      }
