-- The degrees after the call, corrected pair by pair from those before it: they are those of the merged graph. Assumes nothing.
use mathlib.Core.Bool.{Bool, false, not, true}
use mathlib.Core.List.{List}
use mathlib.Core.Logic.{inl, inr}
use mathlib.Core.Path.{ap, refl, ◌∙◌, ◌≡◌}
use Prim.Native.Nat.{◌+◌, ◌<◌, ℕ}
use native.Mathlib.Omega.{arith}
use lib.Dec.{ltb}
use lib.ListN.{get_or}
use Rattle.arith.proofs.Tests.{test}
use Rattle.arith.specs.Sums.{any_to}
use Rattle.ego.proofs.Agreement.{Agree}
use Rattle.ego.proofs.FoundLaws.{simple_edges}
use Rattle.ego.proofs.WithPair.{pair_agree, pair_is}
use Rattle.ego.specs.Change.{with_pair}
use Rattle.ego.specs.Graph.{Graph}
use Rattle.ego.specs.Limits.{limit}
use Rattle.packed.proofs.EdgeLaws.{edge_comm, length_with_edge}
use Rattle.packed.proofs.PairLaws.{room_within}
use Rattle.packed.proofs.ShiftLaws.{shiftable, shifted_degrees}
use Rattle.packed.specs.Bits.{differ}
use Rattle.packed.specs.Edges.{edge}
use Rattle.packed.specs.Pairs.{pair_count}
use Rattle.packed.specs.Inside.Room.{Room}
use Rattle.packed.specs.Inside.Degrees.{degrees_of}
use Rattle.edits.proofs.EditLaws.{edit_pair}
use Rattle.state.proofs.CrowdedLaws.{too_many_agree}
use Rattle.state.proofs.DegreeLaws.{over_by}
use Rattle.state.specs.Refusal.{everyone, too_many}
use Rattle.merge.proofs.MergeLaws.{merged_simple}
use Rattle.merge.proofs.PairOrder.{halfway_next, over_pairs_lem, over_some}
use Rattle.merge.proofs.StepLaws.{taken_was, unchanged_stays}
use Rattle.merge.proofs.WalkLaws.{over_to, walk_end, walk_next, walk_start, walk_step}
use Rattle.merge.specs.Reconcile.{merged, takes}
use Rattle.merge.specs.declared.changed.Pair.{Pair}
use Rattle.merge.specs.Inside.Steps.{Correctable, corrects, merged_edges, settled}
use Rattle.merge.specs.Inside.Walk.{FirstChanged, NextPair, Place}

-- the edges have room for n nodes, and are those of g
record HasEdges (n : ℕ) (g : Graph) (es : List ℕ) : Type 0 where
  pub room : Room n es
  pub links : Agree n (edge es) g

-- the degrees on the way, before the place a, b
abbrev pub degrees_on_way : List ℕ → List ℕ → List ℕ → ℕ → ℕ → ℕ → List ℕ
degrees_on_way mine theirs base n a b = degrees_of (over_to (settled (edge mine) (edge theirs) (edge base)) a b mine) n

module _ (mine theirs base : List ℕ) (n : ℕ) (room : Room n mine) where
  abbrev on_way_to : ℕ → ℕ → List ℕ
  on_way_to = degrees_on_way mine theirs base n

  abbrev result : Graph
  result = merged (edge mine) (edge theirs) (edge base)

  abbrev settles : ℕ → ℕ → List ℕ → List ℕ
  settles = settled (edge mine) (edge theirs) (edge base)

  idle : (a b : ℕ) → differ (edge theirs a b) (edge base a b) ≡ false → (es : List ℕ) → settles a b es ≡ es
  unfolding settled
  idle a b e es = rw (unchanged_stays (edge mine) (edge theirs) (edge base) a b e)

  pair_settled : (a b : ℕ) → a < b → b < n → (g : Graph) (es : List ℕ) → g a b ≡ edge mine a b → HasEdges n g es
      → HasEdges n (with_pair g a b (result a b)) (settles a b es)
  unfolding settled merged
  pair_settled a b h l g es e p = elim (test (takes (edge mine) (edge theirs) (edge base) a b)) [
    | inl q ↦ rw q (record {
      room = record { few = room.few; bits = omega (arith, p.room.bits, length_with_edge es a b (edge theirs a b)) };
      links = λ x y hx hy. edit_pair es n a b p.room (omega arith) l (λ z. omega arith) (edge theirs a b) x y ∙ pair_agree a b _ p.links x y hx hy;
    })
    | inr q ↦ rw q (record { room = p.room; links = λ x y hx hy. stays x y hx hy })
  ]
    where
      was : edge es a b ≡ edge mine a b
      was = p.links a b (omega arith) l ∙ e

      stays : Agree n (edge es) (with_pair g a b (edge mine a b))
      stays x y hx hy =
          pair_is g (edge es) a b (edge mine a b) x y (λ u v. rw (u, v) was) (λ u v. rw (u, v) (edge_comm es b a ∙ was)) (λ u v. p.links x y hx hy)

  begins : HasEdges n (edge mine) mine
  begins = record { room = room; links = λ x y hx hy. refl }

  agrees : (g g' : Graph) (es : List ℕ) → Agree n g g' → HasEdges n g es → HasEdges n g' es
  agrees g g' es e p = record { room = p.room; links = λ x y hx hy. p.links x y hx hy ∙ e x y hx hy }

  -- the pair a, b, when its turn comes, still is as in mine
  module _ (a b : ℕ) (h : a < b) (l : b < n) where
    on_way : Room n (over_to settles a b mine) × (edge (over_to settles a b mine) a b ≡ edge mine a b)
    on_way =
        let p = over_some result (edge mine) (merged_simple _ _ _ (simple_edges mine) (simple_edges theirs) (simple_edges base)) (simple_edges mine)
        n (HasEdges n) agrees settles pair_settled a b mine (omega arith) l begins in
        (p.room, p.links a b (omega arith) l ∙ halfway_next result (edge mine) a b h)

    was_mine : takes (edge mine) (edge theirs) (edge base) a b ≡ true → edge (over_to settles a b mine) a b ≡ not (edge theirs a b)
    was_mine q = on_way.1 ∙ (taken_was (edge mine) (edge theirs) (edge base) a b q).1

  -- ---- the degrees on the way, before the place a, b, and the next pair that theirs has changed

  pub corrected_first : {degrees : List ℕ} → degrees ≡ degrees_of mine n → degrees ≡ on_way_to 0 0
  corrected_first e = e ∙ ap (λ es. degrees_of es n) (walk_start settles theirs base idle mine)

  module _ {a b : ℕ} {degrees : List ℕ} (p : Place n a b) (e : degrees ≡ on_way_to a b) where
    pub corrected_all : FirstChanged theirs base n a b (pair_count n) → degrees ≡ degrees_of (merged_edges mine theirs base n) n
    corrected_all f = e ∙ ap (λ es. degrees_of es n) (walk_end settles theirs base idle mine p f refl)

    module _ {r : Pair} (f : NextPair theirs base n a b r) where
      at_next : degrees ≡ on_way_to r.a r.b
      at_next = e ∙ ap (λ es. degrees_of es n) (walk_next settles theirs base idle mine p f refl)

      h : r.a < r.b
      h = f.below

      l : r.b < n
      l = f.inside

      pub correctable : Room n theirs → Room n base → Correctable mine theirs base degrees r.a r.b
      correctable u v = record {
        mine_room = room_within r.a r.b n mine (omega (arith, h, l)) l room;
        theirs_room = room_within r.a r.b n theirs (omega (arith, h, l)) l u;
        base_room = room_within r.a r.b n base (omega (arith, h, l)) l v;
        shiftable = λ t. rw at_next
            (shiftable _ n r.a r.b _ (λ z. omega (arith, h)) (omega (arith, h, l)) l (on_way r.a r.b h l).0 (was_mine r.a r.b h l t));
      }

      settles_one : {next : List ℕ} → next ≡ corrects mine theirs base r.a r.b degrees
          → next ≡ degrees_of (settles r.a r.b (over_to settles r.a r.b mine)) n
      unfolding corrects settled
      settles_one g = elim (test (takes (edge mine) (edge theirs) (edge base) r.a r.b)) [
        | inl t ↦ (rw (at_next, t) at g)
            ∙ rw t (shifted_degrees _ n r.a r.b _ (λ z. omega (arith, h)) (omega (arith, h, l)) l
            (on_way r.a r.b h l).0 (was_mine r.a r.b h l t))
        | inr t ↦ (rw t at g) ∙ at_next ∙ rw t refl
      ]

      pub corrected_next : {next : List ℕ} → next ≡ corrects mine theirs base r.a r.b degrees → next ≡ on_way_to (r.a + 1) r.b
      corrected_next g = settles_one g ∙ ap (λ es. degrees_of es n) (walk_step settles theirs base idle mine r.a r.b refl refl)

  -- ---- at the end

  -- THE DEGREES AFTER decide whether a node of the merged graph has too many edges
  pub over_after : {after : List ℕ} {t : Bool} → after ≡ degrees_of (merged_edges mine theirs base n) n → t ≡ any_to (λ p. ltb limit (get_or after p 0)) n
      → t ≡ too_many result n everyone
  over_after e f =
      let p = over_pairs_lem result (edge mine) (merged_simple _ _ _ (simple_edges mine) (simple_edges theirs) (simple_edges base)) (simple_edges mine)
      n (HasEdges n) agrees settles pair_settled mine begins in
      over_by (merged_edges mine theirs base n) n room.few e f ∙ too_many_agree n _ _ everyone everyone p.links (λ q l. refl)
