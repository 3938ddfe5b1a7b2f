-- One pair of a reconcile: what is decided of it, what its step requires, and what the step keeps. Assumes nothing.
use mathlib.Core.Bool.{◌&&◌, Bool, beq, false, not, or-true, true, true≢false}
use mathlib.Core.List.{List}
use mathlib.Core.Logic.{inl, inr}
use mathlib.Core.Path.{ap, refl, sym, ◌∙◌, ◌≡◌}
use Prim.Native.Nat.{◌+◌, ◌<◌, max, ℕ, ◌≤◌}
use native.Mathlib.Nat.{le_trans}
use native.Mathlib.Omega.{arith}
use lib.ListN.{length}
use Rattle.arith.proofs.Tests.{and-true, test}
use Rattle.ego.proofs.FoundLaws.{simple_edges}
use Rattle.ego.proofs.WithPair.{apart, back, forth, pair_back, pair_elsewhere, pair_forth, which}
use Rattle.ego.proofs.Within.{Within, within_degree}
use Rattle.ego.specs.Change.{with_pair}
use Rattle.ego.specs.Graph.{degree, Graph, Simple}
use Rattle.ego.specs.Limits.{limit}
use Rattle.packed.proofs.EdgeLaws.{length_with_edge}
use Rattle.packed.proofs.PairLaws.{room_within}
use Rattle.packed.specs.Bits.{differ}
use Rattle.packed.specs.Edges.{edge, with_edge}
use Rattle.packed.specs.Pairs.{pair_count}
use Rattle.packed.specs.Inside.Room.{Room}
use Rattle.edits.proofs.EditLaws.{changed_is, edit_pair, edited_marks, edited_size}
use Rattle.edits.specs.Edit.{edited}
use Rattle.edits.specs.Inside.Change.{changed, Steppable}
use Rattle.state.specs.State.{graph, size, State}
use Rattle.merge.specs.Reconcile.{takes}
use Rattle.merge.specs.Inside.Steps.{all_stepped, cap, Ready, stepped}
use Rattle.merge.specs.Inside.Walk.{FirstChanged, NextPair, Place}
use Rattle.merge.specs.declared.changed.Pair.{Pair}
use Rattle.merge.proofs.WalkLaws.{over_to, place_first, place_next, walk_end, walk_next, walk_start, walk_step}

-- ---- one pair: theirs, the original, mine

apart_differ : (x y : Bool) → not (beq x y) ≡ differ x y
apart_differ true true = refl
apart_differ true false = refl
apart_differ false true = refl
apart_differ false false = refl

module _ (mine theirs base : Graph) (a b : ℕ) where
  -- as code decides it
  pub takes_by : {t o m : Bool} → t ≡ theirs a b → o ≡ base a b → m ≡ mine a b → takes mine theirs base a b ≡ (not (beq t o) && not (beq t m))
  unfolding takes
  takes_by {t} {o} {m} e f g = rw (← e, ← f, ← g, apart_differ t o, apart_differ t m) refl

  pub unchanged_stays : differ (theirs a b) (base a b) ≡ false → takes mine theirs base a b ≡ false
  unfolding takes
  unchanged_stays e = rw e

  -- a pair that takes theirs is one that theirs has changed, and in mine it is not as in theirs
  pub taken_was : takes mine theirs base a b ≡ true → (differ (theirs a b) (base a b) ≡ true) × (mine a b ≡ not (theirs a b))
  unfolding takes
  taken_was e = let r = and-true _ _ e in (r.0, other (theirs a b) (mine a b) r.1)
    where
      other : (x y : Bool) → differ x y ≡ true → y ≡ not x
      other true true e = absurd (true≢false (sym e))
      other true false e = refl
      other false y e = e

-- what is decided of the pair a, b at the state s
module _ (on : Bool) (theirs base : Graph) (a b : ℕ) (s : State) where
  pub untaken : takes (graph s) theirs base a b ≡ false → s ≡ stepped on theirs base a b s
  unfolding stepped
  untaken e = rw e

  -- where it takes theirs: by whether theirs has it
  module _ (e : takes (graph s) theirs base a b ≡ true) {there : Bool} (h : there ≡ theirs a b) where
    pub step_stays : beq there on ≡ false → s ≡ stepped on theirs base a b s
    unfolding stepped
    step_stays k = rw (e, ← h, k)

    pub step_changes : {t : State} → beq there on ≡ true → t ≡ changed s a b on → t ≡ stepped on theirs base a b s
    unfolding stepped
    step_changes k q = rw (e, ← h, k) q

pub beq_same : (x y : Bool) → beq x y ≡ true → x ≡ y
beq_same true true e = refl
beq_same true false e = sym e
beq_same false true e = e
beq_same false false e = refl

-- ---- the edges that a graph may have on the way

pub cap_within : (n : ℕ) (on : Bool) (theirs base g : Graph) → Within n g (cap on theirs base g)
unfolding cap
cap_within n on theirs base g x y hx hy e = rw e refl

-- a pair that is put in is one of them already, and one that is taken out takes nothing in
cap_step : (n : ℕ) (on : Bool) (theirs base g : Graph) (a b : ℕ) → Simple theirs → Simple base → differ (theirs a b) (base a b) ≡ true → theirs a b ≡ on
    → Within n (cap on theirs base (with_pair g a b on)) (cap on theirs base g)
unfolding cap
cap_step n true theirs base g a b t o d e x y hx hy q = elim (which a b x y) [
  | forth p r ↦ rw (p, r, d, e) (or-true (g a b))
  | back p r ↦ rw (p, r, t.symmetric b a, o.symmetric b a, d, e) (or-true (g b a))
  | apart p r ↦ rw (pair_elsewhere g a b true x y p r) at q
]
cap_step n false theirs base g a b t o d e x y hx hy q = elim (which a b x y) [
  | forth p r ↦ absurd (true≢false (sym (rw (pair_forth g a b false x y p r) at q)))
  | back p r ↦ absurd (true≢false (sym (rw (pair_back g a b false x y p r) at q)))
  | apart p r ↦ rw (pair_elsewhere g a b false x y p r) at q
]

-- ---- a step of the walk

module _ {on : Bool} {theirs base : List ℕ} {s : State} (r : Ready on theirs base s) (a b : ℕ) (h : a < b) (l : b < size s) where
  pub ready_rooms : Room (max a b + 1) s.edges × Room (max a b + 1) theirs × Room (max a b + 1) base
  ready_rooms =
      let k : a < size s = omega arith in
      (room_within a b (size s) s.edges k l r.room, room_within a b (size s) theirs k l r.theirs_room, room_within a b (size s) base k l r.base_room)

  module _ (took : takes (graph s) (edge theirs) (edge base) a b ≡ true) (there : edge theirs a b ≡ on) where
    after_cap : Within (size s) (cap on (edge theirs) (edge base) (edge (with_edge s.edges a b on))) (cap on (edge theirs) (edge base) (graph s))
    unfolding cap
    after_cap x y hx hy q =
        cap_step (size s) on (edge theirs) (edge base) (graph s) a b (simple_edges theirs) (simple_edges base)
        (taken_was (graph s) (edge theirs) (edge base) a b took).0 there x y hx hy
        (rw (edit_pair s.edges (size s) a b r.room (omega arith) l (λ e. omega arith) on x y) at q)

    few_after_lem : (p : ℕ) → p < size s → degree (cap on (edge theirs) (edge base) (edge (with_edge s.edges a b on))) (size s) p ≤ limit
    few_after_lem p k = le_trans (within_degree after_cap p k) (r.capped p k)

    pub ready_step : Steppable s a b on
    ready_step = record {
      pair = record {
        first_below = omega arith;
        second_below = l;
        apart = λ e. omega arith;
        was = (taken_was (graph s) (edge theirs) (edge base) a b took).1 ∙ ap not there;
        room = r.room;
      };
      marked = r.marked;
      few_before = λ p k. le_trans (within_degree (cap_within (size s) on (edge theirs) (edge base) (graph s)) p k) (r.capped p k);
      few_after = λ p k. le_trans (within_degree (cap_within (size s) on (edge theirs) (edge base) (edge (with_edge s.edges a b on))) p k) (few_after_lem p k);
    }

    edited_ready : (which : ℕ → Bool) → Ready on theirs base (edited s a b on which)
    unfolding edited
    edited_ready which =
        let n = edited_size s a b on which in record {
          room = rw n (record { few = r.room.few; bits = omega (arith, r.room.bits, length_with_edge s.edges a b on) });
          marked = rw n (omega (arith, r.marked, edited_marks s a b on which));
          theirs_room = rw n r.theirs_room;
          base_room = rw n r.base_room;
          capped = λ p k. rw n (few_after_lem p (omega arith));
        }

-- the step keeps what the loops need
pub ready_kept : (on : Bool) (theirs base : List ℕ) {s t : State} (a b : ℕ) → Ready on theirs base s → a < b → b < size s
    → t ≡ stepped on (edge theirs) (edge base) a b s → Ready on theirs base t
unfolding stepped edited
ready_kept on theirs base {s} {t} a b r h l e = elim (test (takes (graph s) (edge theirs) (edge base) a b && beq (edge theirs a b) on)) [
  | inl q ↦ let p = and-true _ _ q in
      let k = (rw q at e) ∙ changed_is s a b on in
      rw k (edited_ready r a b h l p.0 (beq_same _ _ p.1) _)
  | inr q ↦ let k : t ≡ s = rw q at e in rw k r
]

-- ---- the walk, which started at s and stands at t, before the pair a, b

pub record StepsTaken (on : Bool) (theirs base : List ℕ) (s t : State) (a b : ℕ) : Type 0 where
  pub place : Place (size s) a b
  pub edges_kept : length t.edges ≡ length s.edges
  pub nodes_kept : size t ≡ size s
  pub marks_kept : length t.marks ≡ length s.marks
  pub ready : Ready on theirs base t
  pub stands : t ≡ over_to (stepped on (edge theirs) (edge base)) a b s

module _ (on : Bool) (theirs base : List ℕ) (s : State) where
  idle : (a b : ℕ) → differ (edge theirs a b) (edge base a b) ≡ false → (t : State) → stepped on (edge theirs) (edge base) a b t ≡ t
  idle a b e t = sym (untaken on (edge theirs) (edge base) a b t (unchanged_stays (graph t) (edge theirs) (edge base) a b e))

  pub taken_first : Ready on theirs base s → StepsTaken on theirs base s s 0 0
  taken_first h = record {
    place = place_first (size s);
    edges_kept = refl;
    nodes_kept = refl;
    marks_kept = refl;
    ready = h;
    stands = walk_start (stepped on (edge theirs) (edge base)) theirs base idle s;
  }

  module _ {t : State} {a b : ℕ} (w : StepsTaken on theirs base s t a b) where
    pub taken_all : FirstChanged theirs base (size s) a b (pair_count (size s)) → t ≡ all_stepped on theirs base s
    taken_all f = walk_end (stepped on (edge theirs) (edge base)) theirs base idle s w.place f w.stands

    module _ {r : Pair} (f : NextPair theirs base (size s) a b r) where
      pub taken_next : {u : State} → length u.edges ≡ length t.edges → size u ≡ size t → length u.marks ≡ length t.marks
          → u ≡ stepped on (edge theirs) (edge base) r.a r.b t → StepsTaken on theirs base s u (r.a + 1) r.b
      taken_next x y z e = record {
        place = place_next f;
        edges_kept = x ∙ w.edges_kept;
        nodes_kept = y ∙ w.nodes_kept;
        marks_kept = z ∙ w.marks_kept;
        ready = ready_kept on theirs base r.a r.b w.ready f.below (omega (arith, w.nodes_kept, f.inside)) e;
        stands = walk_step (stepped on (edge theirs) (edge base)) theirs base idle s r.a r.b
            (walk_next (stepped on (edge theirs) (edge base)) theirs base idle s w.place f w.stands) e;
      }
