-- What an edit of one edge changes in a state, and what it keeps. Assumes nothing.
use mathlib.Core.Bool.{◌&&◌, Bool, cond, false, true, ◌||◌}
use mathlib.Core.List.{List}
use mathlib.Core.Logic.{◌≢◌}
use mathlib.Core.Path.{refl, sym, ◌∙◌, ◌≡◌}
use Prim.Native.Nat.{◌*◌, ◌<◌, ℕ, ◌≤◌}
use borrow.Author.Tests.{eqb-false}
use lib.Dec.{eqb}
use lib.ListN.{length}
use Rattle.arith.proofs.Sums.{get_d_tabulate, length_tabulate}
use Rattle.arith.proofs.Tests.{or_false_both}
use Rattle.ego.proofs.Agreement.{Agree}
use Rattle.ego.proofs.FoundLaws.{simple_edges}
use Rattle.ego.proofs.WithPair.{apart_numbers, pair_is}
use Rattle.ego.specs.Bound.{bound}
use Rattle.ego.specs.Inside.Gains.{Gains}
use Rattle.ego.specs.Change.{with_pair}
use Rattle.ego.specs.Graph.{Graph, Simple}
use Rattle.packed.proofs.EdgeLaws.{edge_comm, edge_with_other, edge_with_same, length_with_edge}
use Rattle.packed.proofs.PairLaws.{pair_within, room_within}
use Rattle.packed.specs.Edges.{edge, with_edge}
use Rattle.packed.specs.Inside.Room.{Room}
use Rattle.state.proofs.MarkLaws.{length-stale_to, stale_to_at}
use Rattle.edits.specs.Edit.{added, edited, new_figure, removed, renewed}
use Rattle.edits.specs.Inside.Change.{changed}
use Rattle.state.specs.Refusal.{ends, touched}
use Rattle.state.specs.State.{figure, graph, is_stale, size, State}

-- ---- the edges

pub edge_apart : (es : List ℕ) (a b : ℕ) (on : Bool) (x y : ℕ) → (x ≡ a → y ≡ b → ⊥) → (x ≡ b → y ≡ a → ⊥) → edge (with_edge es a b on) x y ≡ edge es x y
edge_apart es a b on x y f g = edge_with_other es a b on x y (apart_numbers a b x y f g)

module _ (es : List ℕ) (n a b : ℕ) (room : Room n es) (ha : a < n) (hb : b < n) (two : a ≢ b) where
  pub edge_written : (on : Bool) → edge (with_edge es a b on) a b ≡ on
  edge_written on = edge_with_same es a b on two (pair_within a b (length es) two (room_within a b n es ha hb room).bits)

  -- the graph after an edit is the graph before with that pair set
  pub edit_pair : (on : Bool) (x y : ℕ) → edge (with_edge es a b on) x y ≡ with_pair (edge es) a b on x y
  edit_pair on x y = pair_is (edge es) (edge (with_edge es a b on)) a b on x y
      (λ p q. rw (p, q) (edge_written on))
      (λ p q. rw (p, q) (edge_comm (with_edge es a b on) b a ∙ edge_written on))
      (edge_apart es a b on x y)

  pub add_gains : edge es a b ≡ false → Gains (edge es) (edge (with_edge es a b true)) a b
  add_gains e = record {
    old = simple_edges es;
    new = simple_edges (with_edge es a b true);
    absent = e;
    present = edge_written true;
    others = λ x y f g. sym (edge_apart es a b true x y f g);
  }

  pub remove_gains : edge es a b ≡ true → Gains (edge (with_edge es a b false)) (edge es) a b
  remove_gains e = record {
    old = simple_edges (with_edge es a b false);
    new = simple_edges es;
    absent = edge_written false;
    present = e;
    others = λ x y f g. edge_apart es a b false x y f g;
  }

-- ---- which nodes an edit touches

pub not_end : (a b p : ℕ) → ends a b p ≡ false → (p ≢ a) × (p ≢ b)
unfolding ends
not_end a b p e = let r = or_false_both (eqb p a) (eqb p b) e in (eqb-false p a r.0, eqb-false p b r.1)

pub untouched_end : (g : Graph) (a b p : ℕ) → touched g a b p ≡ false → ends a b p ≡ false
unfolding touched
untouched_end g a b p e = (or_false_both (ends a b p) (g a p && g b p) e).0

pub untouched_common : (g : Graph) → Simple g → (a b p : ℕ) → touched g a b p ≡ false → (g p a && g p b) ≡ false
unfolding touched
untouched_common g simple a b p e = rw (simple.symmetric p a, simple.symmetric p b) (or_false_both (ends a b p) (g a p && g b p) e).1

pub touched_agree : {n : ℕ} {g g' : Graph} (a b : ℕ) → a < n → b < n → Agree n g g' → (p : ℕ) → p < n → touched g a b p ≡ touched g' a b p
unfolding touched
touched_agree a b ha hb h p hp = rw (h a p ha hp, h b p hb hp)

-- ---- the state

-- the nodes that take their bounds
abbrev pub renewing : Graph → ℕ → ℕ → Bool → ℕ → Bool
renewing g a b on = cond on (ends a b) (touched g a b)

pub changed_is : (s : State) (a b : ℕ) (on : Bool) → changed s a b on ≡ edited s a b on (renewing (graph s) a b on)
unfolding added removed
changed_is s a b true = refl
changed_is s a b false = refl

module _ (s : State) (a b : ℕ) (on : Bool) (which : ℕ → Bool) where
  pub edited_size : size (edited s a b on which) ≡ size s
  unfolding edited renewed
  edited_size = length_tabulate _ (size s)

  pub edited_edges : length (edited s a b on which).edges ≡ length s.edges
  unfolding edited renewed
  edited_edges = length_with_edge s.edges a b on

  pub edited_marks : length (edited s a b on which).marks ≡ length s.marks
  unfolding edited renewed
  edited_marks = length-stale_to (touched (graph s) a b) s.marks (size s)

  pub edited_graph : graph (edited s a b on which) ≡ edge (with_edge s.edges a b on)
  unfolding edited renewed
  edited_graph = refl

  pub edited_figure : (p : ℕ) → p < size s
      → figure (edited s a b on which) p ≡ new_figure (which p) (touched (graph s) a b p) (figure s p) (bound (edge (with_edge s.edges a b on)) (size s) p)
  unfolding edited renewed
  edited_figure p h =
      get_d_tabulate (λ p. new_figure (which p) (touched (graph s) a b p) (figure s p) (bound (edge (with_edge s.edges a b on)) (size s) p)) (size s) p 0 h

  pub edited_stale : size s ≤ 8 * length s.marks → (p : ℕ) → p < size s
      → is_stale (edited s a b on which) p ≡ (touched (graph s) a b p || is_stale s p)
  unfolding edited renewed
  edited_stale room p h = stale_to_at (touched (graph s) a b) s.marks (size s) p room h

  -- a node that is neither which nor touched is as it was
  pub edited_kept : size s ≤ 8 * length s.marks → (p : ℕ) → p < size s → which p ≡ false → touched (graph s) a b p ≡ false
      → (is_stale (edited s a b on which) p ≡ is_stale s p) × (figure (edited s a b on which) p ≡ figure s p)
  unfolding new_figure
  edited_kept room p h e d = (edited_stale room p h ∙ rw d, edited_figure p h ∙ rw (e, d))
