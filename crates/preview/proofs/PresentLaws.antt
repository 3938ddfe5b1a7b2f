-- A node's neighbourhood with an edge present, from the edges as they are: its neighbours and its words. Assumes nothing.
use mathlib.Core.Bool.{Bool, true, true≢false}
use mathlib.Core.List.{List}
use mathlib.Core.Logic.{◌≢◌}
use mathlib.Core.Path.{refl, sym, ◌∙◌, ◌≡◌}
use Prim.Native.Nat.{◌<◌, zero-le, ℕ, ◌≤◌}
use native.Mathlib.Omega.{arith}
use borrow.Author.Tests.{eq-eqb, eqb-true}
use lib.Dec.{eqb}
use lib.ListN.{get_or}
use Rattle.arith.proofs.Words.{pack_bit, pack_is, pack_lt}
use Rattle.arith.specs.Sums.{pack_to}
use Rattle.edits.proofs.EditLaws.{edge_apart, edge_written}
use Rattle.ego.proofs.FoundLaws.{Found, found_ascending, found_is, found_of, node_linked}
use Rattle.std.proofs.Common.{IsSome, None, Option, Some}
use Rattle.ego.specs.Limits.{limit}
use Rattle.ego.specs.Inside.Words.{Ascending, first_members, link_at, WordsFrom}
use Rattle.ego.specs.declared.neighbours.Neighbours.{Neighbours}
use Rattle.packed.proofs.EdgeLaws.{edge_self, length_with_edge}
use Rattle.packed.proofs.SetLaws.{row_with}
use Rattle.packed.specs.Edges.{with_edge}
use Rattle.packed.specs.Inside.Room.{Room}
use Rattle.packed.specs.Inside.Rows.{row_of, with_node}
use Rattle.packed.specs.Inside.Search.{FirstIn}

-- ---- words of the same edges

pub words_as : {link link' : ℕ → ℕ → Bool} {d : ℕ} {words : List ℕ} → ((i j : ℕ) → i < d → j < d → link i j ≡ link' i j) → WordsFrom link d 0 words
    → WordsFrom link' d 0 words
words_as {link} {link'} {d} same w = record {
  size = w.size;
  whole = λ i h l. w.whole i h l ∙ pack_is d (pack_to (link i) d) (link' i) (pack_lt (link i) d) (λ k b. pack_bit (link i) d k b ∙ same i k l b);
  part = λ i h. absurd (omega arith);
  past = w.past;
}

-- ---- the edge a, b is present

module _ (es : List ℕ) (n a b : ℕ) (room : Room n es) (ha : a < n) (hb : b < n) (two : a ≢ b) where
  abbrev linked : List ℕ
  linked = with_edge es a b true

  pub room_linked : Room n linked
  room_linked = record { few = room.few; bits = omega (arith, room.bits, length_with_edge es a b true) }

  -- the nodes of a neighbourhood with the edge can be read from the edges as they are
  pub linked_ascending : {p d : ℕ} {nodes : List ℕ} → Found linked n p nodes d → d ≤ limit → Ascending es nodes d
  linked_ascending f few =
      let s = found_ascending f few room_linked in
      record { few = s.few; up = s.up; room = λ i h. record { few = (s.room i h).few; bits = omega (arith, (s.room i h).bits, length_with_edge es a b true) } }

  -- AT THE END a: b is one neighbour more, and no edge among the neighbours is new
  pub end_found : {row : List ℕ} {r : Neighbours} → row ≡ with_node (row_of es n a) b → r ≡ first_members row n → Found linked n a r.nodes r.count
  end_found e f =
      found_of (f ∙ found_is linked n a room.few (e ∙ row_with es n a linked b hb room.few (edge_written es n a b room ha hb two true)
      (λ q d. edge_apart es a b true a q (λ x y. d y) (λ x y. two x))))

  module _ {nodes : List ℕ} {d : ℕ} (f : Found linked n a nodes d) (few : d ≤ limit) where
    other_node : (i : ℕ) → i < d → get_or nodes i 0 ≢ a
    other_node i h e = true≢false (sym (node_linked f few i h) ∙ edge_self linked a (get_or nodes i 0) (sym e))

    pub end_words : {words : List ℕ} → WordsFrom (link_at es nodes) d 0 words → WordsFrom (link_at linked nodes) d 0 words
    unfolding link_at
    end_words w = words_as (λ i j hi hj. sym (edge_apart es a b true _ _ (λ x y. other_node i hi x) (λ x y. other_node j hj y))) w

-- ---- a search that finds

pub place_found : (nodes : List ℕ) {d q r : ℕ} {o : Option ℕ} → FirstIn (λ i. eqb (get_or nodes i 0) q) 0 d o → o ≡ Some r → (r < d) × (get_or nodes r 0 ≡ q)
place_found nodes {q = q} {r} f e = let h = rw e at f in (h.1, eqb-true (get_or nodes r 0) q (h.0.some h.1))

-- and does find
pub place_there : (nodes : List ℕ) {d q : ℕ} (o : Option ℕ) → FirstIn (λ i. eqb (get_or nodes i 0) q) 0 d o → (k : ℕ) × (k < d) × (get_or nodes k 0 ≡ q)
    → IsSome o
place_there nodes (Some r) f at = refl
place_there nodes {q = q} None f at = absurd (true≢false (sym (eq-eqb (get_or nodes at.0 0) q at.2) ∙ f.none at.0 zero-le at.1))
