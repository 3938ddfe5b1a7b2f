-- Each call that writes the state leaves honest figures: a settled figure is the score and no figure is below it. Assumes nothing.
use mathlib.Core.Bool.{Bool, false, true, true≢false}
use mathlib.Core.List.{List}
use mathlib.Core.Logic.{◌≢◌}
use mathlib.Core.Path.{refl, sym, ◌∙◌, ◌≡◌}
use Prim.Native.Nat.{◌*◌, ◌<◌, zero-le, ℕ, ◌≤◌}
use native.Mathlib.Decide.{ℕ_discrete}
use native.Mathlib.Nat.{le_refl, le_trans}
use native.Mathlib.Omega.{arith}
use lib.ListN.{get_or-replicate, length, length-replicate, replicate}
use Rattle.arith.proofs.Sums.{get_d_tabulate, length_tabulate}
use Rattle.arith.proofs.Tests.{or_false_both}
use Rattle.arith.specs.Sums.{tabulate}
use Rattle.ego.proofs.Agreement.{Agree, score_agree}
use Rattle.ego.proofs.Bounds.{score_bound}
use Rattle.ego.proofs.Changes.{common_at_most, common_lower, gains_degree, others_same}
use Rattle.ego.proofs.Extremes.{edgeless_score}
use Rattle.ego.proofs.FoundLaws.{simple_edges}
use Rattle.ego.specs.Bound.{bound}
use Rattle.ego.specs.Inside.Gains.{Gains}
use Rattle.ego.specs.Graph.{degree, Graph}
use Rattle.ego.specs.Limits.{limit}
use Rattle.ego.specs.Score.{score}
use Rattle.packed.proofs.BitLaws.{bit_zeros}
use Rattle.packed.proofs.EdgeLaws.{edge_self, edge_two}
use Rattle.packed.specs.Edges.{edge, with_edge}
use Rattle.packed.specs.Pairs.{pair_index}
use Rattle.packed.specs.Inside.Room.{Room}
use Rattle.edits.proofs.EditLaws.{add_gains, edited_figure, edited_graph, edited_kept, edited_size, edited_stale, not_end, remove_gains, untouched_common, untouched_end}
use Rattle.state.proofs.MarkLaws.{all_stale_lem}
use Rattle.calls.specs.Clear.{cleared}
use Rattle.edits.specs.Edit.{added, edited, new_figure, removed}
use Rattle.state.specs.Inside.Honest.{Honest}
use Rattle.state.specs.Refusal.{ends, touched}
use Rattle.state.specs.Sizes.{edge_bytes}
use Rattle.calls.specs.Snapshot.{loaded}
use Rattle.state.specs.State.{figure, graph, is_stale, size, State}

-- only the edges among the nodes below n matter
pub honest_agree : (n : ℕ) (g g' : Graph) (figures marks : List ℕ) → length figures ≡ n → Agree n g g' → Honest (score g n) figures marks
    → Honest (score g' n) figures marks
honest_agree n g g' figures marks e same h = record {
  settled = λ p l d. h.settled p l d ∙ score_agree n p (omega arith) same;
  above = λ p l. rw (← score_agree n p (omega arith) same) (h.above p l);
}

-- ---- clear and load

pub cleared_graph : (n a b : ℕ) → graph (cleared n) a b ≡ false
unfolding cleared
cleared_graph n a b = elim (ℕ_discrete a b) [
  | yes e ↦ edge_self (replicate (edge_bytes n) 0) a b e
  | no d ↦ edge_two (replicate (edge_bytes n) 0) a b d ∙ bit_zeros (edge_bytes n) (pair_index a b)
]

cleared_figure : (n p : ℕ) → p < size (cleared n) → figure (cleared n) p ≡ 0
unfolding cleared
cleared_figure n p l = get_or-replicate n p 0 0 (omega (arith, length-replicate {A = ℕ} n 0))

cleared_score : (n p : ℕ) → score (graph (cleared n)) n p ≡ 0
cleared_score n p = edgeless_score (graph (cleared n)) n p (λ q h. cleared_graph n p q)

pub cleared_honest : (n : ℕ) → Honest (score (graph (cleared n)) n) (cleared n).figures (cleared n).marks
cleared_honest n = record {
  settled = λ p l e. cleared_figure n p l ∙ sym (cleared_score n p);
  above = λ p l. rw (cleared_score n p) zero-le;
}

-- every figure is the bound
pub loaded_honest : (n : ℕ) (edges : List ℕ) → Honest (score (edge edges) n) (loaded n edges).figures (loaded n edges).marks
unfolding loaded
loaded_honest n edges = record {
  settled = λ p l e. absurd (true≢false (sym (all_stale_lem n p (below p l)) ∙ e));
  above = λ p l. rw (get_d_tabulate (bound (edge edges) n) n p 0 (below p l)) (score_bound (edge edges) (simple_edges edges) n p);
}
  where
    below : (p : ℕ) → p < length (tabulate (bound (edge edges) n) n) → p < n
    below p l = omega (arith, length_tabulate (bound (edge edges) n) n)

-- ---- edits

-- what is below the new ceiling, and below the figure where that is not given up, is below the new figure
new_above : (takes lowers : Bool) {x figure ceiling : ℕ} → x ≤ ceiling → (takes ≡ false → x ≤ figure) → x ≤ new_figure takes lowers figure ceiling
unfolding new_figure
new_above true lowers h k = h
new_above false true h k = omega (arith, h, k refl)
new_above false false h k = k refl

module _ (s : State) (a b : ℕ) (on : Bool) (renewed : ℕ → Bool) (room : size s ≤ 8 * length s.marks)
    (only : (p : ℕ) → touched (graph s) a b p ≡ false → renewed p ≡ false)
    (same : (p : ℕ) → touched (graph s) a b p ≡ false → score (graph s) (size s) p ≡ score (graph (edited s a b on renewed)) (size s) p)
    (down : (p : ℕ) → renewed p ≡ false → score (graph (edited s a b on renewed)) (size s) p ≤ score (graph s) (size s) p) where
  -- an edit is honest that leaves no untouched score other and no score higher that it does not renew
  edited_honest : Honest (score (graph s) (size s)) s.figures s.marks
      → Honest (score (graph (edited s a b on renewed)) (size s)) (edited s a b on renewed).figures (edited s a b on renewed).marks
  edited_honest h = record { settled = λ p l e. settled p (below p l) e; above = λ p l. above p (below p l) }
    where
      below : (p : ℕ) → p < size (edited s a b on renewed) → p < size s
      below p l = omega (arith, edited_size s a b on renewed)

      settled : (p : ℕ) → p < size s → is_stale (edited s a b on renewed) p ≡ false
          → figure (edited s a b on renewed) p ≡ score (graph (edited s a b on renewed)) (size s) p
      settled p l e =
          let r = or_false_both (touched (graph s) a b p) (is_stale s p) (sym (edited_stale s a b on renewed room p l) ∙ e) in
          (edited_kept s a b on renewed room p l (only p r.0) r.0).1 ∙ h.settled p l r.1 ∙ same p r.0

      above : (p : ℕ) → p < size s → score (graph (edited s a b on renewed)) (size s) p ≤ figure (edited s a b on renewed) p
      above p l =
          rw (edited_figure s a b on renewed p l)
          (new_above (renewed p) (touched (graph s) a b p) (renewed_above p) (λ e. le_trans (down p e) (h.above p l)))
        where
          renewed_above : (q : ℕ) → score (graph (edited s a b on renewed)) (size s) q ≤ bound (edge (with_edge s.edges a b on)) (size s) q
          renewed_above q = rw (edited_graph s a b on renewed)
              (score_bound (edge (with_edge s.edges a b on)) (simple_edges (with_edge s.edges a b on)) (size s) q)

module _ (s : State) (a b : ℕ) (room : Room (size s) s.edges) (marks : size s ≤ 8 * length s.marks) (ha : a < size s) (hb : b < size s)
    (two : a ≢ b) where
  -- ADD: the ends take their bounds, and a common neighbour's score falls: it is below its figure and below its bound
  pub added_honest : edge s.edges a b ≡ false → Honest (score (graph s) (size s)) s.figures s.marks
      → Honest (score (graph (added s a b)) (size s)) (added s a b).figures (added s a b).marks
  unfolding added
  added_honest e = edited_honest s a b true (ends a b) marks
      (λ p. untouched_end (graph s) a b p)
      (λ p u. let d = not_end a b p (untouched_end (graph s) a b p u) in
      rw (edited_graph s a b true (ends a b))
      (others_same _ _ a b gain (size s) p d.0 d.1 (untouched_common (graph s) (simple_edges s.edges) a b p u)))
      (λ p u. let d = not_end a b p u in
      rw (edited_graph s a b true (ends a b)) (common_at_most _ _ a b gain (size s) p d.0 d.1))
    where
      gain : Gains (edge s.edges) (edge (with_edge s.edges a b true)) a b
      gain = add_gains s.edges (size s) a b room ha hb two e

  -- REMOVE: the ends and their common neighbours take their bounds
  pub removed_honest : edge s.edges a b ≡ true → Honest (score (graph s) (size s)) s.figures s.marks
      → Honest (score (graph (removed s a b)) (size s)) (removed s a b).figures (removed s a b).marks
  unfolding removed
  removed_honest e = edited_honest s a b false (touched (graph s) a b) marks (λ p u. u) same (λ p u. rw (same p u) (le_refl _))
    where
      loss : Gains (edge (with_edge s.edges a b false)) (edge s.edges) a b
      loss = remove_gains s.edges (size s) a b room ha hb two e

      same : (p : ℕ) → touched (graph s) a b p ≡ false → score (graph s) (size s) p ≡ score (graph (edited s a b false (touched (graph s) a b))) (size s) p
      same p u =
          let d = not_end a b p (untouched_end (graph s) a b p u) in
          rw (edited_graph s a b false (touched (graph s) a b))
          (sym (others_same _ _ a b loss (size s) p d.0 d.1
          (rw (loss.others p a (λ x y. d.0 x) (λ x y. d.1 x), loss.others p b (λ x y. d.0 x) (λ x y. d.1 x))
          (untouched_common (graph s) (simple_edges s.edges) a b p u))))

  -- WHY a removal may not keep a common neighbour's figure: if it is settled it falls below the score, which rises strictly.
  pub removed_rises : edge s.edges a b ≡ true → Honest (score (graph s) (size s)) s.figures s.marks
      → (p : ℕ) → p < size s → is_stale s p ≡ false → graph s p a ≡ true → graph s p b ≡ true → degree (graph s) (size s) p ≤ limit
      → figure s p < score (graph (removed s a b)) (size s) p
  unfolding removed
  removed_rises e h p l settled pa pb few =
      let loss = remove_gains s.edges (size s) a b room ha hb two e in
      let da : p ≢ a = λ q. true≢false (sym pa ∙ edge_self s.edges p a q) in
      let db : p ≢ b = λ q. true≢false (sym pb ∙ edge_self s.edges p b q) in
      rw (h.settled p l settled, edited_graph s a b false (touched (graph s) a b))
      (common_lower _ _ a b loss (size s) p
      (loss.others p a (λ x y. da x) (λ x y. db x) ∙ pa)
      (loss.others p b (λ x y. da x) (λ x y. db x) ∙ pb)
      ha
      hb
      (rw (gains_degree _ _ a b loss (size s) p da db) few))
