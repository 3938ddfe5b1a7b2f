-- No links: score 0, for every n and post. Assumes nothing.
use mathlib.Core.Bool.{false}
use mathlib.Core.Path.{ap, refl, sym, ◌∙◌, ◌≡◌}
use Prim.Native.Nat.{◌<◌, ℕ}
use native.Mathlib.Omega.{arith}
use lib.ListN.{length, length-replicate}
use Rattle.calls.proofs.AcceptLaws.{outcome_accepted, outcome_refusal}
use Rattle.calls.proofs.ScoreLaws.{score_accepted}
use Rattle.calls.specs.Clear.{clear_call, cleared}
use Rattle.calls.specs.Score.{score_call}
use Rattle.edits.proofs.HonestLaws.{cleared_graph}
use Rattle.ego.proofs.Extremes.{edgeless_degree, edgeless_score}
use Rattle.ego.specs.Score.{score}
use Rattle.state.proofs.RefusalLaws.{Fitted, fitted_by, Sized}
use Rattle.state.specs.Outcome.{lengths}
use Rattle.state.specs.Refusal.{refusal}
use Rattle.state.specs.Sizes.{edge_bytes}
use Rattle.state.specs.State.{graph, size, State}

-- a state on which a clear is accepted, whatever it holds
module _ (s : State) (z : (clear_call s).refusal ≡ 0) where
  accepted : refusal (lengths s) ≡ 0
  unfolding clear_call
  accepted = sym (outcome_refusal (lengths s) s (cleared (size s))) ∙ z

  after_is : (clear_call s).after ≡ cleared (size s)
  unfolding clear_call
  after_is = outcome_accepted (lengths s) s (cleared (size s)) accepted

  fits : Fitted (size s) (length s.edges) (length s.marks)
  unfolding lengths
  fits = fitted_by refl accepted

  sized : Sized (size s) (length (cleared (size s)).edges)
  unfolding cleared
  sized = record { some = fits.sizes.some; few = fits.sizes.few; edges_fit = length-replicate {A = ℕ} (edge_bytes (size s)) 0 }

  none : (p q : ℕ) → q < size s → graph (cleared (size s)) p q ≡ false
  none p q h = cleared_graph (size s) p q

  -- AFTER A CLEAR every post's score is 0.
  pub no_links : (p : ℕ) → score (graph (clear_call s).after) (size s) p ≡ 0
  no_links p = ap (λ t. score (graph t) (size s) p) after_is ∙ edgeless_score (graph (cleared (size s))) (size s) p (none p)

  -- AND THE SCORE CALL answers it for each post of the board.
  pub no_links_call : (p : ℕ) → p < size s → score_call (clear_call s).after.edges (size s) p ≡ record { refusal = 0; score = 0 }
  no_links_call p h =
      ap (λ t. score_call t.edges (size s) p) after_is
      ∙ sym (score_accepted (cleared (size s)).edges (size s) p sized h
      (omega (arith, edgeless_degree (graph (cleared (size s))) (size s) p (none p)))
      (sym (edgeless_score (graph (cleared (size s))) (size s) p (none p))))
