-- The call that scores one node. Assumes nothing.
use Rattle.std.specs.Prelude.{cond, List, [], ◌∷◌, ◌++◌, ℕ, eqb, length}
use Rattle.packed.specs.Edges.{edge}
use Rattle.ego.specs.Score.{score}
use Rattle.state.specs.Refusal.{refusal, node_number, crowded_before}
use Rattle.state.specs.Outcome.{edge_lengths}

-- the refusal number, and the score beside it
pub record Scored : Type 0 where
  pub refusal : ℕ
  pub score : ℕ

abbrev pub scored : ℕ → ℕ → Scored
scored refusal score = record { refusal = refusal; score = score }

-- with a refusal, 0 for the score beside it
unfoldable pub score_call : List ℕ → ℕ → ℕ → Scored
score_call edges n p =
    let r = refusal (edge_lengths n (length edges) ++ node_number n p ∷ crowded_before (edge edges) n (eqb p) ∷ []) in
    record { refusal = r; score = cond (eqb r 0) (score (edge edges) n p) 0 }
