-- 01's cases marked P and those of 02's request 7, as a table: small histories with what must come out. Assumes nothing.
use Rattle.std.specs.Prelude.{◌≡◌, List, [], ◌∷◌, ℕ, ◌*◌, replicate}
use Rattle.arith.specs.Sums.{tabulate}
use Rattle.ego.specs.Limits.{unit}
use Rattle.ego.specs.Score.{score}
use Rattle.state.specs.Sizes.{edge_bytes}
use Rattle.state.specs.Marks.{mark_bytes}
use Rattle.state.specs.State.{State, graph, state}
use Rattle.merge.specs.Pinned.{brought}
use Rattle.topk.specs.List.{list_call}
use Rattle.history.specs.Model.{Call, clear, add, remove, reconcile, reconcile_pinned}
use Rattle.history.specs.History.{answer, state_after}

-- The calls after a clear, on n nodes; then the last one's refusal number, the link bytes, each node's score, and the entry of a list of one.
pub record Case : Type 0 where
  pub nodes : ℕ
  pub calls : List Call
  pub answer : ℕ
  pub edges : List ℕ
  pub scores : List ℕ
  pub top : List ℕ

-- a state of the right lengths that holds anything
abbrev pub unclean : ℕ → State
unclean n = state (replicate (edge_bytes n) 255) (replicate n 7) (replicate (mark_bytes n) 255)

unfoldable pub run_calls : State → List Call → State
run_calls s [] = s
run_calls s (call ∷ calls) = run_calls (state_after s call) calls

-- the refusal number of the last call
unfoldable pub last_answer : State → List Call → ℕ
last_answer s [] = 0
last_answer s (call ∷ []) = answer s call
last_answer s (call ∷ next ∷ calls) = last_answer (state_after s call) (next ∷ calls)

abbrev pub state_reached : Case → State
state_reached c = run_calls (unclean c.nodes) (clear ∷ c.calls)

-- what must come out
pub record Meets (c : Case) : Type 0 where
  pub answer_is : last_answer (unclean c.nodes) (clear ∷ c.calls) ≡ c.answer
  pub edges_are : (state_reached c).edges ≡ c.edges
  pub scores_are : tabulate (score (graph (state_reached c)) c.nodes) c.nodes ≡ c.scores
  pub top_is : (list_call (state_reached c) (9 ∷ 9 ∷ []) (replicate c.nodes 9)).entries ≡ c.top

abbrev pub half : ℕ
half = 2671465728531600

abbrev pub almost : List Call
almost = add 0 1 ∷ add 0 2 ∷ add 0 3 ∷ add 1 2 ∷ add 1 3 ∷ []

-- document 000, Example 1, with d for 6 and a b c g h i for 0 to 5
abbrev pub document : List Call
document =
    add 6 0 ∷ add 6 1 ∷ add 6 2 ∷ add 6 3 ∷ add 6 4 ∷ add 6 5 ∷
    add 0 1 ∷ add 0 2 ∷ add 1 2 ∷ add 2 3 ∷ add 2 4 ∷ add 3 5 ∷ add 4 5 ∷ []

abbrev pub case : ℕ → List Call → ℕ → List ℕ → List ℕ → List ℕ → Case
case nodes calls answer edges scores top = record { nodes = nodes; calls = calls; answer = answer; edges = edges; scores = scores; top = top }

abbrev pub table : List Case
table =
    -- No links: score 0. n = 1: no link bytes, list of 1 is post 0 with 0.
    case 1 [] 0 [] (0 ∷ []) (0 ∷ 0 ∷ []) ∷
    case 3 [] 0 (0 ∷ []) (0 ∷ 0 ∷ 0 ∷ []) (0 ∷ 0 ∷ []) ∷
    -- Star 0–1, 0–2, 0–3, n = 4: link byte D0, score of 0 is 3.
    case 4 (add 0 1 ∷ add 0 2 ∷ add 0 3 ∷ []) 0 (0xD0 ∷ []) (3 * unit ∷ 0 ∷ 0 ∷ 0 ∷ []) (0 ∷ 3 * unit ∷ []) ∷
    -- Ring 0–1–2–3–0: each score 1.
    case 4 (add 0 1 ∷ add 1 2 ∷ add 2 3 ∷ add 3 0 ∷ []) 0 (0xB4 ∷ []) (unit ∷ unit ∷ unit ∷ unit ∷ []) (0 ∷ unit ∷ []) ∷
    -- All six links of n = 4 but 2–3: posts 0 and 1 score 1/2; 2 and 3 score 0.
    case 4 almost 0 (0xF8 ∷ []) (half ∷ half ∷ 0 ∷ 0 ∷ []) (0 ∷ half ∷ []) ∷
    -- Adding 2–3 there makes all scores 0; removing it brings 1/2 back.
    case 4 (add 0 1 ∷ add 0 2 ∷ add 0 3 ∷ add 1 2 ∷ add 1 3 ∷ add 2 3 ∷ []) 0 (0xFC ∷ []) (0 ∷ 0 ∷ 0 ∷ 0 ∷ []) (0 ∷ 0 ∷ []) ∷
    case 4 (add 0 1 ∷ add 0 2 ∷ add 0 3 ∷ add 1 2 ∷ add 1 3 ∷ add 2 3 ∷ remove 2 3 ∷ []) 0 (0xF8 ∷ []) (half ∷ half ∷ 0 ∷ 0 ∷ []) (0 ∷ half ∷ []) ∷
    -- Path 0–1, then add 1–2: post 1 goes from 0 to 1.
    case 3 (add 0 1 ∷ []) 0 (0x80 ∷ []) (0 ∷ 0 ∷ 0 ∷ []) (0 ∷ 0 ∷ []) ∷
    case 3 (add 0 1 ∷ add 1 2 ∷ []) 0 (0xA0 ∷ []) (0 ∷ unit ∷ 0 ∷ []) (1 ∷ unit ∷ []) ∷
    -- Document 000, Example 1: 14/3, or 24,933,680,132,961,600.
    case 7 document 0 (0xE4 ∷ 0x87 ∷ 0xF8 ∷ []) (0 ∷ 0 ∷ 5 * half ∷ half ∷ half ∷ half ∷ 24933680132961600 ∷ []) (6 ∷ 24933680132961600 ∷ []) ∷
    -- Original 0–1; mine also has 0–2; theirs has none: only 0–2 stays.
    case 3 (add 0 1 ∷ add 0 2 ∷ reconcile (0x00 ∷ []) (0x80 ∷ []) ∷ []) 0 (0x40 ∷ []) (0 ∷ 0 ∷ 0 ∷ []) (0 ∷ 0 ∷ []) ∷
    -- Original 0–1; mine confirms it and has it; theirs has none: refusal 15. Where mine does not confirm it, it goes.
    case 3 (add 0 1 ∷ reconcile_pinned (brought (0x80 ∷ []) (0x00 ∷ []) (0x00 ∷ []) (0x80 ∷ [])) ∷ []) 15 (0x80 ∷ []) (0 ∷ 0 ∷ 0 ∷ []) (0 ∷ 0 ∷ []) ∷
    case 3 (add 0 1 ∷ reconcile_pinned (brought (0x00 ∷ []) (0x00 ∷ []) (0x00 ∷ []) (0x80 ∷ [])) ∷ []) 0 (0x00 ∷ []) (0 ∷ 0 ∷ 0 ∷ []) (0 ∷ 0 ∷ []) ∷
    -- Original none; theirs confirms 0–1 absent; mine adds it: refusal 15.
    case 3 (add 0 1 ∷ reconcile_pinned (brought (0x00 ∷ []) (0x00 ∷ []) (0x80 ∷ []) (0x00 ∷ [])) ∷ []) 15 (0x80 ∷ []) (0 ∷ 0 ∷ 0 ∷ []) (0 ∷ 0 ∷ []) ∷
    []

-- How many posts 01's listing works out: a board of four is cleared and gets the star's links, then two are listed.
abbrev pub listing_works : ℕ
listing_works = (list_call (run_calls (unclean 4) (clear ∷ add 0 1 ∷ add 0 2 ∷ add 0 3 ∷ [])) (9 ∷ 9 ∷ 9 ∷ 9 ∷ []) (replicate 4 9)).recomputed
