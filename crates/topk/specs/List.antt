-- The list call over plain buffers: entry i at 2i (node) and 2i + 1 (grains) of one buffer of numbers. Assumes nothing.
use Rattle.std.specs.Prelude.{cond, List, [], ◌∷◌, ◌++◌, ℕ, ◌/◌, eqb, length, drop, replicate}
use Rattle.ego.specs.Graph.{Graph}
use Rattle.ego.specs.Score.{score}
use Rattle.state.specs.Sizes.{scratch_bytes}
use Rattle.state.specs.State.{state, State, size, graph}
use Rattle.state.specs.Refusal.{Condition, refusal, scratch_length, list_length, crowded_before, everyone}
use Rattle.state.specs.Outcome.{lengths}
use Rattle.topk.specs.Entries.{over}
use Rattle.topk.specs.Steps.{all_steps, Progress}

-- the refusal number, the count of nodes worked out, and everything lent as the call leaves it; the entries are numbers in a row, or records
pub record Listed (A : Type 0) : Type 0 where
  pub refusal : ℕ
  pub recomputed : ℕ
  pub after : State
  pub entries : List A
  pub scratch : List ℕ

abbrev pub listing : {A : Type 0} → ℕ → ℕ → State → List A → List ℕ → Listed A
listing refusal recomputed after entries scratch =
    record { refusal = refusal; recomputed = recomputed; after = after; entries = entries; scratch = scratch }

-- k is half the length of the entries, rounded down
abbrev pub wanted : List ℕ → ℕ
wanted entries = length entries / 2

-- the conditions of a list of k entries and so many bytes of scratch, besides the lengths of the state
abbrev pub list_conditions : ℕ → Graph → ℕ → ℕ → List Condition
list_conditions n g k scratch = scratch_length n scratch ∷ list_length n k ∷ crowded_before g n everyone ∷ []

-- all steps of a list of k entries
abbrev pub list_of : State → ℕ → Progress
list_of s k = all_steps (score (graph s) (size s)) k s.figures s.marks

-- what an accepted list leaves: the kept entries first and a number beyond them as it was; the bytes of the scratch that n bits take are 0, the others as before
unfoldable pub accepted_list : State → List ℕ → List ℕ → Listed ℕ
accepted_list s entries scratch =
    let run = list_of s (wanted entries) in
    listing 0 run.recomputed (state s.edges run.figures run.marks) (over run.kept entries)
    (replicate (scratch_bytes (size s)) 0 ++ drop (scratch_bytes (size s)) scratch)

unfoldable pub list_call : State → List ℕ → List ℕ → Listed ℕ
list_call s entries scratch =
    let r = refusal (lengths s ++ list_conditions (size s) (graph s) (wanted entries) (length scratch)) in
    cond (eqb r 0) (accepted_list s entries scratch) (listing r 0 s entries scratch)
