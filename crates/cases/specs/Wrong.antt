-- What demand 3 excludes, as a table: wrong outcomes of a call, each of which keeps every sentence of the demand but one. Assumes nothing.
use Rattle.std.specs.Prelude.{List, [], ◌∷◌, ◌++◌, ◌≢◌, Bool, true, false, ℕ, ◌+◌, ◌-◌, set}
use Rattle.ego.specs.Graph.{Graph}
use Rattle.ego.specs.Limits.{unit}
use Rattle.merge.specs.Pinned.{brought}
use Rattle.state.specs.Marks.{with_mark}
use Rattle.state.specs.State.{State, state}
use Rattle.topk.specs.Entries.{entry}
use Rattle.history.specs.Model.{Call, clear, load, load_at, add, remove, reconcile_pinned, list, Entries, in_row, as_records, no_pairs, model}
use Rattle.history.specs.History.{Effect, effect, Sentence, links, settled, stale, refusal, first_k, worked, settles, others, edits, nodes, Says}
use Rattle.cases.specs.Cases.{run_calls, unclean}

-- A history on some number of posts, the call after it, and what a wrong program makes of the call's effect; `breaks` is the sentence that excludes it.
pub record Wrong : Type 0 where
  pub breaks : Sentence
  pub posts : ℕ
  pub history : List Call
  pub call : Call
  pub wrongly : Effect → Effect

-- the state that the call finds, and the model's pairs before it
abbrev pub found : Wrong → State
found w = run_calls (unclean w.posts) w.history

abbrev pub models : ℕ → Graph → List Call → Graph
models n g [] = g
models n g (call ∷ calls) = models n (model n g call) calls

-- what a sentence says of the wrong outcome
abbrev pub Claim : Wrong → Sentence → Type 0
Claim w x = Says w.posts (found w) (models w.posts no_pairs w.history) w.call (w.wrongly (effect (found w) w.call)) x

-- The wrong outcome keeps every other sentence, and fails that one.
pub record Excluded (w : Wrong) : Type 0 where
  pub keeps : (x : Sentence) → x ≢ w.breaks → Claim w x
  pub fails : Claim w w.breaks → ⊥

-- ---- wrong outcomes

abbrev pub leaving : (State → State) → Effect → Effect
leaving f e = record { answer = e.answer; after = f e.after; recomputed = e.recomputed; entries = e.entries; scratch = e.scratch }

-- other edges; another figure, or mark, of post p; a figure too many
abbrev pub linked : List ℕ → Effect → Effect
linked edges = leaving (λ s. state edges s.figures s.marks)

abbrev pub figured : ℕ → ℕ → Effect → Effect
figured p x = leaving (λ s. state s.edges (set s.figures p x) s.marks)

abbrev pub marked : ℕ → Bool → Effect → Effect
marked p on = leaving (λ s. state s.edges s.figures (with_mark s.marks p on))

abbrev pub lengthened : Effect → Effect
lengthened = leaving (λ s. state s.edges (s.figures ++ 0 ∷ []) s.marks)

-- another refusal number, other entries, one more in the worked count
abbrev pub answering : ℕ → Effect → Effect
answering r e = record { answer = r; after = e.after; recomputed = e.recomputed; entries = e.entries; scratch = e.scratch }

abbrev pub with_entries : Entries → Effect → Effect
with_entries entries e = record { answer = e.answer; after = e.after; recomputed = e.recomputed; entries = entries; scratch = e.scratch }

abbrev pub overcounting : Effect → Effect
overcounting e = record { answer = e.answer; after = e.after; recomputed = e.recomputed + 1; entries = e.entries; scratch = e.scratch }

-- ---- the table

abbrev pub wrong : Sentence → ℕ → List Call → Call → (Effect → Effect) → Wrong
wrong breaks posts history call wrongly = record { breaks = breaks; posts = posts; history = history; call = call; wrongly = wrongly }

-- The ring 0–1–2–3–0, where each score and each ceiling is 1: a list of two works out posts 0 and 1.
abbrev pub ring : List Call
ring = load (3 ∷ 0xB4 ∷ []) ∷ []

abbrev pub list_of_two : Call
list_of_two = list (in_row (9 ∷ 9 ∷ 9 ∷ 9 ∷ [])) (9 ∷ 9 ∷ 9 ∷ 9 ∷ [])

abbrev pub two_records : Call
two_records = list (as_records (entry 9 9 ∷ entry 9 9 ∷ [])) (9 ∷ 9 ∷ 9 ∷ 9 ∷ [])

abbrev pub wrongs : List Wrong
wrongs =
    -- An add that leaves the links as they were.
    wrong links 3 (clear ∷ []) (add 0 1) (linked (0 ∷ [])) ∷
    -- A schedule loaded with a link that closes at the minute: posts 0 and 1 from 0 to 10, at 10.
    wrong links 2 [] (load_at (1 ∷ 0 ∷ 1 ∷ 0 ∷ 0 ∷ 0 ∷ 10 ∷ []) 10) (linked (0x80 ∷ [])) ∷
    -- A reconcile with pins that leaves a link which theirs has removed and nobody has confirmed.
    wrong links 3 (clear ∷ add 0 1 ∷ []) (reconcile_pinned (brought (0x00 ∷ []) (0x00 ∷ []) (0x00 ∷ []) (0x80 ∷ []))) (linked (0x80 ∷ [])) ∷
    -- A settled figure off by one grain.
    wrong settled 3 [] clear (figured 0 1) ∷
    -- An open figure one grain below the score: the path 0–1–2, where post 1 scores 1.
    wrong stale 3 [] (load (2 ∷ 0xA0 ∷ [])) (figured 1 (unit - 1)) ∷
    -- Refusal 4 for 5.
    wrong refusal 3 (clear ∷ []) (add 0 0) (answering 4) ∷
    -- Refusal 10 for 13: hours that end where they begin, of another number of posts.
    wrong refusal 3 (clear ∷ []) (load_at (1 ∷ 0 ∷ 1 ∷ 0 ∷ 10 ∷ 0 ∷ 10 ∷ []) 10) (answering 10) ∷
    -- Refusal 2 for 15: theirs has removed a link that mine confirms.
    wrong refusal 3 (clear ∷ add 0 1 ∷ []) (reconcile_pinned (brought (0x80 ∷ []) (0x00 ∷ []) (0x00 ∷ []) (0x80 ∷ []))) (answering 2) ∷
    -- The first two exchanged at a tie.
    wrong first_k 4 ring list_of_two (with_entries (in_row (1 ∷ unit ∷ 0 ∷ unit ∷ []))) ∷
    wrong first_k 4 ring two_records (with_entries (as_records (entry 1 unit ∷ entry 0 unit ∷ []))) ∷
    -- A worked count one too many.
    wrong worked 4 ring list_of_two overcounting ∷
    wrong worked 4 ring two_records overcounting ∷
    -- A post worked out and not settled.
    wrong settles 4 ring list_of_two (marked 0 true) ∷
    wrong settles 4 ring two_records (marked 1 true) ∷
    -- Another post's mark, or figure, changed by a list.
    wrong others 4 ring list_of_two (marked 3 false) ∷
    wrong others 4 ring list_of_two (figured 3 (unit + 1)) ∷
    wrong others 4 ring two_records (marked 2 false) ∷
    -- Another post's mark, or figure, changed by an add, and by a removal.
    wrong edits 4 (clear ∷ []) (add 0 1) (marked 3 true) ∷
    wrong edits 4 (load (3 ∷ 0 ∷ []) ∷ []) (add 0 1) (figured 2 1) ∷
    wrong edits 4 (load (3 ∷ 0x80 ∷ []) ∷ []) (remove 0 1) (marked 3 false) ∷
    wrong edits 4 (load (3 ∷ 0x80 ∷ []) ∷ []) (remove 0 1) (figured 2 1) ∷
    -- A post more.
    wrong nodes 3 [] clear lengthened ∷
    []
