-- Demand 3: one statement about a whole history of calls. Assumes nothing.
use Rattle.std.specs.Prelude.{◌≡◌, Bool, true, false, List, [], ◌∷◌, ℕ, ◌≤◌, ◌<◌, take}
use Rattle.arith.specs.Sums.{count_to}
use Rattle.ego.specs.Graph.{Graph}
use Rattle.ego.specs.Score.{score}
use Rattle.state.specs.State.{State, size, graph, figure, is_stale}
use Rattle.state.specs.Outcome.{Outcome}
use Rattle.state.specs.Refusal.{touched}
use Rattle.calls.specs.Clear.{clear_call}
use Rattle.calls.specs.Snapshot.{load_call}
use Rattle.edits.specs.Edit.{add_call, remove_call}
use Rattle.merge.specs.Pinned.{pinned_call}
use Rattle.merge.specs.Reconcile.{reconcile_call}
use Rattle.schedule.specs.Sheet.{load_at_call}
use Rattle.topk.specs.Entries.{over}
use Rattle.topk.specs.declared.entries.Entry.{Entry}
use Rattle.topk.specs.List.{Listed, list_call}
use Rattle.listing.specs.Records.{entries_call}
use Rattle.topk.specs.Ranking.{ranking, works_out}
use Rattle.history.specs.Model.{Call, clear, load, load_at, add, remove, reconcile, reconcile_pinned, list, Entries, in_row, as_records, room, no_pairs, model, model_refusal}

-- What a call leaves: the refusal number that it answers, and the state; of a list also the worked count, the entries and the scratch.
pub record Effect : Type 0 where
  pub answer : ℕ
  pub after : State
  pub recomputed : ℕ
  pub entries : Entries
  pub scratch : List ℕ

abbrev pub of_state : Outcome → Effect
of_state o = record { answer = o.refusal; after = o.after; recomputed = 0; entries = in_row []; scratch = [] }

abbrev pub of_list : {A : Type 0} → (List A → Entries) → Listed A → Effect
of_list lent l = record { answer = l.refusal; after = l.after; recomputed = l.recomputed; entries = lent l.entries; scratch = l.scratch }

-- It is what the very definition gives that the public function's contract equals.
unfoldable pub effect : State → Call → Effect
effect s clear = of_state (clear_call s)
effect s (load snapshot) = of_state (load_call s snapshot)
effect s (load_at schedule t) = of_state (load_at_call s schedule t)
effect s (add a b) = of_state (add_call s a b)
effect s (remove a b) = of_state (remove_call s a b)
effect s (reconcile theirs base) = of_state (reconcile_call s theirs base)
effect s (reconcile_pinned brought) = of_state (pinned_call s brought)
effect s (list (in_row numbers) scratch) = of_list in_row (list_call s numbers scratch)
effect s (list (as_records records) scratch) = of_list as_records (entries_call s records scratch)

abbrev pub state_after : State → Call → State
state_after s call = (effect s call).after

abbrev pub answer : State → Call → ℕ
answer s call = (effect s call).answer

-- ---- lists and edits

-- the first k of all nodes by score, lower number first at a tie
abbrev pub first_of : ℕ → Graph → ℕ → List Entry
first_of n g k = take k (ranking (score g n) n)

-- entries that hold xs: in a row, with what lies past them as it was lent; or as records, all of them
abbrev pub filled_with : List Entry → Entries → Entries
filled_with xs (in_row numbers) = in_row (over xs numbers)
filled_with xs (as_records records) = as_records xs

-- what is said of a list alone, by the entries that it is lent
abbrev pub OfList : Call → (Entries → Type 0) → Type 0
OfList clear P = Unit {0}
OfList (load snapshot) P = Unit {0}
OfList (load_at schedule t) P = Unit {0}
OfList (add a b) P = Unit {0}
OfList (remove a b) P = Unit {0}
OfList (reconcile theirs base) P = Unit {0}
OfList (reconcile_pinned brought) P = Unit {0}
OfList (list entries scratch) P = P entries

-- what is said of an add or a removal alone, by its two ends
abbrev pub OfEdit : Call → (ℕ → ℕ → Type 0) → Type 0
OfEdit clear P = Unit {0}
OfEdit (load snapshot) P = Unit {0}
OfEdit (load_at schedule t) P = Unit {0}
OfEdit (add a b) P = P a b
OfEdit (remove a b) P = P a b
OfEdit (reconcile theirs base) P = Unit {0}
OfEdit (reconcile_pinned brought) P = Unit {0}
OfEdit (list entries scratch) P = Unit {0}

-- the node's figure and mark are as they were
abbrev pub Unaltered : State → State → ℕ → Type 0
Unaltered s t p = (is_stale t p ≡ is_stale s p) × (figure t p ≡ figure s p)

-- ---- demand 3, sentence by sentence

pub data Sentence : Type 0 where
  links settled stale refusal first_k worked settles others edits nodes : Sentence

-- What each says of one call of a history: s is the state before it, g has the model's pairs before it, and e is what it leaves.
-- Stored figures, and which nodes are stale, are read from s, as a list finds it.
abbrev pub Says : ℕ → State → Graph → Call → Effect → Sentence → Type 0
-- After the call the links are exactly the model's pairs,
Says n s g call e links = (a b : ℕ) → a < n → b < n → graph e.after a b ≡ model n g call a b
-- each settled figure is exactly its node's score worked afresh from the model,
Says n s g call e settled = (p : ℕ) → p < n → is_stale e.after p ≡ false → figure e.after p ≡ score (model n g call) n p
-- and no open figure is below that score.
Says n s g call e stale = (p : ℕ) → p < n → is_stale e.after p ≡ true → score (model n g call) n p ≤ figure e.after p
-- Its refusal number is the model's.
Says n s g call e refusal = e.answer ≡ model_refusal n g call
-- The entries of an accepted list are the first k of all nodes by those scores, lower number first at a tie, each with its score in grains;
Says n s g call e first_k = OfList call (λ entries. e.answer ≡ 0 → e.entries ≡ filled_with (first_of n g (room entries)) entries)
-- its worked count is the number of nodes stale beforehand whose stored figure, then number, ranks at or before the last listed score and its number;
Says n s g call e worked = OfList call (λ entries. e.answer ≡ 0 → e.recomputed ≡ count_to (works_out s.figures s.marks (first_of n g (room entries))) n)
-- it settles those,
Says n s g call e settles = OfList call (λ entries. e.answer ≡ 0 → (p : ℕ) → p < n → works_out s.figures s.marks (first_of n g (room entries)) p ≡ true
    → (is_stale e.after p ≡ false) × (figure e.after p ≡ score g n p))
-- and alters no other node's figure or mark.
Says n s g call e others = OfList call (λ entries. e.answer ≡ 0 → (p : ℕ) → p < n → works_out s.figures s.marks (first_of n g (room entries)) p ≡ false
    → Unaltered s e.after p)
-- No add or removal alters the figure or mark of a node other than its two ends and their common neighbours.
Says n s g call e edits = OfEdit call (λ a b. (p : ℕ) → p < n → touched g a b p ≡ false → Unaltered s e.after p)
-- The number of nodes stays.
Says n s g call e nodes = size e.after ≡ n

-- One call of a history keeps them all.
abbrev pub Promise : ℕ → State → Graph → Call → Effect → Type 0
Promise n s g call e = (x : Sentence) → Says n s g call e x

-- Every call of a history, in order, each on the state that the one before it leaves.
abbrev pub Promises : ℕ → State → Graph → List Call → Type 0
Promises n s g [] = Unit {0}
Promises n s g (call ∷ calls) = Promise n s g call (effect s call) × Promises n (state_after s call) (model n g call) calls

-- A history begins with a clear or a load that is accepted, on any state; a schedule that is loaded at a minute starts one as any load does.
abbrev pub starts : Call → Bool
starts clear = true
starts (load snapshot) = true
starts (load_at schedule t) = true
starts (add a b) = false
starts (remove a b) = false
starts (reconcile theirs base) = false
starts (reconcile_pinned brought) = false
starts (list entries scratch) = false

-- DEMAND 3. The model is fed n once: the count of the figures that the first call is lent. proofs/Theorem has its proof.
abbrev pub Demand3 : Type 0
Demand3 = (s : State) (first : Call) (calls : List Call) → starts first ≡ true → answer s first ≡ 0 → Promises (size s) s no_pairs (first ∷ calls)
