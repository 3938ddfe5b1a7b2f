-- Each sentence of demand 3 as a test that the checker computes. Assumes nothing.
use mathlib.Core.Bool.{◌&&◌, Bool, beq, false, not, true, true≢false, ◌||◌}
use mathlib.Core.List.{List}
use mathlib.Core.Path.{ap, ap₂, sym, ◌≡◌}
use Prim.Native.Nat.{ℕ}
use lib.Dec.{eqb, leb}
use Rattle.arith.proofs.Tests.{each}
use Rattle.arith.specs.Sums.{count_to}
use Rattle.cases.proofs.Reflect.{always, bits, both, everywhere, lists, numbers, orders, Reflects, said_as, same_lists, whenever}
use Rattle.ego.specs.Graph.{Graph}
use Rattle.ego.specs.Score.{score}
use Rattle.history.specs.History.{edits, Effect, filled_with, first_k, first_of, links, nodes, OfEdit, OfList, others, refusal, Says, Sentence, settled, settles, stale, worked}
use Rattle.history.specs.Model.{add, as_records, Call, clear, Entries, in_row, list, load, load_at, model, model_refusal, reconcile, reconcile_pinned, remove, room}
use Rattle.state.specs.Refusal.{touched}
use Rattle.state.specs.State.{figure, graph, is_stale, size, State}
use Rattle.topk.specs.declared.entries.Entry.{Entry}
use Rattle.topk.specs.Ranking.{works_out}

-- ---- entries that are the same

abbrev same_entry : Entry → Entry → Bool
same_entry x y = eqb x.node y.node && eqb x.figure y.figure

entry_same : (x y : Entry) → Reflects (x ≡ y) (same_entry x y)
entry_same x y = said_as {P = (x.node ≡ y.node) × (x.figure ≡ y.figure)}
    (λ h. ap₂ (λ n f. record { node = n; figure = f }) h.0 h.1) (λ e. (ap (λ (z : Entry). z.node) e, ap (λ (z : Entry). z.figure) e))
    (both _ _ (numbers x.node y.node) (numbers x.figure y.figure))

abbrev same_entries : Entries → Entries → Bool
same_entries (in_row xs) (in_row ys) = same_lists eqb xs ys
same_entries (in_row xs) (as_records ys) = false
same_entries (as_records xs) (in_row ys) = false
same_entries (as_records xs) (as_records ys) = same_lists same_entry xs ys

abbrev in_a_row : Entries → Bool
in_a_row (in_row xs) = true
in_a_row (as_records xs) = false

abbrev numbers_of : List ℕ → Entries → List ℕ
numbers_of d (in_row xs) = xs
numbers_of d (as_records xs) = d

abbrev records_of : List Entry → Entries → List Entry
records_of d (in_row xs) = d
records_of d (as_records xs) = xs

entries_same : (x y : Entries) → Reflects (x ≡ y) (same_entries x y)
entries_same (in_row xs) (in_row ys) = said_as (ap in_row) (ap (numbers_of xs)) (lists eqb numbers xs ys)
entries_same (in_row xs) (as_records ys) = record { holds = λ e. absurd (true≢false (sym e)); fails = λ e p. true≢false (ap in_a_row p) }
entries_same (as_records xs) (in_row ys) = record { holds = λ e. absurd (true≢false (sym e)); fails = λ e p. true≢false (sym (ap in_a_row p)) }
entries_same (as_records xs) (as_records ys) = said_as (ap as_records) (ap (records_of xs)) (lists same_entry entry_same xs ys)

-- ---- what is said of lists and of edits alone

abbrev where_listed : Call → (Entries → Bool) → Bool
where_listed clear f = true
where_listed (load snapshot) f = true
where_listed (load_at schedule t) f = true
where_listed (add a b) f = true
where_listed (remove a b) f = true
where_listed (reconcile theirs base) f = true
where_listed (reconcile_pinned brought) f = true
where_listed (list entries scratch) f = f entries

of_list_lem : (call : Call) {P : Entries → Type 0} (f : Entries → Bool) → ((entries : Entries) → Reflects (P entries) (f entries))
    → Reflects (OfList call P) (where_listed call f)
of_list_lem clear f r = always
of_list_lem (load snapshot) f r = always
of_list_lem (load_at schedule t) f r = always
of_list_lem (add a b) f r = always
of_list_lem (remove a b) f r = always
of_list_lem (reconcile theirs base) f r = always
of_list_lem (reconcile_pinned brought) f r = always
of_list_lem (list entries scratch) f r = r entries

abbrev of_edit : Call → (ℕ → ℕ → Bool) → Bool
of_edit clear f = true
of_edit (load snapshot) f = true
of_edit (load_at schedule t) f = true
of_edit (add a b) f = f a b
of_edit (remove a b) f = f a b
of_edit (reconcile theirs base) f = true
of_edit (reconcile_pinned brought) f = true
of_edit (list entries scratch) f = true

of_edit_lem : (call : Call) {P : ℕ → ℕ → Type 0} (f : ℕ → ℕ → Bool) → ((a b : ℕ) → Reflects (P a b) (f a b))
    → Reflects (OfEdit call P) (of_edit call f)
of_edit_lem clear f r = always
of_edit_lem (load snapshot) f r = always
of_edit_lem (load_at schedule t) f r = always
of_edit_lem (add a b) f r = r a b
of_edit_lem (remove a b) f r = r a b
of_edit_lem (reconcile theirs base) f r = always
of_edit_lem (reconcile_pinned brought) f r = always
of_edit_lem (list entries scratch) f r = always

-- ---- the sentences

module _ (n : ℕ) (s : State) (g : Graph) (call : Call) (e : Effect) where
  -- a list that is lent the entries works p out
  abbrev worked_out : Entries → ℕ → Bool
  worked_out entries = works_out s.figures s.marks (first_of n g (room entries))

  -- p's mark is `mark`, and its figure `value`
  abbrev became : Bool → ℕ → ℕ → Bool
  became mark value p = beq (is_stale e.after p) mark && eqb (figure e.after p) value

  became_is : (mark : Bool) (value p : ℕ) → Reflects ((is_stale e.after p ≡ mark) × (figure e.after p ≡ value)) (became mark value p)
  became_is mark value p = both _ _ (bits _ mark) (numbers _ value)

  abbrev pub tested : Sentence → Bool
  tested links = each (λ a. each (λ b. beq (graph e.after a b) (model n g call a b)) n) n
  tested settled = each (λ p. not (beq (is_stale e.after p) false) || eqb (figure e.after p) (score (model n g call) n p)) n
  tested stale = each (λ p. not (beq (is_stale e.after p) true) || leb (score (model n g call) n p) (figure e.after p)) n
  tested refusal = eqb e.answer (model_refusal n g call)
  tested first_k = where_listed call (λ entries. not (eqb e.answer 0) || same_entries e.entries (filled_with (first_of n g (room entries)) entries))
  tested worked = where_listed call (λ entries. not (eqb e.answer 0) || eqb e.recomputed (count_to (worked_out entries) n))
  tested settles = where_listed call (λ entries. not (eqb e.answer 0) || each (λ p. not (beq (worked_out entries p) true) || became false (score g n p) p) n)
  tested others = where_listed call (λ entries. not (eqb e.answer 0)
      || each (λ p. not (beq (worked_out entries p) false) || became (is_stale s p) (figure s p) p) n)
  tested edits = of_edit call (λ a b. each (λ p. not (beq (touched g a b p) false) || became (is_stale s p) (figure s p) p) n)
  tested nodes = eqb (size e.after) n

  pub tests : (x : Sentence) → Reflects (Says n s g call e x) (tested x)
  tests links = said_as (λ h a b ha hb. h a ha b hb) (λ h a ha b hb. h a b ha hb) (everywhere _ (λ a. everywhere _ (λ b. bits _ _) n) n)
  tests settled = everywhere _ (λ p. whenever _ _ (bits _ false) (numbers _ _)) n
  tests stale = everywhere _ (λ p. whenever _ _ (bits _ true) (orders _ _)) n
  tests refusal = numbers _ _
  tests first_k = of_list_lem call _ (λ entries. whenever _ _ (numbers _ 0) (entries_same _ _))
  tests worked = of_list_lem call _ (λ entries. whenever _ _ (numbers _ 0) (numbers _ _))
  tests settles = of_list_lem call _ (λ entries. whenever _ _ (numbers _ 0) (everywhere _ (λ p. whenever _ _ (bits _ true) (became_is false _ p)) n))
  tests others = of_list_lem call _ (λ entries. whenever _ _ (numbers _ 0) (everywhere _ (λ p. whenever _ _ (bits _ false) (became_is _ _ p)) n))
  tests edits = of_edit_lem call _ (λ a b. everywhere _ (λ p. whenever _ _ (bits _ false) (became_is _ _ p)) n)
  tests nodes = numbers _ _
