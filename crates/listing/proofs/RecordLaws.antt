-- Entries as records and in a row: the list of k entries, and the rows of numbers laid over entries that are lent. Assumes nothing.
use mathlib.Core.List.{◌++◌, [], append_assoc, append-nil, List, ◌∷◌}
use mathlib.Core.Path.{ap, refl, subst, sym, ◌∙◌, ◌≡◌}
use Prim.Native.Nat.{◌*◌, ◌+◌, ◌/◌, ◌<◌, min, suc, zero, ℕ, ◌≤◌}
use native.Mathlib.Decide.{dec_lt, ℕ_discrete}
use native.Mathlib.Nat.{le_antisymm, le_refl}
use native.Mathlib.Numerals.{add-one}
use native.Mathlib.Omega.{arith}
use borrow.Author.Tests.{lt-ltb, ne_eqb}
use lib.ListN.{drop, get_or, length, length-append, length-set, set, take, take-append-drop}
use lib.Seq.{drop-length, drop-set-lt, get_or-drop, length-take-le, take-suc-set}
use Rattle.ego.specs.Score.{score}
use Rattle.std.proofs.Common.{Result, Ok, Err, IsErrAnd}
use Rattle.packed.specs.Pairs.{max_nodes}
use Rattle.state.proofs.AnswerLaws.{number_some}
use Rattle.state.specs.Answers as answer
use Rattle.state.specs.Answers.{number, value_of}
use Rattle.state.specs.declared.refusal.Refusal.{Refusal}
use Rattle.state.proofs.RefusalLaws.{append_refused, Fitted}
use Rattle.calls.proofs.AcceptLaws.{lengths_fit, lengths_pass}
use Rattle.state.specs.Outcome.{lengths}
use Rattle.state.specs.State.{graph, size, State}
use Rattle.state.specs.Refusal.{Condition, crowded_before, everyone, list_length, refusal, scratch_length}
use Rattle.topk.proofs.Full.{all_steps-length}
use Rattle.topk.proofs.LayoutLaws.{entries_of_flat, length_flat}
use Rattle.topk.specs.Entries.{entry, flat, entries_of}
use Rattle.topk.specs.declared.entries.Entry.{Entry}
use Rattle.topk.proofs.ListLaws.{accepted_of, call_passed, call_refusal, call_taken, list_call_refused, refusal_of}
use Rattle.topk.specs.List.{list_call, list_conditions, listing, Listed, list_of, wanted}
use Rattle.listing.specs.Records.{entries_call}
use Rattle.topk.specs.Inside.Layout.{entry_in}
use Rattle.topk.specs.Steps.{Progress}

-- the entries that the numbers have room for: one more than there can be nodes
abbrev pub rows : ℕ
rows = max_nodes + 1

-- the first m entries of a buffer over entries that are lent
abbrev pub laid : ℕ → List ℕ → List Entry → List Entry
laid m numbers entries = entries_of m numbers ++ drop m entries

-- ---- entries in a row

half : (a b : ℕ) → a ≡ 2 * b → a / 2 ≡ b
half a b e = omega arith

-- k is the number of entries
pub wanted_flat : (xs : List Entry) → wanted (flat xs) ≡ length xs
wanted_flat xs = half (length (flat xs)) (length xs) (length_flat xs)

flat_back : (xs : List Entry) → entries_of (length xs) (flat xs) ≡ xs
flat_back xs = ap (entries_of (length xs)) (sym (append-nil (flat xs))) ∙ entries_of_flat xs []

entries_of_snoc : (m : ℕ) (E : List ℕ) → entries_of (suc m) E ≡ entries_of m E ++ (entry_in E m ∷ [])
unfolding entries_of
entries_of_snoc zero E = refl
entries_of_snoc (suc m) E =
    let a : 2 + 2 * m ≡ 2 * suc m = omega arith in
    let b : 2 + (2 * m + 1) ≡ 2 * suc m + 1 = omega arith in
    ap {B =
    List Entry} (λ r. entry (get_or E 0 0) (get_or E 1 0) ∷ r) (entries_of_snoc m (drop 2 E) ∙ rw (get_or-drop 2 E (2 * m) 0, get_or-drop 2 E (2 * m + 1) 0, a, b))

-- ---- the conditions, with k entries and with as many as the numbers have room for

same_length : (n k : ℕ) → n < rows → list_length n (min k rows) ≡ list_length n k
unfolding list_length
same_length n k h = elim (dec_lt k rows) [
  | yes l ↦ let e : min k rows ≡ k = omega arith in rw e
  | no l ↦
      let e : min k rows ≡ rows = omega arith in
      let d : k ≡ 0 → ⊥ = λ z. omega arith in
      let g : n < k = omega arith in
      rw (e, ne_eqb k 0 d, lt-ltb n rows h, lt-ltb n k g)
]

module _ (s : State) (C : List ℕ) where
  abbrev n : ℕ
  n = size s

  abbrev crowded : List Condition
  crowded = crowded_before (graph s) n everyone ∷ []

  abbrev conditions : ℕ → List Condition
  conditions k = list_conditions n (graph s) k (length C)

  fit : refusal (lengths s) ≡ 0 → Fitted n (length s.edges) (length s.marks)
  fit z = lengths_fit s [] (ap refusal (append-nil (lengths s)) ∙ z)

  same_refusal : (k : ℕ) → refusal_of s C (min k rows) ≡ refusal_of s C k
  same_refusal k = elim (ℕ_discrete (refusal (lengths s)) 0) [
    | yes z ↦
        let f = fit z in
        lengths_pass s (conditions (min k rows)) f
        ∙ ap (λ (c : Condition). refusal (scratch_length n (length C) ∷ c ∷ crowded)) (same_length n k (omega (arith, f.sizes.few)))
        ∙ sym (lengths_pass s (conditions k) f)
    | no d ↦ append_refused (lengths s) (conditions (min k rows)) refl d ∙ sym (append_refused (lengths s) (conditions k) refl d)
  ]

  -- an accepted list has as many nodes, and not more than the numbers have rows
  most : (k : ℕ) → refusal_of s C k ≡ 0 → (k ≤ n) × (n < rows)
  most k z = ((call_passed s C k z).within, omega (arith, (lengths_fit s (conditions k) z).sizes.few))

  abbrev run : ℕ → Progress
  run = list_of s

  -- ---- the list over records

  abbrev pub over-records : List Entry → Listed ℕ → Listed Entry
  over-records xs l = listing l.refusal l.recomputed l.after xs l.scratch

  -- the kept entries in a row, whatever lies past them
  kept_back : (k : ℕ) (R : List ℕ) → k ≤ n → entries_of k (flat (run k).kept ++ R) ≡ (run k).kept
  kept_back k R l =
      subst (λ (m : ℕ). entries_of m (flat (run k).kept ++ R) ≡ (run k).kept) (all_steps-length (score (graph s) n) k s.figures s.marks l)
      (entries_of_flat (run k).kept R)

  laid_kept : (k : ℕ) (xs : List Entry) → length xs ≡ k → k ≤ n → (A R : List ℕ) → laid k ((flat (run k).kept ++ A) ++ R) xs ≡ (run k).kept
  laid_kept k xs l m A R =
      ap (λ (N : List ℕ). laid k N xs) (append_assoc (flat (run k).kept) A R)
      ∙ ap (λ (ys : List Entry). ys ++ drop k xs) (kept_back k (A ++ R) m)
      ∙ ap (λ (ys : List Entry). (run k).kept ++ ys) (subst (λ (m : ℕ). drop m xs ≡ []) l (drop-length xs))
      ∙ append-nil (run k).kept

  module _ (xs : List Entry) where
    -- a refused call alters no entry
    pub entries_refused : (refusal_of s C (length xs) ≡ 0 → ⊥) → entries_call s xs C ≡ listing (refusal_of s C (length xs)) 0 s xs C
    unfolding entries_call
    entries_refused d =
        ap (λ (l : Listed ℕ). over-records (entries_of (length xs) l.entries) l) (list_call_refused s C (flat xs) (length xs) (wanted_flat xs) d)
        ∙ ap (λ (ys : List Entry). listing (refusal_of s C (length xs)) 0 s ys C) (flat_back xs)

    -- an accepted one leaves the kept entries
    pub entries_taken : refusal_of s C (length xs) ≡ 0 → entries_call s xs C ≡ over-records (run (length xs)).kept (accepted_of s C (length xs) (flat xs))
    unfolding entries_call
    entries_taken z =
        ap (λ (l : Listed ℕ). over-records (entries_of (length xs) l.entries) l) (call_taken s C (flat xs) (length xs) (wanted_flat xs) z)
        ∙ ap (λ (ys : List Entry). over-records ys (accepted_of s C (length xs) (flat xs))) (kept_back (length xs) _ (most (length xs) z).0)

  -- ---- the list in the numbers: k entries, or as many as there is room for

  module _ (xs : List Entry) (N : List ℕ) (room : 2 * rows ≤ length N) {m : ℕ} (e : m ≡ min (length xs) rows) (s' : State) (E' C' : List ℕ) where
    abbrev k : ℕ
    k = length xs

    abbrev E : List ℕ
    E = take (2 * m) N

    wants : wanted E ≡ min k rows
    wants = half (length E) (min k rows) (length-take-le (2 * m) N (omega arith) ∙ ap (λ (i : ℕ). 2 * i) e)

    refused_alike : (list_call s E C).refusal ≡ refusal_of s C k
    refused_alike = call_refusal s C E ∙ ap (refusal_of s C) wants ∙ same_refusal k

    -- a refusal that `?` hands on is the call's
    pub gather_refused : (x : Result ℕ Refusal) (q : Refusal) → IsErrAnd x (λ r. r ≡ q) → listing (number q) 0 s' E' C' ≡ list_call s E C
        → listing (answer.refusal_of x) (value_of x) s' xs C' ≡ entries_call s xs C
    gather_refused (Ok v) q i h = absurd i
    gather_refused (Err r) q i h =
        let is : number q ≡ refusal_of s C k = ap (λ (l : Listed ℕ). l.refusal) h ∙ refused_alike in
        let f : refusal_of s C k ≡ 0 → ⊥ = λ z. number_some q (is ∙ z) in
        ap (λ (t : Refusal). listing (number t) 0 s' xs C') i
        ∙ ap (over-records xs) (h ∙ list_call_refused s C E (min k rows) wants (λ z. f (sym (same_refusal k) ∙ z)))
        ∙ ap (λ (r : ℕ). listing r 0 s xs C) (same_refusal k)
        ∙ sym (entries_refused xs f)

    module _ {v : ℕ} (h : listing 0 v s' E' C' ≡ list_call s E C) where
      accepted : refusal_of s C k ≡ 0
      accepted = sym (ap (λ (l : Listed ℕ). l.refusal) h ∙ refused_alike)

      -- each entry has a row
      pub gather_fits : length E' ≡ length E → {i : ℕ} → i < k → 2 * i + 1 < length (E' ++ drop (2 * m) N)
      gather_fits same h =
          let t = most k accepted in
          omega (arith, length-append E' (drop (2 * m) N), length-take-le (2 * m) N (omega arith))

      -- the numbers over the entries are what the call leaves
      pub gather_taken : listing 0 v s' (laid k (E' ++ drop (2 * m) N) xs) C' ≡ entries_call s xs C
      gather_taken =
          let t = most k accepted in
          let w : wanted E ≡ k = omega (arith, wants) in
          ap (λ (p : Listed ℕ). over-records (laid k (p.entries ++ drop (2 * m) N) xs) p) (h ∙ call_taken s C E k w accepted)
          ∙ ap (λ (ys : List Entry). over-records ys (accepted_of s C k E)) (laid_kept k xs refl t.0 _ (drop (2 * m) N))
          ∙ sym (entries_taken xs accepted)

-- ---- the rows of numbers, laid over the entries one by one

-- the entries after i turns
unfoldable pub upto : List ℕ → List Entry → ℕ → List Entry
upto numbers xs zero = xs
upto numbers xs (suc i) = set (upto numbers xs i) i (entry_in numbers i)

pub upto-length : (numbers : List ℕ) (xs : List Entry) (i : ℕ) → length (upto numbers xs i) ≡ length xs
unfolding upto
upto-length numbers xs zero = refl
upto-length numbers xs (suc i) = length-set (upto numbers xs i) i (entry_in numbers i) ∙ upto-length numbers xs i

upto_take : (numbers : List ℕ) (xs : List Entry) (i : ℕ) → i ≤ length xs → take i (upto numbers xs i) ≡ entries_of i numbers
unfolding upto entries_of
upto_take numbers xs zero l = refl
upto_take numbers xs (suc i) l =
    let h : i < length (upto numbers xs i) = rw upto-length l in
    take-suc-set (upto numbers xs i) i (entry_in numbers i) h
    ∙ ap (λ (t : List Entry). t ++ (entry_in numbers i ∷ [])) (upto_take numbers xs i (omega arith))
    ∙ sym (entries_of_snoc i numbers)

behind : (numbers : List ℕ) (xs : List Entry) (k j : ℕ) → j ≤ k → drop k (upto numbers xs j) ≡ drop k xs
unfolding upto
behind numbers xs k zero l = refl
behind numbers xs k (suc j) l = drop-set-lt k (upto numbers xs j) j (entry_in numbers j) l ∙ behind numbers xs k j (omega arith)

upto_laid : (numbers : List ℕ) (xs : List Entry) (i : ℕ) → i ≤ length xs → upto numbers xs i ≡ laid i numbers xs
upto_laid numbers xs i l =
    sym (take-append-drop i (upto numbers xs i))
    ∙ ap (λ (t : List Entry). t ++ drop i (upto numbers xs i)) (upto_take numbers xs i l)
    ∙ ap (λ (t : List Entry). entries_of i numbers ++ t) (behind numbers xs i i (le_refl i))

-- all of them
pub all_laid : (numbers : List ℕ) (xs : List Entry) {E : List Entry} {i : ℕ} → E ≡ upto numbers xs i → i ≤ length xs → length xs ≤ i → E ≡ laid (length xs) numbers xs
all_laid numbers xs e l g = e ∙ ap (upto numbers xs) (le_antisymm l g) ∙ upto_laid numbers xs (length xs) (le_refl (length xs))

-- one more
pub one_laid : (numbers : List ℕ) (xs : List Entry) (i : ℕ) {E : List Entry} {r : Entry} → E ≡ upto numbers xs i → r ≡ entry_in numbers i
    → set E i r ≡ upto numbers xs (i + 1)
unfolding upto
one_laid numbers xs i e d = rw (add-one, e, d)
