-- The list call: what it knows where no condition applies, and what it leaves where it is refused and where it is not. Assumes nothing.
use mathlib.Core.List.{◌++◌, [], List}
use mathlib.Core.Path.{ap, refl, sym, ◌∙◌, ◌≡◌}
use Prim.Native.Nat.{◌*◌, ◌<◌, ℕ, ◌≤◌}
use native.Mathlib.Decide.{ℕ_discrete}
use native.Mathlib.Omega.{arith}
use borrow.Author.Tests.{eq-eqb, eqb-false, ltb-false, ne_eqb}
use lib.Dec.{eqb, ltb}
use lib.ListN.{drop, length, replicate}
use Rattle.arith.proofs.Tests.{or_false_both}
use Rattle.calls.proofs.AcceptLaws.{lengths_fit, lengths_rest, passes}
use Rattle.ego.specs.Graph.{degree, Graph}
use Rattle.ego.specs.Limits.{limit}
use Rattle.std.proofs.Common.{Result, Ok, Err, IsErrAnd}
use Rattle.state.proofs.AnswerLaws.{number_some}
use Rattle.state.proofs.LimitLaws.{few_each}
use Rattle.state.specs.Answers as answer
use Rattle.state.specs.Answers.{number, value_of}
use Rattle.state.specs.declared.refusal.Refusal.{Refusal}
use Rattle.state.proofs.RefusalLaws.{sized_room}
use Rattle.state.specs.Outcome.{lengths, state_lengths}
use Rattle.state.specs.Sizes.{scratch_bytes}
use Rattle.state.specs.State.{graph, size, state, State}
use Rattle.state.specs.Refusal.{crowded_before, everyone, list_length, refusal, scratch_length}
use Rattle.topk.specs.Entries.{over}
use Rattle.topk.specs.List.{accepted_list, list_call, list_conditions, Listed, listing, list_of, wanted}
use Rattle.topk.specs.Inside.Turns.{Leaves, ListFits}

-- no condition of a list of k entries applies
pub record ListPassed (n : ℕ) (g : Graph) (k scratch : ℕ) : Type 0 where
  pub scratch_fits : scratch_bytes n ≤ scratch
  pub some : 0 < k
  pub within : k ≤ n
  pub few : (p : ℕ) → p < n → degree g n p ≤ limit

pub conditions_pass : (n : ℕ) (g : Graph) (k scratch : ℕ) → refusal (list_conditions n g k scratch) ≡ 0 → ListPassed n g k scratch
unfolding scratch_length list_length crowded_before
conditions_pass n g k scratch e =
    let a = passes (scratch_length n scratch) _ (λ z. omega arith) e in
    let b = passes (list_length n k) _ (λ z. omega arith) a.1 in
    let c = passes (crowded_before g n everyone) [] (λ z. omega arith) b.1 in
    let d = or_false_both (eqb k 0) (ltb n k) b.0 in
    let some = eqb-false k 0 d.0 in
    record { scratch_fits = ltb-false scratch (scratch_bytes n) a.0; some = omega arith; within = ltb-false n k d.1; few = few_each g n c.0 }

-- the state that a list of k entries leaves
abbrev pub ran_of : State → ℕ → State
ran_of s k = state s.edges (list_of s k).figures (list_of s k).marks

module _ (s : State) (C : List ℕ) where
  abbrev n : ℕ
  n = size s

  -- the refusal of a list of k entries, and what an accepted one leaves
  abbrev pub refusal_of : ℕ → ℕ
  refusal_of k = refusal (lengths s ++ list_conditions n (graph s) k (length C))

  abbrev pub accepted_of : ℕ → List ℕ → Listed ℕ
  accepted_of k E = listing 0 (list_of s k).recomputed (ran_of s k) (over (list_of s k).kept E) (replicate (scratch_bytes n) 0 ++ drop (scratch_bytes n) C)

  pub list_call_refused : (E : List ℕ) (k : ℕ) → wanted E ≡ k → (refusal_of k ≡ 0 → ⊥) → list_call s E C ≡ listing (refusal_of k) 0 s E C
  unfolding list_call
  list_call_refused E k e d =
      let f : refusal_of (wanted E) ≡ 0 → ⊥ = λ z. d (ap refusal_of (sym e) ∙ z) in
      rw (ne_eqb (refusal_of (wanted E)) 0 f) (ap (λ (m : ℕ). listing (refusal_of m) 0 s E C) e)

  pub call_taken : (E : List ℕ) (k : ℕ) → wanted E ≡ k → refusal_of k ≡ 0 → list_call s E C ≡ accepted_of k E
  unfolding list_call accepted_list
  call_taken E k e z =
      let f : refusal_of (wanted E) ≡ 0 = ap refusal_of e ∙ z in
      rw (eq-eqb (refusal_of (wanted E)) 0 f) (ap (λ (m : ℕ). accepted_of m E) e)

  pub call_refusal : (E : List ℕ) → (list_call s E C).refusal ≡ refusal_of (wanted E)
  unfolding list_call accepted_list
  call_refusal E = elim (ℕ_discrete (refusal_of (wanted E)) 0) [
    | yes z ↦ rw (eq-eqb (refusal_of (wanted E)) 0 z) (sym z)
    | no d ↦ rw (ne_eqb (refusal_of (wanted E)) 0 d)
  ]

  pub call_passed : (k : ℕ) → refusal_of k ≡ 0 → ListPassed n (graph s) k (length C)
  call_passed k z = conditions_pass n (graph s) k (length C) (lengths_rest s _ z)

  -- the same by the refusal as the code works it out
  abbrev pub coded_refusal : List ℕ → ℕ
  coded_refusal E = refusal (state_lengths n (length s.edges) (length s.marks) ++ list_conditions n (graph s) (wanted E) (length C))

  module _ (E : List ℕ) where
    coded : coded_refusal E ≡ refusal_of (wanted E)
    unfolding lengths
    coded = refl

    -- a refusal that `?` hands on is the call's
    pub list_refused : (x : Result ℕ Refusal) (r : Refusal) → IsErrAnd x (λ e. e ≡ r) → number r ≡ coded_refusal E
        → listing (answer.refusal_of x) (value_of x) s E C ≡ list_call s E C
    list_refused (Ok v) r h e = absurd h
    list_refused (Err q) r h e =
        let is : number q ≡ refusal_of (wanted E) = ap number h ∙ e ∙ coded in
        ap (λ (m : ℕ). listing m 0 s E C) is ∙ sym (list_call_refused E (wanted E) refl (λ z. number_some q (is ∙ z)))

    module _ (z : 0 ≡ coded_refusal E) where
      taken : refusal_of (wanted E) ≡ 0
      taken = sym (z ∙ coded)

      pub list_fits : (scratch_bytes n ≤ length C) × ListFits n s.edges s.marks E (wanted E)
      list_fits =
          let p = call_passed (wanted E) taken in
          let f = lengths_fit s _ taken in
          let half : 2 * wanted E ≤ length E = omega arith in (
            p.scratch_fits,
            record {
              workable = record { scorable = record { room = sized_room f.sizes; few = p.few }; marks_fit = omega (arith, f.marks_fit) };
              entries_fit = half;
              some = p.some;
            },
          )

      pub list_accepted : {used : ℕ} → used ≡ scratch_bytes n → {F M E' C' : List ℕ} {count : ℕ} → Leaves (list_of s (wanted E)) F M E E' count
          → C' ≡ replicate (scratch_bytes n) 0 → listing 0 count (state s.edges F M) E' (C' ++ drop used C) ≡ list_call s E C
      list_accepted u h q = rw (u, h.figures_are, h.marks_are, h.entries_are, h.recomputed_is, q) (sym (call_taken E (wanted E) refl taken))
