-- The answer to the first conflict is the lowest pair in conflict, or that there is none. Assumes nothing.
use mathlib.Core.Bool.{false, true, true≢false}
use mathlib.Core.List.{List}
use mathlib.Core.Logic.{inl, inr, ◌⊎◌, ◌≢◌}
use mathlib.Core.Path.{ap, refl, subst, sym, ◌∙◌, ◌≡◌}
use Prim.Native.Nat.{◌+◌, ◌<◌, zero-le, ℕ}
use native.Mathlib.Decide.{dec_lt, ℕ_discrete}
use native.Mathlib.Nat.{zero-add}
use native.Mathlib.Omega.{arith}
use lib.ListN.{length}
use Rattle.arith.specs.Lists.{least_from}
use Rattle.packed.proofs.FirstLaws.{least_first}
use Rattle.packed.proofs.GraphLaws.{pair_some}
use Rattle.packed.proofs.PairLaws.{pair_inj, pair_less, pair_onto}
use Rattle.packed.specs.Edges.{edge}
use Rattle.packed.specs.Pairs.{any_pair, max_nodes, pair_count, pair_index}
use Rattle.packed.specs.Inside.Search.{FirstFrom}
use Rattle.state.proofs.RefusalLaws.{append_none, sized_by}
use Rattle.state.specs.Answers.{Nowhere}
use Rattle.state.specs.Outcome.{edge_lengths}
use Rattle.state.specs.Refusal.{refusal}
use Rattle.merge.proofs.ConflictCall.{call_answered, call_refused}
use Rattle.merge.proofs.ConflictLaws.{answers_none, answers_pair, here, lower_none, none_there}
use Rattle.merge.specs.Conflict.{between, conflict_call, conflict_conditions, numbers_of}
use Rattle.merge.specs.KeptOnPurpose.{Lowest}
use Rattle.merge.specs.Pinned.{Brought, brought_lengths, in_conflict}
use Rattle.merge.specs.Inside.Bitwise.{conflict_bit}
use Rattle.merge.specs.Inside.Walk.{PairAt}

module _ (edges : List ℕ) (n : ℕ) (k : Brought) (z : refusal (conflict_conditions edges n k) ≡ 0) where
  abbrev None : Type 0
  None = (a b : ℕ) → a < b → b < n → in_conflict (edge edges) k a b ≡ false

  -- a pair is the lowest in conflict and the answer, or none is in conflict and none is the answer
  answer : ((a : ℕ) × (b : ℕ) × Lowest (edge edges) n k a b × (conflict_call edges n k ≡ between a b)) ⊎ (None × (conflict_call edges n k ≡ Nowhere))
  answer =
      let r : ℕ = least_from (conflict_bit edges k) 0 (pair_count n) in
      let f : FirstFrom (conflict_bit edges k) 0 (pair_count n) r = subst (λ to. FirstFrom (conflict_bit edges k) 0 to r) (zero-add (pair_count n)) (least_first (conflict_bit edges k) 0 (pair_count n)) in
      elim (dec_lt r (pair_count n)) [
        | no d ↦
            let e : r ≡ pair_count n = omega (arith, f.stop) in
            let g = subst (FirstFrom (conflict_bit edges k) 0 (pair_count n)) e f in
            inr (none_there edges k n g, sym (call_answered edges n k z (answers_none edges k n g)))
        | yes d ↦
            let p = pair_onto n r d in
            let at : PairAt r 0 (record { a = p.0; b = p.1 }) = record { onward = zero-le; below = p.2; bit = sym (pair_less p.0 p.1 p.2) ∙ p.4 } in
            inl (
              p.0,
              p.1,
              record {
                below = p.2;
                inside = p.3;
                here = here edges k n f d at;
                lowest = λ x y h l e. elim (dec_lt (pair_count y + x) r) [
                  | yes m ↦ absurd (true≢false (sym e ∙ lower_none edges k n f x y h m))
                  | no m ↦ omega (arith, p.4, pair_less x y h)
                ];
              },
              sym (call_answered edges n k z (answers_pair edges k n f d at)),
            )
      ]

  one_pair : {a b c d : ℕ} → between a b ≡ between c d → (a ≡ c) × (b ≡ d)
  unfolding numbers_of
  one_pair e = (ap (λ x. (numbers_of x).a) e, ap (λ x. (numbers_of x).b) e)

  no_none : {a b : ℕ} → Nowhere ≢ between a b
  unfolding numbers_of
  no_none e = true≢false (sym (ap (λ x. (numbers_of x).some) e))

  pub lowest_forth : (a b : ℕ) → conflict_call edges n k ≡ between a b → Lowest (edge edges) n k a b
  lowest_forth a b e = elim answer [
    | inl h ↦ let q = one_pair (sym h.3 ∙ e) in subst (λ x. Lowest (edge edges) n k x b) q.0 (subst (Lowest (edge edges) n k h.0) q.1 h.2)
    | inr h ↦ absurd (no_none (sym h.1 ∙ e))
  ]

  pub lowest_back : (a b : ℕ) → Lowest (edge edges) n k a b → conflict_call edges n k ≡ between a b
  lowest_back a b l = elim answer [
    | inl h ↦
        let m = h.2 in
        let same : pair_index h.0 h.1 ≡ pair_index a b =
        omega (arith, m.lowest a b l.below l.inside l.here, l.lowest h.0 h.1 m.below m.inside m.here) in
        let p = pair_inj h.0 h.1 a b (λ e. omega (arith, m.below)) (λ e. omega (arith, l.below)) same in
        let first : h.0 ≡ a = omega (arith, p.0, p.1, m.below, l.below) in
        let second : h.1 ≡ b = omega (arith, p.0, p.1, m.below, l.below) in
        h.3 ∙ ap (λ x. between x h.1) first ∙ ap (between a) second
    | inr h ↦ absurd (true≢false (sym l.here ∙ h.0 a b l.below l.inside))
  ]

  pub none_forth : conflict_call edges n k ≡ Nowhere → None
  none_forth e = elim answer [ inl h ↦ absurd (no_none (sym e ∙ h.3)) | inr h ↦ h.0 ]

  pub none_back : None → conflict_call edges n k ≡ Nowhere
  none_back none = elim answer [
    | inl h ↦ absurd (true≢false (sym h.2.here ∙ none h.0 h.1 h.2.below h.2.inside))
    | inr h ↦ h.1
  ]

  pub some_back : any_pair (in_conflict (edge edges) k) n ≡ true → (a : ℕ) × (b : ℕ) × (conflict_call edges n k ≡ between a b)
  some_back e = elim answer [
    | inl h ↦ (h.0, h.1, h.3)
    | inr h ↦ let p = pair_some (in_conflict (edge edges) k) n e in absurd (true≢false (sym p.4 ∙ h.0 p.0 p.1 p.2 p.3))
  ]

-- a pair that is the answer is of two nodes of a graph
pub names_two : (edges : List ℕ) (n : ℕ) (k : Brought) → let x = numbers_of (conflict_call edges n k) in x.some ≡ true → (x.a < x.b) × (x.b < max_nodes)
unfolding numbers_of
names_two edges n k = elim (ℕ_discrete (refusal (conflict_conditions edges n k)) 0) [
  | yes z ↦
      let sizes = sized_by refl (append_none (edge_lengths n (length edges)) (brought_lengths n k) z) in
      elim (answer edges n k z) [
        | inl h ↦ rw h.3 (λ e. (h.2.below, omega (arith, h.2.inside, sizes.few)))
        | inr h ↦ rw h.1 (λ e. absurd (true≢false (sym e)))
      ]
  | no d ↦ rw (← call_refused edges n k refl d) (λ e. absurd (true≢false (sym e)))
]
