-- KEPT ON PURPOSE, proved. Assumes nothing.
use mathlib.Core.Bool.{◌&&◌, Bool, false, not, true, true≢false}
use mathlib.Core.List.{◌++◌, [], List, ◌∷◌}
use mathlib.Core.Logic.{inl, inr, ◌≢◌}
use mathlib.Core.Path.{refl, sym, ◌∙◌, ◌≡◌}
use Prim.Native.Nat.{◌<◌, ℕ}
use native.Mathlib.Decide.{ℕ_discrete}
use native.Mathlib.Omega.{arith}
use borrow.Author.Tests.{eq-eqb}
use lib.Dec.{eqb}
use lib.ListN.{length}
use Rattle.arith.proofs.Tests.{and-true, test}
use Rattle.calls.proofs.AcceptLaws.{append_same, lengths_fit, lengths_pass, lengths_rest, outcome_refusal, passes, same_rest}
use Rattle.calls.proofs.OutcomeLaws.{refused_is}
use Rattle.ego.proofs.FoundLaws.{simple_edges}
use Rattle.packed.proofs.GraphLaws.{pair_here, pair_some}
use Rattle.packed.specs.Edges.{edge}
use Rattle.packed.specs.Pairs.{any_pair}
use Rattle.state.proofs.RefusalLaws.{append_none, append_refused, Fitted, passed_before, passed_conflict, passed_length, refusal_none, refused_conflict}
use Rattle.state.specs.Outcome.{lengths}
use Rattle.state.specs.Refusal.{buffer_length, Condition, crowded_after, crowded_before, everyone, node_count, refusal, some_conflict}
use Rattle.state.specs.Sizes.{edge_bytes}
use Rattle.state.specs.State.{graph, size, State}
use Rattle.merge.proofs.ConflictCall.{call_refused, lengths_none}
use Rattle.merge.proofs.ConflictLaws.{no_pair}
use Rattle.merge.proofs.FirstConflict.{lowest_back, lowest_forth, none_back, none_forth, some_back}
use Rattle.merge.proofs.LengthLaws.{brought_long, brought_rest, Long}
use Rattle.merge.proofs.Overruled.{in_conflict_lem, overruled, unconfirmed}
use Rattle.merge.proofs.PinLaws.{accepted_none, none_anywhere, same_call}
use Rattle.merge.specs.Conflict.{between, conflict_call, conflict_conditions}
use Rattle.merge.specs.KeptOnPurpose.{first_conditions, KeptOnPurpose, NothingPinned, Overruled}
use Rattle.merge.specs.Pinned.{Brought, in_conflict, pinned_call, reconciled_pinned, stands}
use Rattle.merge.specs.Reconcile.{merged, reconcile_call, reconcile_conditions, reconciled}

-- ---- the answers of a reconcile with pins

-- none of the conditions has the number r
abbrev others : ℕ → List Condition → Bool
others r [] = true
others r (c ∷ cs) = not (eqb c.0 r) && others r cs

not_this : (r : ℕ) (cs : List Condition) → 0 ≢ r → others r cs ≡ true → refusal cs ≢ r
unfolding refusal
not_this r [] d e = d
not_this r (c ∷ cs) d e =
    let h = and-true (not (eqb c.0 r)) (others r cs) e in
    elim (test c.1) [ inl t ↦ rw t (λ q. true≢false (sym (rw (eq-eqb c.0 r q) at h.0))) | inr t ↦ rw t (not_this r cs d h.1) ]

module _ (s : State) (k : Brought) where
  abbrev n : ℕ
  n = size s

  abbrev clash : Condition
  clash = some_conflict (in_conflict (graph s) k) n

  abbrev crowd : Condition
  crowd = crowded_after (stands (graph s) k) n everyone

  answers : (pinned_call s k).refusal ≡ refusal (first_conditions s k ++ clash ∷ crowd ∷ [])
  unfolding pinned_call lengths
  answers = outcome_refusal _ s (reconciled_pinned s k)

  first_not : refusal (first_conditions s k) ≢ 15
  unfolding lengths node_count buffer_length crowded_before
  first_not = not_this 15 (first_conditions s k) (λ e. omega arith) refl

  rest-not : any_pair (in_conflict (graph s) k) n ≡ false → refusal (clash ∷ crowd ∷ []) ≢ 15
  unfolding crowded_after
  rest-not none e = not_this 15 (crowd ∷ []) (λ q. omega arith) refl (sym (passed_conflict (crowd ∷ []) (in_conflict (graph s) k) n none) ∙ e)

  -- past its first conditions
  module _ (z : refusal (first_conditions s k) ≡ 0) where
    fit : Fitted n (length s.edges) (length s.marks)
    fit = lengths_fit s _ z

    long : Long n k × (refusal (crowded_before (graph s) n everyone ∷ []) ≡ 0)
    long = brought_long n k _ (lengths_rest s _ z)

    past : (pinned_call s k).refusal ≡ refusal (clash ∷ crowd ∷ [])
    unfolding pinned_call crowded_before
    past =
        outcome_refusal _ s (reconciled_pinned s k) ∙ lengths_pass s _ fit ∙ brought_rest n k _ long.0
        ∙ passed_before (clash ∷ crowd ∷ []) (graph s) n everyone (passes (crowded_before (graph s) n everyone) [] (λ e. omega arith) long.1).0

    pub turns_back : any_pair (in_conflict (graph s) k) n ≡ true → (pinned_call s k).refusal ≡ 15
    turns_back e = past ∙ refused_conflict (crowd ∷ []) (in_conflict (graph s) k) n e

    pub turned_by : (pinned_call s k).refusal ≡ 15 → any_pair (in_conflict (graph s) k) n ≡ true
    turned_by e = elim (test (any_pair (in_conflict (graph s) k) n)) [ inl t ↦ t | inr t ↦ absurd (rest-not t (sym past ∙ e)) ]

  refused_first : refusal (first_conditions s k) ≢ 0 → (pinned_call s k).refusal ≡ refusal (first_conditions s k)
  refused_first d = answers ∙ append_refused (first_conditions s k) (clash ∷ crowd ∷ []) refl d

  first_passed : (pinned_call s k).refusal ≡ 15 → refusal (first_conditions s k) ≡ 0
  first_passed e = elim (ℕ_discrete (refusal (first_conditions s k)) 0) [ yes z ↦ z | no d ↦ absurd (first_not (sym (refused_first d) ∙ e)) ]

  turned_forth : (pinned_call s k).refusal ≡ 15 → (refusal (first_conditions s k) ≡ 0) × (a : ℕ) × (b : ℕ) × (a < b) × (b < n) × Overruled (graph s) k a b
  turned_forth e =
      let z = first_passed e in
      let p = pair_some (in_conflict (graph s) k) n (turned_by z e) in
      (z, p.0, p.1, p.2, p.3, overruled (graph s) k p.0 p.1 p.4)

  turned_back : (refusal (first_conditions s k) ≡ 0) × (a : ℕ) × (b : ℕ) × (a < b) × (b < n) × Overruled (graph s) k a b → (pinned_call s k).refusal ≡ 15
  turned_back h = turns_back h.0 (pair_here (in_conflict (graph s) k) n h.1 h.2 h.3 h.4 (in_conflict_lem (graph s) k h.1 h.2 h.5))

  -- ---- beside a reconcile

  module _ (mine : length k.pins ≡ edge_bytes n) (other : length k.their_pins ≡ edge_bytes n) where
    -- a reconcile has the same first conditions, but for the lengths of the pins
    plain_refused : refusal (first_conditions s k) ≢ 0
        → refusal (first_conditions s k) ≡ refusal (lengths s ++ reconcile_conditions n (graph s) (merged (graph s) (edge k.theirs) (edge k.base)) k.theirs k.base)
    unfolding lengths
    plain_refused d =
        let cs = buffer_length (edge_bytes n) (length k.theirs) ∷ buffer_length (edge_bytes n) (length k.base) ∷ crowded_before (graph s) n everyone ∷ [] in
        sym (append_refused (lengths s ++ cs) _
        (sym (append_same (lengths s) _ cs (passed_length _ _ _ mine ∙ same_rest _ _ _ (λ _. passed_length _ _ _ other)))) d)

    both_refused : refusal (first_conditions s k) ≢ 0 → pinned_call s k ≡ reconcile_call s k.theirs k.base
    unfolding pinned_call reconcile_call
    both_refused d =
        sym (refused_is _ s (reconciled_pinned s k) (sym (refused_first d) ∙ outcome_refusal _ s (reconciled_pinned s k)) d)
        ∙ refused_is _ s (reconciled s k.theirs k.base) (plain_refused d) d

    adds : (pinned_call s k).refusal ≢ 15 → pinned_call s k ≡ reconcile_call s k.theirs k.base
    adds d = elim (test (any_pair (in_conflict (graph s) k) n)) [
      | inr none ↦ same_call s k none mine other
      | inl some ↦ both_refused (λ z. d (turns_back z some))
    ]

  unpinned : NothingPinned n k.pins → NothingPinned n k.their_pins → pinned_call s k ≡ reconcile_call s k.theirs k.base
  unpinned p q =
      let none = no_pair (in_conflict (graph s) k) n (λ a b h l. unconfirmed (graph s) k a b (p.none a b (omega arith) l) (q.none a b (omega arith) l)) in
      same_call s k none p.long q.long

  accepted : (pinned_call s k).refusal ≡ 0 → pinned_call s k ≡ reconcile_call s k.theirs k.base
  accepted z =
      let first : refusal (first_conditions s k) ≡ 0 = append_none (first_conditions s k) _ (sym answers ∙ z) in
      adds (long first).0.pins (long first).0.their_pins (λ e. omega (arith, z))

  -- no pair of an accepted call is in conflict
  pub agreed : (pinned_call s k).refusal ≡ 0 → (a b : ℕ) → a < n → b < n → in_conflict (graph s) k a b ≡ false
  unfolding pinned_call
  agreed z =
      let asked = lengths_rest s _ (sym (outcome_refusal _ s (reconciled_pinned s k)) ∙ z) in
      none_anywhere (graph s) k (simple_edges s.edges) n (accepted_none s k asked)

-- ---- the first conflict

module _ (s : State) (k : Brought) (z : refusal (first_conditions s k) ≡ 0) where
  seen : refusal (conflict_conditions s.edges (size s) k) ≡ 0
  seen = lengths_none s.edges (size s) k (fit s k z).sizes (brought_rest (size s) k [] (long s k z).0 ∙ refusal_none)

  shown_forth : (a : ℕ) × (b : ℕ) × (conflict_call s.edges (size s) k ≡ between a b) → (pinned_call s k).refusal ≡ 15
  shown_forth h =
      let l = lowest_forth s.edges (size s) k seen h.0 h.1 h.2 in
      turns_back s k z (pair_here (in_conflict (graph s) k) (size s) h.0 h.1 l.below l.inside l.here)

  shown_back : (pinned_call s k).refusal ≡ 15 → (a : ℕ) × (b : ℕ) × (conflict_call s.edges (size s) k ≡ between a b)
  shown_back e = some_back s.edges (size s) k seen (turned_by s k z e)

-- KEPT ON PURPOSE
pub kept_on_purpose : KeptOnPurpose
kept_on_purpose = record {
  unpinned = unpinned;
  accepted = accepted;
  adds = adds;
  turned = λ s k. (turned_forth s k, turned_back s k);
  shown = λ s k z. (shown_forth s k z, shown_back s k z);
  lowest = λ edges n k z a b. (lowest_forth edges n k z a b, lowest_back edges n k z a b);
  none = λ edges n k z. (none_forth edges n k z, none_back edges n k z);
  refused = λ edges n k d. sym (call_refused edges n k refl d);
}
