-- PINS ONLY TURN THE CALL BACK: where no pair is in conflict, a reconcile with pins is a reconcile. Assumes nothing.
use mathlib.Core.Bool.{◌&&◌, ◌||◌, Bool, cond, false, not, or-true, true, true≢false}
use mathlib.Core.List.{[], List, ◌∷◌}
use mathlib.Core.Logic.{inl, inr}
use mathlib.Core.Path.{ap, refl, sym, ◌∙◌, ◌≡◌}
use Prim.Native.Nat.{◌<◌, ℕ}
use native.Mathlib.Decide.{dec_lt}
use native.Mathlib.Nat.{le_refl}
use native.Mathlib.Omega.{arith}
use lib.ListN.{length}
use Rattle.arith.proofs.Tests.{test}
use Rattle.calls.proofs.AcceptLaws.{append_same, lengths_pass, outcome_refusal, passes, same_rest}
use Rattle.ego.proofs.Agreement.{Agree, agree_sym}
use Rattle.ego.proofs.FoundLaws.{simple_edges}
use Rattle.ego.specs.Graph.{Graph, Simple}
use Rattle.merge.proofs.LengthLaws.{brought_long, Long}
use Rattle.merge.proofs.MergeLaws.{decides, merged_is, reconciled_sound}
use Rattle.merge.proofs.PairOrder.{rows_both}
use Rattle.merge.specs.Pinned.{Brought, conflict, in_conflict, pinned_call, pinned_conditions, reconciled_pinned, spoken, standing, stands}
use Rattle.merge.specs.Reconcile.{adding, merged, reconcile_call, reconcile_conditions, reconciled, removing, takes}
use Rattle.edits.proofs.Sound.{Sound, sound_agree}
use Rattle.edits.specs.Edit.{added, removed}
use Rattle.packed.proofs.GraphLaws.{pair_here}
use Rattle.packed.specs.Bits.{differ}
use Rattle.packed.specs.Edges.{edge}
use Rattle.packed.specs.Pairs.{any_pair}
use Rattle.state.proofs.CrowdedLaws.{after_agree}
use Rattle.state.proofs.RefusalLaws.{Fitted, passed_conflict, passed_length}
use Rattle.state.specs.Outcome.{lengths, outcome}
use Rattle.state.specs.Refusal.{Condition, crowded_after, crowded_before, everyone, refusal, some_conflict}
use Rattle.state.specs.Sizes.{edge_bytes}
use Rattle.state.specs.State.{graph, size, State}

-- ---- one pair: my pin, their pin, mine, theirs, the original

-- where the two are not in conflict, what stands is what the editor who changed it left, otherwise the original
kept_stands : (p q m t o : Bool) → ((p || differ m o) && (q || differ t o)) && differ m t ≡ false
    → cond (q || differ t o) t (cond (p || differ m o) m o) ≡ cond (differ t o) t (cond (differ m o) m o)
kept_stands false false m t o e = refl
kept_stands p true m true false e = refl
kept_stands p true m false true e = refl
kept_stands p true true true true e = refl
kept_stands p true false true true e = absurd (true≢false (rw (or-true p) at e))
kept_stands p true true false false e = absurd (true≢false (rw (or-true p) at e))
kept_stands p true false false false e = refl
kept_stands true false m true false e = refl
kept_stands true false m false true e = refl
kept_stands true false true true true e = refl
kept_stands true false false true true e = refl
kept_stands true false true false false e = refl
kept_stands true false false false false e = refl

-- taking what stands is taking theirs, where what stands is the merged state
takes_merged : (t o m : Bool) → let x = differ t o && differ t m in (differ (cond x t m) m && differ (cond x t m) m) ≡ x
takes_merged true true true = refl
takes_merged true true false = refl
takes_merged true false true = refl
takes_merged true false false = refl
takes_merged false true true = refl
takes_merged false true false = refl
takes_merged false false true = refl
takes_merged false false false = refl

taken_has : (x t m : Bool) (f : Bool → Bool) → (x && f (cond x t m)) ≡ (x && f t)
taken_has true t m f = refl
taken_has false t m f = refl

-- ---- the graphs

module _ (g : Graph) (k : Brought) where
  abbrev result : Graph
  result = merged g (edge k.theirs) (edge k.base)

  pub stands_merged : (a b : ℕ) → in_conflict g k a b ≡ false → stands g k a b ≡ result a b
  unfolding standing spoken conflict
  stands_merged a b e =
      kept_stands (edge k.pins a b) (edge k.their_pins a b) (g a b) (edge k.theirs a b) (edge k.base a b) e
      ∙ sym (merged_is g (edge k.theirs) (edge k.base) a b ∙ decides (edge k.theirs a b) (edge k.base a b) (g a b))

  -- a pair takes what stands as it takes theirs
  module _ (a b : ℕ) (e : in_conflict g k a b ≡ false) where
    takes_same : (f : Bool → Bool) → (takes g (stands g k) g a b && f (stands g k a b)) ≡ (takes g (edge k.theirs) (edge k.base) a b && f (edge k.theirs a b))
    unfolding takes merged
    takes_same f =
        rw (stands_merged a b e, takes_merged (edge k.theirs a b) (edge k.base a b) (g a b))
        (taken_has (takes g (edge k.theirs) (edge k.base) a b) (edge k.theirs a b) (g a b) f)

  -- a conflict is of two nodes, in either order
  module _ (simple : Simple g) where
    conflict_simple : Simple (in_conflict g k)
    unfolding conflict spoken
    conflict_simple =
        let p = simple_edges k.pins in
        let t = simple_edges k.theirs in
        let q = simple_edges k.their_pins in
        let o = simple_edges k.base in
        record {
          symmetric = λ a b. rw (simple.symmetric a b, p.symmetric a b, t.symmetric a b, q.symmetric a b, o.symmetric a b);
          loopless = λ a. rw (simple.loopless a, p.loopless a, t.loopless a, q.loopless a, o.loopless a);
        }

    module _ (n : ℕ) (none : any_pair (in_conflict g k) n ≡ false) where
      below_none : (a b : ℕ) → a < b → b < n → in_conflict g k a b ≡ false
      below_none a b h l = elim (test (in_conflict g k a b)) [
        | inl e ↦ absurd (true≢false (sym (pair_here (in_conflict g k) n a b h l e) ∙ none))
        | inr e ↦ e
      ]

      pub none_anywhere : (a b : ℕ) → a < n → b < n → in_conflict g k a b ≡ false
      none_anywhere a b ha hb = elim (dec_lt a b) [
        | yes l ↦ below_none a b l hb
        | no l ↦ elim (dec_lt b a) [
          | yes m ↦ conflict_simple.symmetric a b ∙ below_none b a m ha
          | no m ↦ let e : a ≡ b = omega arith in ap (in_conflict g k a) (sym e) ∙ conflict_simple.loopless a
        ]
      ]

      pub stands_result : Agree n (stands g k) result
      stands_result a b ha hb = stands_merged a b (none_anywhere a b ha hb)

      pub same_12 : crowded_after (stands g k) n everyone ≡ crowded_after result n everyone
      same_12 = after_agree n _ _ everyone everyone stands_result (λ p l. refl)

-- ---- the call

same_outcome : (cs ds : List Condition) (s : State) {t u : State} → refusal cs ≡ refusal ds → t ≡ u → outcome cs s t ≡ outcome ds s u
unfolding outcome
same_outcome cs ds s e q = rw (e, q)

module _ (s : State) (k : Brought) where
  abbrev n : ℕ
  n = size s

  abbrev theirs : Graph
  theirs = edge k.theirs

  abbrev base : Graph
  base = edge k.base

  module _ (none : any_pair (in_conflict (graph s) k) n ≡ false) where
    no_conflict : (a b : ℕ) → a < b → b < n → in_conflict (graph s) k a b ≡ false
    no_conflict = below_none (graph s) k (simple_edges s.edges) n none

    -- it leaves the same
    pub same_after : reconciled_pinned s k ≡ reconciled s k.theirs k.base
    unfolding reconciled_pinned reconciled
    same_after =
        rows_both n (λ x y. x ≡ y) (adding (graph s) (stands (graph s) k) (graph s)) (adding (graph s) theirs base)
        (λ a b h l x y e. rw e (ap (λ c. cond c (added y a b) y) (takes_same (graph s) k a b (no_conflict a b h l) (λ there. there)))) n _ _ (le_refl n)
        (rows_both n (λ x y. x ≡ y) (removing (graph s) (stands (graph s) k) (graph s)) (removing (graph s) theirs base)
        (λ a b h l x y e. rw e (ap (λ c. cond c (removed y a b) y) (takes_same (graph s) k a b (no_conflict a b h l) not))) n s s (le_refl n) refl)

    -- and turns back alike, where the pins are of the edges' length
    pub same_asked : length k.pins ≡ edge_bytes n → length k.their_pins ≡ edge_bytes n
        → refusal (pinned_conditions n (graph s) k) ≡ refusal (reconcile_conditions n (graph s) (result (graph s) k) k.theirs k.base)
    same_asked mine other =
        passed_length _ _ _ mine
        ∙ same_rest _ _ _ (λ _. passed_length _ _ _ other
        ∙ same_rest _ _ _ (λ _. same_rest _ _ _ (λ _. passed_conflict _ (in_conflict (graph s) k) n none ∙ ap (λ c. refusal (c ∷ [])) (same_12 (graph s) k (simple_edges s.edges) n none))))

    -- SO IT IS THE RECONCILE, answer and all that is lent
    pub same_call : length k.pins ≡ edge_bytes n → length k.their_pins ≡ edge_bytes n → pinned_call s k ≡ reconcile_call s k.theirs k.base
    unfolding pinned_call reconcile_call
    same_call mine other = same_outcome _ _ s (append_same (lengths s) _ _ (same_asked mine other)) same_after

  -- ---- what an accepted call knows

  module _ (z : refusal (pinned_conditions n (graph s) k) ≡ 0) where
    pub accepted_long : Long n k
    accepted_long = (brought_long n k _ z).0

    pub accepted_none : any_pair (in_conflict (graph s) k) n ≡ false
    unfolding crowded_before some_conflict
    accepted_none =
        let rest = (passes (crowded_before (graph s) n everyone) _ (λ e. omega arith) (brought_long n k _ z).1).1 in
        (passes (some_conflict (in_conflict (graph s) k) n) _ (λ e. omega arith) rest).0

    -- a reconcile accepts too
    pub accepts_too : Fitted n (length s.edges) (length s.marks) → (reconcile_call s k.theirs k.base).refusal ≡ 0
    unfolding reconcile_call
    accepts_too f =
        outcome_refusal _ s (reconciled s k.theirs k.base) ∙ lengths_pass s _ f
        ∙ sym (same_asked accepted_none accepted_long.pins accepted_long.their_pins) ∙ z

    -- and what stands is left
    pub pinned_sound : Sound n (graph s) s → Sound n (stands (graph s) k) (reconciled_pinned s k)
    pinned_sound h =
        rw (same_after accepted_none)
        (sound_agree (agree_sym (stands_result (graph s) k (simple_edges s.edges) n accepted_none)) (reconciled_sound s k.theirs k.base h))
