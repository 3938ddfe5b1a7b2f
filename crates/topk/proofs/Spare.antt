-- The list keeps the spare bits, and does not depend on them. Assumes nothing.
use mathlib.Core.Bool.{false}
use mathlib.Core.List.{◌++◌, List}
use mathlib.Core.Logic.{inl, inr}
use mathlib.Core.Path.{ap, ap₂, refl, subst, sym, ◌∙◌, ◌≡◌}
use Prim.Native.Nat.{◌+◌, ◌<◌, suc, zero, ℕ}
use native.Mathlib.Decide.{ℕ_discrete}
use borrow.Author.Tests.{eq-eqb, ne_eqb}
use lib.ListN.{drop, length, length-set, replicate, set}
use Rattle.arith.proofs.Tests.{test}
use Rattle.arith.specs.Sums.{bit}
use Rattle.calls.proofs.Spare.{rest_alike}
use Rattle.ego.proofs.Agreement.{score_agree}
use Rattle.ego.specs.Score.{score}
use Rattle.state.proofs.CrowdedLaws.{before_agree}
use Rattle.state.proofs.Spare.{alike_by, alike_links, alike_nodes, same_refl, same_stale, same_trans, same_with_mark, spare_refl, spare_with_mark}
use Rattle.state.specs.Marks.{mark_bits, with_mark}
use Rattle.state.specs.Outcome.{lengths}
use Rattle.state.specs.Refusal.{everyone, refusal}
use Rattle.state.specs.Sizes.{scratch_bytes}
use Rattle.state.specs.Spare.{Alike, SameBits, SameSpare, SpareKept}
use Rattle.state.specs.State.{graph, size, State}
use Rattle.topk.proofs.NextLaws.{is_best, best_looking, IsBest}
use Rattle.topk.proofs.TurnLaws.{all_steps_figures, steps_lengths}
use Rattle.topk.specs.Entries.{entry, keep, over, stops}
use Rattle.topk.specs.List.{accepted_list, list_call, list_conditions, Listed, wanted}
use Rattle.topk.specs.Steps.{at, best_below, all_steps, Next, nothing, Progress, at_start, step, step_at, steps, stored, took, worth}

-- what two lists leave differs in spare bits at most
pub record AlikeListed (A : Type 0) (l m : Listed A) : Type 0 where
  pub refusal : l.refusal ≡ m.refusal
  pub recomputed : l.recomputed ≡ m.recomputed
  pub after : Alike l.after m.after
  pub entries : l.entries ≡ m.entries
  pub scratch : l.scratch ≡ m.scratch

-- ---- it keeps them: what is next is a node, and only its mark is written

module _ (T : ℕ → ℕ) (k : ℕ) where
  step_at_spare : (s : Progress) (n : ℕ) (x : Next) → IsBest s n x → SameSpare (mark_bits n) s.marks (step_at T k s x).marks
  unfolding step_at took
  step_at_spare s n nothing h = same_refl s.marks
  step_at_spare s n (at p) h = elim (test (stops k (stored s p) s.kept)) [
    | inl t ↦ rw t (same_refl s.marks)
    | inr t ↦ rw t (spare_with_mark s.marks n p false h.0)
  ]

  steps_spare : (s : Progress) (t : ℕ) → SameSpare (mark_bits (length s.figures)) s.marks (steps T k t s).marks
  unfolding steps step
  steps_spare s zero = same_refl s.marks
  steps_spare s (suc t) =
      let s' = steps T k t s in
      let n = length s'.figures in
      same_trans (steps_spare s t)
      (subst (λ m. SameSpare (mark_bits m) s'.marks (step T k s').marks) (steps_lengths T k t s).figures
      (step_at_spare s' n (best_below s' n) (is_best s' n)))

  all_steps_spare : (F M : List ℕ) → SameSpare (mark_bits (length F)) M (all_steps T k F M).marks
  unfolding all_steps
  all_steps_spare F M = steps_spare (at_start F M) (length F)

pub list_spare : (s : State) (entries scratch : List ℕ) → SpareKept s (list_call s entries scratch).after
unfolding list_call accepted_list
list_spare s entries scratch =
    let r = refusal (lengths s ++ list_conditions (size s) (graph s) (wanted entries) (length scratch)) in
    let T = score (graph s) (size s) in
    elim (ℕ_discrete r 0) [
      | yes z ↦ rw (eq-eqb r 0 z) (record {
        nodes = sym (all_steps_figures T (wanted entries) s.figures s.marks);
        edges = same_refl s.edges;
        marks = all_steps_spare T (wanted entries) s.figures s.marks;
      })
      | no d ↦ rw (ne_eqb r 0 d) (spare_refl s)
    ]

-- ---- it does not depend on them

-- a list with other marks
abbrev with_marks : Progress → List ℕ → Progress
with_marks s marks = record { figures = s.figures; marks = marks; taken = s.taken; kept = s.kept; recomputed = s.recomputed }

-- two lists of n nodes that differ in spare bits of the marks at most
record Beside (n : ℕ) (s t : Progress) : Type 0 where
  nodes : length s.figures ≡ n
  others : t ≡ with_marks s t.marks
  marks : SameBits (mark_bits n) s.marks t.marks

module _ (T U : ℕ → ℕ) (k n : ℕ) (agree : (p : ℕ) → p < n → T p ≡ U p) where
  module _ (s : Progress) (nodes : length s.figures ≡ n) (M : List ℕ) (e : SameBits (mark_bits n) s.marks M) where
    same_worth : (p : ℕ) → p < n → worth T s p ≡ worth U (with_marks s M) p
    unfolding worth
    same_worth p l = rw (same_stale e p l, agree p l)

    took_beside : (p : ℕ) → p < n → Beside n (took T k s p) (took U k (with_marks s M) p)
    unfolding took
    took_beside p l = record {
      nodes = length-set s.figures p (worth T s p) ∙ nodes;
      others = ap₂ (λ w b. record {
        figures = set s.figures p w;
        marks = with_mark M p false;
        taken = set s.taken p 1;
        kept = keep k (entry p w) s.kept;
        recomputed = s.recomputed + bit b;
      }) (sym (same_worth p l)) (sym (same_stale e p l));
      marks = same_with_mark p false e;
    }

    step_at_beside : (x : Next) → IsBest s n x → Beside n (step_at T k s x) (step_at U k (with_marks s M) x)
    unfolding step_at
    step_at_beside nothing h = record { nodes = nodes; others = refl; marks = e }
    step_at_beside (at p) h = elim (test (stops k (stored s p) s.kept)) [
      | inl t ↦ rw t (record { nodes = nodes; others = refl; marks = e })
      | inr t ↦ rw t (took_beside p h.0)
    ]

    same_next : (i : ℕ) → best_below s i ≡ best_below (with_marks s M) i
    same_next i = sym (best_looking s i) ∙ best_looking (with_marks s M) i

    step_marked : Beside n (step T k s) (step U k (with_marks s M))
    unfolding step
    step_marked = rw (← same_next (length s.figures), nodes) (step_at_beside (best_below s n) (is_best s n))

  step_beside : (s t : Progress) → Beside n s t → Beside n (step T k s) (step U k t)
  step_beside s t h = subst (λ u. Beside n (step T k s) (step U k u)) (sym h.others) (step_marked s h.nodes t.marks h.marks)

  steps_beside : (s t : Progress) (i : ℕ) → Beside n s t → Beside n (steps T k i s) (steps U k i t)
  unfolding steps
  steps_beside s t zero h = h
  steps_beside s t (suc i) h = step_beside (steps T k i s) (steps U k i t) (steps_beside s t i h)

all_steps_beside : (T U : ℕ → ℕ) (k : ℕ) (F : List ℕ) {M N : List ℕ} → ((p : ℕ) → p < length F → T p ≡ U p) → SameBits (mark_bits (length F)) M N
    → Beside (length F) (all_steps T k F M) (all_steps U k F N)
unfolding all_steps
all_steps_beside T U k F {M} {N} agree e =
    steps_beside T U k (length F) agree (at_start F M) (at_start F N) (length F) (record { nodes = refl; others = refl; marks = e })

module _ {s t : State} (h : Alike s t) (entries scratch : List ℕ) where
  abbrev k : ℕ
  k = wanted entries

  abbrev run : State → Progress
  run u = all_steps (score (graph u) (size u)) k u.figures u.marks

  runs : Beside (size s) (run s) (run t)
  runs = subst (λ F. Beside (size s) (run s) (all_steps (score (graph t) (length F)) k F t.marks)) h.figures
      (all_steps_beside (score (graph s) (size s)) (score (graph t) (size s)) k s.figures (λ p l. score_agree (size s) p l (alike_links h)) h.marks)

  accepted_alike : AlikeListed ℕ (accepted_list s entries scratch) (accepted_list t entries scratch)
  unfolding accepted_list
  accepted_alike =
      let same : run t ≡ with_marks (run s) (run t).marks = runs.others in
      record {
        refusal = refl;
        recomputed = sym (ap (λ u. u.recomputed) same);
        after = alike_by _ _ (size s) runs.nodes h.edges (sym (ap (λ u. u.figures) same)) runs.marks;
        entries = sym (ap (λ u. over u.kept entries) same);
        scratch = ap (λ n. replicate (scratch_bytes n) 0 ++ drop (scratch_bytes n) scratch) (alike_nodes h);
      }

  abbrev refusal_of : State → ℕ
  refusal_of u = refusal (lengths u ++ list_conditions (size u) (graph u) k (length scratch))

  list_same : refusal_of s ≡ refusal_of t
  list_same = rest_alike h _ _ (rw (before_agree (size s) (graph s) (graph t) everyone everyone (alike_links h) (λ p l. refl), alike_nodes h))

  pub list_alike : AlikeListed ℕ (list_call s entries scratch) (list_call t entries scratch)
  unfolding list_call
  list_alike = elim (ℕ_discrete (refusal_of s) 0) [
    | yes z ↦ rw (← list_same, eq-eqb (refusal_of s) 0 z) accepted_alike
    | no d ↦ rw (← list_same, ne_eqb (refusal_of s) 0 d) (record { refusal = refl; recomputed = refl; after = h; entries = refl; scratch = refl })
  ]
