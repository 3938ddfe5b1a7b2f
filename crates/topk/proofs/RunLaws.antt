-- The turns of the list, one after the other, from no node taken. Assumes nothing.
use mathlib.Core.Bool.{true}
use mathlib.Core.List.{List}
use mathlib.Core.Path.{ap, refl, subst, sym, ◌∙◌, ◌≡◌}
use Prim.Native.Nat.{◌+◌, ℕ, ◌≤◌}
use native.Mathlib.Nat.{le_antisymm}
use native.Mathlib.Numerals.{add-one}
use lib.ListN.{length, replicate}
use Rattle.ego.specs.Score.{score}
use Rattle.state.specs.Sizes.{scratch_bytes}
use Rattle.state.specs.State.{graph, size, State}
use Rattle.topk.proofs.HoldsLaws.{holds_next, progress_is}
use Rattle.topk.proofs.OrderedLaws.{steps_ordered}
use Rattle.topk.proofs.TakenLaws.{taken_none}
use Rattle.topk.proofs.TurnLaws.{counts, steps_still}
use Rattle.topk.specs.Entries.{entries_of}
use Rattle.topk.specs.List.{list_of}
use Rattle.topk.specs.Steps.{all_steps, at_start, Progress, step, steps}
use Rattle.topk.specs.Inside.Layout.{Ordered}
use Rattle.topk.specs.Inside.Next.{HeadsAre, looking_in, stopped, taken_of}
use Rattle.topk.specs.Inside.Turns.{Done, Gone, Holds, Leaves, progress_of, truth_of}
use Rattle.topk.specs.declared.turns.Turn.{Turn}

-- what is left of a list that the buffers hold
holds_leaves : {s : Progress} {F M S E₀ E : List ℕ} {t : Turn} → Holds s F M S E₀ E t → Leaves s F M E₀ E t.recomputed
holds_leaves h = record { figures_are = h.figures_are; marks_are = h.marks_are; entries_are = h.entries_are; recomputed_is = h.recomputed_is }

module _ (s : State) (k : ℕ) where
  abbrev F₀ : List ℕ
  F₀ = s.figures

  abbrev T : ℕ → ℕ
  T = score (graph s) (size s)

  -- the list after i steps
  abbrev pub after_steps : ℕ → Progress
  after_steps i = steps T k i (at_start F₀ s.marks)

  pub run_starts : {S E₀ : List ℕ} {H : List ℕ} → S ≡ replicate (scratch_bytes (size s)) 0 → HeadsAre (looking_in F₀ S) H
      → Holds (after_steps 0) F₀ s.marks S E₀ E₀ (record { kept = 0; recomputed = 0; heads = H })
  unfolding steps
  run_starts e heads = record {
    figures_are = refl;
    marks_are = refl;
    taken_are = ap (taken_of (size s)) e ∙ taken_none (size s) (scratch_bytes (size s));
    entries_are = refl;
    heads_are = heads;
    kept_is = refl;
    recomputed_is = refl;
  }

  module _ {i : ℕ} (l : i ≤ size s) {F M S E₀ E : List ℕ} {t : Turn} (h : Holds (after_steps i) F M S E₀ E t) where
    pub run_ends : size s ≤ i → Leaves (list_of s k) F M E₀ E t.recomputed
    unfolding all_steps
    run_ends g = holds_leaves (subst (λ (n : ℕ). Holds (after_steps n) F M S E₀ E t) (le_antisymm l g) h)

    pub run_ordered : Ordered (entries_of t.kept E)
    run_ordered = subst (λ (x : Progress). Ordered x.kept) (sym (progress_is (after_steps i) F M S E₀ E t h)) (steps_ordered T k i F₀ s.marks)

    -- a turn more
    module _ (n : length F ≡ size s) {F' M' S' E' : List ℕ} where
      pub run_goes : {t' : Turn} → Gone (truth_of s.edges F) k (progress_of F M S E t) t' F' M' S' E E' → Holds (after_steps (i + 1)) F' M' S' E₀ E' t'
      unfolding steps
      run_goes {t'} u =
          rw add-one
          (holds_next T k (after_steps i) F M S E₀ E t F' M' S' E' t' (counts T k F₀ s.marks i).0 h
          (subst (λ (x : ℕ). Holds (step (score (graph s) x) k (progress_of F M S E t)) F' M' S' E E' t') n u.holds))

      -- the list is done: what the buffers hold is what all steps come to
      pub run_stops : Done k (progress_of F M S E t) F' M' S' E E' → Leaves (list_of s k) F' M' E₀ E' t.recomputed
      unfolding all_steps
      run_stops u =
          let d : stopped k (after_steps i) ≡ true = ap (stopped k) (sym (progress_is (after_steps i) F M S E₀ E t h)) ∙ u.stops in
          let q = sym (steps_still T k (at_start F₀ s.marks) i (size s) l d) in
          let x = holds_leaves (subst (λ (x : Progress). Holds x F M S E₀ E t) q h) in
          record {
            figures_are = u.figures_are ∙ x.figures_are;
            marks_are = u.marks_are ∙ x.marks_are;
            entries_are = u.entries_are ∙ x.entries_are;
            recomputed_is = x.recomputed_is;
          }
