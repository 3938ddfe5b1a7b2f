-- The list in a history, whichever way its entries are lent: its refusal is the model's, it is right by the model's scores, and it keeps the
-- invariant. Assumes nothing.
use mathlib.Core.Bool.{◌&&◌, and_comm, Bool, cond, false, not, true}
use mathlib.Core.List.{◌++◌, List}
use mathlib.Core.Logic.{inl, inr}
use mathlib.Core.Path.{ap, refl, sym, ◌∙◌, ◌≡◌}
use Prim.Native.Nat.{◌<◌, suc, zero, ℕ, ◌≤◌}
use native.Mathlib.Decide.{ℕ_discrete}
use native.Mathlib.Nat.{le_refl}
use native.Mathlib.Omega.{arith}
use lib.ListN.{drop, get_or, length, replicate, take}
use Rattle.arith.proofs.Tests.{test}
use Rattle.arith.specs.Sums.{count_to}
use Rattle.ego.specs.Graph.{Graph}
use Rattle.ego.specs.Score.{score}
use Rattle.history.specs.History.{answer, effect, filled_with, first_of, of_list, state_after, Unaltered}
use Rattle.history.specs.Model.{as_records, Entries, in_row, list, room}
use Rattle.calls.proofs.AcceptLaws.{lengths_pass}
use Rattle.state.proofs.CrowdedLaws.{before_agree}
use Rattle.edits.proofs.Sound.{Sound, sound_score}
use Rattle.state.specs.Marks.{stale}
use Rattle.state.specs.Refusal.{everyone, refusal}
use Rattle.state.specs.Sizes.{scratch_bytes}
use Rattle.state.specs.State.{figure, graph, is_stale, size, State}
use Rattle.listing.proofs.RecordLaws.{entries_refused, entries_taken}
use Rattle.topk.proofs.ListLaws.{call_taken, conditions_pass, list_call_refused, ran_of, refusal_of}
use Rattle.topk.proofs.Theorem.{all_steps_right}
use Rattle.topk.proofs.TurnLaws.{all_steps_figures, all_steps_marks}
use Rattle.topk.specs.List.{list_conditions, list_of, wanted}
use Rattle.topk.specs.Ranking.{ranking, works_out}
use Rattle.topk.specs.Inside.Right.{Right}
use Rattle.topk.specs.Steps.{Progress}

-- the ranking depends on the scores below n alone
ranking_ext : (truth truth' : ℕ → ℕ) (n : ℕ) → ((p : ℕ) → p < n → truth p ≡ truth' p) → ranking truth n ≡ ranking truth' n
unfolding ranking
ranking_ext truth truth' zero h = refl
ranking_ext truth truth' (suc n) h = rw (h n (omega arith), ranking_ext truth truth' n (λ p l. h p (omega arith)))

-- what a list does: it turns back and leaves all as it was, or runs
list_refused : (s : State) (entries : Entries) (scratch : List ℕ) → (refusal_of s scratch (room entries) ≡ 0 → ⊥)
    → effect s (list entries scratch)
    ≡ record { answer = refusal_of s scratch (room entries); after = s; recomputed = 0; entries = entries; scratch = scratch }
unfolding effect
list_refused s (in_row numbers) scratch d = ap (of_list in_row) (list_call_refused s scratch numbers (wanted numbers) refl d)
list_refused s (as_records records) scratch d = ap (of_list as_records) (entries_refused s scratch records d)

list_runs : (s : State) (entries : Entries) (scratch : List ℕ) → refusal_of s scratch (room entries) ≡ 0 → let run = list_of s (room entries) in
    effect s (list entries scratch) ≡ record {
      answer = 0;
      after = ran_of s (room entries);
      recomputed = run.recomputed;
      entries = filled_with run.kept entries;
      scratch = replicate (scratch_bytes (size s)) 0 ++ drop (scratch_bytes (size s)) scratch;
    }
unfolding effect
list_runs s (in_row numbers) scratch z = ap (of_list in_row) (call_taken s scratch numbers (wanted numbers) refl z)
list_runs s (as_records records) scratch z = ap (of_list as_records) (entries_taken s scratch records z)

module _ (s : State) (g : Graph) (h : Sound (size s) g s) (entries : Entries) (scratch : List ℕ) where
  abbrev k : ℕ
  k = room entries

  abbrev run : Progress
  run = list_of s k

  -- the model's refusal
  abbrev asked : ℕ
  asked = refusal (list_conditions (size s) g k (length scratch))

  same : refusal_of s scratch k ≡ asked
  same =
      lengths_pass s (list_conditions (size s) (graph s) k (length scratch)) h.shows.fits
      ∙ rw (before_agree (size s) (graph s) g everyone everyone h.shows.links (λ p l. refl))

  module _ (z : asked ≡ 0) where
    right : Right (score (graph s) (size s)) s.figures s.marks k run
    right =
        let m = conditions_pass (size s) g k (length scratch) z in
        all_steps_right (score (graph s) (size s)) k s.figures s.marks m.some m.within (omega (arith, h.shows.fits.marks_fit)) h.honest

    kept_first : run.kept ≡ first_of (size s) g k
    kept_first = right.kept ∙ ap (take k) (ranking_ext (score (graph s) (size s)) (score g (size s)) (size s) (λ p l. sound_score h p l))

    abbrev worked_out : ℕ → Bool
    worked_out = works_out s.figures s.marks (first_of (size s) g k)

    figure_is_lem : (p : ℕ) → p < size s → get_or run.figures p 0 ≡ cond (worked_out p) (score g (size s) p) (figure s p)
    figure_is_lem p l = rw (kept_first, sound_score h p l) at (right.figures_are p l)

    mark_is_lem : (p : ℕ) → p < size s → stale run.marks p ≡ (is_stale s p && not (worked_out p))
    mark_is_lem p l = rw kept_first at (right.marks_are p l)

    list_sound : Sound (size s) g (ran_of s k)
    list_sound = record {
      shows = record {
        nodes = all_steps_figures _ k s.figures s.marks;
        fits = rw (all_steps_marks (score (graph s) (size s)) k s.figures s.marks) h.shows.fits;
        links = h.shows.links;
      };
      honest = record {
        settled = λ p l e. settled p (below p l) e;
        above = λ p l. above p (below p l);
      };
    }
      where
        below : (p : ℕ) → p < length run.figures → p < size s
        below p l = omega (arith, all_steps_figures (score (graph s) (size s)) k s.figures s.marks)

        settled : (p : ℕ) → p < size s → stale run.marks p ≡ false → get_or run.figures p 0 ≡ score (graph s) (size s) p
        settled p l e = elim (test (worked_out p)) [
          | inl w ↦ figure_is_lem p l ∙ rw w (sym (sound_score h p l))
          | inr w ↦ figure_is_lem p l ∙ rw w (h.honest.settled p l (sym (mark_is_lem p l ∙ rw w (and_comm (is_stale s p) true)) ∙ e))
        ]

        above : (p : ℕ) → p < size s → score (graph s) (size s) p ≤ get_or run.figures p 0
        above p l = elim (test (worked_out p)) [
          | inl w ↦ rw (figure_is_lem p l, w, sound_score h p l) (le_refl _)
          | inr w ↦ rw (figure_is_lem p l, w) (h.honest.above p l)
        ]

  pub list_answers : answer s (list entries scratch) ≡ asked
  list_answers = elim (ℕ_discrete asked 0) [
    | yes z ↦ ap (λ e. e.answer) (list_runs s entries scratch (same ∙ z)) ∙ sym z
    | no d ↦ ap (λ e. e.answer) (list_refused s entries scratch (λ e. d (sym same ∙ e))) ∙ same
  ]

  pub list_stays : Sound (size s) g (state_after s (list entries scratch))
  list_stays = elim (ℕ_discrete asked 0) [
    | yes z ↦ rw (ap (λ e. e.after) (list_runs s entries scratch (same ∙ z))) (list_sound z)
    | no d ↦ rw (ap (λ e. e.after) (list_refused s entries scratch (λ e. d (sym same ∙ e)))) h
  ]

  -- an accepted list
  module _ (e : answer s (list entries scratch) ≡ 0) where
    zero_asked : asked ≡ 0
    zero_asked = sym list_answers ∙ e

    abbrev done : State
    done = state_after s (list entries scratch)

    taken : refusal_of s scratch k ≡ 0
    taken = same ∙ zero_asked

    ran : done ≡ ran_of s k
    ran = ap (λ e. e.after) (list_runs s entries scratch taken)

    pub list_first : (effect s (list entries scratch)).entries ≡ filled_with (first_of (size s) g k) entries
    list_first = ap (λ e. e.entries) (list_runs s entries scratch taken) ∙ ap (λ xs. filled_with xs entries) (kept_first zero_asked)

    pub list_worked : (effect s (list entries scratch)).recomputed ≡ count_to (works_out s.figures s.marks (first_of (size s) g k)) (size s)
    list_worked = ap (λ e. e.recomputed) (list_runs s entries scratch taken) ∙ (right zero_asked).recomputed ∙ rw (kept_first zero_asked)

    pub list_settles : (p : ℕ) → p < size s → works_out s.figures s.marks (first_of (size s) g k) p ≡ true
        → (is_stale done p ≡ false) × (figure done p ≡ score g (size s) p)
    list_settles p l w = rw ran (mark_is_lem zero_asked p l ∙ rw w (and_comm (is_stale s p) false), figure_is_lem zero_asked p l ∙ rw w)

    pub list_others : (p : ℕ) → p < size s → works_out s.figures s.marks (first_of (size s) g k) p ≡ false → Unaltered s done p
    list_others p l w = rw ran (mark_is_lem zero_asked p l ∙ rw w (and_comm (is_stale s p) true), figure_is_lem zero_asked p l ∙ rw w)
