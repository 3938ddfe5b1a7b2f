-- Each call of a history keeps the invariant, and turns back where the model does. Assumes nothing.
use mathlib.Core.Bool.{Bool, false, true}
use mathlib.Core.List.{◌++◌, [], append-nil, List, ◌∷◌}
use mathlib.Core.Logic.{◌≢◌}
use mathlib.Core.Path.{ap, refl, sym, ◌∙◌, ◌≡◌}
use Prim.Native.Nat.{◌<◌, ℕ}
use native.Mathlib.Decide.{ℕ_discrete}
use native.Mathlib.Omega.{arith}
use borrow.Author.Tests.{eq-eqb, lt-ltb, ne_eqb}
use lib.ListN.{length}
use Rattle.ego.proofs.Agreement.{Agree, agree_sym, agree_trans}
use Rattle.ego.proofs.WithPair.{pair_agree}
use Rattle.ego.specs.Change.{with_pair}
use Rattle.ego.specs.Graph.{Graph}
use Rattle.history.proofs.ListStep.{list_answers, list_stays}
use Rattle.history.specs.History.{state_after, answer, effect, of_state, Unaltered}
use Rattle.history.specs.Model.{add, below, Call, clear, conditions, early_conditions, Entries, list, load, load_at, model, model_refusal, own_conditions, reconcile, reconcile_pinned, remove, would_hold}
use Rattle.merge.proofs.MergeLaws.{merged_is, reconcile_agree, reconciled_sound}
use Rattle.merge.proofs.PinAgree.{brought_refl, pinned_agree, stands_agree}
use Rattle.merge.proofs.PinLaws.{pinned_sound}
use Rattle.merge.specs.Alike.{AlikeBrought}
use Rattle.merge.specs.Pinned.{Brought, pinned_call, pinned_conditions, reconciled_pinned}
use Rattle.merge.specs.Reconcile.{merged, reconcile_call, reconcile_conditions, reconciled}
use Rattle.packed.specs.Edges.{edge, with_edge}
use Rattle.calls.proofs.AcceptLaws.{append_same, lengths_fit, lengths_pass, load_accepted, outcome_accepted, outcome_refusal, outcome_refused, passes}
use Rattle.edits.proofs.NamedLaws.{add_accepted, Named, remove_accepted}
use Rattle.edits.proofs.EditLaws.{edit_pair, edited_kept, touched_agree, untouched_end}
use Rattle.state.proofs.RefusalLaws.{Fitted, passed_count, refusal_none, sized_room}
use Rattle.edits.proofs.SameRefusal.{add_agree, remove_agree}
use Rattle.edits.proofs.Sound.{added_sound, cleared_sound, loaded_sound, marks_room, removed_sound, Sound, sound_agree}
use Rattle.calls.specs.Clear.{clear_call, cleared}
use Rattle.edits.specs.Edit.{add_call, add_conditions, added, remove_call, remove_conditions, removed}
use Rattle.schedule.proofs.Sheets.{edges_long, loaded_agree, loaded_nodes}
use Rattle.schedule.specs.Schedule.{bad_schedule}
use Rattle.schedule.specs.Sheet.{edges_at, load_at_call, load_at_conditions}
use Rattle.state.specs.Sizes.{edge_bytes}
use Rattle.state.specs.Outcome.{lengths, outcome}
use Rattle.state.specs.Refusal.{Condition, ends, refusal, snapshot_edges, touched}
use Rattle.calls.specs.Snapshot.{load_call, loaded}
use Rattle.state.specs.State.{graph, size, State}

abbrev StateFits : State → Type 0
StateFits s = Fitted (size s) (length s.edges) (length s.marks)

-- ---- the model's pairs are of nodes below n

below_agree : (n : ℕ) (g : Graph) → Agree n g (below n g)
unfolding below
below_agree n g a b ha hb = rw (lt-ltb a n ha, lt-ltb b n hb)

-- the model's conditions but for 1
abbrev rest : ℕ → Graph → Call → List Condition
rest n g call = early_conditions call ++ own_conditions n g call

-- where the model's lengths fit, condition 1 lets every call pass
asked_rest : (s : State) (g : Graph) (call : Call) → StateFits s → model_refusal (size s) g call ≡ refusal (rest (size s) g call)
unfolding model_refusal conditions
asked_rest s g call f =
    append_same (early_conditions call) _ (own_conditions (size s) g call)
    (passed_count (own_conditions (size s) g call) (size s) (λ e. omega (arith, f.sizes.some)) f.sizes.few)

-- ---- a call that leaves an outcome: `t` where nothing turns it back, by conditions that decide as the model's do

module _ (s : State) (fits : StateFits s) (g : Graph) (call : Call) (cs : List Condition) (t : State)
    (is : effect s call ≡ of_state (outcome cs s t)) (same : refusal cs ≡ refusal (rest (size s) g call)) where
  abbrev asked : ℕ
  asked = model_refusal (size s) g call

  tested : refusal cs ≡ asked
  tested = same ∙ sym (asked_rest s g call fits)

  pub call_answer : answer s call ≡ asked
  call_answer = ap (λ e. e.answer) is ∙ outcome_refusal cs s t ∙ tested

  call_taken : asked ≡ 0 → state_after s call ≡ t
  call_taken z = ap (λ e. e.after) is ∙ outcome_accepted cs s t (tested ∙ z)

  call_refused : (asked ≡ 0 → ⊥) → state_after s call ≡ s
  call_refused d = ap (λ e. e.after) is ∙ outcome_refused cs s t (λ z. d (sym tested ∙ z))

  -- the state is left, or is t
  pub call_leaves : (P : State → Type 0) → (refusal (rest (size s) g call) ≡ 0 → P t) → ((asked ≡ 0 → ⊥) → P s) → P (state_after s call)
  call_leaves P new old = elim (ℕ_discrete asked 0) [
    | yes z ↦ rw (call_taken z) (new (sym (asked_rest s g call fits) ∙ z))
    | no d ↦ rw (call_refused d) (old d)
  ]

  pub call_sound : (refusal (rest (size s) g call) ≡ 0 → Sound (size s) (would_hold g call) t) → ((asked ≡ 0 → ⊥) → Sound (size s) g s)
      → Sound (size s) (model (size s) g call) (state_after s call)
  unfolding model
  call_sound new old = elim (ℕ_discrete asked 0) [
    | yes z ↦ rw (eq-eqb asked 0 z, call_taken z) (sound_agree (below_agree (size s) (would_hold g call)) (new (sym (asked_rest s g call fits) ∙ z)))
    | no d ↦ rw (ne_eqb asked 0 d, call_refused d) (old d)
  ]

-- ---- clear and load, on any state whose lengths fit

-- clear has no conditions but the lengths
clear_is : (s : State) → effect s clear ≡ of_state (outcome (lengths s ++ []) s (cleared (size s)))
unfolding effect clear_call
clear_is s = rw (append-nil (lengths s))

load_is : (s : State) (snapshot : List ℕ) (g : Graph)
    → effect s (load snapshot) ≡ of_state (outcome (lengths s ++ own_conditions (size s) g (load snapshot)) s (loaded (size s) (snapshot_edges snapshot)))
unfolding effect load_call own_conditions
load_is s snapshot g = refl

load_at_is : (s : State) (schedule : List ℕ) (t : ℕ) → effect s (load_at schedule t)
    ≡ of_state (outcome (bad_schedule schedule ∷ (lengths s ++ load_at_conditions (size s) schedule t)) s (loaded (size s) (edges_at schedule t)))
unfolding effect load_at_call
load_at_is s schedule t = refl

-- where one of them is accepted, the lengths fit
outcome_fits : (s : State) (call : Call) (cs : List Condition) (t : State) → effect s call ≡ of_state (outcome (lengths s ++ cs) s t)
    → answer s call ≡ 0 → StateFits s
outcome_fits s call cs t is z = lengths_fit s cs (sym (outcome_refusal (lengths s ++ cs) s t) ∙ sym (ap (λ e. e.answer) is) ∙ z)

pub clear_fits : (s : State) → answer s clear ≡ 0 → StateFits s
clear_fits s = outcome_fits s clear [] _ (clear_is s)

pub load_fits : (s : State) (snapshot : List ℕ) → answer s (load snapshot) ≡ 0 → StateFits s
load_fits s snapshot = outcome_fits s (load snapshot) _ _ (load_is s snapshot (graph s))

pub load_at_fits : (s : State) (schedule : List ℕ) (t : ℕ) → answer s (load_at schedule t) ≡ 0 → StateFits s
unfolding bad_schedule
load_at_fits s schedule t z =
    let cs = lengths s ++ load_at_conditions (size s) schedule t in
    lengths_fit s (load_at_conditions (size s) schedule t) (passes (bad_schedule schedule) cs (λ e. omega arith)
    (sym (outcome_refusal (bad_schedule schedule ∷ cs) s (loaded (size s) (edges_at schedule t))) ∙ sym (ap (λ e. e.answer) (load_at_is s schedule t)) ∙ z)).1

module _ (s : State) (g : Graph) (fits : StateFits s) where
  abbrev n : ℕ
  n = size s

  clear_same : refusal (lengths s ++ []) ≡ refusal (own_conditions n g clear)
  unfolding own_conditions
  clear_same = lengths_pass s [] fits

  pub clear_answer : answer s clear ≡ model_refusal n g clear
  clear_answer = call_answer s fits g clear (lengths s ++ []) (cleared n) (clear_is s) clear_same

  pub clear_sound : Sound n (model n g clear) (state_after s clear)
  unfolding would_hold
  clear_sound = call_sound s fits g clear (lengths s ++ []) (cleared n) (clear_is s) clear_same
      (λ z. cleared_sound n fits.sizes.some fits.sizes.few) (λ d. absurd (d (asked_rest s g clear fits ∙ sym clear_same ∙ lengths_pass s [] fits ∙ refusal_none)))

  module _ (snapshot : List ℕ) where
    pub load_answer : answer s (load snapshot) ≡ model_refusal n g (load snapshot)
    load_answer = call_answer s fits g (load snapshot) _ _ (load_is s snapshot g) (lengths_pass s _ fits)

    load_took : refusal (own_conditions n g (load snapshot)) ≡ 0 → Sound n (would_hold g (load snapshot)) (loaded n (snapshot_edges snapshot))
    unfolding would_hold own_conditions
    load_took z = loaded_sound n fits.sizes.some fits.sizes.few (snapshot_edges snapshot) (load_accepted n snapshot z)

    pub load_sound : ((model_refusal n g (load snapshot) ≡ 0 → ⊥) → Sound n g s) → Sound n (model n g (load snapshot)) (state_after s (load snapshot))
    load_sound = call_sound s fits g (load snapshot) _ _ (load_is s snapshot g) (lengths_pass s _ fits) load_took

  -- 9 of a schedule comes before the lengths
  module _ (schedule : List ℕ) (t : ℕ) where
    abbrev at_tests : List Condition
    at_tests = bad_schedule schedule ∷ (lengths s ++ load_at_conditions n schedule t)

    at_same : refusal at_tests ≡ refusal (rest n g (load_at schedule t))
    unfolding own_conditions
    at_same = append_same (bad_schedule schedule ∷ []) _ (load_at_conditions n schedule t) (lengths_pass s (load_at_conditions n schedule t) fits)

    pub load_at_answer : answer s (load_at schedule t) ≡ model_refusal n g (load_at schedule t)
    load_at_answer = call_answer s fits g (load_at schedule t) at_tests _ (load_at_is s schedule t) at_same

    at_took : refusal (rest n g (load_at schedule t)) ≡ 0 → Sound n (would_hold g (load_at schedule t)) (loaded n (edges_at schedule t))
    unfolding would_hold own_conditions
    at_took z =
        sound_agree (loaded_agree n schedule t z)
        (loaded_sound n fits.sizes.some fits.sizes.few (edges_at schedule t) (edges_long schedule t ∙ ap edge_bytes (loaded_nodes n schedule t z)))

    pub load_at_sound : ((model_refusal n g (load_at schedule t) ≡ 0 → ⊥) → Sound n g s) → Sound n (model n g (load_at schedule t)) (state_after s (load_at schedule t))
    load_at_sound = call_sound s fits g (load_at schedule t) at_tests _ (load_at_is s schedule t) at_same at_took

-- ---- the calls on a sound state

module _ (s : State) (g : Graph) (h : Sound (size s) g s) where
  fits : StateFits s
  fits = h.shows.fits

  links : Agree (size s) (graph s) g
  links = h.shows.links

  module _ (a b : ℕ) where
    abbrev add_tests : List Condition
    add_tests = add_conditions (size s) (graph s) (edge (with_edge s.edges a b true)) a b

    abbrev remove_tests : List Condition
    remove_tests = remove_conditions (size s) (graph s) a b

    add_is : effect s (add a b) ≡ of_state (outcome (lengths s ++ add_tests) s (added s a b))
    unfolding effect add_call
    add_is = refl

    remove_is : effect s (remove a b) ≡ of_state (outcome (lengths s ++ remove_tests) s (removed s a b))
    unfolding effect remove_call
    remove_is = refl

    pair_links : a < size s → b < size s → a ≢ b → Agree (size s) (edge (with_edge s.edges a b true)) (with_pair g a b true)
    pair_links ha hb two = agree_trans {g = with_pair (graph s) a b true}
        (λ x y hx hy. edit_pair s.edges (size s) a b (sized_room fits.sizes) ha hb two true x y) (pair_agree a b true links)

    add_same : refusal (lengths s ++ add_tests) ≡ refusal (own_conditions (size s) g (add a b))
    unfolding own_conditions would_hold
    add_same = lengths_pass s add_tests fits ∙ add_agree (size s) (graph s) g a b links _ _ pair_links

    remove_same : refusal (lengths s ++ remove_tests) ≡ refusal (own_conditions (size s) g (remove a b))
    unfolding own_conditions
    remove_same = lengths_pass s remove_tests fits ∙ remove_agree (size s) (graph s) g a b links

    pub add_answer : answer s (add a b) ≡ model_refusal (size s) g (add a b)
    add_answer = call_answer s fits g (add a b) (lengths s ++ add_tests) (added s a b) add_is add_same

    pub remove_answer : answer s (remove a b) ≡ model_refusal (size s) g (remove a b)
    remove_answer = call_answer s fits g (remove a b) (lengths s ++ remove_tests) (removed s a b) remove_is remove_same

    add_named : refusal (own_conditions (size s) g (add a b)) ≡ 0 → Named (size s) g a b false
    unfolding own_conditions
    add_named = add_accepted (size s) g a b (would_hold g (add a b))

    remove_named : refusal (own_conditions (size s) g (remove a b)) ≡ 0 → Named (size s) g a b true
    unfolding own_conditions
    remove_named = remove_accepted (size s) g a b

    add_took : refusal (own_conditions (size s) g (add a b)) ≡ 0 → Sound (size s) (would_hold g (add a b)) (added s a b)
    unfolding would_hold
    add_took z = added_sound a b (add_named z) h

    remove_took : refusal (own_conditions (size s) g (remove a b)) ≡ 0 → Sound (size s) (would_hold g (remove a b)) (removed s a b)
    unfolding would_hold
    remove_took z = removed_sound a b (remove_named z) h

    pub add_sound : Sound (size s) (model (size s) g (add a b)) (state_after s (add a b))
    add_sound = call_sound s fits g (add a b) (lengths s ++ add_tests) (added s a b) add_is add_same add_took (λ d. h)

    pub remove_sound : Sound (size s) (model (size s) g (remove a b)) (state_after s (remove a b))
    remove_sound = call_sound s fits g (remove a b) (lengths s ++ remove_tests) (removed s a b) remove_is remove_same remove_took (λ d. h)

    -- a node that is neither an end nor a common neighbour is as it was
    module _ (p : ℕ) (l : p < size s) (u : touched g a b p ≡ false) where
      apart : {on : Bool} → Named (size s) g a b on → touched (graph s) a b p ≡ false
      apart d = touched_agree a b d.first d.second links p l ∙ u

      pub add_untouched : Unaltered s (state_after s (add a b)) p
      unfolding added
      add_untouched = call_leaves s fits g (add a b) (lengths s ++ add_tests) (added s a b) add_is add_same (λ t. Unaltered s t p)
          (λ z. let e = apart (add_named z) in edited_kept s a b true (ends a b) (marks_room fits) p l (untouched_end (graph s) a b p e) e) (λ d. (refl, refl))

      pub remove_untouched : Unaltered s (state_after s (remove a b)) p
      unfolding removed
      remove_untouched = call_leaves s fits g (remove a b) (lengths s ++ remove_tests) (removed s a b) remove_is remove_same (λ t. Unaltered s t p)
          (λ z. let e = apart (remove_named z) in edited_kept s a b false (touched (graph s) a b) (marks_room fits) p l e e) (λ d. (refl, refl))

  module _ (theirs base : List ℕ) where
    abbrev reconcile_tests : List Condition
    reconcile_tests = reconcile_conditions (size s) (graph s) (merged (graph s) (edge theirs) (edge base)) theirs base

    reconcile_is : effect s (reconcile theirs base) ≡ of_state (outcome (lengths s ++ reconcile_tests) s (reconciled s theirs base))
    unfolding effect reconcile_call
    reconcile_is = refl

    merged_links : Agree (size s) (merged (graph s) (edge theirs) (edge base)) (would_hold g (reconcile theirs base))
    unfolding would_hold
    merged_links a b ha hb = merged_is (graph s) (edge theirs) (edge base) a b ∙ rw (links a b ha hb)

    reconcile_same : refusal (lengths s ++ reconcile_tests) ≡ refusal (own_conditions (size s) g (reconcile theirs base))
    unfolding own_conditions
    reconcile_same = lengths_pass s reconcile_tests fits ∙ reconcile_agree (size s) (graph s) g _ _ theirs base links merged_links

    pub reconcile_answer : answer s (reconcile theirs base) ≡ model_refusal (size s) g (reconcile theirs base)
    reconcile_answer = call_answer s fits g (reconcile theirs base) (lengths s ++ reconcile_tests) (reconciled s theirs base) reconcile_is reconcile_same

    pub reconcile_sound : Sound (size s) (model (size s) g (reconcile theirs base)) (state_after s (reconcile theirs base))
    reconcile_sound = call_sound s fits g (reconcile theirs base) (lengths s ++ reconcile_tests) (reconciled s theirs base) reconcile_is reconcile_same
        (λ z. sound_agree merged_links (reconciled_sound s theirs base (sound_agree (agree_sym links) h))) (λ d. h)

  module _ (brought : Brought) where
    abbrev pinned_tests : List Condition
    pinned_tests = pinned_conditions (size s) (graph s) brought

    pinned_is : effect s (reconcile_pinned brought) ≡ of_state (outcome (lengths s ++ pinned_tests) s (reconciled_pinned s brought))
    unfolding effect pinned_call
    pinned_is = refl

    alike : AlikeBrought (size s) brought brought
    alike = brought_refl (size s) brought

    asks_alike : refusal pinned_tests ≡ refusal (own_conditions (size s) g (reconcile_pinned brought))
    unfolding own_conditions
    asks_alike = pinned_agree (size s) (graph s) g brought brought links alike

    pinned_same : refusal (lengths s ++ pinned_tests) ≡ refusal (own_conditions (size s) g (reconcile_pinned brought))
    pinned_same = lengths_pass s pinned_tests fits ∙ asks_alike

    pub pinned_answer : answer s (reconcile_pinned brought) ≡ model_refusal (size s) g (reconcile_pinned brought)
    pinned_answer = call_answer s fits g (reconcile_pinned brought) (lengths s ++ pinned_tests) (reconciled_pinned s brought) pinned_is pinned_same

    pinned_took : refusal (own_conditions (size s) g (reconcile_pinned brought)) ≡ 0
        → Sound (size s) (would_hold g (reconcile_pinned brought)) (reconciled_pinned s brought)
    unfolding would_hold
    pinned_took z =
        sound_agree (stands_agree (size s) (graph s) g brought brought links alike)
        (pinned_sound s brought (asks_alike ∙ z) (sound_agree (agree_sym links) h))

    pub pinned_stays : Sound (size s) (model (size s) g (reconcile_pinned brought)) (state_after s (reconcile_pinned brought))
    pinned_stays = call_sound s fits g (reconcile_pinned brought) (lengths s ++ pinned_tests) (reconciled_pinned s brought) pinned_is pinned_same pinned_took (λ d. h)

  module _ (entries : Entries) (scratch : List ℕ) where
    pub list_answer : answer s (list entries scratch) ≡ model_refusal (size s) g (list entries scratch)
    unfolding own_conditions
    list_answer = list_answers s g h entries scratch ∙ sym (asked_rest s g (list entries scratch) fits)

    pub list_sound : Sound (size s) (model (size s) g (list entries scratch)) (state_after s (list entries scratch))
    unfolding model would_hold
    list_sound = elim (ℕ_discrete (model_refusal (size s) g (list entries scratch)) 0) [
      | yes z ↦ rw (eq-eqb _ 0 z) (sound_agree (below_agree (size s) g) (list_stays s g h entries scratch))
      | no d ↦ rw (ne_eqb _ 0 d) (list_stays s g h entries scratch)
    ]
