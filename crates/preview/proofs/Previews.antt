-- What a preview shows: the refusals of the edit itself, the change that doing it makes, its signs, that every number fits, and that the removal's
-- is the negation of the add's. Assumes nothing.
use mathlib.Core.Bool.{Bool, false, not, true, true≢false}
use mathlib.Core.List.{◌++◌, [], List, map, ◌∷◌}
use mathlib.Core.Logic.{inl, inr, ◌≢◌}
use mathlib.Core.Path.{ap, fun_ext, refl, subst, sym, ◌∙◌, ◌≡◌}
use Prim.Native.Nat.{◌<◌, ℕ, ◌≤◌}
use native.Mathlib.Decide.{ℕ_discrete}
use native.Mathlib.Nat.{le_trans}
use native.Mathlib.Omega.{arith}
use borrow.Author.Tests.{eqb-true, not-false}
use lib.IntN.{neg_ℤ, ℤ, pos, ◌-ℤ◌}
use lib.ListN.{get_or, length}
use lib.Signed.{◌<ℤ◌}
use mir.Syntax.{w64}
use mir.Val.{SFits}
use Rattle.calls.proofs.AcceptLaws.{lengths_fit, lengths_rest, outcome_accepted, outcome_refusal, passes}
use Rattle.arith.proofs.Sums.{get_d_tabulate}
use Rattle.arith.proofs.Tests.{test}
use Rattle.edits.proofs.EditLaws.{changed_is, edited_edges, edited_graph, edited_marks, edited_size, not_end, renewing}
use Rattle.edits.proofs.NamedLaws.{add_accepted, Named, pair_passed, remove_accepted, remove_passed}
use Rattle.edits.specs.Edit.{add_call, edited, remove_call, remove_conditions}
use Rattle.edits.specs.Inside.Change.{Changeable, changed, edit_call}
use Rattle.ego.proofs.Bounds.{score_most}
use Rattle.ego.proofs.Changes.{common_lower, gains_degree, gains_links, gains_more}
use Rattle.ego.proofs.FoundLaws.{simple_edges}
use Rattle.ego.proofs.Within.{within_degree}
use Rattle.ego.proofs.WithPair.{pair_elsewhere, pair_is}
use Rattle.ego.specs.Change.{with_pair}
use Rattle.ego.specs.Graph.{degree, Graph, Simple}
use Rattle.ego.specs.Inside.Gains.{Gains}
use Rattle.ego.specs.Limits.{limit}
use Rattle.ego.specs.Score.{score}
use Rattle.packed.proofs.EdgeLaws.{edge_comm, edge_self}
use Rattle.packed.specs.Edges.{with_edge}
use Rattle.state.proofs.LimitLaws.{few_by, few_of}
use Rattle.state.proofs.RefusalLaws.{append_refused, Fitted, fitted_append, fitted_by, passed_length, sized_room}
use Rattle.state.proofs.TouchLaws.{touched_else}
use Rattle.state.specs.Outcome.{lengths, outcome, state_lengths}
use Rattle.state.specs.Refusal.{buffer_length, Condition, crowded_after, crowded_before, ends, refusal, too_many, touched}
use Rattle.state.specs.State.{graph, size, State}
use Rattle.preview.proofs.CallLaws.{count_refused, examined_is, in_order, preview_accepted}
use Rattle.preview.proofs.ChangeLaws.{above_zero, below_zero, changes_back, minus_fits}
use Rattle.preview.proofs.ScoreChange.{add_pair, after_is, change_at, remove_pair, score_change, touched_same}
use Rattle.preview.specs.Inside.Call.{edit_conditions, preview_call}
use Rattle.preview.specs.Preview.{preview_add_call, previewed, preview_outcome, preview_remove_call, score_changes}

-- what the conditions of an edit leave, where none applies: its pair, and which nodes keep to the limit
module _ (n : ℕ) (g : Graph) (a b : ℕ) where
  pair_named : (on : Bool) → refusal (edit_conditions n g a b on) ≡ 0 → Named n g a b (not on)
  pair_named true z = add_accepted n g a b (with_pair g a b true) z
  pair_named false z = remove_accepted n g a b z

  uncrowded : (on : Bool) → refusal (edit_conditions n g a b on) ≡ 0
      → (too_many g n (touched g a b) ≡ false) × (on ≡ true → too_many (with_pair g a b on) n (ends a b) ≡ false)
  unfolding crowded_before crowded_after
  uncrowded true z =
      let after = crowded_after (with_pair g a b true) n (ends a b) ∷ [] in
      let cs = crowded_before g n (touched g a b) ∷ after in
      let r = passes (crowded_before g n (touched g a b)) after (λ q. omega arith) (sym (pair_passed n g a b true cs (pair_named true z)) ∙ z) in
      (r.0, λ q. (passes (crowded_after (with_pair g a b true) n (ends a b)) [] (λ q. omega arith) r.1).0)
  uncrowded false z =
      let before = crowded_before g n (touched g a b) in
      ((passes before [] (λ q. omega arith) (sym (pair_passed n g a b false (before ∷ []) (pair_named false z)) ∙ z)).0, λ q. absurd (true≢false (sym q)))

-- what an accepted preview knows
pub record Accepted (s : State) (changes : List ℤ) (a b : ℕ) (on : Bool) : Type 0 where
  pub fits : Fitted (size s) (length s.edges) (length s.marks)
  pub count : length changes ≡ size s
  pub rest : refusal (edit_conditions (size s) (graph s) a b on) ≡ 0

module _ (s : State) (changes : List ℤ) (a b : ℕ) (on : Bool) where
  abbrev n : ℕ
  n = size s

  pub accepted_by : (preview_call s changes a b on).refusal ≡ 0 → Accepted s changes a b on
  unfolding preview_outcome lengths buffer_length
  accepted_by ok =
      let counted = buffer_length n (length changes) in
      let cs = counted ∷ edit_conditions n (graph s) a b on in
      let all : refusal (lengths s ++ cs) ≡ 0 = sym (ap refusal (in_order s changes a b on)) ∙ ok in
      let inner = lengths_rest s cs all in
      let r = passes counted _ (λ z. omega arith) inner in
      record { fits = lengths_fit s cs all; count = eqb-true _ _ (not-false _ r.0); rest = r.1 }

  -- the numbers of an accepted preview
  pub shown : (preview_call s changes a b on).refusal ≡ 0 → (preview_call s changes a b on).changes ≡ score_changes (graph s) (with_pair (graph s) a b on) n
  unfolding preview_outcome
  shown ok = rw ok

  pub shown_at : (preview_call s changes a b on).refusal ≡ 0 → (p : ℕ) → p < n
      → get_or (preview_call s changes a b on).changes p (pos 0) ≡ change_at (graph s) (with_pair (graph s) a b on) n p
  unfolding score_changes
  shown_at ok p h = ap (λ l. get_or l p (pos 0)) (shown ok) ∙ get_d_tabulate (change_at (graph s) (with_pair (graph s) a b on) n) n p (pos 0) h

module _ {s : State} {changes : List ℤ} {a b : ℕ} {on : Bool} (ok : Accepted s changes a b on) where
  abbrev g : Graph
  g = graph s

  abbrev g' : Graph
  g' = with_pair g a b on

  named : Named (size s) g a b (not on)
  named = pair_named (size s) g a b on ok.rest

  pub changeable : Changeable s.edges (size s) a b on
  changeable = record {
    first_below = named.first;
    second_below = named.second;
    apart = named.two;
    was = named.was;
    room = sized_room ok.fits.sizes;
  }

  few_before_lem : (p : ℕ) → p < size s → touched g a b p ≡ true → degree g (size s) p ≤ limit
  few_before_lem = few_of g (size s) (touched g a b) (uncrowded (size s) g a b on ok.rest).0

  few_after_lem : (p : ℕ) → p < size s → touched g a b p ≡ true → degree g' (size s) p ≤ limit
  few_after_lem p h t = elim (test on) [
    | inr z ↦
        let lost = remove_pair changeable z in
        le_trans (within_degree {g = g'} {g' = g} (λ x y hx hy q. gains_more g' g a b lost x y q) p h) (few_before_lem p h t)
    | inl z ↦ elim (test (ends a b p)) [
      | inl q ↦ few_of g' (size s) (ends a b) ((uncrowded (size s) g a b on ok.rest).1 z) p h q
      | inr q ↦
          let apart = not_end a b p q in
          rw (← gains_degree g g' a b (add_pair changeable z) (size s) p apart.0 apart.1) (few_before_lem p h t)
    ]
  ]

  -- EVERY NUMBER FITS.
  pub fits_at : (p : ℕ) → p < size s → SFits w64 (change_at g g' (size s) p)
  fits_at p h = elim (test (touched g a b p)) [
    | inl t ↦ minus_fits (score g' (size s) p) (score g (size s) p)
        (omega (arith, score_most g' simple_after (size s) p (few_after_lem p h t)))
        (omega (arith, score_most g (simple_edges s.edges) (size s) p (few_before_lem p h t)))
    | inr t ↦ subst (SFits w64) (rw t at (score_change changeable p)) (record { sfits = omega arith })
  ]
    where
      simple_after : Simple g'
      simple_after = subst Simple (after_is changeable) (simple_edges (with_edge s.edges a b on))

  -- EVERY OTHER NODE shows 0.
  pub other_at : (p : ℕ) → touched g a b p ≡ false → change_at g g' (size s) p ≡ pos 0
  other_at p t = sym (rw t at (score_change changeable p))

  -- A COMMON NEIGHBOUR shows a number below 0 for an add, and above 0 for a removal.
  module _ (p : ℕ) (h : p < size s) (pa : g p a ≡ true) (pb : g p b ≡ true) where
    apart : {q : ℕ} → g p q ≡ true → p ≢ q
    apart e z = true≢false (sym e ∙ ap (g p) (sym z) ∙ edge_self s.edges p p refl)

    common_touched : touched g a b p ≡ true
    common_touched = touched_else g a b p (apart pa) (apart pb) ∙ rw (edge_comm s.edges a p, edge_comm s.edges b p, pa, pb)

    pub common_below : on ≡ true → change_at g g' (size s) p <ℤ pos 0
    common_below z =
        (below_zero (score g' (size s) p) (score g (size s) p)).1
        (common_lower g g' a b (add_pair changeable z) (size s) p pa pb named.first named.second (few_before_lem p h common_touched))

    pub common_above : on ≡ false → pos 0 <ℤ change_at g g' (size s) p
    common_above z =
        let lost = remove_pair changeable z in
        let linked : (q : ℕ) → g p q ≡ true → g' p q ≡ true = λ q e. gains_links g' g a b lost p (apart pa) (apart pb) q ∙ e in
        (above_zero (score g' (size s) p) (score g (size s) p)).1
        (common_lower g' g a b lost (size s) p (linked a pa) (linked b pb) named.first named.second (few_after_lem p h common_touched))

-- ---- what each of the two calls shows

module _ (s : State) (changes : List ℤ) (a b : ℕ) where
  module _ (ok : (preview_add_call s changes a b).refusal ≡ 0) where
    -- A COMMON NEIGHBOUR of a pair that is added falls.
    pub add_common : (p : ℕ) → p < size s → graph s p a ≡ true → graph s p b ≡ true → get_or (preview_add_call s changes a b).changes p (pos 0) <ℤ pos 0
    unfolding preview_add_call
    add_common p h pa pb = rw (shown_at s changes a b true ok p h) (common_below (accepted_by s changes a b true ok) p h pa pb refl)

    -- Every other node keeps its score.
    pub add_others : (p : ℕ) → p < size s → touched (graph s) a b p ≡ false → get_or (preview_add_call s changes a b).changes p (pos 0) ≡ pos 0
    unfolding preview_add_call
    add_others p h t = shown_at s changes a b true ok p h ∙ other_at (accepted_by s changes a b true ok) p t

    -- Every number fits.
    pub add_fits : (p : ℕ) → p < size s → SFits w64 (get_or (preview_add_call s changes a b).changes p (pos 0))
    unfolding preview_add_call
    add_fits p h = rw (shown_at s changes a b true ok p h) (fits_at (accepted_by s changes a b true ok) p h)

  module _ (ok : (preview_remove_call s changes a b).refusal ≡ 0) where
    -- A COMMON NEIGHBOUR of a pair that is removed rises.
    pub remove_common : (p : ℕ) → p < size s → graph s p a ≡ true → graph s p b ≡ true → pos 0 <ℤ get_or (preview_remove_call s changes a b).changes p (pos 0)
    unfolding preview_remove_call
    remove_common p h pa pb = rw (shown_at s changes a b false ok p h) (common_above (accepted_by s changes a b false ok) p h pa pb refl)

    pub remove_others : (p : ℕ) → p < size s → touched (graph s) a b p ≡ false → get_or (preview_remove_call s changes a b).changes p (pos 0) ≡ pos 0
    unfolding preview_remove_call
    remove_others p h t = shown_at s changes a b false ok p h ∙ other_at (accepted_by s changes a b false ok) p t

    pub remove_fits : (p : ℕ) → p < size s → SFits w64 (get_or (preview_remove_call s changes a b).changes p (pos 0))
    unfolding preview_remove_call
    remove_fits p h = rw (shown_at s changes a b false ok p h) (fits_at (accepted_by s changes a b false ok) p h)

-- ---- beside the change itself

module _ (s : State) (changes : List ℤ) (a b : ℕ) where
  module _ (on : Bool) where
    abbrev own : List Condition
    own = state_lengths (size s) (length s.edges) (length s.marks)

    same_refusal : length changes ≡ size s → (preview_call s changes a b on).refusal ≡ (edit_call s a b on).refusal
    unfolding preview_outcome outcome
    same_refusal count = ap refusal (in_order s changes a b on) ∙ elim (ℕ_discrete (refusal own) 0) [
      | yes z ↦
          let fits = fitted_by refl z in
          fitted_append (size s) (length s.edges) (length s.marks) _ fits
          ∙ passed_length (edit_conditions (size s) (graph s) a b on) (size s) (length changes) count
          ∙ sym (fitted_append (size s) (length s.edges) (length s.marks) _ fits ∙ examined_is s.edges (size s) a b on (sized_room fits.sizes))
      | no d ↦ append_refused own _ refl d ∙ sym (append_refused own _ refl d)
    ]

    done : (preview_call s changes a b on).refusal ≡ 0 → (edit_call s a b on).after ≡ edited s a b on (renewing (graph s) a b on)
    done ok =
        let same = same_refusal (accepted_by s changes a b on ok).count in
        outcome_accepted _ s (changed s a b on) (sym (outcome_refusal _ s (changed s a b on)) ∙ sym same ∙ ok)
        ∙ changed_is s a b on

    done_graph : (preview_call s changes a b on).refusal ≡ 0 → graph (edit_call s a b on).after ≡ with_pair (graph s) a b on
    done_graph ok = ap graph (done ok) ∙ edited_graph s a b on (renewing (graph s) a b on) ∙ after_is (changeable (accepted_by s changes a b on ok))

    done_at : (preview_call s changes a b on).refusal ≡ 0 → (p : ℕ) → p < size s
        → get_or (preview_call s changes a b on).changes p (pos 0) ≡ change_at (graph s) (graph (edit_call s a b on).after) (size s) p
    done_at ok p h = rw (done_graph ok) (shown_at s changes a b on ok p h)

  -- THE REFUSALS of a preview with as many numbers as nodes ARE THOSE OF THE CHANGE, in every state.
  pub add_refusal : length changes ≡ size s → (preview_add_call s changes a b).refusal ≡ (add_call s a b).refusal
  unfolding preview_add_call add_call lengths
  add_refusal = same_refusal true

  pub remove_refusal : length changes ≡ size s → (preview_remove_call s changes a b).refusal ≡ (remove_call s a b).refusal
  unfolding preview_remove_call remove_call lengths
  remove_refusal = same_refusal false

  -- and with another count of numbers, where 1 and 2 of the state pass, it is 2
  pub count_refusal : Fitted (size s) (length s.edges) (length s.marks) → length changes ≢ size s
      → ((preview_add_call s changes a b).refusal ≡ 2) × ((preview_remove_call s changes a b).refusal ≡ 2)
  unfolding preview_add_call preview_remove_call
  count_refusal fits d = (two true, two false)
    where
      two : (on : Bool) → (preview_call s changes a b on).refusal ≡ 2
      two on = ap (λ r. r.refusal) (sym (count_refused s changes a b on fits d))

  -- THE NUMBERS of an accepted preview ARE WHAT DOING THE CHANGE DOES to the scores.
  pub add_doing : (preview_add_call s changes a b).refusal ≡ 0 → (p : ℕ) → p < size s
      → get_or (preview_add_call s changes a b).changes p (pos 0) ≡ pos (score (graph (add_call s a b).after) (size s) p) -ℤ pos (score (graph s) (size s) p)
  unfolding preview_add_call add_call lengths
  add_doing = done_at true

  pub remove_doing : (preview_remove_call s changes a b).refusal ≡ 0 → (p : ℕ) → p < size s
      → get_or (preview_remove_call s changes a b).changes p (pos 0) ≡ pos (score (graph (remove_call s a b).after) (size s) p) -ℤ pos (score (graph s) (size s) p)
  unfolding preview_remove_call remove_call lengths
  remove_doing = done_at false

-- ---- the removal after the add

module _ {s : State} {changes : List ℤ} {a b : ℕ} (ok : Accepted s changes a b true) where
  abbrev before : Graph
  before = graph s

  abbrev between : Graph
  between = with_pair before a b true

  gained : Gains before between a b
  gained = add_pair (changeable ok) refl

  -- the edge put in and taken out again
  again : with_pair between a b false ≡ before
  again = fun_ext (λ x. fun_ext (λ y. sym (pair_is between before a b false x y
      (λ p q. rw (p, q) gained.absent)
      (λ p q. rw (p, q) (edge_comm s.edges b a ∙ gained.absent))
      (λ p q. sym (pair_elsewhere before a b true x y p q)))))

  removable : refusal (remove_conditions (size s) between a b) ≡ 0
  removable =
      let pair = named ok in
      remove_passed (size s) between a b (record { first = pair.first; second = pair.second; two = pair.two; was = gained.present })
      (few_by between (size s) (touched between a b) (λ p h t.
      few_after_lem ok p h (touched_same before between a b gained (size s) pair.first pair.second true p ∙ t)))

  -- in a state of that graph and of the same lengths
  module _ (s' : State) (changes' : List ℤ) (linked : graph s' ≡ between) (nodes : size s' ≡ size s) (edges : length s'.edges ≡ length s.edges)
      (marks : length s'.marks ≡ length s.marks) (count : length changes' ≡ size s) where
    turned_fits : Fitted (size s') (length s'.edges) (length s'.marks)
    turned_fits = rw (nodes, edges, marks) ok.fits

    turned : previewed 0 (map neg_ℤ (score_changes before between (size s))) ≡ preview_call s' changes' a b false
    turned = preview_accepted _ changes' _
        (ap refusal (in_order s' changes' a b false) ∙ fitted_append (size s') (length s'.edges) (length s'.marks) _ turned_fits
        ∙ passed_length _ (size s') (length changes') (count ∙ sym nodes) ∙ rw (linked, nodes) removable)
        (sym (rw (linked, nodes, again) (changes_back before between (size s))))

-- THE PREVIEW OF A REMOVE after the add IS THE NEGATION OF THE ADD'S before it.
pub remove_back : (s : State) (changes changes' : List ℤ) (a b : ℕ) → (preview_add_call s changes a b).refusal ≡ 0 → length changes' ≡ size s
    → preview_remove_call (add_call s a b).after changes' a b ≡ previewed 0 (map neg_ℤ (preview_add_call s changes a b).changes)
unfolding preview_add_call preview_remove_call add_call lengths
remove_back s changes changes' a b ok count =
    let s' = (edit_call s a b true).after in
    let is = done s changes a b true ok in
    sym (ap (λ l. previewed 0 (map neg_ℤ l)) (shown s changes a b true ok) ∙ turned (accepted_by s changes a b true ok) s' changes'
    (done_graph s changes a b true ok)
    (ap size is ∙ edited_size s a b true (ends a b))
    (ap (λ t. length t.edges) is ∙ edited_edges s a b true (ends a b))
    (ap (λ t. length t.marks) is ∙ edited_marks s a b true (ends a b))
    count)
