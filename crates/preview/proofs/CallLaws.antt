-- How a preview ends: refused by the lengths, by the count of numbers, by what is examined, or accepted. Assumes nothing.
use mathlib.Core.Bool.{Bool, false, true}
use mathlib.Core.List.{◌++◌, List, ◌∷◌}
use mathlib.Core.Logic.{◌≢◌}
use mathlib.Core.Path.{ap, refl, sym, ◌∙◌, ◌≡◌}
use Prim.Native.Nat.{ℕ}
use native.Mathlib.Omega.{arith}
use borrow.Author.Tests.{ne_eqb}
use lib.IntN.{ℤ}
use lib.ListN.{length}
use Rattle.edits.proofs.EditLaws.{edit_pair}
use Rattle.edits.proofs.SameRefusal.{add_agree}
use Rattle.edits.specs.Inside.Change.{crowding, pair_conditions}
use Rattle.ego.specs.Change.{with_pair}
use Rattle.packed.specs.Edges.{edge, with_edge}
use Rattle.packed.specs.Inside.Room.{Room}
use Rattle.state.proofs.RefusalLaws.{append_refused, Fitted, fitted_append, passed_length, refused_length, sized_room}
use Rattle.state.specs.Outcome.{lengths, state_lengths}
use Rattle.state.specs.Refusal.{buffer_length, Condition, refusal}
use Rattle.state.specs.State.{graph, size, State}
use Rattle.preview.specs.Inside.Call.{edit_conditions, preview_call}
use Rattle.preview.specs.Preview.{previewed, preview_lengths, preview_outcome, score_changes}

-- ---- what a preview leaves

module _ (cs : List Condition) (changes after : List ℤ) where
  pub preview_refused : {r : ℕ} → r ≡ refusal cs → (r ≡ 0 → ⊥) → previewed r changes ≡ preview_outcome cs changes after
  unfolding preview_outcome
  preview_refused {r} e d = rw (← e, ne_eqb r 0 d)

  pub preview_accepted : {changes' : List ℤ} → refusal cs ≡ 0 → changes' ≡ after → previewed 0 changes' ≡ preview_outcome cs changes after
  unfolding preview_outcome
  preview_accepted z e = rw (z, e)

-- the conditions of an edit, as they are examined
pub examined_is : (es : List ℕ) (n a b : ℕ) (on : Bool) → Room n es
    → refusal (pair_conditions n (edge es) a b on ++ crowding es n a b on) ≡ refusal (edit_conditions n (edge es) a b on)
examined_is es n a b true room =
    add_agree n (edge es) (edge es) a b (λ x y hx hy. refl) (edge (with_edge es a b true)) (with_pair (edge es) a b true)
    (λ ha hb d x y hx hy. edit_pair es n a b room ha hb d true x y)
examined_is es n a b false room = refl

module _ (s : State) (changes : List ℤ) (a b : ℕ) (on : Bool) where
  abbrev n : ℕ
  n = size s

  abbrev conditions : List Condition
  conditions = edit_conditions n (graph s) a b on

  abbrev after : List ℤ
  after = score_changes (graph s) (with_pair (graph s) a b on) n

  abbrev all : List Condition
  all = preview_lengths s changes ++ conditions

  abbrev own : List Condition
  own = state_lengths n (length s.edges) (length s.marks)

  pub in_order : all ≡ own ++ buffer_length n (length changes) ∷ conditions
  unfolding preview_lengths lengths
  in_order = refl

  -- refused by 1 and 2 of the state
  pub lengths_refused : {r : ℕ} → r ≡ refusal own → (r ≡ 0 → ⊥) → previewed r changes ≡ preview_call s changes a b on
  lengths_refused e d = preview_refused all changes after (sym (ap refusal in_order ∙ append_refused own _ (sym e) d)) d

  module _ (fits : Fitted n (length s.edges) (length s.marks)) where
    -- by 2 of the numbers
    pub count_refused : length changes ≢ n → previewed 2 changes ≡ preview_call s changes a b on
    count_refused d =
        preview_refused all changes after
        (sym (ap refusal in_order ∙ fitted_append n (length s.edges) (length s.marks) _ fits ∙ refused_length conditions n (length changes) d)) (λ z. omega arith)

    module _ (count : length changes ≡ n) {r : ℕ} (e : r ≡ refusal (pair_conditions n (graph s) a b on ++ crowding s.edges n a b on)) where
      rest : refusal all ≡ r
      rest =
          ap refusal in_order ∙ fitted_append n (length s.edges) (length s.marks) _ fits ∙ passed_length conditions n (length changes) count
          ∙ sym (e ∙ examined_is s.edges n a b on (sized_room fits.sizes))

      -- by what is examined
      pub edit_refused : (r ≡ 0 → ⊥) → previewed r changes ≡ preview_call s changes a b on
      edit_refused d = preview_refused all changes after (sym rest) d

      -- and by nothing
      pub edit_accepted : r ≡ 0 → {changes' : List ℤ} → changes' ≡ after → previewed 0 changes' ≡ preview_call s changes a b on
      edit_accepted z q = preview_accepted all changes after (rest ∙ z) q
