-- A preview does not depend on the spare bits of its state. Assumes nothing.
use mathlib.Core.Bool.{Bool, cond, false, true}
use mathlib.Core.List.{List, ◌∷◌}
use mathlib.Core.Path.{ap, ap₂, sym, ◌∙◌, ◌≡◌}
use Prim.Native.Nat.{ℕ}
use lib.Dec.{eqb}
use lib.IntN.{ℤ, pos, ◌-ℤ◌}
use lib.ListN.{length}
use Rattle.arith.proofs.Sums.{tabulate_ext}
use Rattle.calls.proofs.AcceptLaws.{same_rest}
use Rattle.calls.proofs.Spare.{rest_alike}
use Rattle.edits.proofs.SameRefusal.{add_agree, remove_agree}
use Rattle.ego.proofs.Agreement.{Agree, score_agree}
use Rattle.ego.proofs.WithPair.{pair_agree}
use Rattle.ego.specs.Change.{with_pair}
use Rattle.ego.specs.Graph.{Graph}
use Rattle.state.proofs.Spare.{alike_links, alike_nodes}
use Rattle.state.specs.Outcome.{lengths}
use Rattle.state.specs.Refusal.{buffer_length, Condition, refusal}
use Rattle.state.specs.Spare.{Alike}
use Rattle.state.specs.State.{graph, size, State}
use Rattle.preview.proofs.CallLaws.{in_order}
use Rattle.preview.specs.Inside.Call.{edit_conditions, preview_call}
use Rattle.preview.specs.Preview.{preview_add_call, previewed, preview_outcome, preview_remove_call, score_changes}

module _ {n : ℕ} {g g' : Graph} (a b : ℕ) (same : Agree n g g') where
  edit_agree : (on : Bool) → refusal (edit_conditions n g a b on) ≡ refusal (edit_conditions n g' a b on)
  edit_agree true = add_agree n g g' a b same (with_pair g a b true) (with_pair g' a b true) (λ ha hb d. pair_agree a b true same)
  edit_agree false = remove_agree n g g' a b same

  changes_agree : (on : Bool) → score_changes g (with_pair g a b on) n ≡ score_changes g' (with_pair g' a b on) n
  unfolding score_changes
  changes_agree on = tabulate_ext _ _ n (λ p h.
      ap₂ (λ after before. pos after -ℤ pos before) (score_agree n p h (pair_agree a b on same)) (score_agree n p h same))

module _ {s t : State} (h : Alike s t) (changes : List ℤ) (a b : ℕ) where
  module _ (on : Bool) where
    abbrev conditions : State → List Condition
    conditions u = buffer_length (size u) (length changes) ∷ edit_conditions (size u) (graph u) a b on

    same_conditions : refusal (conditions s) ≡ refusal (conditions t)
    same_conditions =
        same_rest (buffer_length (size s) (length changes)) _ _ (λ c. edit_agree a b (alike_links h) on)
        ∙ ap (λ n. refusal (buffer_length n (length changes) ∷ edit_conditions n (graph t) a b on)) (alike_nodes h)

    preview_alike : preview_call s changes a b on ≡ preview_call t changes a b on
    unfolding preview_outcome lengths
    preview_alike =
        ap₂ (λ r after. previewed r (cond (eqb r 0) after changes))
        (ap refusal (in_order s changes a b on) ∙ rest_alike h (conditions s) (conditions t) same_conditions ∙ sym (ap refusal (in_order t changes a b on)))
        (changes_agree a b (alike_links h) on ∙ ap (score_changes (graph t) (with_pair (graph t) a b on)) (alike_nodes h))

  -- SPARE BITS ARE IGNORED.
  pub preview_add_alike : preview_add_call s changes a b ≡ preview_add_call t changes a b
  unfolding preview_add_call
  preview_add_alike = preview_alike true

  pub preview_remove_alike : preview_remove_call s changes a b ≡ preview_remove_call t changes a b
  unfolding preview_remove_call
  preview_remove_alike = preview_alike false
