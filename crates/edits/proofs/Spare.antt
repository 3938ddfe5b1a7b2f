-- Add and remove keep the spare bits, and do not depend on them. Assumes nothing.
use mathlib.Core.Bool.{Bool, false, true}
use mathlib.Core.List.{List}
use mathlib.Core.Path.{ap, refl, sym, ◌∙◌, ◌≡◌}
use Prim.Native.Nat.{◌<◌, ℕ}
use native.Mathlib.Nat.{le_refl}
use lib.ListN.{length}
use Rattle.arith.proofs.Sums.{tabulate_ext}
use Rattle.ego.proofs.Agreement.{Agree, bound_agree}
use Rattle.ego.specs.Graph.{Graph}
use Rattle.packed.specs.Edges.{edge, with_edge}
use Rattle.calls.proofs.AcceptLaws.{lengths_rest}
use Rattle.calls.proofs.Spare.{AlikeOutcome, outcome_alike, outcome_spare, rest_alike}
use Rattle.edits.proofs.EditLaws.{edited_size, touched_agree}
use Rattle.edits.proofs.NamedLaws.{add_accepted, remove_accepted}
use Rattle.edits.proofs.SameRefusal.{add_agree, remove_agree}
use Rattle.edits.specs.Edit.{add_call, add_conditions, added, edited, remove_call, remove_conditions, removed, renewed}
use Rattle.state.proofs.Spare.{alike_by, alike_links, alike_nodes, same_agree, same_stale_to, same_with_edge, spare_stale_to, spare_with_pair}
use Rattle.state.specs.Marks.{mark_bits, stale_to}
use Rattle.state.specs.Refusal.{ends, refusal, touched}
use Rattle.state.specs.Spare.{Alike, SameBits, SpareKept}
use Rattle.state.specs.State.{graph, size, State}

-- ---- they keep the spare bits

module _ (s : State) (a b : ℕ) where
  module _ (ha : a < size s) (hb : b < size s) where
    edited_spare : (on : Bool) (which : ℕ → Bool) → SpareKept s (edited s a b on which)
    unfolding edited
    edited_spare on which = record {
      nodes = sym (edited_size s a b on which);
      edges = spare_with_pair s.edges (size s) a b on ha hb;
      marks = spare_stale_to s.marks (touched (graph s) a b) (size s) (size s) (le_refl (size s));
    }

    pub added_spare : SpareKept s (added s a b)
    unfolding added
    added_spare = edited_spare true (ends a b)

    pub removed_spare : SpareKept s (removed s a b)
    unfolding removed
    removed_spare = edited_spare false (touched (graph s) a b)

  pub add_spare : SpareKept s (add_call s a b).after
  unfolding add_call
  add_spare = outcome_spare _ s (added s a b) (λ z.
      let d = add_accepted (size s) (graph s) a b _ (lengths_rest s _ z) in added_spare d.first d.second)

  pub remove_spare : SpareKept s (remove_call s a b).after
  unfolding remove_call
  remove_spare = outcome_spare _ s (removed s a b) (λ z.
      let d = remove_accepted (size s) (graph s) a b (lengths_rest s _ z) in removed_spare d.first d.second)

-- ---- they do not depend on them

renewed_agree : {g g' : Graph} (figures : List ℕ) (takes takes' lowers lowers' : ℕ → Bool) → Agree (length figures) g g'
    → ((p : ℕ) → p < length figures → takes p ≡ takes' p) → ((p : ℕ) → p < length figures → lowers p ≡ lowers' p)
    → renewed g figures takes lowers ≡ renewed g' figures takes' lowers'
unfolding renewed
renewed_agree figures takes takes' lowers lowers' same t l =
    tabulate_ext _ _ (length figures) (λ p h. rw (t p h, l p h, bound_agree (length figures) p h same))

module _ {s t : State} (h : Alike s t) (a b : ℕ) where
  module _ (ha : a < size s) (hb : b < size s) where
    same_touched : (p : ℕ) → p < size s → touched (graph s) a b p ≡ touched (graph t) a b p
    same_touched = touched_agree a b ha hb (alike_links h)

    same_marks : SameBits (mark_bits (size s)) (stale_to (touched (graph s) a b) s.marks (size s)) (stale_to (touched (graph t) a b) t.marks (size t))
    same_marks = rw (← alike_nodes h) (same_stale_to (touched (graph s) a b) (touched (graph t) a b) (size s) same_touched h.marks)

    edited_alike : (on : Bool) (which which' : ℕ → Bool) → ((p : ℕ) → p < size s → which p ≡ which' p)
        → Alike (edited s a b on which) (edited t a b on which')
    unfolding edited
    edited_alike on which which' w =
        let edges = same_with_edge a b on h.edges in
        alike_by (edited s a b on which) (edited t a b on which') (size s) (edited_size s a b on which)
        edges
        (renewed_agree s.figures which which' (touched (graph s) a b) (touched (graph t) a b) (same_agree edges) w same_touched
        ∙ ap (λ figures. renewed (edge (with_edge t.edges a b on)) figures which' (touched (graph t) a b)) h.figures)
        same_marks

    pub added_alike : Alike (added s a b) (added t a b)
    unfolding added
    added_alike = edited_alike true (ends a b) (ends a b) (λ p l. refl)

    pub removed_alike : Alike (removed s a b) (removed t a b)
    unfolding removed
    removed_alike = edited_alike false (touched (graph s) a b) (touched (graph t) a b) same_touched

  abbrev with_pair : State → Graph
  with_pair u = edge (with_edge u.edges a b true)

  add_same : refusal (add_conditions (size s) (graph s) (with_pair s) a b) ≡ refusal (add_conditions (size t) (graph t) (with_pair t) a b)
  add_same =
      add_agree (size s) (graph s) (graph t) a b (alike_links h) (with_pair s) (with_pair t) (λ ha hb d. same_agree (same_with_edge a b true h.edges))
      ∙ ap (λ n. refusal (add_conditions n (graph t) (with_pair t) a b)) (alike_nodes h)

  pub add_alike : AlikeOutcome (add_call s a b) (add_call t a b)
  unfolding add_call
  add_alike = outcome_alike h _ _ _ _ (rest_alike h _ _ add_same) (λ z.
      let d = add_accepted (size s) (graph s) a b _ (lengths_rest s _ z) in added_alike d.first d.second)

  remove_same : refusal (remove_conditions (size s) (graph s) a b) ≡ refusal (remove_conditions (size t) (graph t) a b)
  remove_same = remove_agree (size s) (graph s) (graph t) a b (alike_links h) ∙ ap (λ n. refusal (remove_conditions n (graph t) a b)) (alike_nodes h)

  pub remove_alike : AlikeOutcome (remove_call s a b) (remove_call t a b)
  unfolding remove_call
  remove_alike = outcome_alike h _ _ _ _ (rest_alike h _ _ remove_same) (λ z.
      let d = remove_accepted (size s) (graph s) a b (lengths_rest s _ z) in removed_alike d.first d.second)
