-- Reconcile keeps the spare bits, and does not depend on those of mine, of theirs or of the original. Assumes nothing.
use mathlib.Core.Bool.{◌&&◌, Bool, cond, false, not, true}
use mathlib.Core.List.{List}
use mathlib.Core.Path.{ap, ap₂, refl, ◌∙◌, ◌≡◌}
use Prim.Native.Nat.{◌<◌, ℕ}
use native.Mathlib.Nat.{le_refl}
use native.Mathlib.Omega.{arith}
use Rattle.ego.proofs.Agreement.{Agree}
use Rattle.ego.specs.Graph.{Graph}
use Rattle.calls.proofs.Spare.{AlikeOutcome, outcome_alike, outcome_spare, rest_alike}
use Rattle.edits.proofs.Spare.{added_alike, added_spare, removed_alike, removed_spare}
use Rattle.merge.proofs.BitOrder.{passing_alike}
use Rattle.merge.proofs.MergeLaws.{reconcile_agree}
use Rattle.merge.proofs.PairOrder.{rows_both}
use Rattle.merge.proofs.PinAgree.{conflict_agree, pinned_agree, stands_agree}
use Rattle.merge.specs.Alike.{AlikeBrought}
use Rattle.merge.specs.Conflict.{conflict_call, conflicts}
use Rattle.merge.specs.Pinned.{Brought, in_conflict, pinned_call, pinned_conditions, reconciled_pinned}
use Rattle.merge.specs.Reconcile.{adding, merged, merging, reconcile_call, reconcile_conditions, reconciled, removing, takes}
use Rattle.packed.specs.Edges.{edge}
use Rattle.packed.specs.Pairs.{pair_count}
use Rattle.state.proofs.Spare.{alike_links, alike_nodes, alike_refl, same_agree, spare_refl, spare_trans}
use Rattle.state.specs.Refusal.{refusal}
use Rattle.state.specs.Spare.{Alike, SameBits, SpareKept}
use Rattle.state.specs.State.{graph, size, State}

-- x has the spare bits of s, and y differs from x in spare bits at most
abbrev Both : State → State → State → Type 0
Both s x y = SpareKept s x × Alike x y

chosen : {s : State} (c d : Bool) → c ≡ d → {x y x' y' : State} → Both s x' y' → Both s x y → Both s (cond c x' x) (cond d y' y)
chosen {s} c d e {x} {y} {x'} {y'} p q = rw e (either d)
  where
    either : (d : Bool) → Both s (cond d x' x) (cond d y' y)
    either true = p
    either false = q

-- the merge of s with one graph and an original, and of t with another two that agree with them
module _ {s t : State} (h : Alike s t) (theirs theirs' base base' : Graph) (e : Agree (size s) theirs theirs') (f : Agree (size s) base base') where
  same_takes : Agree (size s) (takes (graph s) theirs base) (takes (graph t) theirs' base')
  unfolding takes
  same_takes a b ha hb = rw (alike_links h a b ha hb, e a b ha hb, f a b ha hb)

  pub same_merged : Agree (size s) (merged (graph s) theirs base) (merged (graph t) theirs' base')
  unfolding merged
  same_merged a b ha hb = rw (same_takes a b ha hb, alike_links h a b ha hb, e a b ha hb)

  module _ (a b : ℕ) (l : a < b) (m : b < size s) (x y : State) (r : Both s x y) where
    ha : a < size x
    ha = omega (arith, r.0.nodes)

    hb : b < size x
    hb = omega (arith, r.0.nodes)

    both_remove : Both s (removing (graph s) theirs base a b x) (removing (graph t) theirs' base' a b y)
    both_remove =
        chosen _ _ (ap₂ (λ took there. took && not there) (same_takes a b (omega arith) m) (e a b (omega arith) m))
        (spare_trans r.0 (removed_spare x a b ha hb), removed_alike r.1 a b ha hb) r

    both_add : Both s (adding (graph s) theirs base a b x) (adding (graph t) theirs' base' a b y)
    both_add =
        chosen _ _ (ap₂ (λ took there. took && there) (same_takes a b (omega arith) m) (e a b (omega arith) m))
        (spare_trans r.0 (added_spare x a b ha hb), added_alike r.1 a b ha hb) r

  pub both_merging : Both s (merging s theirs base) (merging t theirs' base')
  both_merging =
      let n = size s in
      rw (← alike_nodes h)
      (rows_both n (Both s) _ _ both_add n _ _ (le_refl n) (rows_both n (Both s) _ _ both_remove n s t (le_refl n) (spare_refl s, h)))

-- ---- reconcile

module _ {s t : State} (h : Alike s t) {theirs theirs' base base' : List ℕ}
    (e : SameBits (pair_count (size s)) theirs theirs') (f : SameBits (pair_count (size s)) base base') where
  reconcile_same : refusal (reconcile_conditions (size s) (graph s) (merged (graph s) (edge theirs) (edge base)) theirs base)
      ≡ refusal (reconcile_conditions (size t) (graph t) (merged (graph t) (edge theirs') (edge base')) theirs' base')
  reconcile_same =
      reconcile_agree (size s) (graph s) (graph t) _ _ theirs base (alike_links h) (same_merged h _ _ _ _ (same_agree e) (same_agree f))
      ∙ rw (alike_nodes h, e.long, f.long)

  pub reconcile_alike : AlikeOutcome (reconcile_call s theirs base) (reconcile_call t theirs' base')
  unfolding reconcile_call reconciled
  reconcile_alike = outcome_alike h _ _ _ _ (rest_alike h _ _ reconcile_same) (λ z. (both_merging h _ _ _ _ (same_agree e) (same_agree f)).1)

pub reconcile_spare : (s : State) (theirs base : List ℕ) → SpareKept s (reconcile_call s theirs base).after
unfolding reconcile_call reconciled
reconcile_spare s theirs base =
    outcome_spare _ s (reconciled s theirs base) (λ z. (both_merging (alike_refl s) _ _ _ _ (λ a b ha hb. refl) (λ a b ha hb. refl)).0)

-- ---- with pins, and the first conflict

module _ {s t : State} (h : Alike s t) {k l : Brought} (e : AlikeBrought (size s) k l) where
  pub pinned_alike : AlikeOutcome (pinned_call s k) (pinned_call t l)
  unfolding pinned_call reconciled_pinned
  pinned_alike = outcome_alike h _ _ _ _
      (rest_alike h _ _ (pinned_agree (size s) (graph s) (graph t) k l (alike_links h) e ∙ ap (λ n. refusal (pinned_conditions n (graph t) l)) (alike_nodes h)))
      (λ z. (both_merging h _ _ _ _ (stands_agree (size s) (graph s) (graph t) k l (alike_links h) e) (alike_links h)).1)

pub pinned_spare : (s : State) (k : Brought) → SpareKept s (pinned_call s k).after
unfolding pinned_call reconciled_pinned
pinned_spare s k = outcome_spare _ s (reconciled_pinned s k) (λ z. (both_merging (alike_refl s) _ _ _ _ (λ a b ha hb. refl) (λ a b ha hb. refl)).0)

pub conflict_alike : (n : ℕ) {x y : List ℕ} {k l : Brought} → SameBits (pair_count n) x y → AlikeBrought n k l → conflict_call x n k ≡ conflict_call y n l
unfolding conflict_call conflicts
conflict_alike n {x} {y} {k} {l} d e =
    rw (
      d.long,
      e.pins.long,
      e.theirs.long,
      e.their_pins.long,
      e.base.long,
      passing_alike (in_conflict (edge x) k) (in_conflict (edge y) l) n
          (λ a b h m. conflict_agree n (edge x) (edge y) k l (same_agree d) e a b (omega arith) m),
    )
