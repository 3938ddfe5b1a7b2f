-- DEMAND 2, proved; and its records let through one outcome alone. Assumes nothing.
use mathlib.Core.Bool.{◌&&◌, ◌||◌, Bool, cond, false, or-true, true, true≢false}
use mathlib.Core.List.{List, Memᴰ}
use mathlib.Core.Logic.Iff
use mathlib.Core.Logic.{inl, inr, ◌↔◌, ◌≢◌, ◌⊎◌}
use mathlib.Core.Path.{ap, refl, sym, ◌∙◌, ◌≡◌}
use Prim.Native.Nat.{◌*◌, ◌/◌, ◌<◌, ℕ, ◌≤◌}
use native.Mathlib.Nat.{mul-div_cancel}
use lib.ListN.{length}
use Rattle.arith.proofs.ListSums.{sum_mem}
use Rattle.arith.proofs.Sets.{same_count, same_length}
use Rattle.arith.specs.Lists.{pairs}
use Rattle.calls.proofs.ScoreLaws.{accepted_degree, accepted_score}
use Rattle.ego.proofs.Exact.{share_exact}
use Rattle.ego.proofs.Faithful.{each_once, just_these, some_path}
use Rattle.ego.proofs.FoundLaws.{simple_edges}
use Rattle.ego.specs.Graph.{degree, ego, Graph, inner, neighbours, shortest, Simple}
use Rattle.ego.specs.Limits.{limit, unit}
use Rattle.ego.specs.Score.{score, share}
use Rattle.history.specs.Demand2.{Demand2, EgoBetweenness, Reconciled, Share, Spoken, Upheld}
use Rattle.merge.proofs.KeptOnPurpose.{agreed, kept_on_purpose}
use Rattle.merge.proofs.MergeLaws.{pair_stands}
use Rattle.merge.specs.Pinned.{Brought, conflict, pinned_call, spoken}
use Rattle.packed.specs.Bits.{differ}
use Rattle.packed.specs.Edges.{edge}
use Rattle.state.specs.State.{graph, size, State}

-- ---- the score

-- the score by the definition is the ego-betweenness, where p is within the limit
pub score_exact : (g : Graph) → Simple g → (n p : ℕ) → degree g n p ≤ limit → EgoBetweenness g n p (score g n p)
unfolding score
score_exact g simple n p few = record {
  share_of = share g n p;
  shares = λ u v m. record {
    paths = shortest g (ego g n p) u v;
    these = record { all = just_these g simple n p m; once = each_once g simple n p m; some = some_path g simple n p m };
    counted = share_exact g simple n p few m;
  };
  total = refl;
}

-- ---- one pair of a reconcile

stands : (mine theirs original : Bool) → Reconciled mine theirs original (cond (differ theirs original) theirs (cond (differ mine original) mine original))
stands true true true = record { i_changed = λ d. refl; they_changed = λ d. refl; nobody_changed = λ e f. refl }
stands true true false = record { i_changed = λ d. refl; they_changed = λ d. refl; nobody_changed = λ e f. absurd (true≢false e) }
stands true false true = record { i_changed = λ d. absurd (d refl); they_changed = λ d. refl; nobody_changed = λ e f. absurd (true≢false (sym f)) }
stands true false false = record { i_changed = λ d. refl; they_changed = λ d. absurd (d refl); nobody_changed = λ e f. absurd (true≢false e) }
stands false true true = record { i_changed = λ d. refl; they_changed = λ d. absurd (d refl); nobody_changed = λ e f. absurd (true≢false (sym e)) }
stands false true false = record { i_changed = λ d. absurd (d refl); they_changed = λ d. refl; nobody_changed = λ e f. absurd (true≢false f) }
stands false false true = record { i_changed = λ d. refl; they_changed = λ d. refl; nobody_changed = λ e f. absurd (true≢false (sym e)) }
stands false false false = record { i_changed = λ d. refl; they_changed = λ d. refl; nobody_changed = λ e f. refl }

-- ---- one pair of a reconcile with pins

-- my pin, their pin, mine, theirs, the original: what the editor who changed it left is what stands, unless the two are in conflict
upheld : (p q m t o : Bool) → ((p || differ m o) && (q || differ t o)) && differ m t ≡ false → Upheld p q m t o (cond (differ t o) t (cond (differ m o) m o))
upheld p q true true true e = record { i_spoke = λ s. refl; they_spoke = λ s. refl; nobody_spoke = λ f g. refl }
upheld p q true true false e = record { i_spoke = λ s. refl; they_spoke = λ s. refl; nobody_spoke = λ f g. absurd (f (inr true≢false)) }
upheld p q true false true e = record {
  i_spoke = λ s. elim s [ inl c ↦ absurd (true≢false (rw (c, or-true q) at e)) | inr d ↦ absurd (d refl) ];
  they_spoke = λ s. refl;
  nobody_spoke = λ f g. absurd (g (inr (λ d. true≢false (sym d))));
}
upheld p q true false false e = record {
  i_spoke = λ s. refl;
  they_spoke = λ s. elim s [ inl c ↦ absurd (true≢false (rw (c, or-true p) at e)) | inr d ↦ absurd (d refl) ];
  nobody_spoke = λ f g. absurd (f (inr true≢false));
}
upheld p q false true true e = record {
  i_spoke = λ s. refl;
  they_spoke = λ s. elim s [ inl c ↦ absurd (true≢false (rw (c, or-true p) at e)) | inr d ↦ absurd (d refl) ];
  nobody_spoke = λ f g. absurd (f (inr (λ d. true≢false (sym d))));
}
upheld p q false true false e = record {
  i_spoke = λ s. elim s [ inl c ↦ absurd (true≢false (rw (c, or-true q) at e)) | inr d ↦ absurd (d refl) ];
  they_spoke = λ s. refl;
  nobody_spoke = λ f g. absurd (g (inr true≢false));
}
upheld p q false false true e = record { i_spoke = λ s. refl; they_spoke = λ s. refl; nobody_spoke = λ f g. absurd (f (inr (λ d. true≢false (sym d)))) }
upheld p q false false false e = record { i_spoke = λ s. refl; they_spoke = λ s. refl; nobody_spoke = λ f g. refl }

upholds : (s : State) (k : Brought) → (pinned_call s k).refusal ≡ 0 → (a b : ℕ) → a < size s → b < size s
    → Upheld (edge k.pins a b) (edge k.their_pins a b) (graph s a b) (edge k.theirs a b) (edge k.base a b) (graph (pinned_call s k).after a b)
unfolding conflict spoken
upholds s k z a b ha hb =
    let same = kept_on_purpose.accepted s k z in
    let left = pair_stands s k.theirs k.base (sym (ap (λ o. o.refusal) same) ∙ z) a b ha hb in
    rw (ap (λ o. graph o.after a b) same ∙ left) (upheld _ _ _ _ _ (agreed s k z a b ha hb))

-- DEMAND 2
pub demand2 : Demand2
demand2 = record {
  scores = λ edges n p z. rw (accepted_score edges n p z) (score_exact (edge edges) (simple_edges edges) n p (accepted_degree edges n p z));
  merges = λ s theirs base z a b ha hb. rw (pair_stands s theirs base z a b ha hb) (stands _ _ _);
  upholds = upholds;
}

-- ---- one outcome alone

module _ {g : Graph} {n p : ℕ} where
  same_paths : {u v r r' : ℕ} (s : Share g n p u v r) (t : Share g n p u v r') (path : List ℕ) → Memᴰ path s.paths ↔ Memᴰ path t.paths
  same_paths s t path = Iff.trans (s.these.all path) (Iff.symm (t.these.all path))

  one_share : {u v r r' : ℕ} → Share g n p u v r → Share g n p u v r' → r ≡ r'
  one_share {u} {v} {r} {r'} s t =
      let same = same_paths s t in
      let paths = same_length s.paths t.paths s.these.once t.these.once same in
      let through = same_count s.paths t.paths s.these.once t.these.once same (inner p) in
      sym (mul-div_cancel r s.these.some)
      ∙ ap (λ m. m / length s.paths) (s.counted ∙ ap (λ m. unit * m) through ∙ sym t.counted ∙ ap (λ m. r' * m) (sym paths))
      ∙ mul-div_cancel r' s.these.some

  -- a node has one ego-betweenness
  pub one_score : {r r' : ℕ} → EgoBetweenness g n p r → EgoBetweenness g n p r' → r ≡ r'
  one_score s t =
      s.total
      ∙ sum_mem s.share_of t.share_of (pairs (neighbours g n p)) (λ c m. one_share (s.shares c.0 c.1 m) (t.shares c.0 c.1 m))
      ∙ sym t.total

-- and a pair one state
same : (x y : Bool) → (x ≡ y) ⊎ (x ≢ y)
same true true = inl refl
same true false = inr true≢false
same false true = inr (λ e. true≢false (sym e))
same false false = inl refl

pub one_state : {mine theirs original after after' : Bool} → Reconciled mine theirs original after → Reconciled mine theirs original after' → after ≡ after'
one_state {mine} {theirs} {original} h k = elim (same mine original) [
  | inr d ↦ h.i_changed d ∙ sym (k.i_changed d)
  | inl e ↦ elim (same theirs original) [
    | inr d ↦ h.they_changed d ∙ sym (k.they_changed d)
    | inl f ↦ h.nobody_changed e f ∙ sym (k.nobody_changed e f)
  ]
]

-- with pins too
spoke : (pinned left original : Bool) → Spoken pinned left original ⊎ (Spoken pinned left original → ⊥)
spoke true left original = inl (inl refl)
spoke false left original = elim (same left original) [
  | inr d ↦ inl (inr d)
  | inl e ↦ inr (λ s. elim s [ inl c ↦ true≢false (sym c) | inr d ↦ d e ])
]

pub one_upheld : {my_pin their_pin mine theirs original after after' : Bool} → Upheld my_pin their_pin mine theirs original after
    → Upheld my_pin their_pin mine theirs original after' → after ≡ after'
one_upheld {my_pin} {their_pin} {mine} {theirs} {original} h k = elim (spoke my_pin mine original) [
  | inl s ↦ h.i_spoke s ∙ sym (k.i_spoke s)
  | inr f ↦ elim (spoke their_pin theirs original) [
    | inl s ↦ h.they_spoke s ∙ sym (k.they_spoke s)
    | inr g ↦ h.nobody_spoke f g ∙ sym (k.nobody_spoke f g)
  ]
]
